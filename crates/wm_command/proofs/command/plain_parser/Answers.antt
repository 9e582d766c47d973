use Rattle.std.proofs.Common.{ap, ◌∙◌}
use Rattle.clap.specs.Words.{App, app_of, with_subcommand}
use Rattle.wm_command.proofs.command.plain_parser.Goals as goal

pub returns : goal.returns
returns c = λ old more adds. adds.shape c.new.ensures.local ∙ ap (λ (s : App). with_subcommand (app_of old) s.top) c.new.ensures.app
