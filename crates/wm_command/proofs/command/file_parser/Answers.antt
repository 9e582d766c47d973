use Rattle.std.proofs.Common.{ap, ap₂, Bool, ◌∙◌, ◌||◌}
use Rattle.std.proofs.lemmas.Result.{IfOk-weaker}
use Rattle.clap.specs.Words.{App, app_of, with_rule, with_subcommand}
use Rattle.wm_command.proofs.command.file_parser.Goals as goal

pub returns : goal.returns
returns c =
    let either : Bool → Bool → Bool = λ a b. a || b in
    IfOk-weaker c.arg.result _ _ (λ parser made old more adds.
    adds.shape (made.globals ∙ ap₂ either c.new.ensures.local c.word.ensures.own)
    ∙ ap (λ (s : App). with_subcommand (app_of old) s.top) (made.shape c.word.ensures.own ∙ ap₂ with_rule c.new.ensures.app c.word.ensures.rule)) c.arg.ensures
