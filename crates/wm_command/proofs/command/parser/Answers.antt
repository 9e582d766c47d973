use Rattle.std.proofs.Common.{ap, true, ◌≡◌, ◌∙◌}
use Rattle.std.specs.Prelude.{fold}
use Rattle.std.proofs.lemmas.Result.{IfOk-weaker}
use Rattle.clap.specs.Words.{App, app_of}
use Rattle.wm_command.specs.Commands.{empty_app, forms, with_form}
use Rattle.wm_command.proofs.command.parser.Goals as goal

-- the settings of the program
with_settings : App → App
with_settings a = record a { top = record a.top { disable_help_flag = true; disable_version_flag = true; no_binary_name = true; disable_help_subcommand = true; subcommand_required = true } }

pub returns : goal.returns
unfolding with_settings
returns c =
    let empty_is : app_of c.subcommand_required-parser.result ≡ empty_app =
    rw (c.subcommand_required-parser.ensures, c.disable_help_subcommand.ensures, c.no_binary_name.ensures, c.disable_version_flag.ensures, c.disable_help_flag.ensures) (ap with_settings c.new.ensures.app) in
    IfOk-weaker c.with_commands.result _ _ (λ parser more. more ∙ ap (λ app. fold with_form app forms) empty_is) c.with_commands.ensures
