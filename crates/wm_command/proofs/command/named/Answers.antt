use Rattle.wm_command.proofs.Entered.{entered_is, means_none, means_some}
use Rattle.wm_command.proofs.command.named.Goals as goal

pub returns-clause-some : goal.returns-clause-some
returns-clause-some c =
    means_some c.command_of.result _ _ _
    (entered_is c.args.matches.now c.subcommand.result c.in_ok-name.name c.in_ok-name.words c.in_ok-name.was c.subcommand.ensures.name c.subcommand.ensures.rows)
    c.command_of.ensures.some

pub returns-clause-none : goal.returns-clause-none
returns-clause-none c = λ is.
    means_none _ _ _
    (entered_is c.args.matches.now c.subcommand.result c.in_ok-name.name c.in_ok-name.words c.in_ok-name.was c.subcommand.ensures.name c.subcommand.ensures.rows)
    (c.command_of.ensures.none is)
