use Rattle.wm_command.proofs.command.shaped_parser.Goals as goal

pub returns-in-Plain : goal.returns-in-Plain
returns-in-Plain c = rw c.in-Plain.is c.plain_parser.ensures
