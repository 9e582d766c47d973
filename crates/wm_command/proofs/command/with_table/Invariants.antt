use Rattle.std.proofs.Common.{◌≡◌, drop, map}
use Rattle.std.specs.Prelude.{fold}
use Rattle.clap.specs.Words.{app_of}
use Rattle.wm_command.specs.Commands.{form_in, with_form}
use Rattle.wm_command.proofs.command.with_table.Given as goal

-- the rest of the table makes of the parser what the whole table makes of the first one
abbrev pub invariant-loop-name : goal.invariant-loop-name
invariant-loop-name l = fold with_form (app_of l.parser) (map form_in (drop l.name-index l.table)) ≡ fold with_form (app_of l.fn.parser) (map form_in l.table)
