use Rattle.clap.specs.Words.{found_of, rows_of}
use Rattle.std.proofs.Common.{[], codes, refl, ◌∷◌}
use Rattle.wm_command.proofs.Entered.{no_command}
use Rattle.wm_command.proofs.command.run_command.Goals as goal

pub returns-in_err-module-clause-none : goal.returns-in_err-module-clause-none
returns-in_err-module-clause-none c = λ _.
    no_command c.args.name.now (rows_of (found_of c.args.words.now)) (codes "file" ∷ codes "document" ∷ []) c.requires.both (c.in_err-module.ensures.none refl)
