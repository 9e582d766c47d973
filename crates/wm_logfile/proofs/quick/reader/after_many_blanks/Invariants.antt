use Rattle.std.proofs.Common.{◌≡◌, length}
use Rattle.json.specs.Lex.{between, lex}
use Rattle.wm_logfile.proofs.quick.reader.after_many_blanks.Given as goal

abbrev pub invariant-loop-rest : goal.invariant-loop-rest
invariant-loop-rest l = lex between l.rest ≡ lex between l.text

abbrev pub decreases-loop-rest : goal.decreases-loop-rest
decreases-loop-rest l = length l.rest
