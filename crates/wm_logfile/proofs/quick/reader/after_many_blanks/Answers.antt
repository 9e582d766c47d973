use Rattle.std.proofs.Common.{◌≡◌, ◌<◌, length, get_or, true, sym, subst, arith}
use Rattle.json.specs.Lex.{between, lex}
use Rattle.json.specs.Word.{is_space}
use Rattle.wm_logfile.proofs.Bytes.{all_but_first, blank_passed}
use Rattle.wm_logfile.proofs.quick.reader.after_many_blanks.Goals as goal

pub loop-rest-preserved : goal.loop-rest-preserved
loop-rest-preserved c =
    let t = c.loop-rest.rest.now in
    let some : 0 < length t = grind arith in
    let blank : is_space (get_or t 0 0) ≡ true = grind arith in
    subst (λ u. lex between u ≡ lex between c.args.text.now) (sym (all_but_first t)) (blank_passed c.args.text.now t c.loop-rest.invariant some blank)
