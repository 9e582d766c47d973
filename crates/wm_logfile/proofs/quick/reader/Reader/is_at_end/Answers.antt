use Rattle.std.proofs.Common.{◌≡◌, length, sym, ◌∙◌, arith}
use Rattle.std.proofs.lemmas.Bool.Decides.{nat_tests}
use Rattle.wm_logfile.proofs.Bytes.{none_left, empty_text}
use Rattle.wm_logfile.proofs.quick.reader.Reader.is_at_end.Goals as goal

pub returns-then-may_close : goal.returns-then-may_close
returns-then-may_close c h =
    let a = c.self.inside in
    let at = c.after_blanks.result.now in
    let none : length at ≡ 0 = grind (arith, nat_tests) in
    sym c.self.view_is ∙ none_left a.place a.rest.now at (grind arith) c.after_blanks.ensures (empty_text at none)
