use Rattle.std.proofs.Common.{◌-◌, length, take, drop, refl, sym, ◌∙◌, arith}
use Rattle.wm_logfile.proofs.Bytes.{begin_left, cut}
use Rattle.wm_logfile.proofs.quick.reader.Reader.take_begin_array.Goals as goal

pub returns : goal.returns
returns c h =
    let a = c.self.inside in
    let at = c.after_blanks-text.result.now in
    let first = cut at 91 (c.if-not-begins_with.ensures.first refl) in
    sym c.self.view_is ∙ begin_left a.place a.rest.now at (take (length at - 1) (drop 1 at)) (grind arith) c.after_blanks-text.ensures first
