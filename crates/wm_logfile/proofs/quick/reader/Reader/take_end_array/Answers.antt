use Rattle.std.proofs.Common.{◌-◌, length, take, drop, Some, refl, sym, ap, ◌∙◌, arith}
use Rattle.json.specs.Json.{after_end_array}
use Rattle.wm_logfile.proofs.Bytes.{end_left, cut}
use Rattle.wm_logfile.proofs.quick.reader.Reader.take_end_array.Goals as goal

pub returns : goal.returns
returns c =
    let a = c.self.inside in
    let at = c.after_blanks-text.result.now in
    let first = cut at 93 (c.if-not-begins_with.ensures.first refl) in
    ap after_end_array (sym c.self.view_is ∙ end_left a.place a.rest.now at (take (length at - 1) (drop 1 at)) (grind arith) c.after_blanks-text.ensures first)
    ∙ ap Some (sym c.after_comma-place.ensures)
