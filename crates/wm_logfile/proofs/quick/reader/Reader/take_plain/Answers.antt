use Rattle.std.proofs.Common.{◌≡◌, ◌∷◌, ◌-◌, length, take, drop, ℕ, List, refl, sym, ap, ◌∙◌, arith}
use Rattle.json.specs.Token.{string}
use Rattle.wm_logfile.proofs.Bytes.{plain_left, cut}
use Rattle.wm_logfile.proofs.quick.reader.Reader.take_plain.Goals as goal

pub returns : goal.returns
returns c =
    let a = c.self.inside in
    let at = c.after_blanks-text.result.now in
    let begun : List ℕ = take (length at - 1) (drop 1 at) in
    let closing = c.split_at.result.1.now in
    let rest : List ℕ = take (length closing - 1) (drop 1 closing) in
    let first = cut at 34 (c.if-not-begins_with.ensures.first refl) in
    let closed : drop c.plain_end.result begun ≡ 34 ∷ rest = sym c.split_at.ensures.back ∙ cut closing 34 (c.if-not-begins_with-2.ensures.first refl) in
    let front : c.in-Ok.plain.now ≡ take c.plain_end.result begun = grind arith in
    sym c.self.view_is
    ∙ plain_left a.place a.rest.now at begun c.in-Ok.plain.now rest c.after_blanks-rest.result.now c.plain_end.result (grind arith) c.after_blanks-text.ensures first c.plain_end.ensures.value front closed c.after_blanks-rest.ensures (c.if-not-ends_item.ensures refl)
    ∙ ap (λ l. string c.in-Ok.plain.now ∷ l) (sym c.after_comma-place.ensures)
