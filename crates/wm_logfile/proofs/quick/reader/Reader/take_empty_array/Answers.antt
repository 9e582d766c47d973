use Rattle.std.proofs.Common.{◌∷◌, ◌-◌, length, take, drop, ℕ, List, refl, sym, ap, ◌∙◌, arith}
use Rattle.json.specs.Token.{begin_array, end_array}
use Rattle.wm_logfile.specs.declared.quick.reader.Place.TheVariants.{Fresh}
use Rattle.wm_logfile.proofs.Bytes.{begin_left, end_left, cut}
use Rattle.wm_logfile.proofs.quick.reader.Reader.take_empty_array.Goals as goal

pub returns : goal.returns
returns c =
    let a = c.self.inside in
    let at = c.after_blanks-text.result.now in
    let inside = c.after_blanks-inside.result.now in
    let first = cut at 91 (c.if-not-begins_with.ensures.first refl) in
    let second = cut inside 93 (c.if-not-begins_with-2.ensures.first refl) in
    let opened : List ℕ = take (length at - 1) (drop 1 at) in
    sym c.self.view_is ∙ begin_left a.place a.rest.now at opened (grind arith) c.after_blanks-text.ensures first
    ∙ ap (λ l. begin_array ∷ l) (end_left Fresh opened inside (take (length inside - 1) (drop 1 inside)) refl c.after_blanks-inside.ensures second ∙ ap (λ l. end_array ∷ l) (sym c.after_comma-place.ensures))
