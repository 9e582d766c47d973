-- A table with a site for each event of the first threads of a log grows by that of the next thread.
use Rattle.std.proofs.Common.{◌≡◌, ℕ, suc, ◌+◌, ◌≤◌, List, [], ◌∷◌, ◌++◌, length, map, take, Some, sym, ap, ◌∙◌, arith}
use Rattle.std.specs.Prelude.{slice_get}
use Rattle.std.proofs.Math.Seq.{take-suc}
use Rattle.std.proofs.lemmas.List.{map-append, take_all}
use Rattle.std.proofs.lemmas.Option.{get_or_from_slice_get, slice_get_within}
use Rattle.wm_event.specs.declared.log.ThreadLog.{ThreadLog}
use Rattle.wm_event.specs.Shape.{event_counts}
use Rattle.wm_races.specs.declared.site.Site.{Site}

pub shape_more : (log : List ThreadLog) (sites : List (List Site)) (n : ℕ) (t : ThreadLog) (more : List Site) → slice_get log n ≡ Some t
    → map length sites ≡ event_counts (take n log) → length more ≡ length t.events → map length (sites ++ more ∷ []) ≡ event_counts (take (n + 1) log)
shape_more log sites n t more is shape same =
    let one : n + 1 ≡ suc n = omega arith in
    let next : take (n + 1) log ≡ take n log ++ (t ∷ []) =
    ap (λ k. take k log) one ∙ take-suc log n t (slice_get_within log n t is) ∙ ap (λ x. take n log ++ (x ∷ [])) (get_or_from_slice_get log n t t is) in
    map-append length sites (more ∷ [])
    ∙ ap (λ counts. counts ++ (length more ∷ [])) shape
    ∙ ap (λ k. event_counts (take n log) ++ (k ∷ [])) same
    ∙ sym (map-append (λ (thread : ThreadLog). length thread.events) (take n log) (t ∷ []))
    ∙ sym (ap event_counts next)

pub whole_shape : (log : List ThreadLog) (sites : List (List Site)) (n : ℕ) → length log ≤ n → map length sites ≡ event_counts (take n log) → map length sites ≡ event_counts log
whole_shape log sites n all shape = shape ∙ ap event_counts (take_all n log all)
