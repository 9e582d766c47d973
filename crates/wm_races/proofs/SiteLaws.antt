-- A table that has as many sites as the log has events, thread by thread, has a site for each event.
use Rattle.std.proofs.Common.{◌≡◌, ℕ, zero, suc, List, [], ◌∷◌, length, map, slice_get, IsSome, refl, arith}
use Rattle.wm_event.specs.declared.event.Event.{Event}
use Rattle.wm_event.specs.declared.log.ThreadLog.{ThreadLog}
use Rattle.wm_event.specs.Log.{event_in}
use Rattle.wm_event.specs.Shape.{event_counts}
use Rattle.wm_races.specs.Report.{HasSites, site_in}
use Rattle.wm_races.specs.declared.site.Site.{Site}

same_length : (events : List Event) (sites : List Site) (i : ℕ) → length sites ≡ length events → IsSome (slice_get events i) → IsSome (slice_get sites i)
same_length [] [] i e there = there
same_length [] (site ∷ sites) i e there = absurd (omega (arith, e))
same_length (event ∷ events) [] i e there = absurd (omega (arith, e))
same_length (event ∷ events) (site ∷ sites) zero e there = refl
same_length (event ∷ events) (site ∷ sites) (suc i) e there = same_length events sites i (omega (arith, e)) there

same_shape : (log : List ThreadLog) (sites : List (List Site)) (t i : ℕ) → map length sites ≡ event_counts log
    → IsSome (event_in log (record { thread = t; number = i })) → IsSome (site_in sites (record { thread = t; number = i }))
same_shape [] [] t i e there = there
same_shape [] (list ∷ sites) t i e there = absurd (cc)
same_shape (thread ∷ log) [] t i e there = absurd (cc)
same_shape (thread ∷ log) (list ∷ sites) zero i e there = let h : length list ≡ length thread.events = cc in same_length thread.events list i h there
same_shape (thread ∷ log) (list ∷ sites) (suc t) i e there = let h : map length sites ≡ event_counts log = cc in same_shape log sites t i h there

pub sites-of-shape : (log : List ThreadLog) (sites : List (List Site)) → map length sites ≡ event_counts log → HasSites log sites
sites-of-shape log sites e key there = same_shape log sites key.thread key.number e there
