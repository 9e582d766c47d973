-- The first events of a thread are where they were in its log.
use Rattle.std.proofs.Common.{◌≡◌, ◌∙◌, ℕ, List, Some, drop, slice_get, subst, take}
use Rattle.std.proofs.lemmas.List.{take-append-drop}
use Rattle.std.proofs.lemmas.Option.{slice_get_within}
use Rattle.wm_event.specs.declared.event.Event.{Event}
use Rattle.wm_machine.proofs.Held.{get_before}
use Rattle.wm_replay.specs.Following.{HasPlaces}

-- what is among the first items is at the same index among all
pub get_in_take : {X : Type 0} (n : ℕ) (xs : List X) (i : ℕ) (x : X) → slice_get (take n xs) i ≡ Some x → slice_get xs i ≡ Some x
get_in_take n xs i x at =
    let inside = slice_get_within (take n xs) i x at in
    subst (λ ys. slice_get ys i ≡ Some x) (take-append-drop n xs) (get_before (take n xs) (drop n xs) i inside ∙ at)

pub places_taken : (k n : ℕ) (events : List Event) → HasPlaces k events → HasPlaces k (take n events)
places_taken k n events places = λ i e at. places i e (get_in_take n events i e at)
