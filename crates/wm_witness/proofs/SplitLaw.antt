-- Each run keeps an assumption or its opposite.
use Rattle.std.proofs.Common.{◌≡◌, ◌≢◌, ◌⊎◌, ℕ, zero, suc, List, [], ◌∷◌, slice_get, Some, ap, inl, inr, ⊎_elim}
use Rattle.std.proofs.lemmas.Option.{same_Some, none-some}
use Rattle.wm_event.specs.declared.event.EventId.{EventId}
use Rattle.wm_event.specs.declared.event.EventId.TheVariants.{At}
use Rattle.wm_event.specs.LoggedRun.{LoggedRun}
use Rattle.wm_event.specs.Shape.{IsWellShaped}
use Rattle.wm_event.specs.Witness.{writers_in}
use Rattle.wm_witness.specs.declared.assumption.Assumption.{Assumption}
use Rattle.wm_witness.specs.Assumptions.{Holds}
use Rattle.wm_witness.specs.Search.{AreOpposite}
use Rattle.wm_witness.specs.Search.AreOpposite.{byte_or_not, one_is_first, takes_or_not}
use Rattle.wm_witness.proofs.Steps.{places-differ, same-ids}

-- whether the element at a place is the id
at-or-not : (ids : List EventId) (k : ℕ) (w : EventId) → (slice_get ids k ≡ Some w) ⊎ (slice_get ids k ≡ Some w → ⊥)
at-or-not [] k w = inr (λ h. none-some w h)
at-or-not (v ∷ ids) zero w = ⊎_elim (λ (e : v ≡ w). inl (ap Some e)) (λ (n : v ≢ w). inr (λ h. n (same_Some v w h))) (same-ids v w)
at-or-not (v ∷ ids) (suc k) w = at-or-not ids k w

-- whether the id is in the list
in-or-not : (ids : List EventId) (w : EventId) → ((k : ℕ) × (slice_get ids k ≡ Some w)) ⊎ ((k : ℕ) × (slice_get ids k ≡ Some w) → ⊥)
in-or-not [] w = inr (λ h. none-some w h.1)
in-or-not (v ∷ ids) w = ⊎_elim
    (λ (e : v ≡ w). inl (zero, ap Some e))
    (λ (n : v ≢ w). ⊎_elim
    (λ (h : (k : ℕ) × (slice_get ids k ≡ Some w)). inl (suc h.0, h.1))
    (λ (none : (k : ℕ) × (slice_get ids k ≡ Some w) → ⊥). inr (λ h. not-in n none h.0 h.1))
    (in-or-not ids w))
    (same-ids v w)
  where
    not-in : v ≢ w → ((k : ℕ) × (slice_get ids k ≡ Some w) → ⊥) → (k : ℕ) → slice_get (v ∷ ids) k ≡ Some w → ⊥
    not-in n none zero at = n (same_Some v w at)
    not-in n none (suc k) at = none (k, at)

pub keeps-one : (run : LoggedRun) (a b : Assumption) → IsWellShaped run → AreOpposite run.log a b → Holds run a ⊎ Holds run b
keeps-one run a b shape (takes_or_not {r = r} {u = u}) = in-or-not (writers_in run.witness r) (At u)
keeps-one run a b shape (byte_or_not {r = r} {k = k} {w = w}) = at-or-not (writers_in run.witness r) k w
keeps-one run a b shape (one_is_first {a = p} {b = q} is_p is_q apart) = places-differ run shape.order p q is_p is_q apart
