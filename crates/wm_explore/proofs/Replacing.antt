-- A log in which one thread is replaced.
use Rattle.std.proofs.Common.{◌≡◌, ℕ, zero, suc, ◌+◌, List, [], ◌∷◌, length, Some, inl, inr, refl, sym, ap, ◌∙◌, arith}
use Rattle.std.specs.Prelude.{◌≢◌, ◌⊎◌, slice_get}
use Rattle.std.proofs.lemmas.List.Sums.{sum_by-cons}
use Rattle.std.proofs.lemmas.Option.{none-some, same_Some}
use Rattle.wm_event.specs.Shape.{event_count}
use Rattle.wm_event.specs.declared.log.End.{End}
use Rattle.wm_event.specs.declared.log.Start.{Start}
use Rattle.wm_event.specs.declared.log.ThreadLog.{ThreadLog}
use Rattle.wm_explore.specs.Executions.{ends_of, starts_of}

abbrev pub replaced : ℕ → ThreadLog → List ThreadLog → List ThreadLog
replaced k v [] = []
replaced zero v (t ∷ ts) = v ∷ ts
replaced (suc k) v (t ∷ ts) = t ∷ replaced k v ts

-- a thread is the new one, or one of the others
pub at_replaced : (k : ℕ) (v : ThreadLog) (log : List ThreadLog) (i : ℕ) (w : ThreadLog) → slice_get (replaced k v log) i ≡ Some w → ((i ≡ k) × (w ≡ v)) ⊎ ((i ≢ k) × (slice_get log i ≡ Some w))
at_replaced k v [] i w is = absurd (none-some w is)
at_replaced zero v (t ∷ ts) zero w is = inl (refl, sym (same_Some v w is))
at_replaced zero v (t ∷ ts) (suc i) w is = inr ((λ e. absurd (omega (arith, e))), is)
at_replaced (suc k) v (t ∷ ts) zero w is = inr ((λ e. absurd (omega (arith, e))), is)
at_replaced (suc k) v (t ∷ ts) (suc i) w is = by (at_replaced k v ts i w is)
  where
    by : ((i ≡ k) × (w ≡ v)) ⊎ ((i ≢ k) × (slice_get ts i ≡ Some w)) → ((suc i ≡ suc k) × (w ≡ v)) ⊎ ((suc i ≢ suc k) × (slice_get ts i ≡ Some w))
    by (inl h) = inl (ap suc h.0, h.1)
    by (inr h) = inr ((λ e. h.0 (omega (arith, e))), h.1)

module _ (v t : ThreadLog) where
  pub replaced_starts : (k : ℕ) (log : List ThreadLog) → slice_get log k ≡ Some t → v.start ≡ t.start → starts_of (replaced k v log) ≡ starts_of log
  replaced_starts k [] at same = refl
  replaced_starts zero (u ∷ us) at same = ap (λ (s : Start). s ∷ starts_of us) (same ∙ ap (λ (x : ThreadLog). x.start) (sym (same_Some u t at)))
  replaced_starts (suc k) (u ∷ us) at same = ap (λ (ss : List Start). u.start ∷ ss) (replaced_starts k us at same)

  pub replaced_ends : (k : ℕ) (log : List ThreadLog) → slice_get log k ≡ Some t → v.end ≡ t.end → ends_of (replaced k v log) ≡ ends_of log
  replaced_ends k [] at same = refl
  replaced_ends zero (u ∷ us) at same = ap (λ (e : End). e ∷ ends_of us) (same ∙ ap (λ (x : ThreadLog). x.end) (sym (same_Some u t at)))
  replaced_ends (suc k) (u ∷ us) at same = ap (λ (es : List End). u.end ∷ es) (replaced_ends k us at same)

  pub replaced_count : (k : ℕ) (log : List ThreadLog) → slice_get log k ≡ Some t → event_count (replaced k v log) + length t.events ≡ event_count log + length v.events
  replaced_count k [] at = absurd (none-some t at)
  replaced_count zero (u ∷ us) at =
      let a = sum_by-cons (λ (x : ThreadLog). length x.events) u us in
      let b = sum_by-cons (λ (x : ThreadLog). length x.events) v us in
      let c : length u.events ≡ length t.events = ap (λ (x : ThreadLog). length x.events) (same_Some u t at) in
      omega (arith, a, b, c)
  replaced_count (suc k) (u ∷ us) at =
      let a = sum_by-cons (λ (x : ThreadLog). length x.events) u us in
      let b = sum_by-cons (λ (x : ThreadLog). length x.events) u (replaced k v us) in
      let c = replaced_count k us at in
      omega (arith, a, b, c)
