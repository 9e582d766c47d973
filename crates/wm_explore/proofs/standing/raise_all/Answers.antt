use Rattle.std.proofs.Common.{◌≡◌, ℕ, ◌+◌, ◌<◌, ◌≤◌, inl, inr, length, Some, refl, sym, ap, subst, ◌∙◌, arith}
use Rattle.std.specs.Prelude.{◌⊎◌, slice_get}
use Rattle.std.proofs.Math.Nat.{eq-or-lt_of_le}
use Rattle.std.proofs.lemmas.Option.{get_or_from_slice_get, same_Some}
use Rattle.wm_explore.specs.Standing.{IsRaised}
use Rattle.wm_explore.specs.declared.past.Past.{Past}
use Rattle.wm_explore.proofs.Lists.{at_set, length_set, set_other}
use Rattle.wm_explore.proofs.standing.raise_all.Goals as goal

pub loop-place-preserved : goal.loop-place-preserved
loop-place-preserved c = record {
  count = ap length c.set.ensures ∙ length_set c.loop-place.pasts c.loop-place.place c.raised.result ∙ c.loop-place.invariant.count;
  each = λ i p q lt at_p at_q. by i p q lt at_p (at_set c.loop-place.pasts c.loop-place.place c.raised.result i q (ap (λ ps. slice_get ps i) (sym c.set.ensures) ∙ at_q));
  rest = λ i le.
      ap (λ ps. slice_get ps i) c.set.ensures ∙ set_other c.loop-place.pasts c.loop-place.place c.raised.result i (λ same. absurd (omega (arith, le, same)))
      ∙ c.loop-place.invariant.rest i (omega (arith, le));
}
  where
    n : ℕ
    n = c.loop-place.place

    here : (p : Past) → slice_get c.args.pasts.now n ≡ Some p → slice_get c.loop-place.pasts n ≡ Some p
    here p at = c.loop-place.invariant.rest n (omega arith) ∙ at

    by : (i : ℕ) (p q : Past) → i < n + 1 → slice_get c.args.pasts.now i ≡ Some p → ((i ≡ n) × (q ≡ c.raised.result)) ⊎ (slice_get c.loop-place.pasts i ≡ Some q)
        → IsRaised c.args.keys.now c.args.order.now p q
    by i p q lt at_p (inl (same, is)) =
        let at : slice_get c.as_slice.result.now n ≡ Some p = ap (λ ps. slice_get ps n) c.as_slice.ensures ∙ here p (ap (slice_get c.args.pasts.now) (sym same) ∙ at_p) in
        subst (λ r. IsRaised c.args.keys.now c.args.order.now p r) (sym is)
        (subst (λ z. IsRaised c.args.keys.now c.args.order.now z c.raised.result) (get_or_from_slice_get c.as_slice.result.now n p _ at) c.raised.ensures)
    by i p q lt at_p (inr old) = earlier (eq-or-lt_of_le (let le : i ≤ n = omega (arith, lt) in le))
      where
        earlier : (i ≡ n) ⊎ (i < n) → IsRaised c.args.keys.now c.args.order.now p q
        earlier (inr below) = c.loop-place.invariant.each i p q below at_p old
        earlier (inl same) =
            let one : p ≡ q = same_Some p q (sym (here p (ap (slice_get c.args.pasts.now) (sym same) ∙ at_p)) ∙ ap (slice_get c.loop-place.pasts) (sym same) ∙ old) in
            subst (IsRaised c.args.keys.now c.args.order.now p) one (record { clock = refl; source = refl; order = λ a counts. inl counts })
