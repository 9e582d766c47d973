use Rattle.std.proofs.Common.{◌≡◌, ℕ, ◌+◌, inl, inr, Some, [], ◌∷◌, length, sym, ap, subst, ◌∙◌}
use Rattle.std.specs.Prelude.{◌⊎◌, slice_get}
use Rattle.std.proofs.lemmas.List.{length-append}
use Rattle.std.proofs.lemmas.Option.{get_or_from_slice_get}
use Rattle.wm_explore.specs.Standing.{IsRaised}
use Rattle.wm_explore.specs.declared.past.Past.{Past}
use Rattle.wm_explore.proofs.Lists.{at_pushed}
use Rattle.wm_explore.proofs.standing.all_raised.Goals as goal

pub loop-past-preserved : goal.loop-past-preserved
loop-past-preserved c = record {
  count = ap length c.in_ok-push.ensures.items ∙ length-append c.loop-past.all.items (c.raised.result ∷ []) ∙ ap (λ n. n + 1) c.loop-past.invariant.count;
  each = λ i p q at_p at_q. by i p q at_p (at_pushed c.loop-past.all.items c.raised.result i q (ap (λ ps. slice_get ps i) (sym c.in_ok-push.ensures.items) ∙ at_q));
}
  where
    by : (i : ℕ) (p q : Past) → slice_get c.args.pasts.now i ≡ Some p → ((i ≡ length c.loop-past.all.items) × (q ≡ c.raised.result)) ⊎ (slice_get c.loop-past.all.items i ≡ Some q)
        → IsRaised c.args.keys.now c.args.order.now p q
    by i p q at_p (inr old) = c.loop-past.invariant.each i p q at_p old
    by i p q at_p (inl (last, is)) =
        subst (λ r. IsRaised c.args.keys.now c.args.order.now p r) (sym is)
        (subst (λ z. IsRaised c.args.keys.now c.args.order.now z c.raised.result)
        (get_or_from_slice_get c.args.pasts.now c.loop-past.past-index p _ (ap (slice_get c.args.pasts.now) (sym (last ∙ c.loop-past.invariant.count)) ∙ at_p)) c.raised.ensures)
