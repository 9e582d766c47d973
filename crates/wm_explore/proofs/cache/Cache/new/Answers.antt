use Rattle.std.proofs.Common.{◌≡◌, ℕ, inl, inr, length, None, Some, sym, ap, ◌∙◌}
use Rattle.std.specs.Prelude.{◌⊎◌, Box, slice_get}
use Rattle.std.specs.declared.alloc.Global.{Global}
use Rattle.std.proofs.lemmas.Option.{none-some}
use Rattle.wm_explore.specs.declared.cache.Entry.{Entry}
use Rattle.wm_explore.proofs.Lists.{at_pushed}
use Rattle.wm_explore.proofs.cache.Cache.new.Goals as goal

pub loop-preserved : goal.loop-preserved
loop-preserved c = record {
  none = λ i entry at. by i entry (at_pushed c.loop.entries.items None i (Some entry) (ap (λ xs. slice_get xs i) (sym c.in_ok-push.ensures.items) ∙ at));
}
  where
    by : (i : ℕ) (entry : Box Entry Global) → ((i ≡ length c.loop.entries.items) × (Some entry ≡ None)) ⊎ (slice_get c.loop.entries.items i ≡ Some (Some entry)) → ⊥
    by i entry (inl h) = none-some entry (sym h.1)
    by i entry (inr old) = c.loop.invariant.none i entry old
