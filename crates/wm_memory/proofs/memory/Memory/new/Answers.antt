use Rattle.std.proofs.Common.{◌≡◌, ℕ, [], sym, ◌∙◌, ap, arith, slice_get, List}
use Rattle.wm_event.proofs.WritesLemmas.{each_more}
use Rattle.wm_memory.specs.Memory.{Buffered}
use Rattle.wm_memory.proofs.memory.Memory.new.Goals as goal

abbrev IsUnused : ℕ → Buffered → Type 0
IsUnused n b = b ≡ record { stores = []; accesses = 0 }

pub loop-thread-preserved : goal.loop-thread-preserved
loop-thread-preserved c = record {
  size = grind (arith, c.in_ok-push.ensures.len, c.loop-thread.invariant.size);
  none = λ n b at. each_more IsUnused c.loop-thread.buffers.items c.in_ok-new.field-0 c.loop-thread.invariant.none c.in_ok-new.ensures n b (ap (λ (l : List Buffered). slice_get l n) (sym c.in_ok-push.ensures.items) ∙ at);
}
