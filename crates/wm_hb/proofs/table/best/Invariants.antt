use Rattle.std.proofs.Common.{◌≡◌, ◌<◌, ℕ, IfSome, Some, slice_get}
use Rattle.wm_event.specs.declared.event.EventKey.{EventKey}
use Rattle.wm_event.specs.declared.event.EventId.TheVariants.{At}
use Rattle.wm_event.specs.HappensBefore.{SynchronizesWith}
use Rattle.wm_event.specs.LoggedRun.{execution}
use Rattle.wm_event.specs.Witness.{writers_in}
use Rattle.wm_hb.specs.Table.{BoundsThrough, IsHop, IsTable, IsWithin, hop_links}
use Rattle.wm_hb.proofs.table.best.Given as goal

abbrev pub invariant-loop-writer : goal.invariant-loop-writer
invariant-loop-writer l = record {
  items : l.writer-items ≡ writers_in l.candidate.witness l.key;
  hop : IfSome l.best (λ hop. IsHop l.candidate l.table l.key hop);
  thread : (n : ℕ) → IsWithin (hop_links l.fn.earlier) n → IsWithin (hop_links l.best) n;
  writers : (a p : EventKey) (k : ℕ) → k < l.writer-index → slice_get l.writer-items k ≡ Some (At p) → IsTable l.candidate a l.table
      → SynchronizesWith (execution l.candidate) p l.key → BoundsThrough l.candidate a p (hop_links l.best);
}
