-- What the writers of a byte that an execution reads left there.
use Rattle.std.proofs.Common.{◌≡◌, ℕ, ◌+◌, ◌<◌, List, Some, sym, subst}
use Rattle.std.proofs.lemmas.Option.{get_or_from_slice_get, slice_get_within}
use Rattle.wm_ast.specs.declared.module.Module.{Module}
use Rattle.wm_event.specs.declared.event.Event.{Event}
use Rattle.wm_event.specs.declared.event.EventId.{EventId}
use Rattle.wm_event.specs.declared.event.EventKey.{EventKey}
use Rattle.wm_event.specs.declared.log.Start.{Start}
use Rattle.wm_event.specs.Byte.{byte_of}
use Rattle.wm_event.specs.Execution.{ReadsFrom, byte_by}
use Rattle.wm_event.specs.Log.{event_in}
use Rattle.wm_event.specs.LoggedRun.{LoggedRun, execution}
use Rattle.wm_event.specs.Shape.{IsThere, read_width}
use Rattle.wm_explore.specs.Executions.{IsExecutionOf}
use Rattle.wm_explore.proofs.Turning.{item_within}

module _ (m : Module) (starts : List Start) (x : LoggedRun) (is : IsExecutionOf m starts x) (r : EventKey) (e : Event) (at : event_in x.log r ≡ Some e) (byte : ℕ) where
  module _ (w : EventId) (from : ReadsFrom (execution x) r byte w) where
    -- it is one of the bytes that the event reads
    pub byte_within : byte < read_width e
    byte_within = subst (λ n. byte < n) (is.shaped.good r e at).count (slice_get_within _ byte w from)

    -- and the writer left it there
    pub byte_left_by : byte_by (execution x) w (e.address + byte) ≡ Some (byte_of e.read byte)
    byte_left_by = (is.valid.keeps_written_values r e byte w at from).1

    -- the writer is Init or an event
    pub writer_there : IsThere x.log w
    writer_there =
        let ws = (execution x).writers_of r in
        subst (IsThere x.log) (get_or_from_slice_get ws byte w w from) ((is.shaped.good r e at).there byte w (slice_get_within ws byte w from))

  -- each byte that the event reads has a writer
  pub writer_of : byte < read_width e → (w : EventId) × ReadsFrom (execution x) r byte w
  writer_of lt = item_within ((execution x).writers_of r) byte (subst (λ n. byte < n) (sym (is.shaped.good r e at).count) lt)
