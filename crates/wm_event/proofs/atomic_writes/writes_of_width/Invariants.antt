use Rattle.std.proofs.Common.{◌≡◌, ℕ, take}
use Rattle.std.specs.List.{filter}
use Rattle.wm_event.specs.Writes.{is_at, listed_from}
use Rattle.wm_event.specs.AtomicWrites.{begins_atomic}
use Rattle.wm_event.proofs.atomic_writes.writes_of_width.Given as goal

-- the bytes that the events so far write
abbrev pub invariant-loop-place : goal.invariant-loop-place
invariant-loop-place l = (a : ℕ) → filter (is_at a) l.entries.items ≡ listed_from (begins_atomic l.log l.width a) a 0 (take l.place l.order)
