-- A sequential run reads what one memory has.
use Rattle.std.proofs.Common.{◌≡◌, ℕ, zero, suc, ◌+◌, ◌<◌, ◌≤◌, length, get_or, slice_get, Option, None, Some, is_some, refl, sym, ap, ◌∙◌, arith, ⊎_elim}
use Rattle.std.specs.Prelude.{option_and_then, if◌then◌else◌}
use Rattle.std.proofs.lemmas.Bool.{cases_lt, false≢true}
use Rattle.std.proofs.lemmas.Option.{slice_get-get_or}
use Rattle.wm_access.specs.AccessWidth.{bytes_of}
use Rattle.wm_event.specs.declared.event.Event.{Event}
use Rattle.wm_event.specs.declared.event.EventKey.{EventKey}
use Rattle.wm_event.specs.declared.event.EventId.{EventId}
use Rattle.wm_event.specs.declared.event.EventId.TheVariants.{Init, At}
use Rattle.wm_event.specs.Byte.{byte_of}
use Rattle.wm_event.specs.Event.{byte_written}
use Rattle.wm_event.specs.Execution.{Execution, ReadsFrom, byte_by, place}
use Rattle.wm_event.specs.Log.{event_in}
use Rattle.wm_event.specs.LoggedRun.{LoggedRun, execution}
use Rattle.wm_event.specs.Rules.{KeepsWrittenValues, Writes}
use Rattle.wm_event.specs.Shape.{IsWellShaped}
use Rattle.wm_event.specs.Witness.{writers_in}
use Rattle.wm_sequential.specs.Sequential.{IsSequential, ReadsOneMemory, SequentialRunsReadOneMemory, memory_after, or_else}
use Rattle.wm_sequential.proofs.Steps.{place-is, some_of, stands}

module _ (run : LoggedRun) (shape : IsWellShaped run) (values : KeepsWrittenValues (execution run)) (sequential : IsSequential (execution run)) where
  abbrev x : Execution
  x = execution run

  -- a writer of a byte is an event of the log
  logged-writer : (u : EventKey) (a : ℕ) → Writes x (At u) a → (e : Event) × (event_in run.log u ≡ Some e)
  logged-writer u a h = by (event_in run.log u) refl
    where
      by : (o : Option Event) → event_in run.log u ≡ o → (e : Event) × (event_in run.log u ≡ Some e)
      by None at = let n = ap (λ o. is_some (option_and_then (λ (e : Event). byte_written e a) o)) at in absurd (false≢true (sym n ∙ h))
      by (Some e) at = (e, at)

  module _ (a : ℕ) where
    -- what the event at number n of the order leaves at the address
    abbrev left_by_number : ℕ → Option ℕ
    left_by_number n = option_and_then (λ key. byte_by x (At key) a) (slice_get run.witness.order n)

    record LeftAt (n c : ℕ) : Type 0 where
      key : EventKey
      listed : slice_get run.witness.order n ≡ Some key
      left : byte_by x (At key) a ≡ Some c

    left-at : (n c : ℕ) → left_by_number n ≡ Some c → LeftAt n c
    left-at n c h = by (slice_get run.witness.order n) refl
      where
        by : (o : Option EventKey) → slice_get run.witness.order n ≡ o → LeftAt n c
        by None at = let none_left = ap (λ o. option_and_then (λ key. byte_by x (At key) a) o) at in absurd (cc)
        by (Some key) at = record { key = key; listed = at; left = sym (ap (λ o. option_and_then (λ key. byte_by x (At key) a) o) at) ∙ h }

    -- a writer stands at its place
    writer-stands : (u : EventKey) (n b : ℕ) → byte_by x (At u) a ≡ Some b → place x (At u) ≡ suc n → slice_get run.witness.order n ≡ Some u
    writer-stands u n b is p = let g = logged-writer u a (some_of (byte_by x (At u) a) b is) in stands run shape.order u g.0 n g.1 (omega (arith, p))

    -- if w is the last write of the address up to n, the memory has its byte
    memory-has : (n : ℕ) (w : EventId) (b : ℕ) → byte_by x w a ≡ Some b → place x w ≤ n → ((v : EventId) → Writes x v a → place x v ≤ n → place x v ≤ place x w) → memory_after run n a ≡ Some b
    memory-has zero Init b is low last = is
    memory-has zero (At u) b is low last = absurd (omega (arith, low))
    memory-has (suc n) w b is low last = by (left_by_number n) refl (λ below. memory-has n w b is below (λ v written l. last v written (omega (arith, l))))
      where
        stands-here : (w : EventId) (c : ℕ) → byte_by x w a ≡ Some b → place x w ≡ suc n → left_by_number n ≡ Some b
        stands-here Init c is p = absurd (omega (arith, p))
        stands-here (At u) c is p = ap (λ o. option_and_then (λ key. byte_by x (At key) a) o) (writer-stands u n b is p) ∙ is

        by : (o : Option ℕ) → left_by_number n ≡ o → (place x w ≤ n → memory_after run n a ≡ Some b) → memory_after run (suc n) a ≡ Some b
        by None left rest = ap (λ o. or_else o (memory_after run n a)) left ∙ ⊎_elim
            (λ (l : place x w < suc n). rest (omega (arith, l)))
            (λ (l : suc n ≤ place x w). let h = stands-here w 0 is (omega (arith, l, low)) in absurd (cc))
            (cases_lt (place x w) (suc n))
        by (Some c) left rest =
            let l = left-at n c left in
            let p : x.place_of l.key ≡ n = place-is run shape.order n l.key l.listed in
            let later = last (At l.key) (some_of (byte_by x (At l.key) a) c l.left) (omega (arith, p)) in
            ap (λ o. or_else o (memory_after run n a)) (stands-here w 0 is (omega (arith, p, later, low)))

  reads-one-memory : ReadsOneMemory run
  reads-one-memory r e k is_r does below =
      let count = (shape.good r e is_r).count in
      let some : k < length (writers_in run.witness r) = omega (arith, below, count, ap (λ b. if b then bytes_of e.width else 0) does) in
      let w : EventId = get_or (writers_in run.witness r) k Init in
      let from : ReadsFrom x r k w = slice_get-get_or (writers_in run.witness r) k Init some in
      let taken = sequential.takes_last r e k w is_r from in
      let is = values r e k w is_r from in
      let before = taken.before in
      memory-has (e.address + k) (x.place_of r) w (byte_of e.read k) is.1 (omega (arith, before)) (λ v written l. taken.last v written (omega (arith, l)))

pub sequential-runs-read-one-memory : SequentialRunsReadOneMemory
sequential-runs-read-one-memory run shape values sequential = reads-one-memory run shape values sequential
