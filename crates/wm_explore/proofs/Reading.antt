-- The value that an execution reads next is among those that a read can have, if the state has the events that wrote its bytes.
use Rattle.std.proofs.Common.{◌≡◌, ℕ, ◌+◌, ◌<◌, ◌≤◌, ◌==◌, Bool, true, false, List, length, inl, inr, Option, None, Some, IsTrue, refl, sym, ap, subst, ◌∙◌, arith}
use Rattle.std.specs.Prelude.{◌⊎◌, is_none, slice_get, if◌then◌else◌}
use Rattle.std.proofs.lemmas.Bool.{cases_lt, false≢true, le-leb}
use Rattle.std.proofs.lemmas.Option.{same_Some}
use Rattle.wm_access.specs.declared.AccessWidth.{AccessWidth}
use Rattle.wm_access.specs.declared.AccessWidth.TheVariants.{One, Two, Four, Eight}
use Rattle.wm_access.specs.AccessWidth.{bytes_of}
use Rattle.wm_ast.specs.declared.module.Module.{Module}
use Rattle.wm_event.specs.declared.event.Event.{Event}
use Rattle.wm_event.specs.declared.event.EventId.{EventId}
use Rattle.wm_event.specs.declared.event.EventId.TheVariants.{Init, At}
use Rattle.wm_event.specs.declared.event.EventKey.{EventKey}
use Rattle.wm_event.specs.declared.event.EventKind.TheVariants as event
use Rattle.wm_event.specs.declared.log.Start.{Start}
use Rattle.wm_event.specs.declared.log.ThreadLog.{ThreadLog}
use Rattle.wm_event.specs.declared.op.OpFields.{OpFields}
use Rattle.wm_event.specs.declared.op.OpKind.{OpKind}
use Rattle.wm_event.specs.declared.op.OpKind.TheVariants.{Read, Write, Rmw, CmpXchg}
use Rattle.wm_event.specs.Byte.{byte_of}
use Rattle.wm_event.specs.Event.{kind_reads}
use Rattle.wm_event.specs.Execution.{ReadsFrom}
use Rattle.wm_event.specs.Log.{event_in}
use Rattle.wm_event.specs.LoggedRun.{LoggedRun, execution}
use Rattle.wm_event.specs.Op.{event_made, kind_finds, made_kind, made_read}
use Rattle.wm_event.specs.Shape.{read_width}
use Rattle.wm_part.specs.Cut.{is_kept}
use Rattle.wm_replay.specs.Continuing.{HasNextBy}
use Rattle.wm_explore.specs.Executions.{IsExecutionOf}
use Rattle.wm_explore.specs.States.{GoesOn, HasArrived, IsMissed, IsState, count_in}
use Rattle.wm_explore.specs.Values.{Has, IsSource, ReadsAll, highest, is_new}
use Rattle.wm_explore.specs.Values.IsSource.{initially, left_by}
use Rattle.wm_explore.specs.declared.state.State.{State}
use Rattle.wm_explore.specs.declared.values.Part.{Part}
use Rattle.wm_explore.proofs.Beginnings.{count_at}
use Rattle.wm_explore.proofs.Children.{HasWriters}
use Rattle.wm_explore.proofs.Highest.{new_by, new_unmarked, whole_value}
use Rattle.wm_explore.proofs.Readings.{byte_left_by, byte_within, writer_of}
use Rattle.wm_explore.proofs.Waiting.{arrival, behind, left_there, next, next_there}

-- what an access that reads makes of the value
read_is : (kind : OpKind) (r : ℕ) → kind_finds kind ≡ true → made_read kind r ≡ r
read_is Read r h = refl
read_is (Write v) r h = absurd (false≢true h)
read_is (Rmw op v) r h = refl
read_is (CmpXchg expected new) r h = refl

reads_is : (kind : OpKind) (r : ℕ) → kind_finds kind ≡ true → kind_reads (made_kind kind r) ≡ true
reads_is Read r h = refl
reads_is (Write v) r h = absurd (false≢true h)
reads_is (Rmw op v) r h = refl
reads_is (CmpXchg expected new) r h = by (r == expected)
  where
    by : (b : Bool) → kind_reads (if b then event.Update else event.Read) ≡ true
    by true = refl
    by false = refl

narrow : (w : AccessWidth) → bytes_of w ≤ 8
narrow One = omega arith
narrow Two = omega arith
narrow Four = omega arith
narrow Eight = omega arith

-- a byte that a read can have, of this value; new, if an event wrote it that had not arrived among the first that the mark counts
record Source (x : LoggedRun) (s : State) (key : EventKey) (a : ℕ) (mark : Option ℕ) (value byte : ℕ) : Type 0 where
  part : Part
  is_value : part.value ≡ value
  is_source : IsSource s x.initial a mark part
  new : (n : ℕ) (w : EventKey) → mark ≡ Some n → ReadsFrom (execution x) key byte (At w) → (HasArrived s.arrived n w → ⊥) → part.is_new ≡ true

module _ (m : Module) (starts : List Start) (x : LoggedRun) (s : State) (is : IsExecutionOf m starts x) (fine : IsState starts s) (on : GoesOn x s) (k : ℕ) (t u : ThreadLog) (op : OpFields) (at_t : slice_get s.log k ≡ Some t) (at_u : slice_get x.log k ≡ Some u)
    (finds : kind_finds op.kind ≡ true) (made : HasNextBy k t u op) (mark : Option ℕ) (marked : (n : ℕ) → mark ≡ Some n → IsMissed x s k n) (has : HasWriters x s on k t at_t) where
  abbrev e : Event
  e = event_made (record { thread = k; number = length t.events }) op made.0

  abbrev key : EventKey
  key = next m starts x s is fine on k

  abbrev width : ℕ
  width = bytes_of op.width

  here : event_in x.log key ≡ Some e
  here = next_there m starts x s is fine on k t u op at_t at_u made

  has_writer : (byte : ℕ) (w : EventKey) → ReadsFrom (execution x) key byte (At w) → IsTrue (is_kept (count_in s.log) w)
  has_writer byte w from = has byte w (subst (λ n. ReadsFrom (execution x) (record { thread = k; number = n }) byte (At w)) (count_at s.log k t at_t) from)

  read_here : e.read ≡ made.0
  read_here = read_is op.kind made.0 finds

  width_here : read_width e ≡ width
  width_here = ap (λ b. if b then width else 0) (reads_is op.kind made.0 finds)

  module _ (byte : ℕ) (lt : byte < width) where
    value : ℕ
    value = byte_of made.0 byte

    source_by : (w : EventId) → ReadsFrom (execution x) key byte w → Source x s key (op.address + byte) mark (byte_of made.0 byte) byte
    source_by Init from = record {
      part = record { value = byte_of made.0 byte; is_new = is_none mark };
      is_value = refl;
      is_source = initially (byte_of made.0 byte) (byte_left_by m starts x is key e here byte Init from ∙ ap (λ r. Some (byte_of r byte)) read_here);
      new = λ n w _ other _. absurd (cc (same_Some Init (At w) (sym from ∙ other)));
    }
    source_by (At w) from =
        let kept = has_writer byte w from in
        let place = arrival m starts x s is fine on w kept in record {
          part = record { value = byte_of made.0 byte; is_new = is_new place.0 mark };
          is_value = refl;
          is_source = left_by place.0 w (byte_of made.0 byte) place.1
              (left_there m starts x s is fine on w (op.address + byte) (byte_of made.0 byte) kept (byte_left_by m starts x is key e here byte (At w) from ∙ ap (λ r. Some (byte_of r byte)) read_here));
          new = λ n v counts other late.
              let same : v ≡ w = cc (same_Some (At v) (At w) (sym other ∙ from)) in
              let le = behind m starts x s is fine on n w (subst (λ q. HasArrived s.arrived n q → ⊥) same late) kept in
              ap (is_new place.0) counts ∙ le-leb n place.0 le;
        }

    source : Source x s key (op.address + byte) mark (byte_of made.0 byte) byte
    source =
        let w = writer_of m starts x is key e here byte (subst (λ n. byte < n) (sym width_here) lt) in source_by w.0 w.1

  pick : (byte : ℕ) → (byte < width) ⊎ (width ≤ byte) → Part
  pick byte (inl lt) = (source byte lt).part
  pick byte (inr _) = record { value = 0; is_new = false }

  -- the bytes of the value
  bytes : ℕ → Part
  bytes byte = pick byte (cases_lt byte width)

  picked : (P : ℕ → Part → Type 0) → ((byte : ℕ) (lt : byte < width) → P byte (source byte lt).part) → (byte : ℕ) → byte < width → P byte (bytes byte)
  unfolding pick source bytes
  picked P each byte lt = by (cases_lt byte width)
    where
      by : (c : (byte < width) ⊎ (width ≤ byte)) → P byte (pick byte c)
      by (inl lt) = each byte lt
      by (inr le) = absurd (omega (arith, lt, le))

  whole : (highest bytes mark width width).value ≡ made.0
  whole = whole_value bytes mark width made.0 (narrow op.width) made.1 (picked (λ byte p. p.value ≡ byte_of made.0 byte) (λ byte lt. (source byte lt).is_value))

  fresh : (highest bytes mark width width).is_new ≡ true
  fresh = by mark refl
    where
      by : (o : Option ℕ) → mark ≡ o → (highest bytes mark width width).is_new ≡ true
      by None none = new_unmarked bytes mark width none
      by (Some n) counts =
          let missed = marked n counts in
          let lt : missed.0 < width = subst (λ w. missed.0 < w) width_here (byte_within m starts x is key e here missed.0 (At missed.1) missed.2) in
          new_by bytes mark width missed.0 lt
          (picked (λ byte p. byte ≡ missed.0 → p.is_new ≡ true) (λ byte lt same. (source byte lt).new n missed.1 counts (subst (λ b. ReadsFrom (execution x) key b (At missed.1)) (sym same) missed.2) missed.3) missed.0 lt refl)

  pub has_value : (values : List ℕ) → ReadsAll s x.initial op mark values → Has values made.0
  has_value values all = subst (Has values) whole (all bytes (picked (λ byte p. IsSource s x.initial (op.address + byte) mark p) (λ byte lt. (source byte lt).is_source)) fresh)
