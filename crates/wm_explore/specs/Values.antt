-- The values that a read can have in a state.
use Rattle.std.specs.Prelude.{◌≡◌, ℕ, zero, suc, ◌+◌, ◌-◌, ◌*◌, ◌^◌, ◌%◌, ◌<◌, ◌||◌, Bool, true, List, Option, None, Some, is_none, nat_le, option_and_then, slice_get}
use Rattle.wm_access.specs.AccessWidth.{bytes_of}
use Rattle.wm_event.specs.Event.{byte_written}
use Rattle.wm_event.specs.Log.{event_in}
use Rattle.wm_event.specs.declared.event.EventKey.{EventKey}
use Rattle.wm_event.specs.declared.log.ThreadLog.{ThreadLog}
use Rattle.wm_event.specs.declared.op.OpFields.{OpFields}
use Rattle.wm_explore.specs.declared.state.State.{State}
use Rattle.wm_explore.specs.declared.values.Part.{Part}

-- x is in the list
abbrev pub Has : {X : Type 0} → List X → X → Type 0
Has xs x = (i : ℕ) × (slice_get xs i ≡ Some x)

-- all that was in the list is in it, and x
pub record Adds {X : Type 0} (x : X) (old new : List X) : Type 0 where
  pub added : Has new x
  pub kept : (y : X) → Has old y → Has new y

-- the event at this place of those that have arrived is not among the first ones that the mark counts
abbrev pub is_new : ℕ → Option ℕ → Bool
is_new place None = true
is_new place (Some count) = nat_le count place

-- the byte that an event left at the address, if it writes there
abbrev pub byte_left : List ThreadLog → EventKey → ℕ → Option ℕ
byte_left log key a = option_and_then (λ e. byte_written e a) (event_in log key)

-- the byte that the event left at the address that arrived at this place, if it writes there
abbrev pub left_at : State → ℕ → ℕ → Option ℕ
left_at s place a = option_and_then (λ key. byte_left s.log key a) (slice_get s.arrived place)

-- a byte that a read of the address can have: the initial one, or one that an event left that has arrived
pub data IsSource (s : State) (initial : List ℕ) (a : ℕ) (mark : Option ℕ) : Part → Type 0 where
  initially : (byte : ℕ) → slice_get initial a ≡ Some byte → IsSource s initial a mark record { value = byte; is_new = is_none mark }
  left_by : (place : ℕ) (key : EventKey) (byte : ℕ) → slice_get s.arrived place ≡ Some key → byte_left s.log key a ≡ Some byte
      → IsSource s initial a mark record { value = byte; is_new = is_new place mark }

-- the initial byte of the address is offered
abbrev pub OffersInitial : List ℕ → ℕ → Option ℕ → List Part → Type 0
OffersInitial initial a mark offers = (byte : ℕ) → slice_get initial a ≡ Some byte → Has offers record { value = byte; is_new = is_none mark }

abbrev pub OffersAll : State → List ℕ → ℕ → Option ℕ → List Part → Type 0
OffersAll s initial a mark offers = (p : Part) → IsSource s initial a mark p → Has offers p

-- a value with one more byte, its lowest
abbrev pub joined : Part → Part → Part
joined p q = record { value = (p.value * 256 % 2 ^ 64 + q.value) % 2 ^ 64; is_new = p.is_new || q.is_new }

abbrev pub WidensTo : List Part → List Part → List Part → Type 0
WidensTo parts offers wide = (p q : Part) → Has parts p → Has offers q → Has wide (joined p q)

-- the values of all new parts
abbrev pub KeepsNew : List Part → List ℕ → Type 0
KeepsNew parts values = (p : Part) → Has parts p → p.is_new ≡ true → Has values p.value

-- no byte
abbrev pub nothing_of : Option ℕ → Part
nothing_of mark = record { value = 0; is_new = is_none mark }

-- the count highest ones of these bytes of a value of so many bytes
abbrev pub highest : (ℕ → Part) → Option ℕ → ℕ → ℕ → Part
highest bytes mark width zero = nothing_of mark
highest bytes mark width (suc count) = joined (highest bytes mark width count) (bytes (width - 1 - count))

-- the values of all choices of its bytes that are new
abbrev pub ReadsAll : State → List ℕ → OpFields → Option ℕ → List ℕ → Type 0
ReadsAll s initial op mark values = (bytes : ℕ → Part) → ((k : ℕ) → k < bytes_of op.width → IsSource s initial (op.address + k) mark (bytes k))
    → (highest bytes mark (bytes_of op.width) (bytes_of op.width)).is_new ≡ true → Has values (highest bytes mark (bytes_of op.width) (bytes_of op.width)).value
