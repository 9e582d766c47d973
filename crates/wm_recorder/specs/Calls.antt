-- The calls that one caller made of a memory.
use Rattle.std.specs.Prelude.{◌≡◌, ℕ, ◌+◌, ◌<◌, ◌^◌, List, [], ◌∷◌, ◌++◌, Option, length, unwrap_or}
use Rattle.wm_event.specs.declared.event.Event.{Event}
use Rattle.wm_event.specs.declared.op.OpFields.{OpFields as Op}
use Rattle.wm_event.specs.Op.{event_made}

-- the events of its accesses, for how many of them there is capacity, and how many drains it made
pub record Called : Type 0 where
  pub events : List Event
  pub capacity : ℕ
  pub drains : ℕ

-- a caller that made no call
pub record HasNotCalled (calls : Called) : Type 0 where
  pub events : calls.events ≡ []
  pub drains : calls.drains ≡ 0

-- there is capacity for one more access, which has a number of 32 bits
pub record HasCallRoom (calls : Called) : Type 0 where
  pub capacity : length calls.events < calls.capacity
  pub few : length calls.events < 2 ^ 32

-- one more drain has a number of 64 bits
abbrev pub HasDrainRoom : Called → Type 0
HasDrainRoom calls = calls.drains + 1 < 2 ^ 64

-- the event of thread t with this number, of an access that read this value
abbrev pub event_called : ℕ → ℕ → Op → Option ℕ → Event
event_called t number op read = event_made (record { thread = t; number = number }) op (unwrap_or read 0)

-- one access of thread t was made, and nothing else
pub record CallsAccess (t : ℕ) (op : Op) (read : Option ℕ) (old new : Called) : Type 0 where
  pub events : new.events ≡ old.events ++ event_called t (length old.events) op read ∷ []
  pub drains : new.drains ≡ old.drains

-- one drain was made, and nothing else
pub record CallsDrain (old new : Called) : Type 0 where
  pub events : new.events ≡ old.events
  pub drains : new.drains ≡ old.drains + 1

-- no call was made
pub record CallsNothing (old new : Called) : Type 0 where
  pub events : new.events ≡ old.events
  pub drains : new.drains ≡ old.drains
