-- The writes of a log by what they leave, and the ranges that are written only as a whole.
use Rattle.std.specs.Prelude.{◌≡◌, ℕ, ◌+◌, ◌*◌, ◌/◌, ◌%◌, ◌^◌, ◌<◌, ◌==◌, List, Bool, Some, IsTrue, All}
use Rattle.std.specs.List.{Contains}
use Rattle.std.specs.List.Sorted.{IsNonDecreasingBy}
use Rattle.wm_event.specs.declared.event.Event.{Event}
use Rattle.wm_event.specs.declared.event.EventKey.{EventKey}
use Rattle.wm_event.specs.declared.log.ThreadLog.{ThreadLog}
use Rattle.wm_event.specs.Event.{range_of, reads, writes}
use Rattle.wm_event.specs.Log.{event_in}
use Rattle.wm_event.specs.Rules.{IsTearFree}
use Rattle.wm_event.specs.Shape.{read_width}
use Rattle.wm_event.specs.Writes.{writes_byte}
use Rattle.wm_witness.specs.declared.offers.Offer.{Offer}
use Rattle.wm_witness.specs.declared.offers.Offers.{Offers}

-- the number under which a write of a value from an address on is filed
abbrev pub number_of : ℕ → ℕ → ℕ
number_of address value = address * 2 ^ 31 + value / 2 ^ 32 + value % 2 ^ 32

-- whether a write is filed under a number
abbrev pub is_filed : ℕ → Offer → Bool
is_filed number offer = offer.number == number

-- the event of that name is filed, if it is there and writes
abbrev pub IsFiled : List ThreadLog → List Offer → EventKey → Type 0
IsFiled log offers key = (e : Event) → event_in log key ≡ Some e → IsTrue (writes e)
    → Contains offers (record { number = number_of e.address e.written; writer = key })

-- e reads, and each byte that it reads is written only by events that are tear-free with its range
pub record IsWhole (log : List ThreadLog) (e : Event) : Type 0 where
  pub does_read : IsTrue (reads e)
  pub writers : (w : EventKey) (k : ℕ) → k < read_width e → IsTrue (writes_byte log (e.address + k) w)
      → (f : Event) × (event_in log w ≡ Some f) × IsTearFree f × (range_of f ≡ range_of e)

-- all writes of the log, by their numbers; and reads of ranges that are written only as a whole
pub record AreOffers (log : List ThreadLog) (offers : Offers) : Type 0 where
  pub rises : IsNonDecreasingBy (λ (o : Offer). o.number) offers.writes.items
  pub filed : (key : EventKey) → IsFiled log offers.writes.items key
  pub wholes : All (IsWhole log) offers.wholes.items
