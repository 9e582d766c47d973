-- Which events fit a byte of a read, given only the log and the initial memory.
use Rattle.std.specs.Prelude.{ℕ, ◌+◌, ◌==◌, ◌&&◌, List, ◌∷◌, Bool, false, not, leb, Option, map, flat_map, slice_get, option_and_then}
use Rattle.std.specs.List.{filter}
use Rattle.std.specs.Option.{option_map_or}
use Rattle.wm_event.specs.declared.event.Event.{Event}
use Rattle.wm_event.specs.declared.event.EventKey.{EventKey}
use Rattle.wm_event.specs.declared.event.EventId.{EventId}
use Rattle.wm_event.specs.declared.event.EventId.TheVariants.{Init, At}
use Rattle.wm_event.specs.declared.log.ThreadLog.{ThreadLog}
use Rattle.wm_event.specs.Byte.{byte_of}
use Rattle.wm_event.specs.Event.{byte_written, key_of}
use Rattle.wm_event.specs.Log.{event_in}

-- the byte that an event of the log leaves at an address, if it writes there; Init leaves the initial bytes
abbrev pub byte_left : List ThreadLog → List ℕ → EventId → ℕ → Option ℕ
byte_left log initial Init a = slice_get initial a
byte_left log initial (At key) a = option_and_then (λ e. byte_written e a) (event_in log key)

-- whether an id leaves that byte at an address
abbrev pub leaves : List ThreadLog → List ℕ → EventId → ℕ → ℕ → Bool
leaves log initial w a byte = option_map_or (λ b. b == byte) (byte_left log initial w a) false

-- whether an id is the event r or a later event of its thread
abbrev pub is_from : EventKey → EventId → Bool
is_from r Init = false
is_from r (At w) = (w.thread == r.thread) && leb r.number w.number

-- whether an id fits byte k of the read e: it leaves there the byte that was read, and is neither e nor a later event of its thread
abbrev pub fits : List ThreadLog → List ℕ → Event → ℕ → EventId → Bool
fits log initial e k w = leaves log initial w (e.address + k) (byte_of e.read k) && not (is_from (key_of e) w)

-- the ids of a log: Init, then the events of each thread, one thread after the other
abbrev pub ids : List ThreadLog → List EventId
ids log = Init ∷ flat_map (λ thread. map At (map key_of thread.events)) log

-- the ids that fit byte k of the read e, in that order
abbrev pub fitting : List ThreadLog → List ℕ → Event → ℕ → List EventId
fitting log initial e k = filter (fits log initial e k) (ids log)
