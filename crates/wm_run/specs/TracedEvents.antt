-- The events that a trace names.
use Rattle.std.specs.Prelude.{◌≡◌, ℕ, true, List, Option, None, Some, slice_get}
use Rattle.wm_ast.specs.declared.module.Module.{Module}
use Rattle.wm_event.specs.declared.event.Event.{Event}
use Rattle.wm_event.specs.declared.event.EventKey.{EventKey}
use Rattle.wm_event.specs.Event.{key_of, writes}
use Rattle.wm_event.specs.Log.{event_in}
use Rattle.wm_run.specs.declared.plan.Plan.{Plan}
use Rattle.wm_run.specs.declared.scripts.traced.TracedTurn.{TracedTurn}
use Rattle.wm_run.specs.declared.scripts.traced.TurnDone.{TurnDone}
use Rattle.wm_run.specs.declared.scripts.traced.TurnDone.TheVariants.{Stepped, Accessed, Rested, Drained, Absent, Held}
use Rattle.wm_run.specs.declared.turn.Turn.{Turn}
use Rattle.wm_run.specs.Run.{Record}
use Rattle.wm_run.specs.Traced.{IsTraced}

-- the log of the run has the event of this thread and number
abbrev pub IsLogged : Record → EventKey → Type 0
IsLogged run key = (e : Event) × (event_in run.log key ≡ Some e) × (key_of e ≡ key)

-- each access of the entries is an event of the run
abbrev pub NamesEventsOf : Record → List TracedTurn → Type 0
NamesEventsOf run entries = (k : ℕ) (entry : TracedTurn) (key : EventKey) (store : Option EventKey) → slice_get entries k ≡ Some entry → entry.done ≡ Accessed key store → IsLogged run key

-- this holds for each trace
abbrev pub TracedAccessesAreLogged : Type 0
TracedAccessesAreLogged = (m : Module) (plan : Plan) (turns : List Turn) (run : Record) (entries : List TracedTurn) → IsTraced m plan turns run entries → NamesEventsOf run entries

-- the log of the run has the write of this thread and number
abbrev pub IsLoggedWrite : Record → EventKey → Type 0
IsLoggedWrite run key = (e : Event) × (event_in run.log key ≡ Some e) × (key_of e ≡ key) × (writes e ≡ true)

-- the store that left its buffer in a turn
abbrev pub store_of : TurnDone → Option EventKey
store_of (Drained key) = Some key
store_of (Accessed key store) = store
store_of Stepped = None
store_of (Rested why) = None
store_of Absent = None
store_of Held = None

-- each store of the entries is a write of the run
abbrev pub NamesWritesOf : Record → List TracedTurn → Type 0
NamesWritesOf run entries = (k : ℕ) (entry : TracedTurn) (store : EventKey) → slice_get entries k ≡ Some entry → store_of entry.done ≡ Some store → IsLoggedWrite run store

-- this holds for each trace
abbrev pub TracedStoresAreLogged : Type 0
TracedStoresAreLogged = (m : Module) (plan : Plan) (turns : List Turn) (run : Record) (entries : List TracedTurn) → IsTraced m plan turns run entries → NamesWritesOf run entries
