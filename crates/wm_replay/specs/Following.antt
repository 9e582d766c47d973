-- How a thread runs by its log, on the values that its events read.
use Rattle.std.specs.Prelude.{◌≡◌, ◌≢◌, ℕ, ◌<◌, ◌≤◌, ◌⊎◌, Bool, true, false, List, drop, length, take, Some, Result, Ok, Err, slice_get}
use Rattle.wm_access.specs.AccessWidth.{Fits}
use Rattle.wm_ast.specs.declared.module.Module.{Module}
use Rattle.wm_event.specs.declared.event.Event.{Event}
use Rattle.wm_event.specs.declared.log.ThreadLog.{ThreadLog}
use Rattle.wm_event.specs.declared.op.OpFields.{OpFields}
use Rattle.wm_event.specs.Event.{key_of}
use Rattle.wm_event.specs.Op.{event_made}
use Rattle.wm_machine.specs.declared.fault.StartFault.{StartFault}
use Rattle.wm_machine.specs.declared.fault.StartFault.TheVariants.{OutOfMemory}
use Rattle.wm_machine.specs.Run.{steps}
use Rattle.wm_machine.specs.State.{config_of}
use Rattle.wm_machine.specs.Step.{access_of, step}
use Rattle.wm_machine.specs.Term.{Config, ReducesTo, NoStep}
use Rattle.wm_replay.specs.declared.by_log.Followed.{Followed}
use Rattle.wm_replay.specs.Replay.{reads_of, start_of}

-- ---- a step and the log

-- the access makes the event when it reads the value that the event read
abbrev pub MakesEvent : OpFields → Event → Type 0
MakesEvent a e = (event_made (key_of e) a e.read ≡ e) × Fits a.width e.read

-- the access doesn't make the event, whatever value it reads
abbrev pub MakesNotEvent : OpFields → Event → Type 0
MakesNotEvent a e = (r : ℕ) → Fits a.width r → event_made (key_of e) a r ≢ e

-- the step makes the access that is the log's event n
pub record Accesses (m : Module) (old new : Config) (events : List Event) (n : ℕ) : Type 0 where
  pub op : OpFields
  pub event : Event
  pub listed : slice_get events n ≡ Some event
  pub makes : MakesEvent op event
  pub asks : (r : ℕ) → access_of (step m r old) ≡ Some op
  pub steps_to : step m event.read old ≡ ReducesTo (Some op) new

-- the step would make an access that isn't the log's event n
pub record AccessesOther (m : Module) (old : Config) (events : List Event) (n : ℕ) : Type 0 where
  pub op : OpFields
  pub asks : (r : ℕ) → access_of (step m r old) ≡ Some op
  pub makes_not : (e : Event) → slice_get events n ≡ Some e → MakesNotEvent op e

-- a thread that has made the log's events below n makes the next one; or it is unchanged, before another access or at its end
abbrev pub MakesNext : Module → Config → Config → List Event → ℕ → Bool → Type 0
MakesNext m old new events n true = Accesses m old new events n
MakesNext m old new events n false = (new ≡ old) × (AccessesOther m old events n ⊎ (step m 0 old ≡ NoStep))

-- ---- a thread

-- event i of thread k is at place i
abbrev pub HasPlaces : ℕ → List Event → Type 0
HasPlaces k events = (i : ℕ) (e : Event) → slice_get events i ≡ Some e → (e.thread ≡ k) × (e.number ≡ i)

-- a thread that has made j steps and the log's events below n makes no further step here
pub data Stops (m : Module) (c : Config) (events : List Event) (limit j n : ℕ) : Type 0 where
  at_limit : j ≡ limit → Stops m c events limit j n
  at_other : j < limit → AccessesOther m c events n → Stops m c events limit j n
  at_end : j < limit → step m 0 c ≡ NoStep → Stops m c events limit j n

-- thread k is at c after j steps that make its log's events below n, on the values that they read, and stops there
pub record RunsByLog (m : Module) (k : ℕ) (t : ThreadLog) (limit : ℕ) (c : Config) (j n : ℕ) : Type 0 where
  pub start : Config
  pub is_start : start_of m t ≡ Ok start
  pub listed : n ≤ length t.events
  pub ran_so : steps m k start (reads_of t.events) j ≡ Some record { events = take n t.events; config = c; reads = reads_of (drop n t.events) }
  pub stops : Stops m c t.events limit j n

-- thread k has run by its log for at most this number of steps, or doesn't start
abbrev pub FollowsLog : Module → ℕ → ThreadLog → ℕ → Result Followed StartFault → Type 0
FollowsLog m k t limit (Ok f) = RunsByLog m k t limit (config_of f.thread) f.steps f.events × (f.thread.module ≡ m)
FollowsLog m k t limit (Err fault) = (start_of m t ≡ Err fault) × (fault ≢ OutOfMemory)

-- the thread has run by its log for at most the steps that the log states
abbrev pub RunsAsStated : ℕ → ThreadLog → Followed → Type 0
RunsAsStated k t f = RunsByLog f.thread.module k t t.steps (config_of f.thread) f.steps f.events
