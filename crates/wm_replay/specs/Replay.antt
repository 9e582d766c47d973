-- How a log compares with the runs of its threads.
use Rattle.std.specs.Prelude.{◌≡◌, ◌≢◌, ℕ, ◌<◌, ◌≤◌, ◌⊎◌, List, [], ◌∷◌, length, take, Result, Ok, Option, Some, slice_get, if◌then◌else◌}
use Rattle.wm_ast.specs.declared.module.Module.{Module}
use Rattle.wm_event.specs.declared.event.Event.{Event}
use Rattle.wm_event.specs.declared.event.EventKey.{EventKey}
use Rattle.wm_event.specs.declared.log.ThreadLog.{ThreadLog}
use Rattle.wm_event.specs.declared.op.OpFields.{OpFields}
use Rattle.wm_event.specs.Event.{reads}
use Rattle.wm_event.specs.Op.{event_made}
use Rattle.wm_access.specs.AccessWidth.{Fits}
use Rattle.wm_machine.specs.declared.fault.StartFault.{StartFault}
use Rattle.wm_machine.specs.Start.{started}
use Rattle.wm_machine.specs.Step.{access_of, step}
use Rattle.wm_machine.specs.Term.{Config, NoStep}
use Rattle.wm_machine.specs.Run.{Ran, end_of, run, steps}
use Rattle.wm_replay.specs.declared.answer.Place.{Place}
use Rattle.wm_replay.specs.declared.answer.Place.TheVariants as place

-- the values that events read, in order
abbrev pub reads_of : List Event → List ℕ
reads_of [] = []
reads_of (e ∷ es) = if reads e then e.read ∷ reads_of es else reads_of es

-- the events and the end of thread k are the ones that its run has on the values that they read
abbrev pub IsRun : Module → ℕ → ThreadLog → Type 0
IsRun m k t = run m k t.start.name t.start.args (reads_of t.events) t.steps ≡ Some record { events = t.events; end = t.end }

abbrev pub AreRuns : Module → List ThreadLog → Type 0
AreRuns m log = (k : ℕ) (t : ThreadLog) → slice_get log k ≡ Some t → IsRun m k t

abbrev pub start_of : Module → ThreadLog → Result Config StartFault
start_of m t = started m t.start.name t.start.args

-- after j of its stated steps, thread k has made the log's events below n, on the values that they read
pub record Reaches (m : Module) (k : ℕ) (t : ThreadLog) (j n : ℕ) (ran : Ran) : Type 0 where
  pub start : Config
  pub is_start : start_of m t ≡ Ok start
  pub within : j ≤ t.steps
  pub ran_so : steps m k start (reads_of t.events) j ≡ Some ran
  pub made : ran.events ≡ take n t.events
  pub listed : n ≤ length t.events

-- no value that the access may read makes it the log's event; or the log has no such event
abbrev pub MakesNo : EventKey → OpFields → Option Event → Type 0
MakesNo key a stated = (r : ℕ) → Fits a.width r → stated ≢ Some (event_made key a r)

-- it has made its stated steps, or makes no further step
abbrev pub Rests : Module → ThreadLog → ℕ → Config → Type 0
Rests m t j c = (j ≡ t.steps) ⊎ (step m 0 c ≡ NoStep)

-- the end isn't the stated one, or comes before the last stated step
abbrev pub EndsOtherwise : Module → ThreadLog → ℕ → Config → Type 0
EndsOtherwise m t j c = ((j ≡ t.steps) × (end_of c ≢ t.end)) ⊎ ((j < t.steps) × (step m 0 c ≡ NoStep))

-- the place where thread k differs from its log
pub data DiffersAt (m : Module) (k : ℕ) (t : ThreadLog) : Place → Type 0 where
  -- it makes an access that isn't the log's event n, or the log has no such event
  access : {j n : ℕ} {ran : Ran} {a : OpFields} → Reaches m k t j n ran → j < t.steps → ((r : ℕ) → access_of (step m r ran.config) ≡ Some a)
      → MakesNo record { thread = k; number = n } a (slice_get t.events n) → DiffersAt m k t (place.Event n)
  -- the log's event n is left over
  left_over : {j n : ℕ} {ran : Ran} → Reaches m k t j n ran → n < length t.events → Rests m t j ran.config → DiffersAt m k t (place.Event n)
  -- it makes the log's events, but ends differently
  end : {j : ℕ} {ran : Ran} → Reaches m k t j (length t.events) ran → EndsOtherwise m t j ran.config → DiffersAt m k t place.End
