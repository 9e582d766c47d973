-- The path of a thread through its module's code.
use Rattle.std.specs.Prelude.{◌≡◌, ℕ, ◌+◌, List, [], ◌∷◌, Some, Result, Ok, map, false}
use Rattle.wm_ast.specs.declared.module.Module.{Module}
use Rattle.wm_event.specs.declared.log.End.{End}
use Rattle.wm_machine.specs.declared.call_frame.CallFrame.{CallFrame}
use Rattle.wm_machine.specs.declared.call_frame.Invocation.{Invocation}
use Rattle.wm_machine.specs.declared.call_frame.Invocation.TheVariants.{Entered}
use Rattle.wm_machine.specs.declared.call_frame.StepOutcome.{StepOutcome}
use Rattle.wm_machine.specs.declared.fault.StepFault.{StepFault}
use Rattle.wm_machine.specs.declared.place.Place.{Place}
use Rattle.wm_machine.specs.Inside.{waits}
use Rattle.wm_machine.specs.Local.{after_local}
use Rattle.wm_machine.specs.Places.{begin_place, moved_in, past_block, places_of}
use Rattle.wm_machine.specs.State.{State, config_of}
use Rattle.wm_machine.specs.Step.{step}

-- where a call is: its function, and the places of its blocks, the innermost first
pub record CallPlaces : Type 0 where
  pub func : ℕ
  pub places : List Place

abbrev pub call_places : CallFrame → CallPlaces
call_places a = record { func = a.func; places = places_of a.control_stack }

-- where a call waits for another
abbrev pub waiting_places : CallFrame → CallPlaces
waiting_places a = record { func = a.func; places = past_block (places_of a.control_stack) }

-- a thread of the module has made a step: within its running call, into another, or back to the one that waits for it; or it has
-- ended
pub data Moves (m : Module) (old new : State) : Type 0 where
  within : places_of new.running.control_stack ≡ moved_in m old.running.func old.running.control_stack
      → new.call_stack ≡ old.call_stack → Moves m old new
  calls : places_of new.running.control_stack ≡ begin_place 0 ∷ []
      → map call_places new.call_stack ≡ waiting_places old.running ∷ map call_places old.call_stack → Moves m old new
  returns : (caller : CallFrame) → old.call_stack ≡ caller ∷ new.call_stack
      → call_places new.running ≡ call_places caller → Moves m old new
  ends : (end : End) → new.ended ≡ Some end → Moves m old new

-- a step that doesn't wait has moved the thread
abbrev pub MovesOn : State → State → StepOutcome → Type 0
MovesOn old new o = waits o ≡ false → Moves old.module old new

-- the thread is at the start of its function, which nothing waits for
pub record IsAtStart (s : State) : Type 0 where
  pub places : places_of s.running.control_stack ≡ begin_place 0 ∷ []
  pub alone : s.call_stack ≡ []

-- a call that was entered is at the start of its function
abbrev pub EntersAtStart : CallFrame → Result Invocation StepFault → Type 0
EntersAtStart new result = result ≡ Ok Entered → places_of new.control_stack ≡ begin_place 0 ∷ []

-- the thread has come from one state to another by this number of steps, none of which makes an access
pub data LocalPath (from : State) : ℕ → State → Type 0 where
  here : LocalPath from 0 from
  on : {count : ℕ} {s t : State} → LocalPath from count s → after_local (step from.module 0 (config_of s)) ≡ Some (config_of t)
      → Moves from.module s t → LocalPath from (count + 1) t
