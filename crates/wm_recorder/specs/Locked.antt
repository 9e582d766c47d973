-- The effect of a call of a locked recorder while it held the lock.
use Rattle.std.specs.Prelude.{◌≡◌, ℕ, ◌+◌, ◌<◌, ◌≤◌, Bool, List, [], ◌∷◌, MatchBool, MatchResult, Result, length}
use Rattle.wm_access.specs.AccessWidth.{bytes_of}
use Rattle.wm_event.specs.declared.op.OpFields.{OpFields as Op}
use Rattle.wm_event.specs.declared.op.Reply.{Reply}
use Rattle.wm_memory.specs.declared.history_step.HistoryStep.{HistoryStep}
use Rattle.wm_memory.specs.declared.history_step.HistoryStep.TheVariants.{Drain, DrainAt}
use Rattle.wm_memory.specs.Memory.{CannotLeave}
use Rattle.wm_recorder.specs.declared.access_fault.AccessFault.{AccessFault}
use Rattle.wm_recorder.specs.Recorder.{Recording, IsRecording, Adds, IsFull, RefusedBy, StepsAccess, initial_of, threads_of}

-- it has this Init and this number of threads: all holders of the lock know that
pub record IsOver (initial : List ℕ) (threads : ℕ) (r : Recording) : Type 0 where
  pub initial_is : initial_of r ≡ initial
  pub threads_are : threads_of r ≡ threads

-- the data under the lock
pub record IsLocked (initial : List ℕ) (threads : ℕ) (r : Recording) : Type 0 where
  pub recording : IsRecording r
  pub over : IsOver initial threads r

-- one access was made, with this reply; or it was refused for its cause, and nothing changed
pub record IsAccessOver (initial : List ℕ) (threads t : ℕ) (op : Op) (old : Recording) (answer : Result Reply AccessFault) (new : Recording) : Type 0 where
  pub was : IsLocked initial threads old
  pub is : IsLocked initial threads new
  pub made : MatchResult answer (λ reply. StepsAccess t op old reply new) (λ fault. new ≡ old)
  pub refused : RefusedBy answer (threads ≤ t) (length initial < op.address + bytes_of op.width) (IsFull old)

-- one store left its buffer; or there is no such store that may leave, and nothing changed
pub record IsDrainOver (initial : List ℕ) (threads : ℕ) (item : HistoryStep) (t k : ℕ) (old : Recording) (drained : Bool) (new : Recording) : Type 0 where
  pub was : IsLocked initial threads old
  pub is : IsLocked initial threads new
  pub left : MatchBool drained (Adds (item ∷ []) old new) ((new ≡ old) × CannotLeave t k old.memory)

-- the same for the store with k older ones
abbrev pub IsDrainAtOver : List ℕ → ℕ → ℕ → ℕ → Recording → Bool → Recording → Type 0
IsDrainAtOver initial threads t k old drained new = IsDrainOver initial threads (DrainAt t k) t k old drained new

-- a recorder over this Init, with this number of threads, made this one access
abbrev pub MadeOnce : List ℕ → ℕ → ℕ → Op → Result Reply AccessFault → Type 0
MadeOnce initial threads t op answer = (old new : Recording) × IsAccessOver initial threads t op old answer new

-- such a recorder made this one drain
abbrev pub DrainedOnce : List ℕ → ℕ → ℕ → Bool → Type 0
DrainedOnce initial threads t drained = (old new : Recording) × IsDrainOver initial threads (Drain t) t 0 old drained new

abbrev pub DrainedAtOnce : List ℕ → ℕ → ℕ → ℕ → Bool → Type 0
DrainedAtOnce initial threads t k drained = (old new : Recording) × IsDrainAtOver initial threads t k old drained new
