-- Executions and modules whose accesses are all atomic: none is left out by an exploration.
use Rattle.std.specs.Prelude.{◌≡◌, ◌≢◌, ℕ, ◌+◌, ◌<◌, ◌≤◌, ◌⊎◌, List, Some, IsTrue, All, Any}
use Rattle.wm_access.specs.AccessWidth.{bytes_of}
use Rattle.wm_access.specs.declared.AccessWidth.{AccessWidth}
use Rattle.wm_access.specs.declared.MemoryOrder.TheVariants.{Unordered, SeqCst}
use Rattle.wm_ast.specs.Access.{access_order, access_width}
use Rattle.wm_ast.specs.declared.access.AccessKind.{AccessKind}
use Rattle.wm_ast.specs.declared.instr.Instr.{Instr}
use Rattle.wm_ast.specs.declared.instr.Instr.TheVariants.{Access}
use Rattle.wm_ast.specs.declared.instr.MemArg.{MemArg}
use Rattle.wm_ast.specs.declared.module.Func.{Func}
use Rattle.wm_ast.specs.declared.module.Module.{Module}
use Rattle.wm_event.specs.Event.{is_atomic, range_of}
use Rattle.wm_event.specs.Execution.{Execution}
use Rattle.wm_event.specs.LoggedRun.{LoggedRun, execution}
use Rattle.wm_event.specs.Rules.{IsValid}
use Rattle.wm_event.specs.Shape.{IsWellShaped}
use Rattle.wm_event.specs.declared.event.Event.{Event}
use Rattle.wm_event.specs.declared.event.EventKey.{EventKey}
use Rattle.wm_event.specs.declared.log.Start.{Start}
use Rattle.wm_explore.specs.Executions.{IsCausal, IsExecutionOf}
use Rattle.wm_replay.specs.Replay.{AreRuns}

abbrev pub HasByte : Event → ℕ → Type 0
HasByte e a = (e.address ≤ a) × (a < e.address + bytes_of e.width)

-- all events are atomic, and two that have a byte in common have one range
pub record IsUniform (x : Execution) : Type 0 where
  pub atomic : (key : EventKey) (e : Event) → x.event_of key ≡ Some e → IsTrue (is_atomic e)
  pub ranges : (a b : EventKey) (e f : Event) (byte : ℕ) → x.event_of a ≡ Some e → x.event_of b ≡ Some f → HasByte e byte → HasByte f byte → range_of e ≡ range_of f

-- a valid run whose accesses are so is causal
abbrev pub UniformIsCausal : Type 0
UniformIsCausal = (run : LoggedRun) → IsWellShaped run → IsUniform (execution run) → IsValid (execution run) → IsCausal (execution run)

-- a statement that doesn't hold: it leaves out the ranges
abbrev pub AtomicIsCausal : Type 0
AtomicIsCausal = (run : LoggedRun) → IsWellShaped run → ((key : EventKey) (e : Event) → (execution run).event_of key ≡ Some e → IsTrue (is_atomic e)) → IsValid (execution run) → IsCausal (execution run)

-- ---- modules

-- each instruction in each block of each function
abbrev pub EachInstr : (Instr → Type 0) → List Func → Type 0
EachInstr P funcs = All (λ func. All (All P) func.blocks) funcs

-- some instruction in some block of some function
abbrev pub SomeInstr : (Instr → Type 0) → List Func → Type 0
SomeInstr P funcs = Any (λ func. Any (Any P) func.blocks) funcs

-- an atomic access of this width
abbrev pub IsAtomicAccess : AccessWidth → AccessKind → Type 0
IsAtomicAccess width kind = (access_order kind ≡ SeqCst) × (access_width kind ≡ width)

-- a plain access, or one of another width
abbrev pub IsOtherAccess : AccessWidth → AccessKind → Type 0
IsOtherAccess width kind = (access_order kind ≡ Unordered) ⊎ (access_width kind ≢ width)

-- the instruction is an access of this kind
abbrev pub IsAccess : AccessKind → Instr → Type 0
IsAccess kind i = (immediates : MemArg) × (i ≡ Access kind immediates)

-- if the instruction is an access, it is atomic and has this width
abbrev pub KeepsWidth : AccessWidth → Instr → Type 0
KeepsWidth width i = (kind : AccessKind) → IsAccess kind i → IsAtomicAccess width kind

-- the instruction is an access that is plain or has another width
abbrev pub BreaksWidth : AccessWidth → Instr → Type 0
BreaksWidth width i = (kind : AccessKind) × IsAccess kind i × IsOtherAccess width kind

-- the module has an access of this kind
abbrev pub HasAccess : Module → AccessKind → Type 0
HasAccess m kind = SomeInstr (IsAccess kind) m.funcs

-- all accesses of the module are atomic and have one width
abbrev pub IsUniformModule : Module → Type 0
IsUniformModule m = (width : AccessWidth) × EachInstr (KeepsWidth width) m.funcs

-- some access of the module is plain, or two have different widths
pub data IsMixedModule (m : Module) : Type 0 where
  plain : (kind : AccessKind) → HasAccess m kind → access_order kind ≡ Unordered → IsMixedModule m
  widths : (kind other : AccessKind) → HasAccess m kind → HasAccess m other
      → access_width kind ≢ access_width other → IsMixedModule m

-- whatever the threads of the module do, their events are uniform
abbrev pub HasUniformRuns : Module → Type 0
HasUniformRuns m = (x : LoggedRun) → AreRuns m x.log → IsUniform (execution x)

-- each valid execution of the module in which each thread has ended is causal, so an exploration leaves out none
abbrev pub LeavesOutNone : Module → Type 0
LeavesOutNone m = (starts : List Start) (x : LoggedRun) → IsExecutionOf m starts x → IsCausal (execution x)

-- no module is both
abbrev pub UniformIsNotMixed : Type 0
UniformIsNotMixed = (m : Module) → IsUniformModule m → IsMixedModule m → ⊥
