-- Where a call is in the code of its function, and where its next step leads.
use Rattle.std.specs.Prelude.{◌≡◌, ◌≢◌, ℕ, zero, suc, ◌+◌, List, [], ◌∷◌, Bool, true, false, Option, Some, None, Result, Ok, length, map, slice_get, unwrap_or}
use Rattle.wm_num.specs.declared.operator.Width.TheVariants.{W32}
use Rattle.wm_ast.specs.declared.instr.Else.TheVariants.{Absent}
use Rattle.wm_ast.specs.declared.instr.Instr.{Instr}
use Rattle.wm_ast.specs.declared.instr.Instr.TheVariants.{Block, Loop, If, Br, BrIf, BrTable}
use Rattle.wm_ast.specs.declared.module.Module.{Module}
use Rattle.wm_ast.specs.Module.{block_in}
use Rattle.wm_machine.specs.declared.action.Action.{Action}
use Rattle.wm_machine.specs.declared.action.Action.TheVariants as action
use Rattle.wm_machine.specs.declared.call_frame.CallFrame.{CallFrame}
use Rattle.wm_machine.specs.declared.call_frame.Flow.{Flow}
use Rattle.wm_machine.specs.declared.call_frame.Flow.TheVariants.{Within}
use Rattle.wm_machine.specs.declared.fault.StepFault.{StepFault}
use Rattle.wm_machine.specs.declared.place.Place.{Place}
use Rattle.wm_machine.specs.declared.value.TypedValue.{TypedValue}
use Rattle.wm_machine.specs.Functions.{continuation}
use Rattle.wm_machine.specs.Nest.{Nest, Position}
use Rattle.wm_machine.specs.Step.{chosen, label_of_index}
use Rattle.wm_machine.specs.Values.{number_at}

-- ---- the opcode at which a call is

-- the end of the block of this number, if it is there
abbrev pub end_of : Option (List Instr) → ℕ → Place → Place
end_of None block place = place
end_of (Some body) block place = record { block = block; at = length body }

-- the end of a block of the first of these instructions. An `if` without `else` has one `end`, so both of its blocks end
-- where the first one does
abbrev pub end_within : Module → ℕ → List Instr → Place → Place
end_within m func (If ty first other Absent ∷ rest) place = end_of (block_in m.funcs func first) first place
end_within m func _ place = place

-- the end of the innermost block, within these enclosing ones
abbrev pub end_in : Module → ℕ → List Position → Place → Place
end_in m func [] place = place
end_in m func (p ∷ outer) place = end_within m func (continuation m func p.block p.at) place

-- the next of these instructions, or the end of the innermost block
abbrev pub next_or_end : Module → ℕ → List Instr → List Position → Place → Place
next_or_end m func [] outer place = end_in m func outer place
next_or_end m func (i ∷ rest) outer place = place

-- where a call of a function is
abbrev pub place_of : Module → ℕ → Nest → Place
place_of m func n = next_or_end m func (continuation m func n.block n.at) n.outer record { block = n.block; at = n.at }

-- ---- the places of a call's blocks, the innermost first

abbrev pub outer_places : List Position → List Place
outer_places outer = map (λ (p : Position). record { block = p.block; at = p.at }) outer

abbrev pub places_of : Nest → List Place
places_of n = record { block = n.block; at = n.at } ∷ outer_places n.outer

abbrev pub begin_place : ℕ → Place
begin_place block = record { block = block; at = 0 }

abbrev pub next_place : Place → Place
next_place p = record { block = p.block; at = p.at + 1 }

-- after the innermost block
abbrev pub past_block : List Place → List Place
past_block [] = []
past_block (p ∷ outer) = next_place p ∷ outer

-- where a branch to a block goes on: before the first of these instructions if it is a loop, otherwise after it
abbrev pub target : List Instr → Place → Place
target (Loop ty n ∷ rest) p = p
target _ p = next_place p

-- after a branch out of this number of blocks and one more
abbrev pub branched_to : Module → ℕ → ℕ → List Place → List Place
branched_to m func label [] = []
branched_to m func zero (p ∷ outer) = target (continuation m func p.block p.at) p ∷ outer
branched_to m func (suc label) (p ∷ outer) = branched_to m func label outer

-- the i32 on top, or 0
abbrev pub top_number : List TypedValue → ℕ
top_number operands = unwrap_or (number_at W32 operands 0) 0

-- after the first of these instructions, or after the end of the innermost block, if the step stays within the call
abbrev pub moved : Module → ℕ → List TypedValue → List Instr → Place → List Place → List Place
moved m func operands [] here outer = past_block outer
moved m func operands (Block ty n ∷ rest) here outer = begin_place n ∷ here ∷ outer
moved m func operands (Loop ty n ∷ rest) here outer = begin_place n ∷ here ∷ outer
moved m func operands (If ty first other e ∷ rest) here outer = begin_place (chosen (top_number operands) first other) ∷ here ∷ outer
moved m func operands (Br l ∷ rest) here outer = branched_to m func l outer
moved m func operands (BrIf l ∷ rest) here outer = chosen (top_number operands) (branched_to m func l outer) (next_place here ∷ outer)
moved m func operands (BrTable labels default ∷ rest) here outer =
    branched_to m func (label_of_index (slice_get labels (top_number operands)) default) outer
moved m func operands (_ ∷ rest) here outer = next_place here ∷ outer

-- after the next step within a call of this function
abbrev pub moved_in : Module → ℕ → Nest → List Place
moved_in m func n =
    moved m func n.operands (continuation m func n.block n.at) record { block = n.block; at = n.at } (outer_places n.outer)

-- a step that stays within the call leads there
abbrev pub MovesWithin : Module → CallFrame → CallFrame → Result Flow StepFault → Type 0
MovesWithin m old new result = result ≡ Ok Within → places_of new.control_stack ≡ moved_in m old.func old.control_stack

-- a branch that stays within the call leads there
abbrev pub BranchesWithin : Module → ℕ → CallFrame → CallFrame → Result Flow StepFault → Type 0
BranchesWithin m label old new result = result ≡ Ok Within → places_of new.control_stack ≡ branched_to m old.func label (outer_places old.control_stack.outer)

-- ---- where an action leads

abbrev pub enters_block : Action → Bool
enters_block action.Stuck = false
enters_block (action.Trap kind) = false
enters_block (action.Replace popped pushed) = false
enters_block (action.SetGlobal x v) = false
enters_block (action.Access op kind popped) = false
enters_block (action.Enter block popped) = true
enters_block action.Return = false
enters_block (action.Call callee) = false

-- after an action that stays within the call
abbrev pub led : Action → Place → List Place → List Place
led (action.Enter block popped) here outer = begin_place block ∷ here ∷ outer
led _ here outer = next_place here ∷ outer

abbrev pub LeadsWithin : Action → CallFrame → CallFrame → Result Flow StepFault → Type 0
LeadsWithin a old new result =
    result ≡ Ok Within → (a ≢ action.Stuck)
    × (places_of new.control_stack ≡ led a record { block = old.control_stack.block; at = old.control_stack.at } (outer_places old.control_stack.outer))

-- the action leads where the instruction does with these operands, unless no case applies
abbrev pub LeadsAs : Instr → List TypedValue → Action → Type 0
LeadsAs i operands a = (m : Module) (func : ℕ) (rest : List Instr) (here : Place) (outer : List Place) → a ≢ action.Stuck
    → moved m func operands (i ∷ rest) here outer ≡ led a here outer

-- a branch to the block of the instruction at this place goes on at instruction `next` of its block
abbrev pub IsTargetAt : Module → ℕ → ℕ → ℕ → ℕ → Type 0
IsTargetAt m func block at next = target (continuation m func block at) record { block = block; at = at } ≡ record { block = block; at = next }
