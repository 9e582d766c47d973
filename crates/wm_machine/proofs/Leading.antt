-- Where the parts of a step lead in the code.
use Rattle.std.proofs.Common.{◌≡◌, ℕ, zero, suc, ◌+◌, List, [], ◌∷◌, ◌++◌, drop, true, Option, Some, None, IfSome, refl, sym, ap, subst, ◌∙◌}
use Rattle.std.specs.Prelude.{Result, slice_get, unwrap_or}
use Rattle.std.proofs.lemmas.Option.{same_Some}
use Rattle.wm_num.specs.declared.operator.Width.TheVariants.{W32}
use Rattle.wm_ast.specs.declared.instr.Instr.{Instr}
use Rattle.wm_ast.specs.declared.instr.Instr.TheVariants.{Br, BrIf, BrTable}
use Rattle.wm_ast.specs.declared.module.Module.{Module}
use Rattle.wm_machine.specs.declared.branching.Branching.TheVariants.{NotTaken, To}
use Rattle.wm_machine.specs.declared.call_frame.CallFrame.{CallFrame}
use Rattle.wm_machine.specs.declared.call_frame.Flow.{Flow}
use Rattle.wm_machine.specs.declared.fault.StepFault.{StepFault}
use Rattle.wm_machine.specs.declared.place.Place.{Place}
use Rattle.wm_machine.specs.declared.value.TypedValue.{TypedValue}
use Rattle.wm_machine.specs.AtOnce.{Does, HasEffect}
use Rattle.wm_machine.specs.Branching.{BranchesAs, is_branch}
use Rattle.wm_machine.specs.Functions.{continuation}
use Rattle.wm_machine.specs.Inside.{ReturnsTo, vars_of}
use Rattle.wm_machine.specs.Nest.{Nest, Position, after_branch}
use Rattle.wm_machine.specs.Paths.{Moves, call_places, returns}
use Rattle.wm_machine.specs.State.{State}
use Rattle.wm_machine.specs.Places.{IsTargetAt, MovesWithin, branched_to, moved, moved_in, next_place, outer_places, places_of, target}
use Rattle.wm_machine.specs.Step.{act, chosen, continue_with, label_of_index, with_number}
use Rattle.wm_machine.specs.Term.{Leaves, Vars}
use Rattle.wm_machine.specs.Values.{number_at}
use Rattle.wm_machine.specs.Within.{StandsAt}

-- ---- a branch

-- blocks are left for an enclosing one, which goes on where a branch to it leads
pub left_for : (m : Module) (func label : ℕ) (outer : List Position) (values : List TypedValue) (n : Nest) (block at next : ℕ) → after_branch label values outer ≡ Some n
    → IfSome (slice_get outer label) (λ p. (block ≡ p.block) × (at ≡ p.at)) → IsTargetAt m func block at next → places_of (record n { at = next }) ≡ branched_to m func label (outer_places outer)
left_for m func label [] values n block at next is place leads = absurd (cc)
left_for m func zero (p ∷ outer) values n block at next is place leads =
    let there : target (continuation m func p.block p.at) record { block = p.block; at = p.at } ≡ record { block = p.block; at = next } =
    subst (λ (a : ℕ). IsTargetAt m func p.block a next) place.1 (subst (λ (b : ℕ). IsTargetAt m func b at next) place.0 leads) in
    let same = same_Some (record { operands = values ++ p.operands; block = p.block; at = p.at; outer = outer }) n is in
    subst (λ (x : Nest). places_of (record x { at = next }) ≡ target (continuation m func p.block p.at) record { block = p.block; at = p.at } ∷ outer_places outer) same
    (ap (λ (q : Place). q ∷ outer_places outer) (sym there))
left_for m func (suc label) (p ∷ outer) values n block at next is place leads = left_for m func label outer values n block at next is place leads

no_vars : Vars
no_vars = record { locals = []; globals = [] }

module _ (m : Module) (func : ℕ) (operands : List TypedValue) (rest : List Instr) (here : Place) (outer : List Place) where
  -- a branch that is not taken
  passes_if : (condition : Option ℕ) (label : ℕ) {A : Type 0} (x y : A) → with_number condition (λ c. chosen c (Leaves label (drop 1 operands)) (continue_with no_vars (drop 1 operands) rest)) ≡ continue_with no_vars (drop 1 operands) rest
      → chosen (unwrap_or condition 0) x y ≡ y
  passes_if None label x y e = absurd (cc)
  passes_if (Some zero) label x y e = refl
  passes_if (Some (suc c)) label x y e = absurd (cc)

  never_passes : (index : Option ℕ) (labels : List ℕ) (default : ℕ) → with_number index (λ i. Leaves (label_of_index (slice_get labels i) default) (drop 1 operands)) ≡ continue_with no_vars (drop 1 operands) rest → ⊥
  never_passes None labels default e = cc
  never_passes (Some i) labels default e = cc

  pub passes : (i : Instr) → is_branch i ≡ true → BranchesAs i operands NotTaken → moved m func operands (i ∷ rest) here outer ≡ next_place here ∷ outer
  passes (Br label) branches means = absurd (let e = means m 0 0 func no_vars rest in cc)
  passes (BrIf label) branches means = passes_if (number_at W32 operands 0) label (branched_to m func label outer) (next_place here ∷ outer) (means m 0 0 func no_vars rest)
  passes (BrTable labels default) branches means = absurd (never_passes (number_at W32 operands 0) labels default (means m 0 0 func no_vars rest))
  passes _ branches means = absurd (cc)

  -- one that is taken
  taken_if : (condition : Option ℕ) (label to popped : ℕ) {A : Type 0} (x : ℕ → A) (y : A) → with_number condition (λ c. chosen c (Leaves label (drop 1 operands)) (continue_with no_vars (drop 1 operands) rest)) ≡ Leaves to (drop popped operands)
      → chosen (unwrap_or condition 0) (x label) y ≡ x to
  taken_if None label to popped x y e = absurd (cc)
  taken_if (Some zero) label to popped x y e = absurd (cc)
  taken_if (Some (suc c)) label to popped x y e = let same : label ≡ to = cc in ap x same

  taken_by_table : (index : Option ℕ) (labels : List ℕ) (default to popped : ℕ) → with_number index (λ i. Leaves (label_of_index (slice_get labels i) default) (drop 1 operands)) ≡ Leaves to (drop popped operands)
      → label_of_index (slice_get labels (unwrap_or index 0)) default ≡ to
  taken_by_table None labels default to popped e = absurd (cc)
  taken_by_table (Some i) labels default to popped e = cc

  pub taken : (i : Instr) (to popped : ℕ) → is_branch i ≡ true → BranchesAs i operands (To to popped) → moved m func operands (i ∷ rest) here outer ≡ branched_to m func to outer
  taken (Br label) to popped branches means = let e = means m 0 0 func no_vars rest in let same : label ≡ to = cc in ap (λ (l : ℕ). branched_to m func l outer) same
  taken (BrIf label) to popped branches means = taken_if (number_at W32 operands 0) label to popped (λ (l : ℕ). branched_to m func l outer) (next_place here ∷ outer) (means m 0 0 func no_vars rest)
  taken (BrTable labels default) to popped branches means =
      ap (λ (l : ℕ). branched_to m func l outer) (taken_by_table (number_at W32 operands 0) labels default to popped (means m 0 0 func no_vars rest))
  taken _ to popped branches means = absurd (cc)

-- ---- the next instruction

-- the call is at this instruction
pub moved_at : (m : Module) (a : CallFrame) (i : Instr) → StandsAt m a i
    → moved_in m a.func a.control_stack ≡ moved m a.func a.control_stack.operands (i ∷ continuation m a.func a.control_stack.block (a.control_stack.at + 1)) record { block = a.control_stack.block; at = a.control_stack.at } (outer_places a.control_stack.outer)
moved_at m a i stands =
    ap (λ (instrs : List Instr). moved m a.func a.control_stack.operands instrs record { block = a.control_stack.block; at = a.control_stack.at } (outer_places a.control_stack.outer)) stands

-- an instruction after which the next one comes
abbrev pub IsPassed : Instr → Type 0
IsPassed i = (m : Module) (func : ℕ) (operands : List TypedValue) (rest : List Instr) (here : Place) (outer : List Place) → moved m func operands (i ∷ rest) here outer ≡ next_place here ∷ outer

pub effect_moves : (m : Module) (i : Instr) (old new : CallFrame) (result : Result Flow StepFault) → IsPassed i → StandsAt m old i → HasEffect i old new result → MovesWithin m old new result
effect_moves m i old new result passed stands effect within =
    let does = subst (λ (r : Result Flow StepFault). Does (act m 0 0 old.func (vars_of old []) old.control_stack.operands i []) [] [] old new r) within (effect m 0 0 [] []) in
    ap (λ (x : CallFrame). places_of x.control_stack) does.1
    ∙ sym (moved_at m old i stands ∙ passed m old.func old.control_stack.operands (continuation m old.func old.control_stack.block (old.control_stack.at + 1)) record { block = old.control_stack.block; at = old.control_stack.at } (outer_places old.control_stack.outer))

-- ---- calls

-- back to the call that waits
pub returned_to : (m : Module) (value : Option TypedValue) (calls : List CallFrame) (old new : State) → old.call_stack ≡ calls → ReturnsTo value calls new.running new.call_stack → Moves m old new
returned_to m value [] old new stack back = absurd back
returned_to m value (caller ∷ calls) old new stack back =
    returns caller (stack ∙ ap (λ (cs : List CallFrame). caller ∷ cs) (sym back.1)) (ap call_places back.0)
