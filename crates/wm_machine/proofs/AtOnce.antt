-- An instruction that is decided and performed at once, seen from outside.
use Rattle.std.proofs.Common.{◌≡◌, ℕ, zero, suc, ◌+◌, List, [], ◌∷◌, Option, Some, None, refl, sym, ap, ◌∙◌}
use Rattle.std.specs.Prelude.{true, false, Result, Ok, Err, drop, is_some, slice_get, slice_set}
use Rattle.wm_num.specs.Binary.{binary_meaning}
use Rattle.wm_num.specs.Comparison.{comparison_meaning}
use Rattle.wm_num.specs.declared.operator.Comparison.TheVariants.{Eq}
use Rattle.wm_num.specs.declared.operator.NumTrap.{NumTrap}
use Rattle.wm_num.specs.declared.operator.Width.{Width}
use Rattle.wm_num.specs.declared.operator.Width.TheVariants.{W32}
use Rattle.wm_ast.specs.declared.module.Module.{Module}
use Rattle.wm_ast.specs.declared.instr.Instr.{Instr}
use Rattle.wm_ast.specs.declared.instr.Instr.TheVariants as instr
use Rattle.wm_event.specs.declared.op.OpFields.{OpFields}
use Rattle.wm_machine.specs.declared.call_frame.CallFrame.{CallFrame}
use Rattle.wm_machine.specs.declared.call_frame.Flow.{Flow}
use Rattle.wm_machine.specs.declared.call_frame.Flow.TheVariants.{Within, Trapped, Left, Calling, Asking}
use Rattle.wm_machine.specs.declared.fault.StepFault.{StepFault}
use Rattle.wm_machine.specs.declared.fault.StepFault.TheVariants.{Stuck as StuckFault, OutOfMemory}
use Rattle.wm_machine.specs.declared.value.TypedValue.{TypedValue}
use Rattle.wm_machine.specs.declared.value.TypedValue.TheVariants.{I32}
use Rattle.wm_machine.specs.AtOnce.{Does, HasEffect, is_at_once, at_next}
use Rattle.wm_machine.specs.Branching.{BranchesAs, is_branch}
use Rattle.wm_machine.specs.declared.branching.Branching.TheVariants as branching
use Rattle.wm_machine.specs.declared.branching.Branching.TheVariants.{NotTaken}
use Rattle.wm_machine.specs.Configuration.{left_of}
use Rattle.wm_machine.specs.Functions.{continuation}
use Rattle.wm_machine.specs.Inside.{StepsTo, asks_value, call_step, made_of, out_of_labels, seen, unanswered, vars_of}
use Rattle.wm_machine.specs.State.{value_or_zero}
use Rattle.wm_machine.specs.Step.{act, chosen, computed, continue_with, label_of_index, reduce, truth, with_number, with_value}
use Rattle.wm_machine.specs.Stepping.{AsksForValue, StepsAs}
use Rattle.wm_machine.specs.Term.{Here, Leaves, Next, Reduced, Term, Vars}
use Rattle.wm_machine.specs.Values.{number_at}
use Rattle.wm_machine.specs.Within.{StandsAt}
use Rattle.wm_machine.proofs.Lift.{labels_lift, labels_next, labels_stuck, labels_traps}
use Rattle.wm_machine.proofs.Made.{made_first, unanswered_none}

-- ---- none of them makes an access

made_with_value : (o : Option TypedValue) (next : TypedValue → Reduced) → ((v : TypedValue) → made_of (next v) ≡ None) → made_of (with_value o next) ≡ None
made_with_value None next h = refl
made_with_value (Some v) next h = h v

made_with_number : (o : Option ℕ) (next : ℕ → Reduced) → ((n : ℕ) → made_of (next n) ≡ None) → made_of (with_number o next) ≡ None
made_with_number None next h = refl
made_with_number (Some n) next h = h n

made_computed : (vars : Vars) (below : List TypedValue) (rest : List Instr) (width : Width) (result : Result ℕ NumTrap) → made_of (computed vars below rest width result) ≡ None
made_computed vars below rest width (Ok n) = refl
made_computed vars below rest width (Err trap) = refl

made_chosen : (c : ℕ) (first other : Reduced) → made_of first ≡ None → made_of other ≡ None → made_of (chosen c first other) ≡ None
made_chosen zero first other f o = o
made_chosen (suc c) first other f o = f

made_with_numbers : (o p : Option ℕ) (next : ℕ → ℕ → Reduced) → ((a b : ℕ) → made_of (next a b) ≡ None) → made_of (with_number o (λ a. with_number p (λ b. next a b))) ≡ None
made_with_numbers None p next h = refl
made_with_numbers (Some a) None next h = refl
made_with_numbers (Some a) (Some b) next h = h a b

made_set : (vars : Vars) (below : List TypedValue) (rest : List Instr) (x : ℕ) (value : Option TypedValue)
    → made_of (with_value value (λ v. with_value (slice_get vars.locals x) (λ _. continue_with (record vars { locals = slice_set vars.locals x v }) below rest))) ≡ None
made_set vars below rest x None = refl
made_set vars below rest x (Some v) =
    made_with_value (slice_get vars.locals x) (λ _. continue_with (record vars { locals = slice_set vars.locals x v }) below rest) (λ _. refl)

pub made_at_once : (m : Module) (depth read func : ℕ) (vars : Vars) (operands : List TypedValue) (i : Instr) (rest : List Instr) → is_at_once i ≡ true → made_of (act m depth read func vars operands i rest) ≡ None
made_at_once m depth read func vars operands (instr.LocalGet x) rest h =
    made_with_value (slice_get vars.locals x) (λ v. continue_with vars (v ∷ operands) rest) (λ v. refl)
made_at_once m depth read func vars operands (instr.LocalSet x) rest h = made_set vars (drop 1 operands) rest x (slice_get operands 0)
made_at_once m depth read func vars operands (instr.LocalTee x) rest h = made_set vars operands rest x (slice_get operands 0)
made_at_once m depth read func vars operands (instr.I32Const n) rest h = refl
made_at_once m depth read func vars operands (instr.Eqz width) rest h =
    made_with_number (number_at width operands 0) (λ n. continue_with vars (I32 (truth (comparison_meaning Eq width n 0)) ∷ drop 1 operands) rest) (λ n. refl)
made_at_once m depth read func vars operands (instr.Compare op width) rest h =
    made_with_numbers (number_at width operands 1) (number_at width operands 0)
    (λ a b. continue_with vars (I32 (truth (comparison_meaning op width a b)) ∷ drop 2 operands) rest) (λ a b. refl)
made_at_once m depth read func vars operands (instr.Binary op width) rest h =
    made_with_numbers (number_at width operands 1) (number_at width operands 0)
    (λ a b. computed vars (drop 2 operands) rest width (binary_meaning op width a b))
    (λ a b. made_computed vars (drop 2 operands) rest width (binary_meaning op width a b))
made_at_once m depth read func vars operands (instr.Br l) rest h = refl
made_at_once m depth read func vars operands (instr.BrTable ls l) rest h =
    made_with_number (number_at W32 operands 0) (λ i. Leaves (label_of_index (slice_get ls i) l) (drop 1 operands)) (λ i. refl)
made_at_once m depth read func vars operands (instr.BrIf l) rest h =
    made_with_number (number_at W32 operands 0) (λ c. chosen c (Leaves l (drop 1 operands)) (continue_with vars (drop 1 operands) rest))
    (λ c. made_chosen c (Leaves l (drop 1 operands)) (continue_with vars (drop 1 operands) rest) refl refl)
made_at_once m depth read func vars operands _ rest h = cc

-- so it doesn't wait for a value
pub at_once_asks : (m : Module) (i : Instr) (given : Option ℕ) (globals : List TypedValue) (old : CallFrame) (result : Result Flow StepFault)
    → StandsAt m old i → is_at_once i ≡ true → asks_value result ≡ false → AsksForValue m given old globals result
at_once_asks m i given globals old result stands h asks = λ depth read.
    let rest = continuation m old.func old.control_stack.block (old.control_stack.at + 1) in
    let e = made_first m read depth old globals i rest stands ∙ made_at_once m depth read old.func (vars_of old globals) old.control_stack.operands i rest h in
    asks ∙ sym (ap (λ (o : Option OpFields). is_some (unanswered given o)) e ∙ ap is_some (unanswered_none given))

-- ---- its effect inside the enclosing labels

pub steps_by_act : (m : Module) (read depth : ℕ) (a : CallFrame) (globals : List TypedValue) (i : Instr) → StandsAt m a i
    → call_step m read depth a globals ≡ out_of_labels m a.func (vars_of a globals) a.control_stack.outer (act m depth read a.func (vars_of a globals) a.control_stack.operands i (continuation m a.func a.control_stack.block (a.control_stack.at + 1)))
steps_by_act m read depth a globals i stands =
    let vars = vars_of a globals in
    labels_lift m read depth a.func vars a.control_stack.outer (Here a.control_stack.operands (continuation m a.func a.control_stack.block a.control_stack.at))
    ∙ ap (λ (is : List Instr). out_of_labels m a.func vars a.control_stack.outer (reduce m read depth a.func vars (Here a.control_stack.operands is))) stands

steps_to : (m : Module) (read depth : ℕ) (old new : CallFrame) (globals : List TypedValue) (i : Instr) (result : Result Flow StepFault) → StandsAt m old i
    → Does (act m depth read old.func (vars_of old globals) old.control_stack.operands i (continuation m old.func old.control_stack.block (old.control_stack.at + 1))) (continuation m old.func old.control_stack.block (old.control_stack.at + 1)) globals old new result
    → StepsTo m depth (call_step m read depth old globals) old globals new globals result
steps_to m read depth old new globals i (Ok Within) stands does =
    let vars = vars_of old globals in
    let outer = old.control_stack.outer in
    let rest = continuation m old.func old.control_stack.block (old.control_stack.at + 1) in
    let e = steps_by_act m read depth old globals i stands ∙ ap (out_of_labels m old.func vars outer) does.0 ∙ labels_next m 0 old.func vars (vars_of new globals) None outer (Here new.control_stack.operands rest) in
    let left = ap (λ (a : CallFrame). left_of m a.func a.control_stack) does.1 in
    (ap (seen m old.func) e ∙ ap (λ (t : Term). Next None (vars_of new globals) t) (sym left), ap (λ (a : CallFrame). a.func) does.1)
steps_to m read depth old new globals i (Ok (Trapped kind)) stands does =
    ap (seen m old.func) (steps_by_act m read depth old globals i stands ∙ ap (out_of_labels m old.func (vars_of old globals) old.control_stack.outer) does ∙ labels_traps m 0 old.func (vars_of old globals) kind old.control_stack.outer)
steps_to m read depth old new globals i (Ok (Left popped)) stands does = absurd does
steps_to m read depth old new globals i (Ok (Calling callee)) stands does = absurd does
steps_to m read depth old new globals i (Ok Asking) stands does = absurd does
steps_to m read depth old new globals i (Err StuckFault) stands does =
    (ap (seen m old.func) (steps_by_act m read depth old globals i stands ∙ ap (out_of_labels m old.func (vars_of old globals) old.control_stack.outer) does.0 ∙ labels_stuck m 0 old.func (vars_of old globals) old.control_stack.outer), (does.1, refl))
steps_to m read depth old new globals i (Err OutOfMemory) stands does = (does, refl)

pub effect_steps : (m : Module) (i : Instr) (given : Option ℕ) (globals : List TypedValue) (old new : CallFrame) (result : Result Flow StepFault)
    → StandsAt m old i → HasEffect i old new result → StepsAs m given old globals new globals result
effect_steps m i given globals old new result stands effect = λ depth.
    steps_to m (value_or_zero given) depth old new globals i result stands
    (effect m depth (value_or_zero given) globals (continuation m old.func old.control_stack.block (old.control_stack.at + 1)))

effect_waits : (m : Module) (i : Instr) (old new : CallFrame) (result : Result Flow StepFault) → HasEffect i old new result → asks_value result ≡ false
effect_waits m i old new (Ok Within) effect = refl
effect_waits m i old new (Ok (Trapped kind)) effect = refl
effect_waits m i old new (Ok (Left popped)) effect = refl
effect_waits m i old new (Ok (Calling callee)) effect = refl
effect_waits m i old new (Ok Asking) effect = absurd (effect m 0 0 [] [])
effect_waits m i old new (Err fault) effect = refl

pub effect_asks : (m : Module) (i : Instr) (given : Option ℕ) (globals : List TypedValue) (old new : CallFrame) (result : Result Flow StepFault)
    → StandsAt m old i → is_at_once i ≡ true → HasEffect i old new result → AsksForValue m given old globals result
effect_asks m i given globals old new result stands h effect =
    at_once_asks m i given globals old result stands h (effect_waits m i old new result effect)

-- ---- a branch instruction

pub goes_on : (a : CallFrame) (i : Instr) → BranchesAs i a.control_stack.operands NotTaken
    → HasEffect i a (at_next a.locals (drop 1 a.control_stack.operands) a) (Ok Within)
goes_on a i h = λ m depth read globals rest. (h m depth read a.func (vars_of a globals) rest, refl)

pub lacks_operand : (a : CallFrame) (i : Instr) → BranchesAs i a.control_stack.operands branching.Stuck → HasEffect i a a (Err StuckFault)
lacks_operand a i h = λ m depth read globals rest. (h m depth read a.func (vars_of a globals) rest, refl)

pub branch_is_at_once : (i : Instr) → is_branch i ≡ true → is_at_once i ≡ true
branch_is_at_once (instr.Br l) h = refl
branch_is_at_once (instr.BrIf l) h = refl
branch_is_at_once (instr.BrTable ls l) h = refl
branch_is_at_once _ h = cc
