-- One step of a thread (Core 1.0, section 4.4).
use Rattle.std.specs.Prelude.{ℕ, zero, suc, ◌+◌, List, [], ◌∷◌, ◌++◌, map, reverse, take, drop, length, Bool, true, false, Result, Ok, Err, Option, Some, None, slice_get, slice_set, nat_lt, if◌then◌else◌}
use Rattle.wm_num.specs.declared.operator.Width.{Width}
use Rattle.wm_num.specs.declared.operator.Width.TheVariants.{W32}
use Rattle.wm_num.specs.declared.operator.NumTrap.{NumTrap}
use Rattle.wm_num.specs.declared.operator.NumTrap.TheVariants as num
use Rattle.wm_num.specs.declared.operator.Comparison.TheVariants.{Eq}
use Rattle.wm_num.specs.Binary.{binary_meaning}
use Rattle.wm_num.specs.Unary.{unary_meaning}
use Rattle.wm_num.specs.Comparison.{comparison_meaning}
use Rattle.wm_num.specs.Conversion.{conversion_meaning, source_of, target_of}
use Rattle.wm_ast.specs.declared.module.Module.{Module}
use Rattle.wm_ast.specs.declared.types.FuncType.{FuncType}
use Rattle.wm_ast.specs.declared.types.ValType.{ValType}
use Rattle.wm_ast.specs.declared.instr.Instr.{Instr}
use Rattle.wm_ast.specs.declared.instr.Instr.TheVariants as instr
use Rattle.wm_ast.specs.declared.access.AccessKind.{AccessKind}
use Rattle.wm_ast.specs.Module.{block_in, func_type, pages_of}
use Rattle.wm_event.specs.declared.log.TrapKind.{TrapKind}
use Rattle.wm_event.specs.declared.log.TrapKind.TheVariants.{Unreachable, DivideByZero, Overflow, Exhausted}
use Rattle.wm_event.specs.declared.op.OpFields.{OpFields}
use Rattle.wm_event.specs.declared.log.End.TheVariants.{Done, Trap}
use Rattle.wm_machine.specs.declared.value.TypedValue.{TypedValue}
use Rattle.wm_machine.specs.declared.value.TypedValue.TheVariants.{I32, I64}
use Rattle.wm_machine.specs.Values.{typed, number_at, bits_of, zero_of}
use Rattle.wm_machine.specs.Functions.{Callable, callable}
use Rattle.wm_machine.specs.Term.{Vars, Term, Here, Label, Frame, Config, Running, Over, Reduced, Next, Ends, Leaves, Returns, Traps, Stuck, Step, ReducesTo, NoStep}
use Rattle.wm_machine.specs.Accesses.{Asked, asked, loaded, access_trap, op_at}

-- what a branch carries: the result's value, if there is a result
abbrev pub carried : Option ValType → List TypedValue → Option (List TypedValue)
carried None operands = Some []
carried (Some t) [] = None
carried (Some t) (v ∷ operands) = Some (v ∷ [])

abbrev pub result_of : List TypedValue → Option ℕ
result_of [] = None
result_of (v ∷ operands) = Some (bits_of v)

-- what follows the first instruction
abbrev pub after : List Instr → List Instr
after [] = []
after (i ∷ rest) = rest

-- the next instruction of the block comes next
abbrev pub continue_with : Vars → List TypedValue → List Instr → Reduced
continue_with vars operands rest = Next None vars (Here operands rest)

-- pushes a value, if there is one
abbrev pub push_optional : Option TypedValue → List TypedValue → List TypedValue
push_optional None operands = operands
push_optional (Some v) operands = v ∷ operands

-- continues with a value or a number, if there is one
abbrev pub with_value : Option TypedValue → (TypedValue → Reduced) → Reduced
with_value None next = Stuck
with_value (Some v) next = next v

abbrev pub with_number : Option ℕ → (ℕ → Reduced) → Reduced
with_number None next = Stuck
with_number (Some n) next = next n

-- the choice by an i32: the second if it is 0
abbrev pub chosen : {A : Type 0} → ℕ → A → A → A
chosen zero first other = other
chosen (suc n) first other = first

abbrev pub trap_of : NumTrap → TrapKind
trap_of num.DivideByZero = DivideByZero
trap_of num.Overflow = Overflow

-- the result of an operator that may trap
abbrev pub computed : Vars → List TypedValue → List Instr → Width → Result ℕ NumTrap → Reduced
computed vars below rest width (Ok n) = continue_with vars (typed width n ∷ below) rest
computed vars below rest width (Err trap) = Traps (trap_of trap)

abbrev pub truth : Bool → ℕ
truth true = 1
truth false = 0

-- the label of an index: the default if the index is past the list
abbrev pub label_of_index : Option ℕ → ℕ → ℕ
label_of_index None default = default
label_of_index (Some label) default = label

-- into a block of the first instruction
abbrev pub enter : Option (List Instr) → Vars → List TypedValue → List Instr → Reduced
enter None vars operands instrs = Stuck
enter (Some block) vars operands instrs = Next None vars (Label operands instrs (Here [] block))

-- into the body of a function, whose arguments are the topmost operands
abbrev pub begin : Callable → ℕ → Vars → List TypedValue → List Instr → Reduced
begin f callee vars operands rest =
    if nat_lt (length operands) (length f.params) then Stuck else
    Next None vars (Frame (drop (length f.params) operands) rest callee
    (reverse (take (length f.params) operands) ++ map zero_of f.locals) (Here [] f.body))

-- the most active calls of a thread
abbrev pub max_calls : ℕ
max_calls = 256

-- a call while this number of calls is active
abbrev pub invoke : Option Callable → ℕ → ℕ → Vars → List TypedValue → List Instr → Reduced
invoke None depth callee vars operands rest = Stuck
invoke (Some f) depth callee vars operands rest =
    if nat_lt depth max_calls then begin f callee vars operands rest else Traps Exhausted

-- an access, or its trap
abbrev pub make : Option TrapKind → AccessKind → ℕ → ℕ → Asked → Vars → List Instr → Reduced
make (Some trap) kind address read a vars rest = Traps trap
make None kind address read a vars rest =
    Next (Some (op_at kind a.kind address)) vars (Here (push_optional (loaded kind read) a.below) rest)

-- the effective address is the operand plus the offset, not wrapped
abbrev pub access : Module → AccessKind → ℕ → ℕ → Option Asked → Vars → List Instr → Reduced
access m kind offset read None vars rest = Stuck
access m kind offset read (Some a) vars rest =
    make (access_trap m kind (a.base + offset)) kind (a.base + offset) read a vars rest

-- the effect of the first instruction at its place
abbrev pub act : Module → ℕ → ℕ → ℕ → Vars → List TypedValue → Instr → List Instr → Reduced
act m depth read func vars operands instr.Unreachable rest = Traps Unreachable
act m depth read func vars operands instr.Nop rest = continue_with vars operands rest
act m depth read func vars operands instr.Drop rest =
    with_value (slice_get operands 0) (λ _. continue_with vars (drop 1 operands) rest)
act m depth read func vars operands instr.Select rest =
    with_value (slice_get operands 2) (λ first. with_value (slice_get operands 1) (λ second.
    with_number (number_at W32 operands 0) (λ c. continue_with vars (chosen c first second ∷ drop 3 operands) rest)))
act m depth read func vars operands (instr.LocalGet x) rest =
    with_value (slice_get vars.locals x) (λ v. continue_with vars (v ∷ operands) rest)
act m depth read func vars operands (instr.LocalSet x) rest =
    with_value (slice_get operands 0) (λ v. with_value (slice_get vars.locals x) (λ _.
    continue_with (record vars { locals = slice_set vars.locals x v }) (drop 1 operands) rest))
act m depth read func vars operands (instr.LocalTee x) rest =
    with_value (slice_get operands 0) (λ v. with_value (slice_get vars.locals x) (λ _.
    continue_with (record vars { locals = slice_set vars.locals x v }) operands rest))
act m depth read func vars operands (instr.GlobalGet x) rest =
    with_value (slice_get vars.globals x) (λ v. continue_with vars (v ∷ operands) rest)
act m depth read func vars operands (instr.GlobalSet x) rest =
    with_value (slice_get operands 0) (λ v. with_value (slice_get vars.globals x) (λ _.
    continue_with (record vars { globals = slice_set vars.globals x v }) (drop 1 operands) rest))
act m depth read func vars operands (instr.Block t n) rest =
    enter (block_in m.funcs func n) vars operands (instr.Block t n ∷ rest)
act m depth read func vars operands (instr.Loop t n) rest =
    enter (block_in m.funcs func n) vars operands (instr.Loop t n ∷ rest)
act m depth read func vars operands (instr.If t first other e) rest =
    with_number (number_at W32 operands 0) (λ c.
    enter (block_in m.funcs func (chosen c first other)) vars (drop 1 operands) (instr.If t first other e ∷ rest))
act m depth read func vars operands (instr.Br l) rest = Leaves l operands
act m depth read func vars operands (instr.BrIf l) rest =
    with_number (number_at W32 operands 0) (λ c. chosen c (Leaves l (drop 1 operands)) (continue_with vars (drop 1 operands) rest))
act m depth read func vars operands (instr.BrTable labels default) rest =
    with_number (number_at W32 operands 0) (λ i. Leaves (label_of_index (slice_get labels i) default) (drop 1 operands))
act m depth read func vars operands instr.Return rest = Returns operands
act m depth read func vars operands (instr.Call callee) rest =
    invoke (callable m callee) depth callee vars operands rest
act m depth read func vars operands (instr.Access kind o) rest =
    access m kind o.offset read (asked kind operands) vars rest
act m depth read func vars operands instr.MemorySize rest = continue_with vars (I32 (pages_of m.memory) ∷ operands) rest
act m depth read func vars operands (instr.I32Const n) rest = continue_with vars (I32 n ∷ operands) rest
act m depth read func vars operands (instr.I64Const n) rest = continue_with vars (I64 n ∷ operands) rest
act m depth read func vars operands (instr.Eqz width) rest =
    with_number (number_at width operands 0) (λ n.
    continue_with vars (I32 (truth (comparison_meaning Eq width n 0)) ∷ drop 1 operands) rest)
act m depth read func vars operands (instr.Compare op width) rest =
    with_number (number_at width operands 1) (λ a. with_number (number_at width operands 0) (λ b.
    continue_with vars (I32 (truth (comparison_meaning op width a b)) ∷ drop 2 operands) rest))
act m depth read func vars operands (instr.Unary op width) rest =
    with_number (number_at width operands 0) (λ n.
    continue_with vars (typed width (unary_meaning op width n) ∷ drop 1 operands) rest)
act m depth read func vars operands (instr.Binary op width) rest =
    with_number (number_at width operands 1) (λ a. with_number (number_at width operands 0) (λ b.
    computed vars (drop 2 operands) rest width (binary_meaning op width a b)))
act m depth read func vars operands (instr.Convert op) rest =
    with_number (number_at (source_of op) operands 0) (λ n.
    continue_with vars (typed (target_of op) (conversion_meaning op n) ∷ drop 1 operands) rest)

-- continues after a block or a call with what it carries
abbrev pub gives : Vars → List TypedValue → List Instr → Option (List TypedValue) → Reduced
gives vars operands rest None = Stuck
gives vars operands rest (Some values) = continue_with vars (values ++ operands) rest

-- a branch to the label of the first instruction: it continues after it, or for a loop at the loop itself
abbrev pub branch_to : Vars → List TypedValue → List Instr → List TypedValue → Reduced
branch_to vars operands (instr.Loop t n ∷ rest) values = continue_with vars operands (instr.Loop t n ∷ rest)
branch_to vars operands (instr.Block t n ∷ rest) values = gives vars operands rest (carried t values)
branch_to vars operands (instr.If t first other e ∷ rest) values = gives vars operands rest (carried t values)
branch_to vars operands _ values = Stuck

abbrev pub carried_by : Option FuncType → List TypedValue → Option (List TypedValue)
carried_by None values = None
carried_by (Some t) values = carried t.result values

-- what a function returns
abbrev pub returned : Module → ℕ → List TypedValue → Option (List TypedValue)
returned m func values = carried_by (func_type m func) values

-- a step inside a label, seen from outside
abbrev pub out_of_label : Vars → List TypedValue → List Instr → Reduced → Reduced
out_of_label vars operands instrs (Next made vars' inner) = Next made vars' (Label operands instrs inner)
out_of_label vars operands instrs (Ends values) = continue_with vars (values ++ operands) (after instrs)
out_of_label vars operands instrs (Leaves zero values) = branch_to vars operands instrs values
out_of_label vars operands instrs (Leaves (suc l) values) = Leaves l values
out_of_label vars operands instrs (Returns values) = Returns values
out_of_label vars operands instrs (Traps kind) = Traps kind
out_of_label vars operands instrs Stuck = Stuck

-- a step inside a call, seen from outside: the caller keeps its locals, and the globals are the thread's
abbrev pub out_of_call : Module → ℕ → Vars → List TypedValue → List Instr → Reduced → Reduced
out_of_call m callee vars operands rest (Next made mine inner) =
    Next made (record vars { globals = mine.globals }) (Frame operands rest callee mine.locals inner)
out_of_call m callee vars operands rest (Ends values) = gives vars operands rest (returned m callee values)
out_of_call m callee vars operands rest (Leaves zero values) = gives vars operands rest (returned m callee values)
out_of_call m callee vars operands rest (Leaves (suc l) values) = Stuck
out_of_call m callee vars operands rest (Returns values) = gives vars operands rest (returned m callee values)
out_of_call m callee vars operands rest (Traps kind) = Traps kind
out_of_call m callee vars operands rest Stuck = Stuck

-- one step of the innermost place; depth counts the active calls
abbrev pub reduce : Module → ℕ → ℕ → ℕ → Vars → Term → Reduced
reduce m read depth func vars (Here operands []) = Ends operands
reduce m read depth func vars (Here operands (i ∷ rest)) = act m depth read func vars operands i rest
reduce m read depth func vars (Label operands instrs inner) =
    out_of_label vars operands instrs (reduce m read depth func vars inner)
reduce m read depth func vars (Frame operands rest callee mine inner) =
    out_of_call m callee vars operands rest (reduce m read (suc depth) callee (record vars { locals = mine }) inner)

-- the thread's end, with what its function returns
abbrev pub ended : Option (List TypedValue) → Step
ended None = NoStep
ended (Some values) = ReducesTo None (Over (Done (result_of values)))

abbrev pub out_of_thread : Module → ℕ → Reduced → Step
out_of_thread m func (Next made vars body) = ReducesTo made (Running func vars body)
out_of_thread m func (Ends values) = ended (returned m func values)
out_of_thread m func (Leaves zero values) = ended (returned m func values)
out_of_thread m func (Leaves (suc l) values) = NoStep
out_of_thread m func (Returns values) = ended (returned m func values)
out_of_thread m func (Traps kind) = ReducesTo None (Over (Trap kind))
out_of_thread m func Stuck = NoStep

-- one step of a thread, where read is the value read if it is an access that reads
abbrev pub step : Module → ℕ → Config → Step
step m read (Over end) = NoStep
step m read (Running func vars body) = out_of_thread m func (reduce m read 1 func vars body)

-- the configuration after a step
abbrev pub next_config : Step → Option Config
next_config (ReducesTo made c) = Some c
next_config NoStep = None

-- the access of a step
abbrev pub access_of : Step → Option OpFields
access_of (ReducesTo made c) = made
access_of NoStep = None
