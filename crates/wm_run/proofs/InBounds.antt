-- An access that a step makes lies within the memory: past its end it traps.
use Rattle.std.proofs.Common.{◌≡◌, ℕ, zero, suc, ◌+◌, ◌≤◌, List, [], ◌∷◌, Bool, true, false, Option, Some, None, refl, sym, subst, Result, Ok, Err}
use Rattle.std.specs.Prelude.{⊤, if◌then◌else◌, nat_lt, length, drop, slice_get, slice_set}
use Rattle.std.proofs.lemmas.Bool.{ltb-false}
use Rattle.std.proofs.lemmas.Option.{none-some}
use Rattle.wm_access.specs.AccessWidth.{bytes_of}
use Rattle.wm_ast.specs.declared.access.AccessKind.{AccessKind}
use Rattle.wm_ast.specs.declared.instr.Instr.{Instr}
use Rattle.wm_ast.specs.declared.instr.Instr.TheVariants as instr
use Rattle.wm_ast.specs.declared.module.Module.{Module}
use Rattle.wm_ast.specs.Access.{access_width}
use Rattle.wm_ast.specs.Module.{block_in, memory_size}
use Rattle.wm_event.specs.declared.log.TrapKind.{TrapKind}
use Rattle.wm_event.specs.declared.log.TrapKind.TheVariants.{Unaligned, OutOfBounds}
use Rattle.wm_event.specs.declared.op.OpFields.{OpFields}
use Rattle.wm_num.specs.declared.operator.NumTrap.{NumTrap}
use Rattle.wm_num.specs.declared.operator.Comparison.TheVariants.{Eq}
use Rattle.wm_num.specs.declared.operator.Width.{Width}
use Rattle.wm_num.specs.declared.operator.Width.TheVariants.{W32}
use Rattle.wm_num.specs.Binary.{binary_meaning}
use Rattle.wm_num.specs.Comparison.{comparison_meaning}
use Rattle.wm_num.specs.Conversion.{conversion_meaning, source_of, target_of}
use Rattle.wm_num.specs.Unary.{unary_meaning}
use Rattle.wm_machine.specs.declared.value.TypedValue.{TypedValue}
use Rattle.wm_machine.specs.declared.value.TypedValue.TheVariants.{I32}
use Rattle.wm_machine.specs.Accesses.{Asked, access_trap, asked, is_outside, is_unaligned}
use Rattle.wm_machine.specs.Functions.{Callable, callable}
use Rattle.wm_machine.specs.Inside.{made_of}
use Rattle.wm_machine.specs.Step.{access, access_of, act, begin, carried, chosen, computed, ended, enter, gives, invoke, label_of_index, branch_to, make, out_of_call, out_of_label, out_of_thread, reduce, returned, continue_with, step, truth, with_number, with_value}
use Rattle.wm_machine.specs.Values.{number_at, typed}
use Rattle.wm_machine.specs.Term.{Config, Ends, Frame, Running, Here, Label, Leaves, Next, Over, Reduced, Returns, Stuck, Term, Traps, Vars}

-- the access, if there is one, ends within the memory
abbrev Within : Module → Option OpFields → Type 0
Within m None = ⊤
Within m (Some op) = op.address + bytes_of op.width ≤ memory_size m

bounded : (m : Module) (kind : AccessKind) (address : ℕ) (u o : Bool) → is_unaligned kind address ≡ u → is_outside m kind address ≡ o
    → (if u then Some Unaligned else if o then Some OutOfBounds else None) ≡ None → address + bytes_of (access_width kind) ≤ memory_size m
bounded m kind address true o is_u is_o none = absurd (none-some _ (sym none))
bounded m kind address false true is_u is_o none = absurd (none-some _ (sym none))
bounded m kind address false false is_u is_o none = ltb-false (memory_size m) (address + bytes_of (access_width kind)) is_o

made_within : (m : Module) (kind : AccessKind) (address read : ℕ) (a : Asked) (vars : Vars) (rest : List Instr) (trap : Option TrapKind)
    → access_trap m kind address ≡ trap → Within m (made_of (make trap kind address read a vars rest))
made_within m kind address read a vars rest (Some trap) is = tt
made_within m kind address read a vars rest None is = bounded m kind address (is_unaligned kind address) (is_outside m kind address) refl refl is

access_within : (m : Module) (kind : AccessKind) (offset read : ℕ) (asks : Option Asked) (vars : Vars) (rest : List Instr) → Within m (made_of (access m kind offset read asks vars rest))
access_within m kind offset read None vars rest = tt
access_within m kind offset read (Some a) vars rest =
    made_within m kind (a.base + offset) read a vars rest (access_trap m kind (a.base + offset)) refl

value_within : (m : Module) (o : Option TypedValue) (go : TypedValue → Reduced) → ((v : TypedValue) → Within m (made_of (go v))) → Within m (made_of (with_value o go))
value_within m None go h = tt
value_within m (Some v) go h = h v

number_within : (m : Module) (o : Option ℕ) (go : ℕ → Reduced) → ((n : ℕ) → Within m (made_of (go n))) → Within m (made_of (with_number o go))
number_within m None go h = tt
number_within m (Some n) go h = h n

either_within : (m : Module) (n : ℕ) (x y : Reduced) → Within m (made_of x) → Within m (made_of y) → Within m (made_of (chosen n x y))
either_within m zero x y p q = q
either_within m (suc n) x y p q = p

if_within : (m : Module) (b : Bool) (x y : Reduced) → Within m (made_of x) → Within m (made_of y) → Within m (made_of (if b then x else y))
if_within m true x y p q = p
if_within m false x y p q = q

enter_within : (m : Module) (o : Option (List Instr)) (vars : Vars) (operands : List TypedValue) (instrs : List Instr) → Within m (made_of (enter o vars operands instrs))
enter_within m None vars operands instrs = tt
enter_within m (Some block) vars operands instrs = tt

invoke_within : (m : Module) (o : Option Callable) (depth callee : ℕ) (vars : Vars) (operands : List TypedValue) (rest : List Instr) → Within m (made_of (invoke o depth callee vars operands rest))
invoke_within m None depth callee vars operands rest = tt
invoke_within m (Some f) depth callee vars operands rest =
    if_within m (nat_lt depth 256) (begin f callee vars operands rest) _ (if_within m (nat_lt (length operands) (length f.params)) _ _ tt tt) tt

computed_within : (m : Module) (vars : Vars) (below : List TypedValue) (rest : List Instr) (width : Width) (r : Result ℕ NumTrap) → Within m (made_of (computed vars below rest width r))
computed_within m vars below rest width (Ok n) = tt
computed_within m vars below rest width (Err trap) = tt

gives_within : (m : Module) (vars : Vars) (operands : List TypedValue) (rest : List Instr) (o : Option (List TypedValue)) → Within m (made_of (gives vars operands rest o))
gives_within m vars operands rest None = tt
gives_within m vars operands rest (Some values) = tt

act_within : (m : Module) (depth read func : ℕ) (vars : Vars) (operands : List TypedValue) (i : Instr) (rest : List Instr) → Within m (made_of (act m depth read func vars operands i rest))
act_within m depth read func vars operands instr.Unreachable rest = tt
act_within m depth read func vars operands instr.Nop rest = tt
act_within m depth read func vars operands instr.Drop rest = value_within m (slice_get operands 0) (λ _. continue_with vars (drop 1 operands) rest) (λ v. tt)
act_within m depth read func vars operands instr.Select rest =
    value_within m (slice_get operands 2) (λ first. with_value (slice_get operands 1) (λ second. with_number (number_at W32 operands 0) (λ c. continue_with vars (chosen c first second ∷ drop 3 operands) rest)))
    (λ first. value_within m (slice_get operands 1) (λ second. with_number (number_at W32 operands 0) (λ c. continue_with vars (chosen c first second ∷ drop 3 operands) rest)) (λ second.
    number_within m (number_at W32 operands 0) (λ c. continue_with vars (chosen c first second ∷ drop 3 operands) rest) (λ n. tt)))
act_within m depth read func vars operands (instr.LocalGet x) rest = value_within m (slice_get vars.locals x) (λ v. continue_with vars (v ∷ operands) rest) (λ v. tt)
act_within m depth read func vars operands (instr.LocalSet x) rest =
    value_within m (slice_get operands 0) (λ v. with_value (slice_get vars.locals x) (λ _. continue_with (record vars { locals = slice_set vars.locals x v }) (drop 1 operands) rest))
    (λ v. value_within m (slice_get vars.locals x) (λ _. continue_with (record vars { locals = slice_set vars.locals x v }) (drop 1 operands) rest) (λ w. tt))
act_within m depth read func vars operands (instr.LocalTee x) rest =
    value_within m (slice_get operands 0) (λ v. with_value (slice_get vars.locals x) (λ _. continue_with (record vars { locals = slice_set vars.locals x v }) operands rest))
    (λ v. value_within m (slice_get vars.locals x) (λ _. continue_with (record vars { locals = slice_set vars.locals x v }) operands rest) (λ w. tt))
act_within m depth read func vars operands (instr.GlobalGet x) rest = value_within m (slice_get vars.globals x) (λ v. continue_with vars (v ∷ operands) rest) (λ v. tt)
act_within m depth read func vars operands (instr.GlobalSet x) rest =
    value_within m (slice_get operands 0) (λ v. with_value (slice_get vars.globals x) (λ _. continue_with (record vars { globals = slice_set vars.globals x v }) (drop 1 operands) rest))
    (λ v. value_within m (slice_get vars.globals x) (λ _. continue_with (record vars { globals = slice_set vars.globals x v }) (drop 1 operands) rest) (λ w. tt))
act_within m depth read func vars operands (instr.Block t n) rest = enter_within m (block_in m.funcs func n) vars operands (instr.Block t n ∷ rest)
act_within m depth read func vars operands (instr.Loop t n) rest = enter_within m (block_in m.funcs func n) vars operands (instr.Loop t n ∷ rest)
act_within m depth read func vars operands (instr.If t first other e) rest =
    number_within m (number_at W32 operands 0) (λ c. enter (block_in m.funcs func (chosen c first other)) vars (drop 1 operands) (instr.If t first other e ∷ rest))
    (λ c. enter_within m (block_in m.funcs func (chosen c first other)) vars (drop 1 operands) (instr.If t first other e ∷ rest))
act_within m depth read func vars operands (instr.Br l) rest = tt
act_within m depth read func vars operands (instr.BrIf l) rest =
    number_within m (number_at W32 operands 0) (λ c. chosen c (Leaves l (drop 1 operands)) (continue_with vars (drop 1 operands) rest))
    (λ c. either_within m c (Leaves l (drop 1 operands)) (continue_with vars (drop 1 operands) rest) tt tt)
act_within m depth read func vars operands (instr.BrTable labels default) rest =
    number_within m (number_at W32 operands 0) (λ i. Leaves (label_of_index (slice_get labels i) default) (drop 1 operands)) (λ c. tt)
act_within m depth read func vars operands instr.Return rest = tt
act_within m depth read func vars operands (instr.Call callee) rest = invoke_within m (callable m callee) depth callee vars operands rest
act_within m depth read func vars operands (instr.Access kind o) rest = access_within m kind o.offset read (asked kind operands) vars rest
act_within m depth read func vars operands instr.MemorySize rest = tt
act_within m depth read func vars operands (instr.I32Const n) rest = tt
act_within m depth read func vars operands (instr.I64Const n) rest = tt
act_within m depth read func vars operands (instr.Eqz width) rest =
    number_within m (number_at width operands 0) (λ n. continue_with vars (I32 (truth (comparison_meaning Eq width n 0)) ∷ drop 1 operands) rest) (λ n. tt)
act_within m depth read func vars operands (instr.Compare op width) rest =
    number_within m (number_at width operands 1) (λ a. with_number (number_at width operands 0) (λ b. continue_with vars (I32 (truth (comparison_meaning op width a b)) ∷ drop 2 operands) rest))
    (λ a. number_within m (number_at width operands 0) (λ b. continue_with vars (I32 (truth (comparison_meaning op width a b)) ∷ drop 2 operands) rest) (λ b. tt))
act_within m depth read func vars operands (instr.Unary op width) rest =
    number_within m (number_at width operands 0) (λ n. continue_with vars (typed width (unary_meaning op width n) ∷ drop 1 operands) rest) (λ n. tt)
act_within m depth read func vars operands (instr.Binary op width) rest =
    number_within m (number_at width operands 1) (λ a. with_number (number_at width operands 0) (λ b. computed vars (drop 2 operands) rest width (binary_meaning op width a b)))
    (λ a. number_within m (number_at width operands 0) (λ b. computed vars (drop 2 operands) rest width (binary_meaning op width a b))
    (λ b. computed_within m vars (drop 2 operands) rest width (binary_meaning op width a b)))
act_within m depth read func vars operands (instr.Convert op) rest =
    number_within m (number_at (source_of op) operands 0) (λ n. continue_with vars (typed (target_of op) (conversion_meaning op n) ∷ drop 1 operands) rest) (λ n. tt)

branch_to_within : (m : Module) (vars : Vars) (operands values : List TypedValue) (instrs : List Instr) → Within m (made_of (branch_to vars operands instrs values))
branch_to_within m vars operands values (instr.Loop t n ∷ rest) = tt
branch_to_within m vars operands values (instr.Block t n ∷ rest) = gives_within m vars operands rest (carried t values)
branch_to_within m vars operands values (instr.If t a b e ∷ rest) = gives_within m vars operands rest (carried t values)
branch_to_within m vars operands values _ = tt

label_within : (m : Module) (vars : Vars) (operands : List TypedValue) (instrs : List Instr) (r : Reduced) → Within m (made_of r) → Within m (made_of (out_of_label vars operands instrs r))
label_within m vars operands instrs (Next made l t) h = h
label_within m vars operands instrs (Ends v) h = tt
label_within m vars operands instrs (Leaves zero v) h = branch_to_within m vars operands v instrs
label_within m vars operands instrs (Leaves (suc l) v) h = tt
label_within m vars operands instrs (Returns v) h = tt
label_within m vars operands instrs (Traps k) h = tt
label_within m vars operands instrs Stuck h = tt

call_within : (m : Module) (callee : ℕ) (vars : Vars) (operands : List TypedValue) (rest : List Instr) (r : Reduced) → Within m (made_of r) → Within m (made_of (out_of_call m callee vars operands rest r))
call_within m callee vars operands rest (Next made l t) h = h
call_within m callee vars operands rest (Ends v) h = gives_within m vars operands rest (returned m callee v)
call_within m callee vars operands rest (Leaves zero v) h = gives_within m vars operands rest (returned m callee v)
call_within m callee vars operands rest (Leaves (suc l) v) h = tt
call_within m callee vars operands rest (Returns v) h = gives_within m vars operands rest (returned m callee v)
call_within m callee vars operands rest (Traps k) h = tt
call_within m callee vars operands rest Stuck h = tt

reduce_within : (m : Module) (read depth func : ℕ) (vars : Vars) (t : Term) → Within m (made_of (reduce m read depth func vars t))
reduce_within m read depth func vars (Here operands []) = tt
reduce_within m read depth func vars (Here operands (i ∷ rest)) = act_within m depth read func vars operands i rest
reduce_within m read depth func vars (Label operands instrs inner) =
    label_within m vars operands instrs (reduce m read depth func vars inner) (reduce_within m read depth func vars inner)
reduce_within m read depth func vars (Frame operands rest callee mine inner) =
    let own = record vars { locals = mine } in
    call_within m callee vars operands rest (reduce m read (suc depth) callee own inner) (reduce_within m read (suc depth) callee own inner)

ended_within : (m : Module) (o : Option (List TypedValue)) → Within m (access_of (ended o))
ended_within m None = tt
ended_within m (Some v) = tt

thread_within : (m : Module) (func : ℕ) (r : Reduced) → Within m (made_of r) → Within m (access_of (out_of_thread m func r))
thread_within m func (Next made l t) h = h
thread_within m func (Ends v) h = ended_within m (returned m func v)
thread_within m func (Leaves zero v) h = ended_within m (returned m func v)
thread_within m func (Leaves (suc l) v) h = tt
thread_within m func (Returns v) h = ended_within m (returned m func v)
thread_within m func (Traps k) h = tt
thread_within m func Stuck h = tt

step_within : (m : Module) (read : ℕ) (c : Config) → Within m (access_of (step m read c))
step_within m read (Over end) = tt
step_within m read (Running func vars body) = thread_within m func (reduce m read 1 func vars body) (reduce_within m read 1 func vars body)

-- the access of a step lies within the memory
pub in_bounds : (m : Module) (read : ℕ) (c : Config) (op : OpFields) → access_of (step m read c) ≡ Some op → op.address + bytes_of op.width ≤ memory_size m
in_bounds m read c op is = subst (Within m) is (step_within m read c)
