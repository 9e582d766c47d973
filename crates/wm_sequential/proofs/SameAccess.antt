-- Which access a step makes doesn't depend on the value that it reads.
use Rattle.std.proofs.Common.{◌≡◌, ℕ, suc, ◌+◌, List, [], ◌∷◌, Option, Some, None, refl}
use Rattle.wm_ast.specs.declared.access.AccessKind.{AccessKind}
use Rattle.wm_ast.specs.declared.instr.Instr.{Instr}
use Rattle.wm_ast.specs.declared.instr.Instr.TheVariants as instr
use Rattle.wm_ast.specs.declared.module.Module.{Module}
use Rattle.wm_event.specs.declared.log.TrapKind.{TrapKind}
use Rattle.wm_event.specs.declared.op.OpFields.{OpFields}
use Rattle.wm_machine.specs.declared.value.TypedValue.{TypedValue}
use Rattle.wm_machine.specs.Accesses.{Asked, asked, access_trap}
use Rattle.wm_machine.specs.Step.{access, access_of, act, make, out_of_call, out_of_label, out_of_thread, reduce, step}
use Rattle.wm_machine.specs.Term.{Config, Frame, Here, Label, Next, Over, Reduced, Running, Term, Vars}

-- two reductions are the same, or both make this access
data Alike : Reduced → Reduced → Type 0 where
  same : {r : Reduced} → Alike r r
  both : {op : OpFields} {v w : Vars} {t u : Term} → Alike (Next (Some op) v t) (Next (Some op) w u)

alike_make : (read other : ℕ) (trap : Option TrapKind) (kind : AccessKind) (address : ℕ) (a : Asked) (vars : Vars) (rest : List Instr) → Alike (make trap kind address read a vars rest) (make trap kind address other a vars rest)
alike_make read other (Some trap) kind address a vars rest = same
alike_make read other None kind address a vars rest = both

alike_access : (m : Module) (read other : ℕ) (kind : AccessKind) (offset : ℕ) (a : Option Asked) (vars : Vars) (rest : List Instr) → Alike (access m kind offset read a vars rest) (access m kind offset other a vars rest)
alike_access m read other kind offset None vars rest = same
alike_access m read other kind offset (Some a) vars rest = alike_make read other (access_trap m kind (a.base + offset)) kind (a.base + offset) a vars rest

alike_act : (m : Module) (depth read other func : ℕ) (vars : Vars) (operands : List TypedValue) (i : Instr) (rest : List Instr) → Alike (act m depth read func vars operands i rest) (act m depth other func vars operands i rest)
alike_act m depth read other func vars operands instr.Unreachable rest = same
alike_act m depth read other func vars operands instr.Nop rest = same
alike_act m depth read other func vars operands instr.Drop rest = same
alike_act m depth read other func vars operands instr.Select rest = same
alike_act m depth read other func vars operands (instr.LocalGet x) rest = same
alike_act m depth read other func vars operands (instr.LocalSet x) rest = same
alike_act m depth read other func vars operands (instr.LocalTee x) rest = same
alike_act m depth read other func vars operands (instr.GlobalGet x) rest = same
alike_act m depth read other func vars operands (instr.GlobalSet x) rest = same
alike_act m depth read other func vars operands (instr.Block t n) rest = same
alike_act m depth read other func vars operands (instr.Loop t n) rest = same
alike_act m depth read other func vars operands (instr.If t first second e) rest = same
alike_act m depth read other func vars operands (instr.Br l) rest = same
alike_act m depth read other func vars operands (instr.BrIf l) rest = same
alike_act m depth read other func vars operands (instr.BrTable labels default) rest = same
alike_act m depth read other func vars operands instr.Return rest = same
alike_act m depth read other func vars operands (instr.Call callee) rest = same
alike_act m depth read other func vars operands (instr.Access kind o) rest = alike_access m read other kind o.offset (asked kind operands) vars rest
alike_act m depth read other func vars operands instr.MemorySize rest = same
alike_act m depth read other func vars operands (instr.I32Const n) rest = same
alike_act m depth read other func vars operands (instr.I64Const n) rest = same
alike_act m depth read other func vars operands (instr.Eqz width) rest = same
alike_act m depth read other func vars operands (instr.Compare op width) rest = same
alike_act m depth read other func vars operands (instr.Unary op width) rest = same
alike_act m depth read other func vars operands (instr.Binary op width) rest = same
alike_act m depth read other func vars operands (instr.Convert op) rest = same

alike_label : (vars : Vars) (operands : List TypedValue) (instrs : List Instr) (r s : Reduced) → Alike r s → Alike (out_of_label vars operands instrs r) (out_of_label vars operands instrs s)
alike_label vars operands instrs _ _ same = same
alike_label vars operands instrs _ _ both = both

alike_call : (m : Module) (callee : ℕ) (vars : Vars) (operands : List TypedValue) (rest : List Instr) (r s : Reduced) → Alike r s → Alike (out_of_call m callee vars operands rest r) (out_of_call m callee vars operands rest s)
alike_call m callee vars operands rest _ _ same = same
alike_call m callee vars operands rest _ _ both = both

alike_reduce : (m : Module) (read other depth func : ℕ) (vars : Vars) (t : Term) → Alike (reduce m read depth func vars t) (reduce m other depth func vars t)
alike_reduce m read other depth func vars (Here operands []) = same
alike_reduce m read other depth func vars (Here operands (i ∷ rest)) = alike_act m depth read other func vars operands i rest
alike_reduce m read other depth func vars (Label operands instrs inner) = alike_label vars operands instrs _ _ (alike_reduce m read other depth func vars inner)
alike_reduce m read other depth func vars (Frame operands rest callee mine inner) =
    alike_call m callee vars operands rest _ _ (alike_reduce m read other (suc depth) callee (record vars { locals = mine }) inner)

alike_thread : (m : Module) (func : ℕ) (r s : Reduced) → Alike r s → access_of (out_of_thread m func r) ≡ access_of (out_of_thread m func s)
alike_thread m func _ _ same = refl
alike_thread m func _ _ both = refl

pub same_access : (m : Module) (read other : ℕ) (c : Config) → access_of (step m read c) ≡ access_of (step m other c)
same_access m read other (Over end) = refl
same_access m read other (Running func vars body) = alike_thread m func _ _ (alike_reduce m read other 1 func vars body)
