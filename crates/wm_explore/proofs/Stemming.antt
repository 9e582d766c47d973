-- Each event of a run stems from an access among the instructions of its module.
use Rattle.std.proofs.Common.{◌≡◌, ℕ, zero, suc, ◌+◌, List, [], ◌∷◌, ◌++◌, length, map, take, drop, reverse, Bool, true, false, Option, Some, None, Result, Ok, Err, refl, sym, ap, subst}
use Rattle.std.specs.Prelude.{All, if◌then◌else◌, nat_lt, option_and_then, slice_get, ◌==◌}
use Rattle.std.proofs.lemmas.List.Elements.{All-append, All-cons, All-head, All-nil, All-tail}
use Rattle.std.proofs.lemmas.Option.{get_or_from_slice_get, none-some, same_Some, slice_get_within}
use Rattle.wm_access.specs.declared.AccessWidth.{AccessWidth}
use Rattle.wm_access.specs.declared.MemoryOrder.{MemoryOrder}
use Rattle.wm_num.specs.declared.operator.NumTrap.{NumTrap}
use Rattle.wm_num.specs.declared.operator.Width.{Width}
use Rattle.wm_num.specs.declared.operator.Width.TheVariants.{W32}
use Rattle.wm_num.specs.Binary.{binary_meaning}
use Rattle.wm_num.specs.Conversion.{source_of}
use Rattle.wm_ast.specs.declared.access.AccessKind.{AccessKind}
use Rattle.wm_ast.specs.declared.exports.Export.{Export}
use Rattle.wm_ast.specs.declared.instr.Instr.{Instr}
use Rattle.wm_ast.specs.declared.instr.Instr.TheVariants as instr
use Rattle.wm_ast.specs.declared.instr.MemArg.{MemArg}
use Rattle.wm_ast.specs.declared.module.Func.{Func}
use Rattle.wm_ast.specs.declared.module.Module.{Module}
use Rattle.wm_ast.specs.declared.types.FuncType.{FuncType}
use Rattle.wm_ast.specs.Access.{access_order, access_width}
use Rattle.wm_ast.specs.Exports.{export_at}
use Rattle.wm_ast.specs.Module.{block_in, func_type}
use Rattle.wm_event.specs.declared.event.Event.{Event}
use Rattle.wm_event.specs.declared.event.EventKey.{EventKey}
use Rattle.wm_event.specs.declared.log.ThreadLog.{ThreadLog}
use Rattle.wm_event.specs.declared.log.TrapKind.{TrapKind}
use Rattle.wm_event.specs.declared.log.TrapKind.TheVariants.{Exhausted, OutOfBounds, Unaligned}
use Rattle.wm_event.specs.declared.op.OpFields.{OpFields}
use Rattle.wm_event.specs.Log.{event_in}
use Rattle.wm_event.specs.Op.{event_made}
use Rattle.wm_machine.specs.declared.fault.StartFault.{StartFault}
use Rattle.wm_machine.specs.declared.fault.StartFault.TheVariants.{ArgCount, ArgRange}
use Rattle.wm_machine.specs.declared.value.TypedValue.{TypedValue}
use Rattle.wm_machine.specs.Accesses.{Asked, access_trap, asked, is_outside, is_unaligned}
use Rattle.wm_machine.specs.Functions.{Callable, callable, callable_of}
use Rattle.wm_machine.specs.Run.{Outcome, Ran, Taken, and_run_on, noted, outcome_of, outcome_with, ran_on, ran_with, run, run_from, steps, take_read}
use Rattle.wm_machine.specs.Start.{any_past, func_of, started, started_at, started_by, started_in, started_with}
use Rattle.wm_machine.specs.Step.{access, access_of, act, after, begin, branch_to, carried, chosen, computed, continue_with, ended, enter, gives, invoke, make, max_calls, out_of_call, out_of_label, out_of_thread, reduce, returned, step, with_number, with_value}
use Rattle.wm_machine.specs.Term.{Config, Frame, Here, Label, Running, Over, Reduced, Next, Ends, Leaves, Returns, Traps, Stuck, Step, ReducesTo, NoStep, Term, Vars}
use Rattle.wm_machine.specs.Values.{number_at, zero_of}
use Rattle.wm_replay.specs.Replay.{AreRuns}

then_parts : {A B : Type 0} (o : Option A) (f : A → Option B) (y : B) → option_and_then f o ≡ Some y → (x : A) × (o ≡ Some x) × (f x ≡ Some y)
then_parts None f y e = absurd (none-some y e)
then_parts (Some x) f y e = (x, refl, e)

all_at : {X : Type 0} (P : X → Type 0) (xs : List X) (k : ℕ) (x : X) → All P xs → slice_get xs k ≡ Some x → P x
all_at P xs k x all e = subst P (get_or_from_slice_get xs k x x e) (all k x (slice_get_within xs k x e))

body_of : (f : Option Func) (ty : Option FuncType) (body : Option (List Instr)) (c : Callable) → callable_of f ty body ≡ Some c → body ≡ Some c.body
body_of None ty body c e = absurd (none-some c e)
body_of (Some f) None body c e = absurd (none-some c e)
body_of (Some f) (Some ty) None c e = absurd (none-some c e)
body_of (Some f) (Some ty) (Some body) c e = ap (λ (d : Callable). Some d.body) (same_Some _ c e)

untrapped : (b : Bool) (rest : Option TrapKind) → (if b then Some Unaligned else rest) ≡ None → b ≡ false
untrapped true rest e = absurd (none-some Unaligned (sym e))
untrapped false rest e = refl

-- an access of this order and width at this address is made by an instruction of which Q holds, and doesn't trap as unaligned
pub record MadeBy (Q : Instr → Type 0) (order : MemoryOrder) (width : AccessWidth) (address : ℕ) : Type 0 where
  pub kind : AccessKind
  pub immediates : MemArg
  pub holds : Q (instr.Access kind immediates)
  pub has_order : order ≡ access_order kind
  pub has_width : width ≡ access_width kind
  pub aligned : is_unaligned kind address ≡ false

-- the same of an event
abbrev pub IsMadeBy : (Instr → Type 0) → Event → Type 0
IsMadeBy Q e = MadeBy Q e.order e.width e.address

-- Q holds of each instruction of the module's blocks
module _ (m : Module) (Q : Instr → Type 0) (each : (f n : ℕ) (body : List Instr) → block_in m.funcs f n ≡ Some body → All Q body) where
  -- ---- a step

  -- Q holds of each instruction of a term
  abbrev IsOf : Term → Type 0
  IsOf (Here operands instrs) = All Q instrs
  IsOf (Label operands instrs inner) = All Q instrs × IsOf inner
  IsOf (Frame operands instrs func locals inner) = All Q instrs × IsOf inner

  abbrev Makes : Option OpFields → Type 0
  Makes None = Unit {0}
  Makes (Some op) = MadeBy Q op.order op.width op.address

  abbrev Good : Reduced → Type 0
  Good (Next made vars t) = Makes made × IsOf t
  Good (Ends values) = Unit {0}
  Good (Leaves l values) = Unit {0}
  Good (Returns values) = Unit {0}
  Good (Traps kind) = Unit {0}
  Good Stuck = Unit {0}

  if_good : (b : Bool) (x y : Reduced) → Good x → Good y → Good (if b then x else y)
  if_good true x y p q = p
  if_good false x y p q = q

  chosen_good : (c : ℕ) (x y : Reduced) → Good x → Good y → Good (chosen c x y)
  chosen_good zero x y p q = q
  chosen_good (suc c) x y p q = p

  value_good : (o : Option TypedValue) (next : TypedValue → Reduced) → ((v : TypedValue) → Good (next v)) → Good (with_value o next)
  value_good None next good = tt
  value_good (Some v) next good = good v

  number_good : (o : Option ℕ) (next : ℕ → Reduced) → ((n : ℕ) → Good (next n)) → Good (with_number o next)
  number_good None next good = tt
  number_good (Some n) next good = good n

  computed_good : (vars : Vars) (below : List TypedValue) (rest : List Instr) (width : Width) (r : Result ℕ NumTrap) → All Q rest → Good (computed vars below rest width r)
  computed_good vars below rest width (Ok n) all = (tt, all)
  computed_good vars below rest width (Err trap) all = tt

  after_all : (instrs : List Instr) → All Q instrs → All Q (after instrs)
  after_all [] all = all
  after_all (i ∷ rest) all = All-tail Q i rest all

  enter_good : (f n : ℕ) (vars : Vars) (operands : List TypedValue) (instrs : List Instr) → All Q instrs → Good (enter (block_in m.funcs f n) vars operands instrs)
  enter_good f n vars operands instrs all = by (block_in m.funcs f n) refl
    where
      by : (o : Option (List Instr)) → block_in m.funcs f n ≡ o → Good (enter o vars operands instrs)
      by None is = tt
      by (Some body) is = (tt, (all, each f n body is))

  callee_all : (callee : ℕ) (c : Callable) → callable m callee ≡ Some c → All Q c.body
  callee_all callee c is = each callee 0 c.body (body_of (slice_get m.funcs callee) (func_type m callee) (block_in m.funcs callee 0) c is)

  begin_good : (c : Callable) (callee : ℕ) (vars : Vars) (operands : List TypedValue) (rest : List Instr) → All Q c.body → All Q rest → Good (begin c callee vars operands rest)
  begin_good c callee vars operands rest body all =
      if_good (nat_lt (length operands) (length c.params)) Stuck
      (Next None vars (Frame (drop (length c.params) operands) rest callee (reverse (take (length c.params) operands) ++ map zero_of c.locals) (Here [] c.body)))
      tt (tt, (all, body))

  invoke_good : (callee : ℕ) (o : Option Callable) (depth : ℕ) (vars : Vars) (operands : List TypedValue) (rest : List Instr) → callable m callee ≡ o → All Q rest → Good (invoke o depth callee vars operands rest)
  invoke_good callee None depth vars operands rest is all = tt
  invoke_good callee (Some c) depth vars operands rest is all =
      if_good (nat_lt depth max_calls) (begin c callee vars operands rest) (Traps Exhausted) (begin_good c callee vars operands rest (callee_all callee c is) all) tt

  make_good : (trap : Option TrapKind) (kind : AccessKind) (immediates : MemArg) (address read : ℕ) (a : Asked) (vars : Vars) (rest : List Instr) → access_trap m kind address ≡ trap → Q (instr.Access kind immediates) → All Q rest → Good (make trap kind address read a vars rest)
  make_good (Some trap) kind immediates address read a vars rest is holds all = tt
  make_good None kind immediates address read a vars rest is holds all = (
    record {
      kind = kind;
      immediates = immediates;
      holds = holds;
      has_order = refl;
      has_width = refl;
      aligned = untrapped (is_unaligned kind address) (if is_outside m kind address then Some OutOfBounds else None) is;
    },
    all,
  )

  access_good : (kind : AccessKind) (immediates : MemArg) (read : ℕ) (o : Option Asked) (vars : Vars) (rest : List Instr) → Q (instr.Access kind immediates) → All Q rest → Good (access m kind immediates.offset read o vars rest)
  access_good kind immediates read None vars rest holds all = tt
  access_good kind immediates read (Some a) vars rest holds all =
      make_good (access_trap m kind (a.base + immediates.offset)) kind immediates (a.base + immediates.offset) read a vars rest refl holds all

  act_good : (depth read func : ℕ) (vars : Vars) (operands : List TypedValue) (i : Instr) (rest : List Instr) → Q i → All Q rest → Good (act m depth read func vars operands i rest)
  act_good depth read func vars operands instr.Unreachable rest holds all = tt
  act_good depth read func vars operands instr.Nop rest holds all = (tt, all)
  act_good depth read func vars operands instr.Drop rest holds all = value_good (slice_get operands 0) _ (λ v. (tt, all))
  act_good depth read func vars operands instr.Select rest holds all =
      value_good (slice_get operands 2) _ (λ first. value_good (slice_get operands 1) _ (λ second. number_good (number_at W32 operands 0) _ (λ c. (tt, all))))
  act_good depth read func vars operands (instr.LocalGet x) rest holds all = value_good (slice_get vars.locals x) _ (λ v. (tt, all))
  act_good depth read func vars operands (instr.LocalSet x) rest holds all = value_good (slice_get operands 0) _ (λ v. value_good (slice_get vars.locals x) _ (λ old. (tt, all)))
  act_good depth read func vars operands (instr.LocalTee x) rest holds all = value_good (slice_get operands 0) _ (λ v. value_good (slice_get vars.locals x) _ (λ old. (tt, all)))
  act_good depth read func vars operands (instr.GlobalGet x) rest holds all = value_good (slice_get vars.globals x) _ (λ v. (tt, all))
  act_good depth read func vars operands (instr.GlobalSet x) rest holds all = value_good (slice_get operands 0) _ (λ v. value_good (slice_get vars.globals x) _ (λ old. (tt, all)))
  act_good depth read func vars operands (instr.Block t n) rest holds all = enter_good func n vars operands (instr.Block t n ∷ rest) (All-cons Q (instr.Block t n) rest holds all)
  act_good depth read func vars operands (instr.Loop t n) rest holds all = enter_good func n vars operands (instr.Loop t n ∷ rest) (All-cons Q (instr.Loop t n) rest holds all)
  act_good depth read func vars operands (instr.If t first other e) rest holds all =
      number_good (number_at W32 operands 0) _ (λ c. enter_good func (chosen c first other) vars (drop 1 operands) (instr.If t first other e ∷ rest) (All-cons Q (instr.If t first other e) rest holds all))
  act_good depth read func vars operands (instr.Br l) rest holds all = tt
  act_good depth read func vars operands (instr.BrIf l) rest holds all =
      number_good (number_at W32 operands 0) _ (λ c. chosen_good c (Leaves l (drop 1 operands)) (continue_with vars (drop 1 operands) rest) tt (tt, all))
  act_good depth read func vars operands (instr.BrTable labels default) rest holds all = number_good (number_at W32 operands 0) _ (λ i. tt)
  act_good depth read func vars operands instr.Return rest holds all = tt
  act_good depth read func vars operands (instr.Call callee) rest holds all = invoke_good callee (callable m callee) depth vars operands rest refl all
  act_good depth read func vars operands (instr.Access kind o) rest holds all = access_good kind o read (asked kind operands) vars rest holds all
  act_good depth read func vars operands instr.MemorySize rest holds all = (tt, all)
  act_good depth read func vars operands (instr.I32Const n) rest holds all = (tt, all)
  act_good depth read func vars operands (instr.I64Const n) rest holds all = (tt, all)
  act_good depth read func vars operands (instr.Eqz width) rest holds all = number_good (number_at width operands 0) _ (λ n. (tt, all))
  act_good depth read func vars operands (instr.Compare op width) rest holds all = number_good (number_at width operands 1) _ (λ a. number_good (number_at width operands 0) _ (λ b. (tt, all)))
  act_good depth read func vars operands (instr.Unary op width) rest holds all = number_good (number_at width operands 0) _ (λ n. (tt, all))
  act_good depth read func vars operands (instr.Binary op width) rest holds all =
      number_good (number_at width operands 1) _ (λ a. number_good (number_at width operands 0) _ (λ b. computed_good vars (drop 2 operands) rest width (binary_meaning op width a b) all))
  act_good depth read func vars operands (instr.Convert op) rest holds all = number_good (number_at (source_of op) operands 0) _ (λ n. (tt, all))

  gives_good : (vars : Vars) (operands : List TypedValue) (rest : List Instr) (o : Option (List TypedValue)) → All Q rest → Good (gives vars operands rest o)
  gives_good vars operands rest None all = tt
  gives_good vars operands rest (Some values) all = (tt, all)

  branch_good : (vars : Vars) (operands : List TypedValue) (instrs : List Instr) (values : List TypedValue) → All Q instrs → Good (branch_to vars operands instrs values)
  branch_good vars operands [] values all = tt
  branch_good vars operands (instr.Loop t n ∷ rest) values all = (tt, all)
  branch_good vars operands (instr.Block t n ∷ rest) values all = gives_good vars operands rest (carried t values) (All-tail Q (instr.Block t n) rest all)
  branch_good vars operands (instr.If t first other e ∷ rest) values all = gives_good vars operands rest (carried t values) (All-tail Q (instr.If t first other e) rest all)
  branch_good vars operands (_ ∷ rest) values all = tt

  label_good : (vars : Vars) (operands : List TypedValue) (instrs : List Instr) (r : Reduced) → All Q instrs → Good r → Good (out_of_label vars operands instrs r)
  label_good vars operands instrs (Next made vars' inner) all good = (good.0, (all, good.1))
  label_good vars operands instrs (Ends values) all good = (tt, after_all instrs all)
  label_good vars operands instrs (Leaves zero values) all good = branch_good vars operands instrs values all
  label_good vars operands instrs (Leaves (suc l) values) all good = tt
  label_good vars operands instrs (Returns values) all good = tt
  label_good vars operands instrs (Traps kind) all good = tt
  label_good vars operands instrs Stuck all good = tt

  call_good : (callee : ℕ) (vars : Vars) (operands : List TypedValue) (rest : List Instr) (r : Reduced) → All Q rest → Good r → Good (out_of_call m callee vars operands rest r)
  call_good callee vars operands rest (Next made mine inner) all good = (good.0, (all, good.1))
  call_good callee vars operands rest (Ends values) all good = gives_good vars operands rest (returned m callee values) all
  call_good callee vars operands rest (Leaves zero values) all good = gives_good vars operands rest (returned m callee values) all
  call_good callee vars operands rest (Leaves (suc l) values) all good = tt
  call_good callee vars operands rest (Returns values) all good = gives_good vars operands rest (returned m callee values) all
  call_good callee vars operands rest (Traps kind) all good = tt
  call_good callee vars operands rest Stuck all good = tt

  reduce_good : (read depth func : ℕ) (vars : Vars) (t : Term) → IsOf t → Good (reduce m read depth func vars t)
  reduce_good read depth func vars (Here operands []) is = tt
  reduce_good read depth func vars (Here operands (i ∷ rest)) is = act_good depth read func vars operands i rest (All-head Q i rest is) (All-tail Q i rest is)
  reduce_good read depth func vars (Label operands instrs inner) is =
      label_good vars operands instrs (reduce m read depth func vars inner) is.0 (reduce_good read depth func vars inner is.1)
  reduce_good read depth func vars (Frame operands rest callee mine inner) is =
      call_good callee vars operands rest (reduce m read (suc depth) callee (record vars { locals = mine }) inner) is.0 (reduce_good read (suc depth) callee (record vars { locals = mine }) inner is.1)

  abbrev IsOfConfig : Config → Type 0
  IsOfConfig (Running func vars body) = IsOf body
  IsOfConfig (Over end) = Unit {0}

  abbrev GoodStep : Step → Type 0
  GoodStep (ReducesTo made c) = Makes made × IsOfConfig c
  GoodStep NoStep = Unit {0}

  ended_good : (o : Option (List TypedValue)) → GoodStep (ended o)
  ended_good None = tt
  ended_good (Some values) = (tt, tt)

  thread_good : (func : ℕ) (r : Reduced) → Good r → GoodStep (out_of_thread m func r)
  thread_good func (Next made vars body) good = good
  thread_good func (Ends values) good = ended_good (returned m func values)
  thread_good func (Leaves zero values) good = ended_good (returned m func values)
  thread_good func (Leaves (suc l) values) good = tt
  thread_good func (Returns values) good = ended_good (returned m func values)
  thread_good func (Traps kind) good = (tt, tt)
  thread_good func Stuck good = tt

  step_good : (read : ℕ) (c : Config) → IsOfConfig c → GoodStep (step m read c)
  step_good read (Over end) is = tt
  step_good read (Running func vars body) is = thread_good func (reduce m read 1 func vars body) (reduce_good read 1 func vars body is)

  -- ---- a run

  abbrev GoodRan : Option Ran → Type 0
  GoodRan None = Unit {0}
  GoodRan (Some ran) = All (IsMadeBy Q) ran.events × IsOfConfig ran.config

  noted_all : (thread number : ℕ) (made : Option OpFields) (read : ℕ) → Makes made → All (IsMadeBy Q) (noted thread number made read)
  noted_all thread number None read good = All-nil (IsMadeBy Q)
  noted_all thread number (Some op) read good = All-cons (IsMadeBy Q) (event_made (record { thread = thread; number = number }) op read) [] good (All-nil (IsMadeBy Q))

  on_good : (thread : ℕ) (ran : Ran) (taken : Taken) (s : Step) → GoodRan (Some ran) → GoodStep s → GoodRan (ran_on thread ran taken s)
  on_good thread ran taken NoStep is good = tt
  on_good thread ran taken (ReducesTo made c) is good =
      (All-append (IsMadeBy Q) ran.events (noted thread (length ran.events) made taken.read) is.0 (noted_all thread (length ran.events) made taken.read good.0), good.1)

  with_good : (thread : ℕ) (ran : Ran) (o : Option Taken) → GoodRan (Some ran) → GoodRan (ran_with m thread ran o)
  with_good thread ran None is = tt
  with_good thread ran (Some taken) is = on_good thread ran taken (step m taken.read ran.config) is (step_good taken.read ran.config is.1)

  and_good : (thread : ℕ) (o : Option Ran) → GoodRan o → GoodRan (and_run_on m thread o)
  and_good thread None is = tt
  and_good thread (Some ran) is = with_good thread ran (take_read (access_of (step m 0 ran.config)) ran.reads) is

  steps_good : (thread : ℕ) (c : Config) (reads : List ℕ) (n : ℕ) → IsOfConfig c → GoodRan (steps m thread c reads n)
  steps_good thread c reads zero is = (All-nil (IsMadeBy Q), is)
  steps_good thread c reads (suc n) is = and_good thread (steps m thread c reads n) (steps_good thread c reads n is)

  abbrev GoodOutcome : Option Outcome → Type 0
  GoodOutcome None = Unit {0}
  GoodOutcome (Some outcome) = All (IsMadeBy Q) outcome.events

  outcome_with_good : (reads : List ℕ) (ran : Ran) → GoodRan (Some ran) → GoodOutcome (outcome_with reads ran)
  outcome_with_good [] ran is = is.0
  outcome_with_good (r ∷ reads) ran is = tt

  outcome_good : (o : Option Ran) → GoodRan o → GoodOutcome (outcome_of o)
  outcome_good None is = tt
  outcome_good (Some ran) is = outcome_with_good ran.reads ran is

  abbrev GoodStart : Result Config StartFault → Type 0
  GoodStart (Ok c) = IsOfConfig c
  GoodStart (Err fault) = Unit {0}

  if_starts : (b : Bool) (x y : Result Config StartFault) → GoodStart x → GoodStart y → GoodStart (if b then x else y)
  if_starts true x y p q = p
  if_starts false x y p q = q

  in_good : (func : ℕ) (o : Option Callable) (args : List ℕ) → callable m func ≡ o → GoodStart (started_in m func o args)
  in_good func None args is = tt
  in_good func (Some f) args is =
      if_starts (length args == length f.params) (if any_past f.params args then Err ArgRange else Ok (started_with m func f args)) (Err ArgCount)
      (if_starts (any_past f.params args) (Err ArgRange) (Ok (started_with m func f args)) tt (callee_all func f is)) tt

  by_good : (o : Option ℕ) (args : List ℕ) → GoodStart (started_by m o args)
  by_good None args = tt
  by_good (Some func) args = in_good func (callable m func) args refl

  at_good : (o : Option Export) (args : List ℕ) → GoodStart (started_at m o args)
  at_good None args = tt
  at_good (Some e) args = by_good (func_of e) args

  from_good : (thread : ℕ) (s : Result Config StartFault) (reads : List ℕ) (n : ℕ) → GoodStart s → GoodOutcome (run_from m thread s reads n)
  from_good thread (Err fault) reads n is = tt
  from_good thread (Ok c) reads n is = outcome_good (steps m thread c reads n) (steps_good thread c reads n is)

  run_good : (thread : ℕ) (name args reads : List ℕ) (n : ℕ) → GoodOutcome (run m thread name args reads n)
  run_good thread name args reads n = from_good thread (started m name args) reads n (at_good (export_at name m.exports) args)

  -- each event of runs of the module is made by an access of which Q holds
  pub events_stem : (log : List ThreadLog) → AreRuns m log → (key : EventKey) (e : Event) → event_in log key ≡ Some e → IsMadeBy Q e
  events_stem log runs key e at =
      let t = then_parts (slice_get log key.thread) (λ (t : ThreadLog). slice_get t.events key.number) e at in
      let is = runs key.thread t.0 t.1 in
      let all : All (IsMadeBy Q) t.0.events = subst GoodOutcome is (run_good key.thread _ _ _ _) in
      all_at (IsMadeBy Q) t.0.events key.number e all t.2

-- what holds of each instruction of each block of each function holds of a block of the module
pub each_block : (m : Module) (Q : Instr → Type 0) → All (λ (func : Func). All (All Q) func.blocks) m.funcs → (f n : ℕ) (body : List Instr) → block_in m.funcs f n ≡ Some body → All Q body
each_block m Q all f n body e =
    let func = then_parts (slice_get m.funcs f) (λ (func : Func). slice_get func.blocks n) body e in
    all_at (All Q) func.0.blocks n body (all_at (λ (g : Func). All (All Q) g.blocks) m.funcs f func.0 all func.1) func.2
