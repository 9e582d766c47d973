-- A thread of a valid module begins with a configuration that fits, and stepped on from each such one to another.
use Rattle.std.proofs.Common.{◌≡◌, ℕ, zero, suc, List, [], ◌∷◌, ◌++◌, map, length, Option, Some, None, Result, Ok, Err, refl, sym, ap, subst, ◌∙◌, Bool, true, false, arith}
use Rattle.std.specs.Prelude.{slice_get, if◌then◌else◌, ◌==◌, All}
use Rattle.std.proofs.lemmas.Bool.{eqb-true}
use Rattle.std.proofs.lemmas.List.{map-append}
use Rattle.std.proofs.lemmas.List.Elements.{All-head, All-tail}
use Rattle.wm_ast.specs.declared.module.Module.{Module}
use Rattle.wm_ast.specs.declared.module.Func.{Func}
use Rattle.wm_ast.specs.declared.module.Global.{Global}
use Rattle.wm_ast.specs.declared.module.ConstExpr.{ConstExpr}
use Rattle.wm_ast.specs.declared.module.ConstExpr.TheVariants as constant
use Rattle.wm_ast.specs.declared.types.FuncType.{FuncType}
use Rattle.wm_ast.specs.declared.types.ValType.{ValType}
use Rattle.wm_ast.specs.declared.types.ValType.TheVariants as value
use Rattle.wm_ast.specs.declared.instr.Instr.{Instr}
use Rattle.wm_ast.specs.Types.{width_of}
use Rattle.wm_ast.specs.Module.{func_type, block_in}
use Rattle.wm_event.specs.declared.log.End.{End}
use Rattle.wm_event.specs.declared.log.End.TheVariants.{Done}
use Rattle.wm_valid.specs.Valid.{Valid, GoodGlobal, IsConstant}
use Rattle.wm_valid.proofs.StackLaws.{some_is}
use Rattle.wm_machine.specs.declared.value.TypedValue.{TypedValue}
use Rattle.wm_machine.specs.declared.call_frame.CallFrame.{CallFrame}
use Rattle.wm_machine.specs.declared.fault.StartFault.{StartFault}
use Rattle.wm_machine.specs.declared.fault.StartFault.TheVariants.{ArgCount, ArgRange}
use Rattle.wm_machine.specs.Values.{typed, zero_of, constant_of, initial_of}
use Rattle.wm_machine.specs.Functions.{Callable, callable, callable_of}
use Rattle.wm_machine.specs.Term.{Vars, Term, Config, Running, Over, Reduced, Next, Ends, Leaves, Returns, Traps, Stuck}
use Rattle.wm_machine.specs.Step.{carried_by, returned, ended, out_of_thread, step, next_config, result_of}
use Rattle.wm_machine.specs.Start.{any_past, arguments, started_with, started_in}
use Rattle.wm_machine.specs.Configuration.{under, waiting}
use Rattle.wm_event.specs.declared.op.Reply.{Reply}
use Rattle.wm_machine.specs.State.{State, Sound, RepliesTo, need_in, need_of, config_of, config_from}
use Rattle.wm_machine.specs.declared.thread.Need.TheVariants.{Local}
use Rattle.wm_machine.proofs.Running.{not_ended}
use Rattle.wm_machine.proofs.Calls.{running_in}
use Rattle.wm_machine.specs.Fits.{val_type, types_of, global_type, IsFunc, here, Carries, Fine, FitsConfig}
use Rattle.wm_machine.proofs.TypeLists.{typed_as, zeros_are}
use Rattle.wm_machine.proofs.Progress.{callee_there, type_in, carries, ends_carry, step_fine}

arguments_are : (params : List ValType) (args : List ℕ) → length args ≡ length params → types_of (arguments params args) ≡ params
arguments_are [] args e = refl
arguments_are (t ∷ params) [] e = absurd (omega arith)
arguments_are (t ∷ params) (a ∷ args) e =
    let h : val_type (typed (width_of t) a) ≡ t = typed_as t a in
    let k = arguments_are params args (omega arith) in
    cc

constant_is : (t : ValType) (c : ConstExpr) → IsConstant t c → val_type (constant_of c) ≡ t
constant_is value.I32 (constant.I32 n) h = refl
constant_is value.I32 (constant.I64 n) h = absurd h
constant_is value.I64 (constant.I32 n) h = absurd h
constant_is value.I64 (constant.I64 n) h = refl

globals_are : (gs : List Global) → All GoodGlobal gs → types_of (map initial_of gs) ≡ map global_type gs
globals_are [] h = refl
globals_are (g ∷ gs) h =
    let e : val_type (initial_of g) ≡ global_type g = constant_is g.ty g.init (All-head GoodGlobal g gs h) in
    let k = globals_are gs (All-tail GoodGlobal g gs h) in
    cc

abbrev tested : Bool → Bool → Config → Result Config StartFault
tested b c start = if b then (if c then Err ArgRange else Ok start) else Err ArgCount

started_tests : (b c : Bool) (start config : Config) → tested b c start ≡ Ok config → (b ≡ true) × (start ≡ config)
started_tests true true start config e = absurd cc
started_tests true false start config e = (refl, cc)
started_tests false c start config e = absurd cc

no_type : (f : Option Func) (body : Option (List Instr)) → callable_of f None body ≡ None
no_type None body = refl
no_type (Some f) body = refl

pub started_fits : (m : Module) → Valid m → (func : ℕ) (args : List ℕ) (c : Config) → started_in m func (callable m func) args ≡ Ok c → FitsConfig m c
started_fits m valid func args c e = typed (func_type m func) refl
  where
    typed : (o : Option FuncType) → func_type m func ≡ o → FitsConfig m c
    typed None h =
        let k : callable m func ≡ None = ap (λ (o : Option FuncType). callable_of (slice_get m.funcs func) o (block_in m.funcs func 0)) h ∙ no_type (slice_get m.funcs func) (block_in m.funcs func 0) in
        let q : started_in m func None args ≡ Ok c = sym (ap (λ (o : Option Callable). started_in m func o args) k) ∙ e in
        absurd cc
    typed (Some ty) h =
        let its = callee_there m valid func ty h in
        let f : Callable = record { params = ty.params; locals = its.function.locals; body = its.block.body } in
        let q : started_in m func (Some f) args ≡ Ok c = sym (ap (λ (o : Option Callable). started_in m func o args) its.is_callable) ∙ e in
        let t = started_tests (length args == length ty.params) (any_past ty.params args) (started_with m func f args) c q in
        let l : length args ≡ length ty.params = eqb-true (length args) (length ty.params) t.0 in
        let locals : types_of (arguments ty.params args ++ map zero_of its.function.locals) ≡ ty.params ++ its.function.locals =
        map-append val_type (arguments ty.params args) (map zero_of its.function.locals)
        ∙ ap (λ (ts : List ValType). ts ++ types_of (map zero_of its.function.locals)) (arguments_are ty.params args l)
        ∙ ap (λ (ts : List ValType). ty.params ++ ts) (zeros_are its.function.locals) in
        let fits : FitsConfig m (started_with m func f args) = record {
          function = its.function;
          type = ty;
          is_there = its.is_there;
          variables = record { locals = locals; globals = globals_are m.globals valid.globals };
          left = here 0 its.block.typed;
        } in
        subst (FitsConfig m) t.1 fits

-- there is a next configuration, and it fits
abbrev pub HasNextConfig : Module → ℕ → Config → Type 0
HasNextConfig m read c = (next : Config) × (next_config (step m read c) ≡ Some next) × FitsConfig m next

module _ (m : Module) (func : ℕ) (f : Func) (ty : FuncType) (is : IsFunc m func f ty) where
  abbrev StepsTo : Reduced → Type 0
  StepsTo r = (next : Config) × (next_config (out_of_thread m func r) ≡ Some next) × FitsConfig m next

  ended_has_next : (values : List TypedValue) → Carries ty.result values → (next : Config) × (next_config (ended (returned m func values)) ≡ Some next) × FitsConfig m next
  ended_has_next values c =
      let v = carries ty.result values c in
      let e : returned m func values ≡ Some v.0 = ap (λ (o : Option FuncType). carried_by o values) (type_in m func f ty is) ∙ v.1 in
      (Over (Done (result_of v.0)), ap (λ (o : Option (List TypedValue)). next_config (ended o)) e, tt)

  thread_has_next : (r : Reduced) → Fine m f ty (ty.result ∷ []) ty.result r → StepsTo r
  thread_has_next (Next made vars body) h = (Running func vars body, refl, record { function = f; type = ty; is_there = is; variables = h.1; left = h.0 })
  thread_has_next (Ends values) h = ended_has_next values (ends_carry ty.result values h)
  thread_has_next (Leaves zero values) h = ended_has_next values (subst (λ (x : Option ValType). Carries x values) (sym (some_is ty.result h.0 h.1)) h.2)
  thread_has_next (Leaves (suc l) values) h = absurd (cc h.1)
  thread_has_next (Returns values) h = ended_has_next values h
  thread_has_next (Traps kind) h = (_, refl, tt)
  thread_has_next Stuck h = absurd h

pub never_stuck : (m : Module) → Valid m → (c : Config) → FitsConfig m c → ((end : End) → c ≡ Over end → ⊥) → (read : ℕ) → HasNextConfig m read c
never_stuck m valid (Running func vars body) fits not read =
    thread_has_next m func fits.function fits.type fits.is_there _ (step_fine m valid read 1 func fits.function fits.type (fits.type.result ∷ []) fits.type.result vars body fits.is_there fits.variables fits.left)
never_stuck m valid (Over end) fits not read = absurd (not end refl)

under_is_not_over : (m : Module) (cs : List CallFrame) (func : ℕ) (vars : Vars) (t : Term) (end : End) → under m cs func vars t ≡ Over end → ⊥
under_is_not_over m [] func vars t end e = cc
under_is_not_over m (c ∷ cs) func vars t end e = under_is_not_over m cs c.func (record vars { locals = c.locals }) (waiting m c func vars.locals t) end e

is_not_over : (o : Option End) (s : State) → o ≡ None → (end : End) → config_from o s ≡ Over end → ⊥
is_not_over None s h end e = under_is_not_over s.module s.call_stack _ _ _ end e
is_not_over (Some x) s h end e = cc

-- the thread as contracts see it
abbrev state : Module → Option End → CallFrame → List CallFrame → List TypedValue → State
state m o a cs globals = record { «module» = m; ended = o; running = a; call_stack = cs; globals = globals }

pub has_next_config : (s : State) → Sound s → s.ended ≡ None → (read : ℕ) → HasNextConfig s.module read (config_of s)
has_next_config s sound h read = never_stuck s.module sound.valid (config_of s) sound.fits (is_not_over s.ended s h) read

module _ (m : Module) (read : ℕ) (a : CallFrame) (cs : List CallFrame) (globals : List TypedValue) where
  pub has_step : (o : Option End) → o ≡ None → Sound (state m o a cs globals) → next_config (step m read (running_in m globals cs a)) ≡ None → ⊥
  has_step None h sound e =
      let g = has_next_config (state m None a cs globals) sound refl read in
      let q : None ≡ Some g.0 = sym e ∙ g.1 in
      cc
  has_step (Some end) h sound e = absurd cc

  -- what a step makes of a sound thread is sound
  pub sound_after : (o : Option End) (a' : CallFrame) (cs' : List CallFrame) (globals' : List TypedValue) → o ≡ None → Sound (state m o a cs globals) → next_config (step m read (running_in m globals cs a)) ≡ Some (running_in m globals' cs' a') → Sound (state m o a' cs' globals')
  sound_after None a' cs' globals' h sound e =
      let g = has_next_config (state m None a cs globals) sound refl read in
      record { valid = sound.valid; fits = subst (FitsConfig m) (some_is g.0 (running_in m globals' cs' a') (sym g.1 ∙ e)) g.2 }
  sound_after (Some end) a' cs' globals' h sound e = absurd cc

not_ended_of_need : (o : Option End) (s : State) (read : ℕ) → need_in o read s ≡ Local → o ≡ None
not_ended_of_need None s read h = refl
not_ended_of_need (Some end) s read h = cc

pub steps_on : (s old : State) → Sound s → s ≡ old → (read : ℕ) → need_of read old ≡ Local → (c : Config) × (next_config (step old.module read (config_of old)) ≡ Some c)
steps_on s old sound e read needs =
    let g = has_next_config old (subst Sound e sound) (not_ended_of_need old.ended old read needs) read in
    (g.0, g.1)

pub advances : (s old : State) (reply : Option Reply) → Sound s → s ≡ old → RepliesTo (need_of 0 old) reply → (read : ℕ) → (c : Config) × (next_config (step old.module read (config_of old)) ≡ Some c)
advances s old reply sound e answers read =
    let g = has_next_config old (subst Sound e sound) (not_ended old reply answers) read in
    (g.0, g.1)
