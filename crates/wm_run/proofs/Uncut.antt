-- A thread that has ended isn't cut.
use Rattle.std.proofs.Common.{◌≡◌, ◌≢◌, ℕ, zero, suc, Bool, true, false, cond, List, [], Option, Some, None, refl, ap, subst}
use Rattle.std.specs.Prelude.{Ok, Err, ⊤}
use Rattle.std.proofs.lemmas.Option.{none-some, same_Some}
use Rattle.wm_ast.specs.declared.exports.Export.{Export}
use Rattle.wm_ast.specs.declared.module.Module.{Module}
use Rattle.wm_ast.specs.Exports.{export_at}
use Rattle.wm_event.specs.declared.log.End.TheVariants.{Cut}
use Rattle.wm_event.specs.declared.log.Start.{Start}
use Rattle.wm_event.specs.declared.event.Event.{Event}
use Rattle.wm_machine.specs.declared.fault.StartFault.TheVariants.{ArgCount, ArgRange}
use Rattle.wm_machine.specs.declared.value.TypedValue.{TypedValue}
use Rattle.wm_machine.specs.Functions.{Callable, callable}
use Rattle.wm_machine.specs.Reach.{HasEnded}
use Rattle.wm_machine.specs.Run.{Ran, Taken, end_of, ran_on, ran_with, steps, take_read}
use Rattle.wm_machine.specs.Start.{any_past, func_of, started_at, started_by, started_in, started_with}
use Rattle.wm_machine.specs.Step.{access_of, ended, out_of_thread, reduce, returned, step, next_config}
use Rattle.wm_machine.specs.Term.{Config, Running, Over, Reduced, Next, Ends, Leaves, Returns, Traps, Stuck, Step, ReducesTo, NoStep}
use Rattle.wm_replay.proofs.Runs.{and_some}
use Rattle.wm_run.specs.Reached.{HasRun}

-- it goes on, or has an end of its own
abbrev pub IsUncut : Config → Type 0
IsUncut (Running func vars body) = ⊤
IsUncut (Over end) = end ≢ Cut

uncut_end : (o : Option (List TypedValue)) (c : Config) → next_config (ended o) ≡ Some c → IsUncut c
uncut_end None c e = absurd (none-some c e)
uncut_end (Some values) c e = subst IsUncut (same_Some _ c e) (λ q. cc)

uncut_thread : (m : Module) (func : ℕ) (r : Reduced) (c : Config) → next_config (out_of_thread m func r) ≡ Some c → IsUncut c
uncut_thread m func (Next made vars body) c e = subst IsUncut (same_Some _ c e) tt
uncut_thread m func (Ends values) c e = uncut_end (returned m func values) c e
uncut_thread m func (Leaves zero values) c e = uncut_end (returned m func values) c e
uncut_thread m func (Leaves (suc l) values) c e = absurd (none-some c e)
uncut_thread m func (Returns values) c e = uncut_end (returned m func values) c e
uncut_thread m func (Traps kind) c e = subst IsUncut (same_Some _ c e) (λ q. cc)
uncut_thread m func Stuck c e = absurd (none-some c e)

uncut_step : (m : Module) (read : ℕ) (old c : Config) → next_config (step m read old) ≡ Some c → IsUncut c
uncut_step m read (Over end) c e = absurd (none-some c e)
uncut_step m read (Running func vars body) c e = uncut_thread m func (reduce m read 1 func vars body) c e

-- ---- a start

either_start : (b past : Bool) (first c : Config) → cond b (cond past (Err ArgRange) (Ok first)) (Err ArgCount) ≡ Ok c → first ≡ c
either_start true true first c e = absurd (cc e)
either_start true false first c e = cc e
either_start false past first c e = absurd (cc e)

uncut_in : (m : Module) (func : ℕ) (o : Option Callable) (args : List ℕ) (c : Config) → started_in m func o args ≡ Ok c → IsUncut c
uncut_in m func None args c e = absurd (cc e)
uncut_in m func (Some f) args c e = subst IsUncut (either_start _ (any_past f.params args) (started_with m func f args) c e) tt

uncut_by : (m : Module) (func : Option ℕ) (args : List ℕ) (c : Config) → started_by m func args ≡ Ok c → IsUncut c
uncut_by m None args c e = absurd (cc e)
uncut_by m (Some func) args c e = uncut_in m func (callable m func) args c e

uncut_at : (m : Module) (o : Option Export) (args : List ℕ) (c : Config) → started_at m o args ≡ Ok c → IsUncut c
uncut_at m None args c e = absurd (cc e)
uncut_at m (Some x) args c e = uncut_by m (func_of x) args c e

-- ---- a run

uncut_on : (k : ℕ) (old : Ran) (taken : Taken) (m : Module) (s : Step) (ran : Ran) → step m taken.read old.config ≡ s → ran_on k old taken s ≡ Some ran → IsUncut ran.config
uncut_on k old taken m NoStep ran is e = absurd (none-some ran e)
uncut_on k old taken m (ReducesTo made c) ran is e =
    subst (λ (r : Ran). IsUncut r.config) (same_Some _ ran e) (uncut_step m taken.read old.config c (ap next_config is))

uncut_with : (m : Module) (k : ℕ) (old : Ran) (o : Option Taken) (ran : Ran) → ran_with m k old o ≡ Some ran → IsUncut ran.config
uncut_with m k old None ran e = absurd (none-some ran e)
uncut_with m k old (Some taken) ran e = uncut_on k old taken m (step m taken.read old.config) ran refl e

uncut_run : (m : Module) (k : ℕ) (first : Config) (reads : List ℕ) (n : ℕ) (ran : Ran) → IsUncut first → steps m k first reads n ≡ Some ran → IsUncut ran.config
uncut_run m k first reads zero ran uncut e = subst (λ (r : Ran). IsUncut r.config) (same_Some _ ran e) uncut
uncut_run m k first reads (suc n) ran uncut e =
    let last = and_some m k (steps m k first reads n) ran e in
    uncut_with m k last.0 (take_read (access_of (step m 0 last.0.config)) last.0.reads) ran last.2

uncut_ended : (c : Config) → IsUncut c → HasEnded c → end_of c ≢ Cut
uncut_ended (Running func vars body) uncut over = absurd over
uncut_ended (Over end) uncut over = uncut

-- a thread that has run and ended isn't cut
pub ran_uncut : (m : Module) (k : ℕ) (start : Start) (es : List Event) (n : ℕ) (c : Config) → HasRun m k start es n c → HasEnded c → end_of c ≢ Cut
ran_uncut m k start es n c has over = uncut_ended c (uncut_run m k has.0 _ n _ (uncut_at m (export_at start.name m.exports) start.args has.0 has.1) (has.2 [])) over
