-- What a worker made of its thread.
use Rattle.std.proofs.Common.{◌≡◌, ℕ, ◌≤◌, ◌⊎◌, inl, inr, Bool, true, false, ◌||◌, List, refl, sym, ap, subst, ◌∙◌, arith}
use Rattle.wm_ast.specs.declared.module.Module.{Module}
use Rattle.wm_event.specs.declared.event.Event.{Event}
use Rattle.wm_event.specs.declared.log.Start.{Start}
use Rattle.wm_event.specs.declared.op.OpFields.{OpFields}
use Rattle.wm_logfile.specs.Document.{EndFits}
use Rattle.wm_machine.specs.Reach.{HasEnded}
use Rattle.wm_machine.specs.Run.{end_of}
use Rattle.wm_machine.specs.Start.{started}
use Rattle.wm_machine.specs.State.{State, config_of}
use Rattle.wm_machine.specs.Stepping.{IsIn}
use Rattle.wm_machine.specs.Term.{Config}
use Rattle.wm_recorder.specs.declared.access_fault.AccessFault.{AccessFault}
use Rattle.wm_run.specs.declared.rounds.ended.Stop.{Stop}
use Rattle.wm_run.specs.declared.rounds.ended.Stop.TheVariants.{Own, Gate, Memory}
use Rattle.wm_run.specs.declared.rounds.ended.ThreadEnd.{ThreadEnd}
use Rattle.wm_run.specs.Reached.{HasRun, LeadsTo, is_before_access}
use Rattle.wm_run.specs.Stops.{HasStopped, IsRefused, IsRefusedAfter, StopsFor, is_own}
use Rattle.wm_run.specs.Worker.{IsEndOf}
use Rattle.wm_run.proofs.Uncut.{ran_uncut}

own_ended : (is_open : Bool) (m : Module) (c : Config) (stop : Stop) → StopsFor is_open m c stop → stop ≡ Own → HasEnded c
own_ended is_open m c Own stops e = stops
own_ended is_open m c Gate stops e = absurd (cc e)
own_ended is_open m c Memory stops e = absurd (cc e)

gate_closed : (is_open : Bool) (m : Module) (c : Config) (stop : Stop) → StopsFor is_open m c stop → stop ≡ Gate → is_open ≡ false
gate_closed is_open m c Own stops e = absurd (cc e)
gate_closed is_open m c Gate stops e = stops.1
gate_closed is_open m c Memory stops e = absurd (cc e)

-- a thread that stopped before all of its steps
stopped_early : (is_open : Bool) (m : Module) (k : ℕ) (start own : Start) (n limit : ℕ) (stop : Stop) (c : Config) (es : List Event) (e : ThreadEnd) → StopsFor is_open m c stop → HasRun m k own es n c
    → (e.program.value ≡ m) × (e.thread ≡ k) × (e.start ≡ own) × (e.steps ≡ n) × (e.stop ≡ stop) → e.end ≡ end_of c → EndFits e.end → e.calls.drains ≡ 0 → n ≤ limit → own ≡ start → IsEndOf is_open m k start limit e
stopped_early is_open m k start own n limit stop c es e stops has given ends fits undrained few same = record {
  of_module = given.0;
  of_thread = given.1;
  of_start = given.2 ∙ same;
  within = omega (arith, given.3, few);
  whole = λ by_itself cut. absurd (ran_uncut m k own es n c has (own_ended is_open m c stop stops (sym given.4 ∙ by_itself)) (sym ends ∙ cut));
  held = λ gate. gate_closed is_open m c stop stops (sym given.4 ∙ gate);
  fits = fits;
  undrained = undrained;
}

-- a thread that made all of its steps
stopped_late : (is_open : Bool) (m : Module) (k : ℕ) (start own : Start) (n limit : ℕ) (stop : Stop) (e : ThreadEnd) → stop ≡ Own → n ≡ limit
    → (e.program.value ≡ m) × (e.thread ≡ k) × (e.start ≡ own) × (e.steps ≡ n) × (e.stop ≡ stop) → EndFits e.end → e.calls.drains ≡ 0 → own ≡ start → IsEndOf is_open m k start limit e
stopped_late is_open m k start own n limit stop e by_itself all given fits undrained same = record {
  of_module = given.0;
  of_thread = given.1;
  of_start = given.2 ∙ same;
  within = omega (arith, given.3, all);
  whole = λ _ _. given.3 ∙ all;
  held = λ gate. own_is_not_gate (sym by_itself ∙ (sym given.4 ∙ gate));
  fits = fits;
  undrained = undrained;
}
  where
    own_is_not_gate : Own ≡ Gate → is_open ≡ false
    own_is_not_gate is = absurd (cc is)

end_by : (is_open : Bool) (m : Module) (k : ℕ) (start own : Start) (n limit : ℕ) (stop : Stop) (c : Config) (es : List Event) (e : ThreadEnd) → ((stop ≡ Own) × (n ≡ limit)) ⊎ StopsFor is_open m c stop → HasRun m k own es n c
    → (e.program.value ≡ m) × (e.thread ≡ k) × (e.start ≡ own) × (e.steps ≡ n) × (e.stop ≡ stop) → e.end ≡ end_of c → EndFits e.end → e.calls.drains ≡ 0 → n ≤ limit → own ≡ start → IsEndOf is_open m k start limit e
end_by is_open m k start own n limit stop c es e (inl all) has given ends fits undrained few same = stopped_late is_open m k start own n limit stop e all.0 all.1 given fits undrained same
end_by is_open m k start own n limit stop c es e (inr stops) has given ends fits undrained few same = stopped_early is_open m k start own n limit stop c es e stops has given ends fits undrained few same

own_or_before : (is_open : Bool) (m : Module) (c : Config) (stop : Stop) → StopsFor is_open m c stop → (is_own stop || is_before_access m c) ≡ true
own_or_before is_open m c Own stops = refl
own_or_before is_open m c Gate stops = stops.0
own_or_before is_open m c Memory stops = stops

stops_well : (is_open : Bool) (m : Module) (c : Config) (stop : Stop) (n limit : ℕ) → ((stop ≡ Own) × (n ≡ limit)) ⊎ StopsFor is_open m c stop → (is_own stop || is_before_access m c) ≡ true
stops_well is_open m c stop n limit (inl all) = ap (λ s. is_own s || is_before_access m c) all.0
stops_well is_open m c stop n limit (inr stops) = own_or_before is_open m c stop stops

-- ---- what a started thread did until it stopped

pub run_of_stopped : (is_open : Bool) (m : Module) (k : ℕ) (start own : Start) (old new : State) (es : List Event) (limit n : ℕ) (stop : Stop) → IsIn m (started m start.name start.args) old → own ≡ start
    → HasStopped is_open k old new es limit n stop → HasRun m k own es n (config_of new)
run_of_stopped is_open m k start own old new es limit n stop is_in same has =
    subst (λ x. HasRun m k x es n (config_of new)) (sym same) (config_of old, is_in.0, subst (λ x. LeadsTo x k (config_of old) es n (config_of new)) is_in.1 has.leads)

pub stop_of_stopped : (is_open : Bool) (m : Module) (k : ℕ) (start : Start) (old new : State) (es : List Event) (limit n : ℕ) (stop : Stop) → IsIn m (started m start.name start.args) old
    → HasStopped is_open k old new es limit n stop → (is_own stop || is_before_access m (config_of new)) ≡ true
stop_of_stopped is_open m k start old new es limit n stop is_in has =
    subst (λ x. (is_own stop || is_before_access x (config_of new)) ≡ true) is_in.1 (stops_well is_open old.module (config_of new) stop n limit has.stops)

pub end_of_stopped : (is_open : Bool) (m : Module) (k : ℕ) (start own : Start) (old new : State) (es : List Event) (limit n : ℕ) (stop : Stop) (e : ThreadEnd) → IsIn m (started m start.name start.args) old → own ≡ start
    → HasStopped is_open k old new es limit n stop → (e.program.value ≡ m) × (e.thread ≡ k) × (e.start ≡ own) × (e.steps ≡ n) × (e.stop ≡ stop)
    → e.end ≡ end_of (config_of new) → EndFits e.end → e.calls.drains ≡ 0 → IsEndOf is_open m k start limit e
end_of_stopped is_open m k start own old new es limit n stop e is_in same has given ends fits undrained =
    end_by is_open m k start own n limit stop (config_of new) es e (subst (λ x. ((stop ≡ Own) × (n ≡ limit)) ⊎ StopsFor is_open x (config_of new) stop) is_in.1 has.stops)
    (run_of_stopped is_open m k start own old new es limit n stop is_in same has) given ends fits undrained has.within same

-- a thread that the memory stopped was refused its next access
pub refused_after : (refuses : ℕ → OpFields → AccessFault → Type 0) (is_open : Bool) (m : Module) (k : ℕ) (start own : Start) (old new : State) (es : List Event) (limit n : ℕ) (stop : Stop) (e : ThreadEnd)
    → IsIn m (started m start.name start.args) old → own ≡ start → HasStopped is_open k old new es limit n stop
    → (e.program.value ≡ m) × (e.thread ≡ k) × (e.start ≡ own) × (e.steps ≡ n) × (e.stop ≡ stop) → e.calls.events ≡ es → (stop ≡ Memory → IsRefused refuses old.module k (config_of new))
    → e.stop ≡ Memory → IsRefusedAfter refuses m k start e.calls.events e.steps
refused_after refuses is_open m k start own old new es limit n stop e is_in same has given events refused memory =
    let run : HasRun m k start es n (config_of new) = subst (λ x. HasRun m k x es n (config_of new)) same (run_of_stopped is_open m k start own old new es limit n stop is_in same has) in
    let by : IsRefused refuses m k (config_of new) = subst (λ x. IsRefused refuses x k (config_of new)) is_in.1 (refused (sym given.4 ∙ memory)) in
    rw (events, given.3) (config_of new, run, by)
