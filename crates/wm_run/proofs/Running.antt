-- A thread that needs anything hasn't ended.
use Rattle.std.proofs.Common.{◌≡◌, ℕ, List, ◌∷◌, [], Option, Some, None, sym}
use Rattle.wm_ast.specs.declared.module.Module.{Module}
use Rattle.wm_event.specs.declared.log.End.{End}
use Rattle.wm_event.specs.declared.op.OpFields.{OpFields}
use Rattle.wm_machine.specs.declared.call_frame.CallFrame.{CallFrame}
use Rattle.wm_machine.specs.declared.thread.Need.{Need}
use Rattle.wm_machine.specs.declared.thread.Need.TheVariants as need
use Rattle.wm_machine.specs.Configuration.{under, waiting as waiting_call}
use Rattle.wm_machine.specs.Reach.{HasEnded}
use Rattle.wm_machine.specs.State.{State, config_from, config_of, need_in, need_of}
use Rattle.wm_machine.specs.Term.{Term, Vars}

under_runs : (m : Module) (cs : List CallFrame) (func : ℕ) (vars : Vars) (t : Term) → HasEnded (under m cs func vars t) → ⊥
under_runs m [] func vars t over = over
under_runs m (c ∷ cs) func vars t over = under_runs m cs c.func (record vars { locals = c.locals }) (waiting_call m c func vars.locals t) over

runs_in : (o : Option End) (s : State) (n : Need) → need_in o 0 s ≡ n → ((end : End) → n ≡ need.Ended end → ⊥) → HasEnded (config_from o s) → ⊥
runs_in None s n is none over = under_runs s.module s.call_stack _ _ _ over
runs_in (Some end) s n is none over = none end (sym is)

pub runs_of_other : (s : State) (n : Need) → need_of 0 s ≡ n → ((end : End) → n ≡ need.Ended end → ⊥) → HasEnded (config_of s) → ⊥
runs_of_other s = runs_in s.ended s

pub runs_of_local : (s : State) → need_of 0 s ≡ need.Local → HasEnded (config_of s) → ⊥
runs_of_local s is over = runs_in s.ended s need.Local is (λ end e. absurd (cc e)) over

pub runs_of_access : (s : State) (op : OpFields) → need_of 0 s ≡ need.Access op → HasEnded (config_of s) → ⊥
runs_of_access s op is over = runs_in s.ended s (need.Access op) is (λ end e. absurd (cc e)) over
