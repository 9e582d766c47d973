-- What a thread's need means for its next step.
use Rattle.std.specs.Prelude.{◌≢◌, ◌⊎◌, slice_get}
use Rattle.std.proofs.Common.{◌≡◌, ℕ, ◌<◌, inl, inr, List, [], ◌∷◌, length, get_or, Option, Some, None, refl, ap, sym, subst, ◌∙◌}
use Rattle.std.proofs.lemmas.Option.{get_or_from_slice_get, none-some, same_Some, slice_get-get_or}
use Rattle.wm_event.specs.declared.event.Event.{Event}
use Rattle.wm_event.specs.declared.log.End.{End}
use Rattle.wm_event.specs.declared.log.End.TheVariants.{Cut}
use Rattle.wm_event.specs.declared.op.OpFields.{OpFields}
use Rattle.wm_machine.specs.declared.thread.Need.{Need}
use Rattle.wm_machine.specs.declared.thread.Need.TheVariants as need
use Rattle.wm_machine.specs.Run.{end_of}
use Rattle.wm_machine.specs.State.{State, as_need, config_from, config_of, need_in, need_of}
use Rattle.wm_machine.specs.Step.{access_of, step, next_config}
use Rattle.wm_machine.specs.Stepping.{HasNoLocalStep}
use Rattle.wm_replay.specs.Following.{Accesses, MakesEvent, MakesNotEvent}
use Rattle.wm_machine.specs.Term.{Config, Over, Step, Term, Vars, ReducesTo, NoStep}
use Rattle.wm_machine.specs.Configuration.{left_of, under, waiting}
use Rattle.wm_machine.specs.Inside.{vars_of}
use Rattle.wm_machine.specs.declared.call_frame.CallFrame.{CallFrame}
use Rattle.wm_ast.specs.declared.module.Module.{Module}

as_access : (o : Option OpFields) (op : OpFields) → as_need o ≡ need.Access op → o ≡ Some op
as_access None op e = absurd (cc e)
as_access (Some x) op e = cc e

as_local : (o : Option OpFields) → as_need o ≡ need.Local → o ≡ None
as_local None e = refl
as_local (Some x) e = absurd (cc e)

never_ended : (o : Option OpFields) (end : End) → as_need o ≡ need.Ended end → ⊥
never_ended None end e = absurd (cc e)
never_ended (Some x) end e = absurd (cc e)

-- the next step of a thread makes the access that it needs
access_in : (o : Option End) (s : State) (r : ℕ) (op : OpFields) → need_in o r s ≡ need.Access op → access_of (step s.module r (config_of s)) ≡ Some op
access_in None s r op e = as_access (access_of (step s.module r (config_of s))) op e
access_in (Some end) s r op e = absurd (cc e)

pub access_of_need : (s : State) (r : ℕ) (op : OpFields) → need_of r s ≡ need.Access op → access_of (step s.module r (config_of s)) ≡ Some op
access_of_need s r op e = access_in s.ended s r op e

local_in : (o : Option End) (s : State) (r : ℕ) → need_in o r s ≡ need.Local → access_of (step s.module r (config_of s)) ≡ None
local_in None s r e = as_local (access_of (step s.module r (config_of s))) e
local_in (Some end) s r e = absurd (cc e)

pub local_of_need : (s : State) (r : ℕ) → need_of r s ≡ need.Local → access_of (step s.module r (config_of s)) ≡ None
local_of_need s r e = local_in s.ended s r e

ended_in : (o : Option End) (s : State) (r : ℕ) (end : End) → need_in o r s ≡ need.Ended end → config_from o s ≡ Over end
ended_in None s r end e = absurd (never_ended (access_of (step s.module r (config_of s))) end e)
ended_in (Some x) s r end e = ap Over (let same : x ≡ end = cc e in same)

-- a thread that has ended is at its end
pub ended_of_need : (s : State) (r : ℕ) (end : End) → need_of r s ≡ need.Ended end → config_of s ≡ Over end
ended_of_need s r end e = ended_in s.ended s r end e

pub no_step_of_need : (s : State) (r : ℕ) (end : End) → need_of r s ≡ need.Ended end → step s.module 0 (config_of s) ≡ NoStep
no_step_of_need s r end e = ap (step s.module 0) (ended_of_need s r end e)

-- where there is no local step and no access there is no step
pub no_step_left : (s : State) (n : Need) → need_of 0 s ≡ n → HasNoLocalStep n → ((op : OpFields) → n ≢ need.Access op) → step s.module 0 (config_of s) ≡ NoStep
no_step_left s need.Local is none other = absurd none
no_step_left s (need.Access op) is none other = absurd (other op refl)
no_step_left s (need.Ended end) is none other = no_step_of_need s 0 end is

-- a step that is made, by its access
pub made_access : (s : Step) (op : OpFields) (c : Config) → access_of s ≡ Some op → next_config s ≡ Some c → s ≡ ReducesTo (Some op) c
made_access NoStep op c is next = absurd (none-some op is)
made_access (ReducesTo made after) op c is next = ap (λ o. ReducesTo o after) is ∙ ap (ReducesTo (Some op)) (same_Some after c next)

pub made_local : (s : Step) (c : Config) → access_of s ≡ None → next_config s ≡ Some c → s ≡ ReducesTo None c
made_local NoStep c is next = absurd (none-some c next)
made_local (ReducesTo made after) c is next = ap (λ o. ReducesTo o after) is ∙ ap (ReducesTo None) (same_Some after c next)

pub no_step : (s : Step) → next_config s ≡ None → s ≡ NoStep
no_step NoStep e = refl
no_step (ReducesTo made after) e = absurd (none-some after (sym e))

-- a step that makes an access is one
pub access_has_next : (s : Step) (op : OpFields) → access_of s ≡ Some op → next_config s ≡ None → ⊥
access_has_next NoStep op is e = none-some op is
access_has_next (ReducesTo made after) op is e = none-some after (sym e)

-- a thread in the midst of its calls is cut
under_is_cut : (m : Module) (cs : List CallFrame) (func : ℕ) (vars : Vars) (t : Term) → end_of (under m cs func vars t) ≡ Cut
under_is_cut m [] func vars t = refl
under_is_cut m (c ∷ cs) func vars t = under_is_cut m cs c.func (record vars { locals = c.locals }) (waiting m c func vars.locals t)

is_cut_in : (o : Option End) (s : State) (r : ℕ) (n : Need) → need_in o r s ≡ n → ((end : End) → n ≢ need.Ended end) → end_of (config_from o s) ≡ Cut
is_cut_in None s r n is none = under_is_cut s.module s.call_stack s.running.func (vars_of s.running s.globals) (left_of s.module s.running.func s.running.control_stack)
is_cut_in (Some end) s r n is none = absurd (none end (sym is))

-- a thread that needs something is cut
pub cut_of_need : (s : State) (r : ℕ) (n : Need) → need_of r s ≡ n → ((end : End) → n ≢ need.Ended end) → end_of (config_of s) ≡ Cut
cut_of_need s r n is none = is_cut_in s.ended s r n is none

-- what needs no step or an access hasn't ended
pub is_not_ended : (n : Need) → (n ≡ need.Local) ⊎ ((op : OpFields) × (n ≡ need.Access op)) → (end : End) → n ≢ need.Ended end
is_not_ended n (inl e) end f = absurd (cc (e, f))
is_not_ended n (inr e) end f = absurd (cc (e.1, f))

-- ---- an event by its number

-- an event of the list isn't made by an access, as far as the list has it
pub other_at : (op : OpFields) (es : List Event) (n : ℕ) (d : Event) → MakesNotEvent op (get_or es n d) → (e : Event) → slice_get es n ≡ Some e → MakesNotEvent op e
other_at op es n d other e is = subst (MakesNotEvent op) (get_or_from_slice_get es n e d is) other

-- the step makes the access that is the event of this number
pub access_at : (m : Module) (old new : Config) (op : OpFields) (es : List Event) (n : ℕ) (d : Event) → n < length es → MakesEvent op (get_or es n d)
    → ((r : ℕ) → access_of (step m r old) ≡ Some op) → next_config (step m (get_or es n d).read old) ≡ Some new → Accesses m old new es n
access_at m old new op es n d lt made asks next = record {
  op = op;
  event = get_or es n d;
  listed = slice_get-get_or es n d lt;
  makes = made;
  asks = asks;
  steps_to = made_access (step m (get_or es n d).read old) op new (asks (get_or es n d).read) next;
}
