use Rattle.std.proofs.Common.{ℕ, None, Some, inl, inr, refl, subst}
use Rattle.std.specs.Prelude.{◌≡◌, ◌⊎◌, slice_get}
use Rattle.wm_event.specs.declared.event.Event.{Event}
use Rattle.wm_event.specs.declared.event.EventId.TheVariants.{At}
use Rattle.wm_event.specs.declared.event.EventKey.{EventKey}
use Rattle.wm_explore.specs.declared.past.Past.{Past}
use Rattle.wm_explore.specs.declared.state.State.{State}
use Rattle.wm_explore.specs.Past.{AreGained, AreGainedAt, CannotBegin, FindsFor, IsOnly}
use Rattle.wm_explore.proofs.PastLaw.{cannot_for}
use Rattle.wm_explore.proofs.past.gained_too.Goals as goal

pub returns-then-not-can_begin-clause-here : goal.returns-then-not-can_begin-clause-here
returns-then-not-can_begin-clause-here c = cannot_for c.args.initial.now c.args.state.now c.args.before.now c.args.next.now c.args.common _ (c.can_begin.ensures c.if-not-can_begin.true)

here : (s : State) (e : Event) (place : ℕ) (key : EventKey) → slice_get s.arrived place ≡ Some key → (p : Past) → AreGainedAt s e place key p → AreGained s e (At key) p
here s e place key at p (inl none) = record { clock = λ a counts. absurd (none.0 a counts); order = λ a counts. absurd (none.1 a counts) }
here s e place key at p (inr is) = record { clock = λ a counts. (place, key, refl, at, p, is, counts); order = λ a counts. (place, key, refl, at, p, is, counts) }

pub returns-in-None-clause-here : goal.returns-in-None-clause-here
returns-in-None-clause-here c =
    let gained = here c.args.state.now c.args.next.now c.args.place c.args.key c.requires.arrived c.gained-gained.result c.gained-gained.ensures in inr (record { clock = gained.clock; order = gained.order }, refl)

pub returns-in-None-clause-kept : goal.returns-in-None-clause-kept
returns-in-None-clause-kept c w finds = inl (subst (λ o. FindsFor c.args.initial.now c.args.state.now c.args.before.now c.args.next.now o w) c.in-None.is finds)

pub returns-in-Some-clause-here : goal.returns-in-Some-clause-here
returns-in-Some-clause-here c =
    let gained = here c.args.state.now c.args.next.now c.args.place c.args.key c.requires.arrived c.gained-gained.result c.gained-gained.ensures in
    inr (record { clock = λ a counts. gained.clock a (c.met.ensures a counts).1; order = λ a counts. gained.order a (c.met-in-Some.ensures a counts).1 }, tt)

pub returns-in-Some-clause-kept : goal.returns-in-Some-clause-kept
returns-in-Some-clause-kept c w finds = by (subst (λ o. FindsFor c.args.initial.now c.args.state.now c.args.before.now c.args.next.now o w) c.in-Some.is finds)
  where
    by : CannotBegin c.args.initial.now c.args.state.now c.args.before.now c.args.next.now w ⊎ (AreGained c.args.state.now c.args.next.now w c.in-Some.other × IsOnly w c.in-Some.other.source)
        → CannotBegin c.args.initial.now c.args.state.now c.args.before.now c.args.next.now w ⊎ (AreGained c.args.state.now c.args.next.now w (record { clock = c.met.result; order = c.met-in-Some.result; source = None }) × IsOnly w None)
    by (inl cannot) = inl cannot
    by (inr is) = inr (record { clock = λ a counts. is.0.clock a (c.met.ensures a counts).0; order = λ a counts. is.0.order a (c.met-in-Some.ensures a counts).0 }, tt)
