use Rattle.std.proofs.Common.{sym, ap, subst, ◌∙◌}
use Rattle.std.specs.Prelude.{slice_get}
use Rattle.wm_explore.specs.Standing.{AreRaised}
use Rattle.wm_explore.specs.declared.past.Past.{Past}
use Rattle.wm_explore.proofs.Lists.{extended_other}
use Rattle.wm_explore.proofs.StandingLaw.{known_with}
use Rattle.wm_explore.proofs.state.State.into_child.Goals as goal

pub returns-clause-pasts : goal.returns-clause-pasts
returns-clause-pasts c initial knows finds =
    known_with initial c.args.self c.args.event past c.in_ok-keys.keys c.raise_all.new.pasts knows
    (λ x takes. ((finds x takes).0, c.with_reads.ensures initial knows (λ y other. (finds y other).1) x takes, (finds x takes).2)) c.in_ok-keys.ensures
    (subst (λ ks. AreRaised ks c.with_reads.result c.args.self.pasts c.raise_all.new.pasts) c.as_slice.ensures c.raise_all.ensures) c.push-2.new.self c.in_ok-push-2.ensures.ok
  where
    past : Past
    past = record { clock = c.args.past.clock; order = c.with_reads.result; source = c.args.past.source }

pub returns-clause-known : goal.returns-clause-known
returns-clause-known c m are k t next at_t at_next =
    let other = c.in_ok-known.ensures k next at_next in
    are.each k t next (sym (extended_other c.args.thread c.args.event c.args.self.log k other.0) ∙ ap (λ ts. slice_get ts k) (sym c.in_ok-log.ensures) ∙ at_t) other.1
