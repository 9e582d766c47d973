use Rattle.std.proofs.Common.{subst}
use Rattle.wm_explore.specs.Standing.{AreRaised}
use Rattle.wm_explore.specs.declared.past.Past.{Past}
use Rattle.wm_explore.proofs.StandingLaw.{known_with}
use Rattle.wm_explore.proofs.standing.pasts_with.Goals as goal

pub returns : goal.returns
returns c initial knows finds =
    known_with initial c.args.state.now c.args.next.now past c.in_ok-keys.keys c.in_ok-pasts.pasts knows
    (λ x takes. ((finds x takes).0, c.with_reads.ensures initial knows (λ y other. (finds y other).1) x takes, (finds x takes).2)) c.in_ok-keys.ensures
    (subst (λ ps. AreRaised c.in_ok-keys.keys c.with_reads.result ps c.in_ok-pasts.pasts) c.as_slice.ensures
    (subst (λ ks. AreRaised ks c.with_reads.result c.as_slice.result.now c.in_ok-pasts.pasts) c.as_slice-2.ensures c.in_ok-pasts.ensures)) c.push.new.self c.in_ok-push.ensures.ok
  where
    past : Past
    past = record { clock = c.args.past.clock; order = c.with_reads.result; source = c.args.past.source }
