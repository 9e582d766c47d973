use Rattle.std.proofs.Common.{subst}
use Rattle.wm_event.specs.Event.{key_of}
use Rattle.wm_event.specs.LoggedRun.{LoggedRun, execution}
use Rattle.wm_rules.specs.Others.{IsOnlyWriter}
use Rattle.wm_rules.proofs.NearLemmas.{coherent_none}
use Rattle.wm_rules.proofs.coherence.is_surely_coherent.Goals as goal

pub returns-in-Some : goal.returns-in-Some
returns-in-Some c = λ is_not.
    let only = subst (λ (run : LoggedRun). IsOnlyWriter (execution run) (key_of c.args.event.now) c.in-Some.writer) c.candidate.ensures.value c.in-Some.ensures.only in
    coherent_none c.args.relation.now c.args.event.now c.in-Some.writer c.may_be_incoherent.result c.requires only c.may_be_incoherent.ensures is_not
