use Rattle.std.proofs.Common.{subst}
use Rattle.wm_event.specs.Event.{key_of}
use Rattle.wm_event.specs.LoggedRun.{LoggedRun, execution}
use Rattle.wm_rules.specs.Others.{IsOnlyWriter}
use Rattle.wm_rules.proofs.NearLemmas.{consistent_none}
use Rattle.wm_rules.proofs.sequential_consistency.is_surely_consistent.Goals as goal

pub returns-in-Some : goal.returns-in-Some
returns-in-Some c = λ is_not.
    let only = subst (λ (run : LoggedRun). IsOnlyWriter (execution run) (key_of c.args.event.now) c.in-Some.writer) c.candidate.ensures.value c.in-Some.ensures.only in
    consistent_none c.args.relation.now c.args.event.now c.in-Some.writer c.may_be_inconsistent.result c.requires only c.may_be_inconsistent.ensures is_not
