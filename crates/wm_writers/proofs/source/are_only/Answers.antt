use Rattle.std.proofs.Common.{◌≡◌, get_or, refl, subst, arith, rules}
use Rattle.std.specs.Prelude.{All}
use Rattle.std.proofs.lemmas.List.{take_all}
use Rattle.wm_event.specs.declared.event.EventId.{EventId}
use Rattle.wm_event.specs.declared.event.EventId.TheVariants.{Init}
use Rattle.wm_writers.proofs.ListLemmas.{all-taken}
use Rattle.wm_writers.proofs.source.are_only.Goals as goal

pub loop-id-preserved : goal.loop-id-preserved
loop-id-preserved c =
    let fit = c.args.fit.now in
    let here : get_or fit c.loop-id.id-index Init ≡ c.args.writer = search rules in
    all-taken (λ (v : EventId). v ≡ c.args.writer) fit c.loop-id.id-index Init (omega arith) c.loop-id.invariant here

pub returns : goal.returns
returns c =
    (λ t. subst (All (λ (v : EventId). v ≡ c.args.writer)) (take_all c.loop-id.id-index c.args.fit.now (omega arith)) c.loop-id.invariant, λ all. refl)
