use Rattle.std.proofs.Common.{arith}
use Rattle.wm_event.specs.declared.event.EventKey.{EventKey}
use Rattle.wm_witness.specs.declared.assumption.Assumption.{Assumption}
use Rattle.wm_witness.specs.declared.assumption.Assumption.TheVariants.{Takes}
use Rattle.wm_witness.proofs.TearingLaw.{other-assumed}
use Rattle.wm_witness.proofs.tearing.takes_another.Goals as goal

pub returns-then-takes_other : goal.returns-then-takes_other
returns-then-takes_other c = λ t.
    let run = c.args.start.now in
    let assumed = c.args.assumed.now in
    let e = c.args.event.now in
    let zero : EventKey = record { thread = 0; number = 0 } in
    let none : Assumption = Takes zero zero in
    let inside = c.if-place-assumed in
    other-assumed run assumed e c.requires.event c.requires.free c.args.writer c.requires.like c.in-Some.place none (omega (arith, inside)) (c.if-takes_other.ensures t)
