use Rattle.std.proofs.Common.{sym, ap, subst, ◌∙◌}
use Rattle.wm_explore.specs.Bounds.{IsExcused}
use Rattle.wm_explore.specs.Subtrees.{TakesIn}
use Rattle.wm_explore.proofs.Beside.{excused_too, joins}
use Rattle.wm_explore.proofs.search.Progress.join.Goals as goal

pub returns-in-Some : goal.returns-in-Some
returns-in-Some c =
    joins c.args.self.now c.args.other c.meet.new.self
    (ap (λ v. v.items) c.meet.ensures.work ∙ c.in_ok-add_states.ensures)
    (subst (λ fs. TakesIn c.args.self.now.finished.items c.args.other.finished.items fs.items) (sym c.meet.ensures.finished) c.in_ok-add_finished.ensures)
    c.meet.ensures.kept
    (λ events log why. c.meet.ensures.met events log (subst (λ b. IsExcused events b log) c.in-Some.is why))

pub returns-in_default : goal.returns-in_default
returns-in_default c =
    joins c.args.self.now c.args.other _ c.in_ok-add_states.ensures c.in_ok-add_finished.ensures
    (λ events log why. why)
    (λ events log why. excused_too events log c.args.other.met c.args.self.now.met c.in_default.is why)
