use Rattle.std.proofs.Common.{◌++◌, ◌∷◌, [], refl, sym, ap, subst, append_assoc, ◌∙◌}
use Rattle.wm_explore.specs.Executions.{ends_of}
use Rattle.wm_explore.specs.Search.{Lists}
use Rattle.wm_explore.proofs.Beside.{takes_listed, takes_new}
use Rattle.wm_explore.proofs.subtrees.add_finished.Goals as goal

pub loop-other-preserved-in-Continue-1 : goal.loop-other-preserved-in-Continue-1
loop-other-preserved-in-Continue-1 c = (
  takes_new c.args.finished.now.items c.loop-other.yielded c.loop-other.finished.items c.loop-other.invariant.0 c.in-Some.other c.push.new.self.items c.in_ok-push.ensures.items
      (λ lists. c.if-not-is_listed.ensures.not refl (subst (λ fs. Lists fs (ends_of c.in-Some.other.log)) (sym c.as_slice.ensures.value) lists)),
  append_assoc c.loop-other.yielded (c.in-Some.other ∷ []) _ ∙ ap (λ left. c.loop-other.yielded ++ left) (sym c.in-Some.ensures.steps.0) ∙ c.loop-other.invariant.1,
)

pub loop-other-preserved : goal.loop-other-preserved
loop-other-preserved c = (
  takes_listed c.args.finished.now.items c.loop-other.yielded c.loop-other.finished.items c.loop-other.invariant.0 c.in-Some.other
      (subst (λ fs. Lists fs (ends_of c.in-Some.other.log)) c.as_slice.ensures.value (c.if-not-is_listed.ensures.listed refl)),
  append_assoc c.loop-other.yielded (c.in-Some.other ∷ []) _ ∙ ap (λ left. c.loop-other.yielded ++ left) (sym c.in-Some.ensures.steps.0) ∙ c.loop-other.invariant.1,
)
