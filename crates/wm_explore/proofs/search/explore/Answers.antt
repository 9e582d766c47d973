use Rattle.std.proofs.Common.{◌≡◌, ◌∷◌, ◌++◌, [], None, length, rules, vec_len, inr, ap, arith, ◌∙◌}
use Rattle.std.proofs.lemmas.Bool.Decides.{nat_tests}
use Rattle.wm_explore.specs.declared.search.Progress.{Progress}
use Rattle.wm_explore.proofs.Beside.{covers_each}
use Rattle.wm_explore.proofs.Exploring.{begins, begins_covering, empty_if, explores, none_left_for, stands_itself}
use Rattle.wm_explore.proofs.search.explore.Goals as goal

pub loop-init : goal.loop-init
loop-init g c =
    let p : Progress = record { work = c.push.new.self; finished = c.new-2.result; met = None } in
    let work : c.push.new.self.items ≡ c.in_ok-first_state.field-0 ∷ [] = c.in_ok-push.ensures.items ∙ ap (λ xs. xs ++ c.in_ok-first_state.field-0 ∷ []) c.new.ensures.items in record {
      progress = begins c.args.starts.now c.in_ok-first_state.field-0 c.in_ok-first_state.ensures c.args.module.now c.args.limits.events p work c.new-2.ensures.items;
      covers = λ x is causal. (x, stands_itself c.args.module.now c.args.starts.now x is causal, begins_covering c.args.starts.now c.in_ok-first_state.field-0 c.in_ok-first_state.ensures c.args.module.now c.args.limits.events p work c.new-2.ensures.items x is);
    }

pub returns-then-is_empty : goal.returns-then-is_empty
returns-then-is_empty g c =
    let p = c.loop.progress in
    let long : length p.work.items ≡ vec_len p.work = search rules in
    explores c.args.module.now c.args.starts.now c.args.limits.events p c.loop.invariant.progress _ c.from_vec.ensures
    (λ x is causal. none_left_for c.args.module.now c.args.starts.now c.args.limits.events p (empty_if p.work.items (λ some. grind (arith, nat_tests, long, c.is_empty.ensures, c.if-is_empty.true, some))) x (c.loop.invariant.covers x is causal))

pub loop-preserved : goal.loop-preserved
loop-preserved g c =
    let steps = c.in_ok-explore_some.ensures in record {
      progress = steps.progress;
      covers = covers_each c.args.module.now c.args.starts.now c.args.limits.events c.loop.progress c.explore_some.new.progress steps c.loop.invariant.covers;
    }

pub returns : goal.returns
returns g c =
    explores c.args.module.now c.args.starts.now c.args.limits.events c.loop.progress c.loop.invariant.progress _ (c.from_vec-2.ensures ∙ ap (λ v. v.items) c.meet.ensures.finished)
    (λ x is causal. inr (c.meet.ensures.met c.args.limits.events x.log tt))
