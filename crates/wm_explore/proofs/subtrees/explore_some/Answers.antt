use Rattle.std.proofs.Common.{◌≡◌, ◌++◌, take, refl, sym, ap, take-append-drop, ◌∙◌}
use Rattle.wm_explore.specs.declared.search.Progress.{Progress}
use Rattle.wm_explore.proofs.Beside.{advances_beside, may_be_left}
use Rattle.wm_explore.proofs.subtrees.explore_some.Goals as goal

pub subtrees_of-requires-clause-states : goal.subtrees_of-requires-clause-states
subtrees_of-requires-clause-states g c κs within =
    let p = c.args.progress.now in
    let n = c.saturating_sub-first.result in
    let split : p.work.items ≡ take n p.work.items ++ c.in_ok-states.states.items = sym (take-append-drop n p.work.items) ∙ ap (λ ss. take n p.work.items ++ ss) (sym c.in_ok-states.ensures.tail) in
    may_be_left c.args.module.now c.args.starts.now c.args.limits.events p c.requires.progress (take n p.work.items) c.in_ok-states.states.items split

pub returns : goal.returns
returns g c =
    let p = c.args.progress.now in
    let n = c.saturating_sub-first.result in
    let split : p.work.items ≡ take n p.work.items ++ c.in_ok-states.states.items = sym (take-append-drop n p.work.items) ∙ ap (λ ss. take n p.work.items ++ ss) (sym c.in_ok-states.ensures.tail) in
    let rest : Progress = record { work = c.split_off.new.self; finished = p.finished; met = p.met } in
    advances_beside c.args.module.now c.args.starts.now c.args.limits.events p c.requires.progress (take n p.work.items) c.in_ok-states.states.items split rest c.in_ok-states.ensures.items refl refl
    c.in_ok-trees.trees.items c.in_ok-trees.ensures c.join_all.new.progress c.in_ok-graphs.ensures
