use Rattle.std.proofs.Common.{◌<◌, ◌≤◌, refl, subst, sym}
use Rattle.wm_machine.specs.State.{config_of}
use Rattle.wm_replay.specs.Complete.{IsLongestRun, ending}
use Rattle.wm_replay.proofs.Longest.{is_longest, no_steps, stop_at_differs}
use Rattle.wm_replay.proofs.completing.run_of.Goals as goal

pub returns-then-followed-len : goal.returns-then-followed-len
returns-then-followed-len c =
    let f = c.args.followed.now in
    let m = f.thread.module in
    let t = c.args.stated.now in
    let at = config_of f.thread in
    let left = subst (λ n. f.events < n) c.len.ensures c.if-followed-len.true in (
      no_steps m c.args.number t at f.steps f.events c.requires.places c.requires.runs left,
      (refl, stop_at_differs m c.args.number t at f.steps f.events c.requires.places c.requires.runs left),
    )

pub returns : goal.returns
returns c =
    let f = c.args.followed.now in
    let m = f.thread.module in
    let t = c.args.stated.now in
    let at = config_of f.thread in
    let all = subst (λ n. n ≤ f.events) c.len.ensures c.if-followed-len.false in
    subst (λ end. IsLongestRun m c.args.number t (ending t f.steps end)) (sym c.end_of.ensures) (is_longest m c.args.number t at f.steps f.events c.requires.places c.requires.runs all)
