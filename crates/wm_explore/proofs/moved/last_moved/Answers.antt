use Rattle.std.proofs.Common.{◌≡◌, Some, sym, ap, subst, ◌∙◌}
use Rattle.std.specs.Prelude.{IfSome, slice_get}
use Rattle.std.proofs.lemmas.Bool.{ltb-true}
use Rattle.wm_replay.proofs.Logs.{places_in}
use Rattle.wm_event.specs.Limits.{max_steps}
use Rattle.wm_explore.specs.Executions.{starts_of}
use Rattle.wm_explore.specs.Moved.{IsMovedBy}
use Rattle.wm_machine.specs.State.{config_of}
use Rattle.wm_ast.specs.declared.module.Module.{Module}
use Rattle.wm_replay.specs.Following.{RunsByLog}
use Rattle.wm_explore.proofs.Items.{item_at}
use Rattle.wm_explore.proofs.Moving.{is_moved, start_at}
use Rattle.wm_explore.proofs.moved.last_moved.Goals as goal
use Rattle.wm_replay.specs.Positions.{IsFollowed}

pub followed_by-requires : goal.followed_by-requires
followed_by-requires c =
    let lookup = c.in-Some-get.ensures.lookup in
    let log = c.args.state.now.log in
    let k = c.in-Some.last.now.thread in
    let t = c.in-Some-get.stated.now in
    let at = item_at log c.threads.result.now k t c.threads.ensures.value (ltb-true _ _ (sym lookup.0)) lookup.1 in
    record { places = places_in log k t c.threads.ensures.keys at; recalls = (starts_of log, start_at log k t at, c.requires.recalls) }

pub moved_by-requires : goal.moved_by-requires
moved_by-requires c =
    let lookup = c.in-Some-get.ensures.lookup in
    let k = c.in-Some.last.now.thread in
    let t = c.in-Some-get.stated.now in
    let at = item_at c.args.state.now.log c.threads.result.now k t c.threads.ensures.value (ltb-true _ _ (sym lookup.0)) lookup.1 in
    let f = c.in-Some-2.followed in
    let is : IsFollowed c.args.module.now k t max_steps f = subst (λ o. IfSome o (IsFollowed c.args.module.now k t max_steps)) c.in-Some-2.is c.in_ok-followed_by.ensures in
    record {
      places = places_in c.args.state.now.log k t c.threads.ensures.keys at;
      runs = subst (λ (x : Module). RunsByLog x k t max_steps (config_of f.thread) f.steps f.events) (sym is.runs.1) is.runs.0;
      same = is.runs.1;
    }

pub returns-in-Some-find-clause-moved : goal.returns-in-Some-find-clause-moved
returns-in-Some-find-clause-moved c =
    let log = c.args.state.now.log in
    let k = c.in-Some.last.now.thread in
    let t = c.in-Some-get.stated.now in
    let lookup = c.in-Some-get.ensures.lookup in
    let at : slice_get log k ≡ Some t = item_at log c.threads.result.now k t c.threads.ensures.value (ltb-true _ _ (sym lookup.0)) lookup.1 in
    is_moved c.args.module.now c.args.state.now k t at c.in-Some-find.moved (c.in-Some-find.ensures c.args.module.now (starts_of log, start_at log k t at, c.requires.recalls))

pub returns-in_ok-keep-in-Some-2-clause-moved : goal.returns-in_ok-keep-in-Some-2-clause-moved
returns-in_ok-keep-in-Some-2-clause-moved c =
    let log = c.args.state.now.log in
    let k = c.in-Some.last.now.thread in
    let t = c.in-Some-get.stated.now in
    let lookup = c.in-Some-get.ensures.lookup in
    let at : slice_get log k ≡ Some t = item_at log c.threads.result.now k t c.threads.ensures.value (ltb-true _ _ (sym lookup.0)) lookup.1 in
    is_moved c.args.module.now c.args.state.now k t at c.in_ok-moved-in-Some-2.moved c.in_ok-moved-in-Some-2.ensures

pub returns-in_ok-keep-in-Some-2-clause-recalls : goal.returns-in_ok-keep-in-Some-2-clause-recalls
returns-in_ok-keep-in-Some-2-clause-recalls c =
    let m = c.args.module.now in
    let log = c.args.state.now.log in
    let k = c.in-Some.last.now.thread in
    let t = c.in-Some-get.stated.now in
    let lookup = c.in-Some-get.ensures.lookup in
    let at : slice_get log k ≡ Some t = item_at log c.threads.result.now k t c.threads.ensures.value (ltb-true _ _ (sym lookup.0)) lookup.1 in
    let f = c.in-Some-2.followed in
    let is : IsFollowed m k t max_steps f = subst (λ o. IfSome o (IsFollowed m k t max_steps)) c.in-Some-2.is c.in_ok-followed_by.ensures in
    let moved = c.in_ok-moved-in-Some-2.moved in
    let by : IsMovedBy m k t moved = c.in_ok-moved-in-Some-2.ensures in
    c.in_ok-keep-in-Some-2.ensures m (starts_of log) c.requires.recalls (ap (slice_get (starts_of log)) by.number ∙ start_at log k t at)
    (subst (λ j. IsMovedBy m j t moved) (sym by.number) by) (subst (λ j. IsFollowed m j t max_steps f) (sym by.number) is)
