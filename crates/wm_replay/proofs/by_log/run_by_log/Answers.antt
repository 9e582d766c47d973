use Rattle.std.proofs.Common.{◌≡◌, ◌+◌, ◌∙◌, Some, true, false, refl, sym, subst, arith}
use Rattle.wm_ast.specs.declared.module.Module.{Module}
use Rattle.wm_machine.specs.Local.{local_steps}
use Rattle.wm_machine.specs.Paths.{Moves}
use Rattle.wm_machine.specs.State.{State, config_of}
use Rattle.wm_replay.specs.declared.by_log.Progress.{Progress}
use Rattle.wm_replay.specs.Following.{RunsByLog}
use Rattle.wm_replay.specs.Following.Stops.{at_limit}
use Rattle.wm_replay.specs.Positions.{IsReached, MovesIfMade, NotesPosition, goes_on}
use Rattle.wm_replay.proofs.Comparing.{follows_event, follows_locally, makes_next_in, runs_by_log, runs_no_further}
use Rattle.wm_replay.proofs.Onward.{follows_so}
use Rattle.wm_replay.proofs.Positions.{positions_on}
use Rattle.wm_replay.proofs.Reaching.{after_steps, reached_locally}
use Rattle.wm_replay.proofs.by_log.run_by_log.Goals.{then-progress-limit-via-then-progress-limit, then-progress-limit-via-else-progress-limit+in_ok-event_by_log+then-not-branch}
use Rattle.wm_replay.proofs.by_log.run_by_log.Goals as goal

pub returns-then-progress-limit-clause-runs : goal.returns-then-progress-limit-clause-runs
returns-then-progress-limit-clause-runs c =
    let m = c.args.thread.now.module in
    let k = c.args.number in
    let t = c.args.stated.now in
    let come = c.loop-local.invariant.come in
    let start = come.start in
    let old = config_of c.loop-local.thread in
    let at = config_of c.run.new.self in
    let j = c.loop-local.progress.steps in
    let i = c.in-Ok.local in
    let n = c.loop-local.progress.events in
    let local = subst (λ x. local_steps x old i ≡ Some at) c.loop-local.invariant.module c.in-Ok.ensures.made in
    let so_far = follows_so m k t c.loop-local.thread j n c.loop-local.progress.positions.items c.requires.places come in
    let here = follows_locally m k t start old at j n i so_far local in
    let at_thread = λ (x : State). RunsByLog m k t c.args.limit (config_of x) (j + i) n in
    let at_progress = λ (p : Progress). RunsByLog m k t c.args.limit (config_of c.then-progress-limit.thread) p.steps p.events in
    elim c.then-progress-limit.branch [
      | then-progress-limit-via-then-progress-limit w ↦
          let all : j + i ≡ c.args.limit = omega (arith, w.if-progress-limit.true, c.in-Ok.ensures.most) in
          subst at_progress (sym w.progress-is) (subst at_thread (sym w.thread-is) (runs_by_log m k t c.args.limit start at (j + i) n here (at_limit all)))
      | then-progress-limit-via-else-progress-limit+in_ok-event_by_log+then-not-branch w ↦
          let new = config_of w.event_by_log.new.thread in
          let same = c.in-Ok.ensures.same ∙ c.loop-local.invariant.module in
          let stopped = makes_next_in m c.run.new.self.module at new t.events c.as_slice-stated_events.result.now n false _
          same c.as_slice-stated_events.ensures w.if-not-branch.true w.in_ok-event_by_log.ensures.made in
          subst at_progress (sym w.progress-is) (subst at_thread (sym w.thread-is) (runs_no_further m k t c.args.limit start at new (j + i) n here w.if-progress-limit.false stopped))
    ]

pub returns-then-progress-limit-clause-reached : goal.returns-then-progress-limit-clause-reached
returns-then-progress-limit-clause-reached c =
    let m = c.args.thread.now.module in
    let k = c.args.number in
    let t = c.args.stated.now in
    let s = c.run.new.self in
    let j = c.loop-local.progress.steps in
    let i = c.in-Ok.local in
    let come = c.loop-local.invariant.come in
    let reached = reached_locally m k t come.start come.is_start c.loop-local.progress.events j c.loop-local.thread s i c.loop-local.invariant.module come.ran_so come.reached c.in-Ok.ensures.path in
    let at_thread = λ (x : State). IsReached m k t (j + i) x in
    let at_progress = λ (p : Progress). IsReached m k t p.steps c.then-progress-limit.thread in
    elim c.then-progress-limit.branch [
      | then-progress-limit-via-then-progress-limit w ↦ subst at_progress (sym w.progress-is) (subst at_thread (sym w.thread-is) reached)
      | then-progress-limit-via-else-progress-limit+in_ok-event_by_log+then-not-branch w ↦
          let stays = subst (MovesIfMade s w.event_by_log.new.thread) w.if-not-branch.true w.in_ok-event_by_log.ensures.moves in
          subst at_progress (sym w.progress-is) (subst at_thread (sym (w.thread-is ∙ stays)) reached)
    ]

pub loop-local-preserved : goal.loop-local-preserved
loop-local-preserved c =
    let m = c.args.thread.now.module in
    let k = c.args.number in
    let t = c.args.stated.now in
    let come = c.loop-local.invariant.come in
    let start = come.start in
    let old = config_of c.loop-local.thread in
    let s = c.run.new.self in
    let new = config_of c.event_by_log.new.thread in
    let before = c.loop-local.progress in
    let j = before.steps in
    let i = c.in-Ok.local in
    let n = before.events in
    let same : s.module ≡ m = c.in-Ok.ensures.same ∙ c.loop-local.invariant.module in
    let local = subst (λ x. local_steps x old i ≡ Some (config_of s)) c.loop-local.invariant.module c.in-Ok.ensures.made in
    let here = follows_locally m k t start old (config_of s) j n i (follows_so m k t c.loop-local.thread j n before.positions.items c.requires.places come) local in
    let made = makes_next_in m s.module (config_of s) new t.events c.as_slice-stated_events.result.now n true _
    same c.as_slice-stated_events.ensures c.if-not-branch.false c.in_ok-event_by_log.ensures.made in
    let noted = subst (NotesPosition s before.positions.items c.event_by_log.new.positions.items) c.if-not-branch.false c.in_ok-event_by_log.ensures.noted in
    let moved = subst (MovesIfMade s c.event_by_log.new.thread) c.if-not-branch.false c.in_ok-event_by_log.ensures.moves in
    let further = follows_event m k t start (config_of s) new (j + i) n here made in
    let reached = reached_locally m k t start come.is_start n j c.loop-local.thread s i c.loop-local.invariant.module come.ran_so come.reached c.in-Ok.ensures.path in
    record {
      within = omega (arith, c.if-progress-limit.false);
      «module» = c.in_ok-event_by_log.ensures.same ∙ same;
      come = record {
        start = start;
        is_start = come.is_start;
        listed = further.listed;
        ran_so = further.ran_so;
        reached = goes_on reached (after_steps m k t start come.is_start (j + i + 1) (n + 1) new further.ran_so) (subst (λ (x : Module). Moves x s c.event_by_log.new.thread) same moved);
        made_at = positions_on m k t start come.is_start s new (j + i) n before.positions.items _ here.ran_so made noted same reached come.made_at;
      };
    }

pub loop-local-init : goal.loop-local-init
loop-local-init c = record { within = c.requires.within; «module» = refl; come = c.requires.come }
