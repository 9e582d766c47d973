-- A state in which each thread has ended, and its completion.
use Rattle.std.proofs.Common.{◌≡◌, ℕ, ◌<◌, ◌≤◌, List, length, inl, inr, Some, sym, ap, subst, ◌∙◌, arith}
use Rattle.std.specs.Prelude.{◌⊎◌, slice_get}
use Rattle.std.proofs.lemmas.Bool.{cases_order}
use Rattle.std.proofs.lemmas.Option.{same_Some, slice_get_within}
use Rattle.wm_ast.specs.declared.module.Module.{Module}
use Rattle.wm_event.specs.declared.log.Start.{Start}
use Rattle.wm_event.specs.declared.log.ThreadLog.{ThreadLog}
use Rattle.wm_event.specs.LoggedRun.{LoggedRun}
use Rattle.wm_machine.specs.Run.{Outcome, run}
use Rattle.wm_replay.specs.Complete.{IsCompletion, IsLongestRun, IsWithoutRun, MakesEvents}
use Rattle.wm_replay.specs.Continuing.{GoesOn as RunGoesOn, IsEndedRun}
use Rattle.wm_replay.specs.Replay.{reads_of}
use Rattle.wm_replay.specs.declared.continuing.Next.{Next}
use Rattle.wm_replay.specs.declared.answer.ReplayAnswer.{ReplayAnswer}
use Rattle.wm_replay.specs.declared.answer.ReplayAnswer.TheVariants.{Same, StartRefused, Differs}
use Rattle.wm_replay.proofs.Continuations.{no_longer}
use Rattle.wm_explore.specs.Executions.{IsExecutionOf, IsFinished, ends_of}
use Rattle.wm_explore.specs.States.{GoesOn}
use Rattle.wm_explore.specs.Turns.{AreNexts, EachEndsIn, EndSo}
use Rattle.wm_explore.specs.declared.state.State.{State}
use Rattle.wm_explore.proofs.Alike.{each_alike, events_of}
use Rattle.wm_explore.proofs.Beginnings.{ended_run, first_thread, whole_thread}
use Rattle.wm_explore.proofs.Ends.{end_at, same_ends}
use Rattle.wm_explore.proofs.Turning.{item_within}

-- an ended run of thread k that makes the events of t makes them in so many steps
makes : (m : Module) (k : ℕ) (t u : ThreadLog) → IsEndedRun m k t u → u.events ≡ t.events → MakesEvents m k t u.steps
makes m k t u is same = (
  u.end,
  ap (λ es. run m k t.start.name t.start.args (reads_of es) u.steps) (sym same) ∙ ap (λ (s : Start). run m k s.name s.args (reads_of u.events) u.steps) (sym is.start) ∙ is.is_run
      ∙ ap (λ es. Some (record { events = es; end = u.end })) same,
)

-- its longest run ends as it does
same_end : (m : Module) (k : ℕ) (t u c : ThreadLog) → IsEndedRun m k t u → u.events ≡ t.events → u.steps ≤ 1000000 → IsLongestRun m k t c → c.end ≡ u.end
same_end m k t u c is same within longest = by (cases_order c.steps u.steps)
  where
    starts : c.start ≡ u.start
    starts = longest.start ∙ sym is.start

    events : c.events ≡ u.events
    events = longest.events ∙ sym same

    by : (c.steps ≡ u.steps) ⊎ ((c.steps < u.steps) ⊎ (u.steps < c.steps)) → c.end ≡ u.end
    by (inl e) =
        let one : run m k u.start.name u.start.args (reads_of u.events) u.steps ≡ Some (record { events = c.events; end = c.end }) =
        ap (λ (s : Start). run m k s.name s.args (reads_of u.events) u.steps) (sym starts) ∙ ap (λ es. run m k c.start.name c.start.args (reads_of es) u.steps) (sym events)
        ∙ ap (λ n. run m k c.start.name c.start.args (reads_of c.events) n) (sym e) ∙ longest.is_run in
        ap (λ (o : Outcome). o.end) (same_Some _ _ (sym one ∙ is.is_run))
    by (inr (inl lt)) = absurd (longest.longest u.steps lt within (makes m k t u is same))
    by (inr (inr gt)) = absurd (no_longer m k u c starts events is.is_run longest.is_run is.ended gt)

module _ (m : Module) (starts : List Start) (x : LoggedRun) (s : State) (is : IsExecutionOf m starts x) (on : GoesOn x s) (ends : EachEndsIn m s.log) where
  -- the threads of the execution have no further events
  whole : (k : ℕ) (t u : ThreadLog) → slice_get s.log k ≡ Some t → slice_get x.log k ≡ Some u → (u.events ≡ t.events) × (u.steps ≤ 1000000)
  whole k t u at_t at_u =
      let so = (ends k t at_t).1 u (ended_run m starts x s.log is on.beginning k t u at_t at_u) in
      (so.0, so.1)

  -- the threads of a log that end as these threads do next end as the execution does
  pub ends_so : (nexts : List Next) → AreNexts m s.log nexts → (log : List ThreadLog) → EndSo log nexts → ends_of log ≡ ends_of x.log
  ends_so nexts are log so = same_ends log x.log (length log) counts (omega arith) (λ k t u lt at_t at_u.
      let first = first_thread s.log x.log on.beginning k u at_u in
      let next = item_within nexts k (let same = so.count in omega (arith, lt, same)) in
      let runs = are.each k first.0 next.0 first.1 next.1 u (ended_run m starts x s.log is on.beginning k first.0 u first.1 at_u) in
      sym (subst (λ n. RunGoesOn k first.0 u n) (so.each k t next.0 at_t next.1) runs).2)
    where
      counts : length log ≡ length x.log
      counts = so.count ∙ are.count ∙ on.beginning.count

  module _ (completed : List ThreadLog) (completion : IsCompletion m s.log completed) where
    counts : length completed ≡ length x.log
    counts = completion.count ∙ on.beginning.count

    -- the completion ends as the execution does
    pub same_ends_too : ends_of completed ≡ ends_of x.log
    same_ends_too = same_ends completed x.log (length completed) counts (omega arith) (λ k c u lt at_c at_u.
        let t = first_thread s.log x.log on.beginning k u at_u in
        let w = whole k t.0 u t.1 at_u in
        same_end m k t.0 u c (ended_run m starts x s.log is on.beginning k t.0 u t.1 at_u) w.0 w.1 (completion.threads k t.0 c t.1 at_c))

    pub completed_finished : IsFinished completed
    completed_finished k c at_c cut =
        let lt = slice_get_within completed k c at_c in
        let u = item_within x.log k (let count = counts in omega (arith, lt, count)) in
        is.finished k u.0 u.1 (sym (end_at completed x.log k c u.0 same_ends_too at_c u.1) ∙ cut)

    -- and has its events
    pub same_events_too : events_of x.log ≡ events_of completed
    same_events_too = each_alike x.log completed (sym counts) (λ k u c at_u at_c.
        let t = first_thread s.log x.log on.beginning k u at_u in
        (whole k t.0 u t.1 at_u).0 ∙ sym (completion.threads k t.0 c t.1 at_c).events)

  -- there is a completion
  pub has_run : (answer : ReplayAnswer) → IsWithoutRun m s.log answer → ⊥
  has_run Same none = none
  has_run (StartRefused k fault) none =
      let u = whole_thread s.log x.log on.beginning k none.thread none.is_thread in
      let w = whole k none.thread u.0 none.is_thread u.1 in
      none.none u.0.steps w.1 (makes m k none.thread u.0 (ended_run m starts x s.log is on.beginning k none.thread u.0 none.is_thread u.1) w.0)
  has_run (Differs k place) none =
      let u = whole_thread s.log x.log on.beginning k none.thread none.is_thread in
      let w = whole k none.thread u.0 none.is_thread u.1 in
      none.none u.0.steps w.1 (makes m k none.thread u.0 (ended_run m starts x s.log is on.beginning k none.thread u.0 none.is_thread u.1) w.0)
