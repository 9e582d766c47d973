-- A completed log has the events of the log that it completes, and so its execution.
use Rattle.std.proofs.Common.{◌≡◌, ℕ, zero, suc, ◌+◌, List, [], ◌∷◌, length, fold, get_or, Option, refl, sym, ap, subst, ◌∙◌, arith}
use Rattle.std.specs.Prelude.{IsSome, option_and_then, slice_get}
use Rattle.wm_ast.specs.declared.module.Module.{Module}
use Rattle.wm_event.specs.declared.event.Event.{Event}
use Rattle.wm_event.specs.declared.event.EventId.{EventId}
use Rattle.wm_event.specs.declared.event.EventId.TheVariants.{Init, At}
use Rattle.wm_event.specs.declared.event.EventKey.{EventKey}
use Rattle.wm_event.specs.declared.log.ThreadLog.{ThreadLog}
use Rattle.wm_event.specs.declared.rule.Judgement.TheVariants as judgement
use Rattle.wm_event.specs.Execution.{Execution}
use Rattle.wm_event.specs.Faults.{Judges}
use Rattle.wm_event.specs.Log.{event_in}
use Rattle.wm_event.specs.LoggedRun.{LoggedRun, execution}
use Rattle.wm_event.specs.Rules.{IsValid}
use Rattle.wm_event.specs.Shape.{IsGoodEvent, IsThere, IsWellShaped, event_count}
use Rattle.wm_replay.specs.Complete.{IsCompletion}
use Rattle.wm_check.specs.declared.verdict.Breach.TheVariants.{Replay, Rule}
use Rattle.wm_check.specs.declared.verdict.Verdict.{Verdict}
use Rattle.wm_check.specs.declared.verdict.Verdict.TheVariants.{Allowed, Refused, Broken}
use Rattle.wm_check.specs.Verified.{JudgesRun, with_log}
use Rattle.wm_check.proofs.CompletedFits.{HaveSameEvents, have_same_events, same_counts}

-- the event of that number in that thread
abbrev event_of : List ThreadLog → ℕ → ℕ → Option Event
event_of log thread number = option_and_then (λ (t : ThreadLog). slice_get t.events number) (slice_get log thread)

same_event_of : (log completed : List ThreadLog) → length completed ≡ length log → HaveSameEvents log completed → (thread number : ℕ)
    → event_of completed thread number ≡ event_of log thread number
same_event_of [] [] count same thread number = refl
same_event_of [] (c ∷ completed) count same thread number = absurd (omega (arith, count))
same_event_of (t ∷ log) [] count same thread number = absurd (omega (arith, count))
same_event_of (t ∷ log) (c ∷ completed) count same zero number = ap (λ (es : List Event). slice_get es number) (same 0 t c refl refl)
same_event_of (t ∷ log) (c ∷ completed) count same (suc thread) number = same_event_of log completed (omega (arith, count)) (λ k. same (suc k)) thread number

same_event : (m : Module) (log completed : List ThreadLog) → IsCompletion m log completed → (key : EventKey) → event_in completed key ≡ event_in log key
same_event m log completed is key = same_event_of log completed is.count (have_same_events m log completed is) key.thread key.number

-- this number of events, and those of these threads
abbrev events_from : ℕ → List ThreadLog → ℕ
events_from count log = fold (λ (n : ℕ) (t : ThreadLog). n + length t.events) count log

same_events_from : (count : ℕ) (log completed : List ThreadLog) → length completed ≡ length log → HaveSameEvents log completed
    → events_from count completed ≡ events_from count log
same_events_from count [] [] size same = refl
same_events_from count [] (c ∷ completed) size same = absurd (omega (arith, size))
same_events_from count (t ∷ log) [] size same = absurd (omega (arith, size))
same_events_from count (t ∷ log) (c ∷ completed) size same =
    same_events_from (count + length c.events) log completed (omega (arith, size)) (λ k. same (suc k))
    ∙ ap (λ (es : List Event). events_from (count + length es) log) (same 0 t c refl refl)

same_total : (log completed : List ThreadLog) → length completed ≡ length log → HaveSameEvents log completed → event_count completed ≡ event_count log
same_total log completed size same = same_events_from 0 log completed size same

same_execution : (m : Module) (run : LoggedRun) (completed : List ThreadLog) → IsCompletion m run.log completed → execution run ≡ execution (with_log run completed)
same_execution m run completed is =
    ap (λ (events : EventKey → Option Event). record {
      event_of = events;
      writers_of = (execution run).writers_of;
      place_of = (execution run).place_of;
      initial = run.initial;
    }) (λ i key. sym (same_event m run.log completed is key) i)

-- the memory rules judge the log as they judge the completed one
pub judged_completed : (m : Module) (run : LoggedRun) (completed : List ThreadLog) (verdict : Verdict) → IsCompletion m run.log completed → JudgesRun run verdict
    → JudgesRun (with_log run completed) verdict
judged_completed m run completed (Allowed certificate) is judged = (
  subst IsValid (same_execution m run completed is) judged.0,
  (judged.1.0 ∙ sym is.count, judged.1.1 ∙ sym (same_total run.log completed is.count (have_same_events m run.log completed is))),
)
judged_completed m run completed (Refused refusal) is judged = absurd judged
judged_completed m run completed (Broken (Replay answer)) is judged = absurd judged
judged_completed m run completed (Broken (Rule fault)) is judged = subst (λ (x : Execution). Judges x (judgement.Broken fault)) (same_execution m run completed is) judged

is_there : (m : Module) (log completed : List ThreadLog) → IsCompletion m log completed → (id : EventId) → IsThere log id → IsThere completed id
is_there m log completed is Init there = there
is_there m log completed is (At key) there = subst IsSome (sym (same_event m log completed is key)) there

good_event : (m : Module) (log completed : List ThreadLog) (initial : List ℕ) (e : Event) (writers : List EventId) → IsCompletion m log completed
    → IsGoodEvent log initial e writers → IsGoodEvent completed initial e writers
good_event m log completed initial e writers is good = record {
  in_memory = good.in_memory;
  fits = good.fits;
  count = good.count;
  there = λ k d within. is_there m log completed is (get_or writers k d) (good.there k d within);
}

pub completed_shape : (m : Module) (run : LoggedRun) (completed : List ThreadLog) → IsCompletion m run.log completed → IsWellShaped run
    → IsWellShaped (with_log run completed)
completed_shape m run completed is shape =
    let same : HaveSameEvents run.log completed = have_same_events m run.log completed is in
    let event : (key : EventKey) → event_in completed key ≡ event_in run.log key = same_event m run.log completed is in record {
      keys = λ key e at. shape.keys key e (sym (event key) ∙ at);
      few = rw (same_total run.log completed is.count same) shape.few;
      counts = shape.counts ∙ sym (same_counts run.log completed is.count same);
      good = λ key e at. good_event m run.log completed run.initial e _ is (shape.good key e (sym (event key) ∙ at));
      order = record {
        listed = λ key some. shape.order.listed key (subst IsSome (event key) some);
        events = λ n key at. subst IsSome (sym (event key)) (shape.order.events n key at);
        once = shape.order.once;
      };
    }
