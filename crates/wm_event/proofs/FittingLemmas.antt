-- The witness of a well-shaped run fits its log.
use Rattle.std.proofs.Common.{◌≡◌, ℕ, length, get_or, cond, Some, ap, ◌∙◌}
use Rattle.std.proofs.lemmas.Option.{slice_get-get_or}
use Rattle.std.proofs.lemmas.List.{nil_from_length}
use Rattle.wm_event.specs.declared.event.Event.{Event}
use Rattle.wm_event.specs.declared.event.EventKind.{EventKind}
use Rattle.wm_access.specs.AccessWidth.{bytes_of}
use Rattle.wm_event.specs.Event.{kind_reads}
use Rattle.wm_event.specs.Fitting.{FitsEvent, FitsLog}
use Rattle.wm_event.specs.Log.{event_in}
use Rattle.wm_event.specs.LoggedRun.{LoggedRun}
use Rattle.wm_event.specs.Shape.{IsWellShaped}
use Rattle.wm_event.specs.Witness.{writers_in}
use Rattle.wm_event.proofs.LogLemmas.{event_in_thread}

no_writers : (run : LoggedRun) (t i : ℕ) (e : Event) → IsWellShaped run → event_in run.log (record { thread = t; number = i }) ≡ Some e → FitsEvent run.witness e
no_writers run t i e shape at is_write =
    let key = shape.keys (record { thread = t; number = i }) e at in
    let none : length (writers_in run.witness (record { thread = t; number = i })) ≡ 0 =
    (shape.good (record { thread = t; number = i }) e at).count ∙ ap (λ (kind : EventKind). cond (kind_reads kind) (bytes_of e.width) 0) is_write in
    rw (key.0, key.1) (nil_from_length _ none)

pub fits_log : (run : LoggedRun) → IsWellShaped run → FitsLog run.log run.witness
fits_log run shape = record {
  counts = shape.counts;
  writes = λ t thread t_in i e i_in.
      no_writers run t i (get_or (get_or run.log t thread).events i e) shape
      (event_in_thread run.log t i (get_or run.log t thread) (slice_get-get_or run.log t thread t_in) ∙ slice_get-get_or (get_or run.log t thread).events i e i_in);
}
