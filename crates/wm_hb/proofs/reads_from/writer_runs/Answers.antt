use Rattle.std.proofs.Common.{◌≡◌, ◌≤◌, ◌++◌, ◌∷◌, [], ◌+◌, Some, get_or, slice_get, length, arith, refl, subst, sym, ◌∙◌}
use Rattle.std.proofs.lemmas.Option.{slice_get-get_or}
use Rattle.wm_event.specs.declared.event.EventId.TheVariants.{Init}
use Rattle.wm_hb.specs.declared.reads_from.WriterRun.{WriterRun}
use Rattle.wm_hb.specs.ReadsFrom.{AreFromWriters}
use Rattle.wm_hb.proofs.ReadsFromLaws.{HasRunsTo, runs_all, runs_next, runs_on}
use Rattle.wm_hb.proofs.reads_from.writer_runs.Goals.{then-is_last+in_ok-push, else-is_last}
use Rattle.wm_hb.proofs.reads_from.writer_runs.Goals as goal

pub loop-last-preserved : goal.loop-last-preserved
loop-last-preserved c =
    let writers = c.writers-writers.result.now in
    let runs = c.loop-last.runs in
    let n = c.loop-last.last in
    let next : WriterRun = record { writer = get_or writers n Init; first = c.loop-last.first; last = n } in
    let here : slice_get writers n ≡ Some (get_or writers n Init) = slice_get-get_or writers n Init c.loop-last-test.true in
    elim c.if-is_last.branch [
      | then-is_last+in_ok-push w ↦ subst (λ so_far. HasRunsTo writers so_far c.if-is_last.first (n + 1)) (sym (w.runs-is ∙ w.in_ok-push.ensures.ok))
          (subst (λ f. HasRunsTo writers (runs ++ next ∷ []) f (n + 1)) (sym w.first-is) (runs_next writers runs next c.loop-last.invariant here (w.if-is_last.ensures.ended refl)))
      | else-is_last w ↦ subst (λ so_far. HasRunsTo writers so_far c.if-is_last.first (n + 1)) (sym w.runs-is)
          (subst (λ f. HasRunsTo writers runs f (n + 1)) (sym w.first-is) (runs_on writers runs c.loop-last.first n c.loop-last.invariant (w.if-is_last.ensures.same refl)))
    ]

pub returns : goal.returns
returns c =
    let n = c.loop-last.last in
    let all : length c.writers-writers.result.now ≤ n = omega (arith, c.loop-last-test.false) in
    subst (λ ws. AreFromWriters ws c.loop-last.runs) c.writers-writers.ensures.value
    (runs_all c.writers-writers.result.now c.loop-last.runs c.loop-last.first n c.loop-last.invariant all)
