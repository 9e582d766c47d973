use Rattle.std.proofs.Common.{◌++◌, codes, sym, ap, ap₂, ◌∙◌, [], ◌∷◌}
use Rattle.std.proofs.lemmas.Result.{IfOk-weaker}
use Rattle.wm_litmus.specs.Races.{site_text}
use Rattle.wm_litmus.specs.Trace.{done_text, pending_text, turn_text}
use Rattle.wm_litmus.proofs.TraceTexts.{ended_5}
use Rattle.wm_litmus.proofs.trace.turn_line.Goals as goal

pub returns : goal.returns
returns c =
    let run = c.args.run.now in
    let entry = c.args.entry.now in
    IfOk-weaker c.format.result _ _
    (λ text is. is
    ∙ ap₂ (λ done pending. turn_text entry.turn ++ (site_text c.args.site ++ (codes " " ++ (done ++ (pending ++ 10 ∷ []))))) c.in_ok-done.ensures (c.in_ok-pending.ensures ∙ ap pending_text c.as_slice.ensures)
    ∙ sym (ended_5 (turn_text entry.turn) (site_text c.args.site) (codes " ") (done_text run entry.done) (pending_text entry.pending)))
    c.format.ensures.ok
