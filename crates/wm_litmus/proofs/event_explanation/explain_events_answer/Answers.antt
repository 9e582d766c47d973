use Rattle.std.proofs.Common.{List, ℕ, subst, sym, string_bytes, ◌∙◌}
use Rattle.std.proofs.lemmas.Result.{IfOk-weaker}
use Rattle.wm_check.specs.Judged.{IsJudgedDocument}
use Rattle.wm_litmus.proofs.JudgedDocuments.{answers_rules, event_grounds}
use Rattle.wm_litmus.specs.EventExplanation.{AreStatedBy}
use Rattle.wm_litmus.proofs.event_explanation.explain_events_answer.Goals as goal

pub returns : goal.returns
returns g c =
    let bytes = c.args.bytes.now in
    let found = c.in_ok-judged.judged in
    let is = subst (λ (initial : List ℕ). IsJudgedDocument bytes initial found) c.zero_memory-initial.ensures c.in_ok-judged.ensures in
    let told = c.in_ok-answer.answer in
    IfOk-weaker c.with_reasons.result _ _
    (λ answer gains.
    let status = gains.status_is ∙ c.in_ok-answer.ensures.status_is in
    record {
      line = string_bytes told.text;
      reasons = c.as_str.result.now;
      rules = answers_rules bytes found answer.status (string_bytes told.text) is status c.in_ok-answer.ensures.text_is;
      text_is = gains.text_is;
      grounds = event_grounds bytes found answer.status c.as_str.result.now is status (subst (AreStatedBy found) (sym c.as_str.ensures.value) c.in_ok-reasons.ensures);
    })
    c.with_reasons.ensures
