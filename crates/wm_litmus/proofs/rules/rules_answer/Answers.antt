use Rattle.std.proofs.lemmas.Result.{IfOk-weaker}
use Rattle.std.proofs.Common.{List, ℕ, subst}
use Rattle.wm_check.specs.Judged.{IsJudgedDocument}
use Rattle.wm_litmus.proofs.JudgedDocuments.{answers_rules}
use Rattle.wm_litmus.proofs.rules.rules_answer.Goals as goal

pub returns : goal.returns
returns g c =
    let bytes = c.args.bytes.now in
    let found = c.in_ok-judged.judged in
    let is = subst (λ (initial : List ℕ). IsJudgedDocument bytes initial found) c.zero_memory-initial.ensures c.in_ok-judged.ensures in
    IfOk-weaker c.judged_line.result _ _ (λ answer prints. answers_rules bytes found answer.status _ is prints.status_is prints.text_is) c.judged_line.ensures
