use Rattle.std.proofs.Common.{◌≡◌, ◌+◌, List, [], ◌∷◌, ◌++◌, suc, get_or, take, map, string_bytes, refl, sym, ap, ◌∙◌, subst, arith, rules}
use Rattle.std.proofs.Math.Seq.{take-suc}
use Rattle.std.proofs.lemmas.List.{take_all}
use Rattle.wm_stream.specs.declared.answer.LineAnswer.{LineAnswer}
use Rattle.wm_stream.specs.Answers.{Joins, answered}
use Rattle.wm_stream.proofs.Printing.{joins_more}
use Rattle.wm_stream.proofs.batch.joined.Goals as goal

pub loop-answer-init : goal.loop-answer-init
loop-answer-init c = record { text_is = c.new-text.ensures.bytes; status_is = refl }

pub loop-answer-preserved : goal.loop-answer-preserved
loop-answer-preserved c =
    let i = c.loop-answer.answer-index in
    let answers = c.args.answers.now in
    let answer = c.answer-item.result in
    let more : LineAnswer = record { text = c.push_str.new.self; status = c.worse-status.result } in
    let item : get_or answers i answer ≡ answer = search rules in
    let one : i + 1 ≡ suc i = omega arith in
    let next : take (i + 1) answers ≡ take i answers ++ (answer ∷ []) = ap (λ n. take n answers) one ∙ take-suc answers i answer (search rules) ∙ ap (λ a. take i answers ++ (a ∷ [])) item in
    subst (λ (xs : List LineAnswer). Joins (map answered xs) more) (sym next)
    (joins_more (take i answers) answer record { text = c.loop-answer.text; status = c.loop-answer.status } more c.loop-answer.invariant
    (c.in_ok-push_str.ensures.bytes ∙ ap (λ bytes. string_bytes c.loop-answer.text ++ bytes) c.as_str.ensures.value) c.worse-status.ensures)

pub returns : goal.returns
returns c =
    let past = c.loop-answer-test.false in
    subst (λ (xs : List LineAnswer). Joins (map answered xs) record { text = c.loop-answer.text; status = c.loop-answer.status })
    (take_all c.loop-answer.answer-index c.args.answers.now past) c.loop-answer.invariant
