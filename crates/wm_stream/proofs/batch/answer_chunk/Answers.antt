use Rattle.std.proofs.Common.{◌≡◌, ◌+◌, ℕ, List, [], ◌∷◌, ◌++◌, Bor, suc, get_or, take, string_bytes, refl, sym, ap, ◌∙◌, subst, arith, rules}
use Rattle.std.proofs.Math.Seq.{take-suc}
use Rattle.std.proofs.lemmas.List.{map-append, take_all}
use Rattle.wm_stream.specs.declared.answer.LineAnswer.{LineAnswer}
use Rattle.wm_stream.specs.Answers.{AnswersTogether, texts_of}
use Rattle.wm_stream.proofs.Printing.{together_more, together_none}
use Rattle.wm_stream.proofs.batch.answer_chunk.Goals as goal

pub loop-line-init : goal.loop-line-init
loop-line-init g c = together_none (g.J.AnswersLines.says c.args.judge.now) record { text = c.new-text.result; status = _ } c.new-text.ensures.bytes refl

pub loop-line-preserved : goal.loop-line-preserved
loop-line-preserved g c =
    let i = c.loop-line.line-index in
    let lines = c.args.lines.now in
    let line : Bor (List ℕ) = get_or lines i record { ref_ptr = (0, 0); now = [] } in
    let says = g.J.AnswersLines.says c.args.judge.now in
    let answer = c.in_ok-answer.answer in
    let more : LineAnswer = record { text = c.push_str.new.self; status = c.worse-status.result } in
    let one : i + 1 ≡ suc i = omega arith in
    let next : take (i + 1) lines ≡ take i lines ++ (line ∷ []) = ap (λ n. take n lines) one ∙ take-suc lines i record { ref_ptr = (0, 0); now = [] } (search rules) in
    subst (λ (xs : List (Bor (List ℕ))). AnswersTogether says (texts_of xs) more) (sym next)
    (subst (λ each. AnswersTogether says each more) (sym (map-append (λ (each : Bor (List ℕ)). each.now) (take i lines) (line ∷ [])))
    (together_more says (texts_of (take i lines)) line.now answer record { text = c.loop-line.text; status = c.loop-line.status } more c.loop-line.invariant c.in_ok-answer.ensures
    (c.in_ok-push_str.ensures.bytes ∙ ap (λ bytes. string_bytes c.loop-line.text ++ bytes) c.as_str.ensures.value) c.worse-status.ensures))

pub returns : goal.returns
returns g c =
    let past = c.loop-line-test.false in
    subst (λ (xs : List (Bor (List ℕ))). AnswersTogether (g.J.AnswersLines.says c.args.judge.now) (texts_of xs) record { text = c.loop-line.text; status = c.loop-line.status })
    (take_all c.loop-line.line-index c.args.lines.now past) c.loop-line.invariant
