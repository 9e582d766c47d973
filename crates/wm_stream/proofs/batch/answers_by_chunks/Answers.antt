use Rattle.std.proofs.Common.{◌≡◌, ℕ, List, Bor, IfOk, flat_map, max, ap, subst, sym, ◌∙◌, arith}
use Rattle.std.specs.List.{AllZip}
use Rattle.std.specs.declared.alloc.AllocError.{AllocError}
use Rattle.std.proofs.lemmas.Result.{MatchResult-weaker}
use Rattle.rayon.specs.Lists.{chunks_of, chunks_size, chunks_slice}
use Rattle.rayon.proofs.ToStd.{chunks_of-concat, slice-AllZip}
use Rattle.wm_stream.specs.declared.answer.LineAnswer.{LineAnswer}
use Rattle.wm_stream.specs.Answers.{AnswersByChunks, AnswersTogether}
use Rattle.wm_stream.proofs.Printing.{AllZip-oks, answers_by_chunks, texts}
use Rattle.wm_stream.proofs.batch.answers_by_chunks.Goals as goal

pub returns : goal.returns
returns g c =
    let slice = ap (λ it. chunks_slice it.base) c.map.ensures.base ∙ ap chunks_slice c.with_min_len.ensures.base ∙ c.par_chunks.ensures.slice in
    let judge : c.map.result.f.0 ≡ c.args.judge = ap (λ f. f.0) c.map.ensures.f in
    let h = c.in_ok-collect.ensures in
    let chain = h.1 in
    let size = max (chunks_size c.map.result.base.base) 1 in
    let says = g.J.AnswersLines.says c.map.result.f.0.now in
    let lines = c.args.lines.now in
    let chunks = chunks_of size (chunks_slice c.map.result.base.base) in
    let R = λ (chunk : List (Bor (List ℕ))) (answer : LineAnswer). AnswersTogether says (texts chunk) answer in
    let are : flat_map (λ chunk. chunk) chunks ≡ lines = chunks_of-concat size (chunks_slice c.map.result.base.base) (omega arith) ∙ slice in
    MatchResult-weaker c.in_ok-collect.field-0 h.2
    (λ v p.
    let zip : AllZip (λ chunk r. IfOk r (R chunk)) chunks h.0 = slice-AllZip chain.0 chunks chain.1 (λ chunk r. IfOk r (R chunk)) h.0 chain.2 in
    let found : AllZip R chunks p.0 = AllZip-oks AllocError R chunks p.0 (subst (AllZip (λ chunk r. IfOk r (R chunk)) chunks) p.1 zip) in
    subst (λ j. AnswersByChunks (g.J.AnswersLines.says j.now) (texts lines) v.items) judge
    (subst (AnswersByChunks says (texts lines)) (sym p.2) (answers_by_chunks says chunks lines p.0 are found)))
    (λ e q. tt)
