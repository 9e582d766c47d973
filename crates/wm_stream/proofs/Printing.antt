-- Answers that are printed together.
use Rattle.std.proofs.Common.{◌≡◌, ℕ, suc, ◌+◌, List, [], ◌∷◌, ◌++◌, Bor, flat_map, length, map, take, Option, Result, Ok, IfOk, string_bytes, refl, sym, ap, ◌∙◌, subst, arith}
use Rattle.std.specs.Io.KnownBytes.{Appends}
use Rattle.std.specs.List.{AllZip}
use Rattle.std.proofs.lemmas.List.{append-nil, map-append, take_all}
use Rattle.wm_stream.specs.declared.answer.LineAnswer.{LineAnswer}
use Rattle.wm_stream.specs.declared.answer.LineStatus.{LineStatus}
use Rattle.wm_stream.specs.declared.answer.LineStatus.TheVariants.{Allowed}
use Rattle.wm_stream.specs.Answers.{Answered, AnswersByChunks, AnswersTogether, AreAnswers, Joins, Prints, PrintsFront, answered, overall, text_of, worse}
use Rattle.wm_stream.specs.Output.{AppendsFront}
use Rattle.wm_stream.proofs.Answering.{overall-append, text-append, worse-allowed, zip-append}

-- the bytes of lines
abbrev pub texts : List (Bor (List ℕ)) → List (List ℕ)
texts lines = map (λ line. line.now) lines

text_more : (answers : List LineAnswer) (answer : LineAnswer) → text_of (map answered (answers ++ answer ∷ [])) ≡ text_of (map answered answers) ++ string_bytes answer.text
text_more answers answer =
    ap text_of (map-append answered answers (answer ∷ []))
    ∙ text-append (map answered answers) (answered answer ∷ [])
    ∙ ap (λ more. text_of (map answered answers) ++ more) (append-nil (string_bytes answer.text))

-- one answer more
pub joins_more : (answers : List LineAnswer) (answer all more : LineAnswer) → Joins (map answered answers) all → string_bytes more.text ≡ string_bytes all.text ++ string_bytes answer.text
    → more.status ≡ worse all.status answer.status → Joins (map answered (answers ++ answer ∷ [])) more
joins_more answers answer all more is text_is status_is = record {
  text_is = text_is ∙ ap (λ text. text ++ string_bytes answer.text) is.text_is ∙ sym (text_more answers answer);
  status_is =
      status_is
      ∙ ap (λ s. worse s answer.status) is.status_is
      ∙ ap (worse (overall (map answered answers))) (sym (worse-allowed answer.status))
      ∙ sym (ap overall (map-append answered answers (answer ∷ [])) ∙ overall-append (map answered answers) (answered answer ∷ []));
}

pub AllZip-oks : {A B : Type 0} (E : Type 0) (R : A → B → Type 0) (xs : List A) (ys : List B) → AllZip (λ x (r : Result B E). IfOk r (R x)) xs (map Ok ys) → AllZip R xs ys
AllZip-oks E R [] [] h = tt
AllZip-oks E R [] (y ∷ ys) h = absurd h
AllZip-oks E R (x ∷ xs) [] h = absurd h
AllZip-oks E R (x ∷ xs) (y ∷ ys) h = (h.0, AllZip-oks E R xs ys h.1)

pub take_past : (xs ys : List ℕ) (n : ℕ) → take (length xs + n) (xs ++ ys) ≡ xs ++ take n ys
take_past [] ys n = let none : 0 + n ≡ n = omega arith in ap (λ k. take k ys) none
take_past (x ∷ xs) ys n = let more : suc (length xs) + n ≡ suc (length xs + n) = omega arith in ap (λ k. take k (x ∷ (xs ++ ys))) more ∙ ap (λ rest. x ∷ rest) (take_past xs ys n)

texts_of_chunks : (chunks : List (List (Bor (List ℕ)))) → flat_map (λ chunk. chunk) (map texts chunks) ≡ texts (flat_map (λ chunk. chunk) chunks)
texts_of_chunks [] = refl
texts_of_chunks (chunk ∷ chunks) =
    ap (λ rest. texts chunk ++ rest) (texts_of_chunks chunks) ∙ sym (map-append (λ (line : Bor (List ℕ)). line.now) chunk (flat_map (λ each. each) chunks))

module _ (says : List ℕ → LineStatus → List ℕ → Type 0) where
  pub together_none : (all : LineAnswer) → string_bytes all.text ≡ [] → all.status ≡ Allowed → AnswersTogether says [] all
  together_none all text_is status_is = record { answers = []; are_answers = tt; joins = record { text_is = text_is; status_is = status_is } }

  -- the answer to one line more
  pub together_more : (lines : List (List ℕ)) (line : List ℕ) (answer all more : LineAnswer) → AnswersTogether says lines all
      → says line answer.status (string_bytes answer.text) → string_bytes more.text ≡ string_bytes all.text ++ string_bytes answer.text
      → more.status ≡ worse all.status answer.status → AnswersTogether says (lines ++ line ∷ []) more
  together_more lines line answer all more is said text_is status_is = record {
    answers = is.answers ++ answered answer ∷ [];
    are_answers = zip-append (λ each (a : Answered). says each a.status a.text) lines (line ∷ []) is.answers (answered answer ∷ []) is.are_answers (said, tt);
    joins = record {
      text_is =
          text_is
          ∙ ap (λ text. text ++ string_bytes answer.text) is.joins.text_is
          ∙ sym (text-append is.answers (answered answer ∷ []) ∙ ap (λ text. text_of is.answers ++ text) (append-nil (string_bytes answer.text)));
      status_is =
          status_is
          ∙ ap (λ s. worse s answer.status) is.joins.status_is
          ∙ ap (worse (overall is.answers)) (sym (worse-allowed answer.status))
          ∙ sym (overall-append is.answers (answered answer ∷ []));
    };
  }

  -- the answers to all lines of these chunks
  abbrev OfChunks : List (List (List ℕ)) → List LineAnswer → List Answered → Type 0
  OfChunks chunks answers all =
      AreAnswers says (flat_map (λ chunk. chunk) chunks) all × (text_of all ≡ text_of (map answered answers)) × (overall all ≡ overall (map answered answers))

  of_chunks : (chunks : List (List (List ℕ))) (answers : List LineAnswer) → AllZip (AnswersTogether says) chunks answers → (all : List Answered) × OfChunks chunks answers all
  of_chunks [] [] zip = ([], (tt, refl, refl))
  of_chunks [] (answer ∷ answers) zip = absurd zip
  of_chunks (chunk ∷ chunks) [] zip = absurd zip
  of_chunks (chunk ∷ chunks) (answer ∷ answers) zip =
      let xs = zip.0.answers in
      let rest = of_chunks chunks answers zip.1 in
      let ys = rest.0 in (
        xs ++ ys,
        (
          zip-append (λ line (a : Answered). says line a.status a.text) chunk (flat_map (λ each. each) chunks) xs ys zip.0.are_answers rest.1.0,
          text-append xs ys ∙ ap (λ text. text ++ text_of ys) (sym zip.0.joins.text_is) ∙ ap (λ text. string_bytes answer.text ++ text) rest.1.1,
          overall-append xs ys ∙ ap (λ s. worse s (overall ys)) (sym zip.0.joins.status_is) ∙ ap (worse answer.status) rest.1.2,
        ),
      )

  -- the chunks of borrowed lines
  pub answers_by_chunks : (chunks : List (List (Bor (List ℕ)))) (lines : List (Bor (List ℕ))) (answers : List LineAnswer) → flat_map (λ chunk. chunk) chunks ≡ lines
      → AllZip (λ chunk answer. AnswersTogether says (texts chunk) answer) chunks answers → AnswersByChunks says (texts lines) answers
  answers_by_chunks chunks lines answers are zip = record {
    chunks = map texts chunks;
    are_all = texts_of_chunks chunks ∙ ap texts are;
    are_answers = of_borrowed chunks answers zip;
  }
    where
      of_borrowed : (some : List (List (Bor (List ℕ)))) (theirs : List LineAnswer) → AllZip (λ chunk answer. AnswersTogether says (texts chunk) answer) some theirs
          → AllZip (AnswersTogether says) (map texts some) theirs
      of_borrowed [] [] h = tt
      of_borrowed [] (answer ∷ more) h = absurd h
      of_borrowed (chunk ∷ rest) [] h = absurd h
      of_borrowed (chunk ∷ rest) (answer ∷ more) h = (h.0, of_borrowed rest more h.1)

  -- the answers to the chunks, joined, are those to all lines
  pub together_of_chunks : (lines : List (List ℕ)) (answers : List LineAnswer) (all : LineAnswer) → AnswersByChunks says lines answers → Joins (map answered answers) all
      → AnswersTogether says lines all
  together_of_chunks lines answers all by is =
      let found = of_chunks by.chunks answers by.are_answers in
      record {
        answers = found.0;
        are_answers = subst (λ each. AreAnswers says each found.0) by.are_all found.1.0;
        joins = record { text_is = is.text_is ∙ sym found.1.1; status_is = is.status_is ∙ sym found.1.2 };
      }

  pub all_printed : (lines : List (List ℕ)) (all : LineAnswer) (a b : Option (List ℕ)) → AnswersTogether says lines all → Appends a b (string_bytes all.text)
      → Prints says lines all.status a b
  all_printed lines all a b is gains = record {
    answers = is.answers;
    are_answers = is.are_answers;
    status_is = is.joins.status_is;
    gains = subst (Appends a b) is.joins.text_is gains;
  }

  pub some_printed : (lines : List (List ℕ)) (all : LineAnswer) (a b : Option (List ℕ)) → AnswersTogether says lines all → AppendsFront a b (string_bytes all.text)
      → PrintsFront says lines a b
  some_printed lines all a b is gains = record {
    count = length lines;
    answers = is.answers;
    are_answers = subst (λ each. AreAnswers says each is.answers) (sym (take_all (length lines) lines (omega arith))) is.are_answers;
    gains = subst (AppendsFront a b) is.joins.text_is gains;
  }
