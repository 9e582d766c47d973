-- The answers to the lines of a reader, part by part.
use Rattle.std.proofs.Common.{◌≡◌, ℕ, suc, ◌+◌, ◌<◌, List, [], ◌∷◌, ◌++◌, Bor, length, take, drop, Option, None, Some, IfSome, sym, ap, ◌∙◌, subst, arith}
use Rattle.std.specs.Io.KnownBytes.{Appends, Consumes, IsAtEnd}
use Rattle.std.proofs.KnownBytes.{Appends-trans, Consumes-nil, Consumes-trans, Consumes-whole}
use Rattle.std.proofs.lemmas.List.{append-nil, take-append-le, take_all}
use Rattle.wm_stream.specs.declared.answer.LineStatus.{LineStatus}
use Rattle.wm_stream.specs.declared.answer.LineStatus.TheVariants.{Allowed}
use Rattle.wm_stream.specs.Answers.{Answered, AreAnswers, Prints, PrintsFront, text_of, worse}
use Rattle.wm_stream.specs.Lines.{AreLines, EndsLine, Splits, SplitsOn, cut_lines, last_line}
use Rattle.wm_stream.specs.Stream.{AnswersAll, AnswersFirst, AnswersPart, AnswersPartFirst}
use Rattle.wm_stream.proofs.Answering.{front_none, front_of_whole_prints, prints_more, prints_none, text-append, zip-append}
use Rattle.wm_stream.proofs.Printing.{take_past}
use Rattle.wm_stream.proofs.Splitting.{begins, ends, goes_on, splits_some, splits_then}

take_lines : (xs ys : List (List ℕ)) (n : ℕ) → take (length xs + n) (xs ++ ys) ≡ xs ++ take n ys
take_lines [] ys n = let none : 0 + n ≡ n = omega arith in ap (λ k. take k ys) none
take_lines (x ∷ xs) ys n = let more : suc (length xs) + n ≡ suc (length xs + n) = omega arith in ap (λ k. take k (x ∷ (xs ++ ys))) more ∙ ap (λ rest. x ∷ rest) (take_lines xs ys n)

-- known bytes begin with those that were read
begin_with : (had left : Option (List ℕ)) (seen : List ℕ) (P : List ℕ → Type 0) → Consumes had left seen → ((rest : List ℕ) → P (seen ++ rest)) → IfSome had P
begin_with None left seen P consumed each = tt
begin_with (Some all) None seen P consumed each = absurd consumed
begin_with (Some all) (Some rest) seen P consumed each = subst P (sym consumed) (each rest)

module _ (says : List ℕ → LineStatus → List ℕ → Type 0) where
  -- the answers to some lines, and a front of those to more
  pub front_after : (lines more : List (List ℕ)) (status : LineStatus) (a b c : Option (List ℕ)) → Prints says lines status a b → PrintsFront says more b c → PrintsFront says (lines ++ more) a c
  front_after lines more status a b c p q =
      let first = text_of p.answers in
      let text = text_of q.answers in
      let front = q.gains in record {
        count = length lines + q.count;
        answers = p.answers ++ q.answers;
        are_answers = subst (λ some. AreAnswers says some (p.answers ++ q.answers)) (sym (take_lines lines more q.count))
            (zip-append (λ line (answer : Answered). says line answer.status answer.text) lines (take q.count more) p.answers q.answers p.are_answers q.are_answers);
        gains = (
          length first + front.0,
          subst (Appends a c) (sym (ap (take (length first + front.0)) (text-append p.answers q.answers) ∙ take_past first text front.0))
              (Appends-trans a b c first (take front.0 text) p.gains front.1),
        );
      }

  -- what was read is answered but for the line that has begun
  pub record HasAnswered (limit : ℕ) (had left : Option (List ℕ)) (begun : List ℕ) (status : LineStatus) (old new : Option (List ℕ)) : Type 0 where
    pub seen : List ℕ
    pub consumed : Consumes had left seen
    pub lines : List (List ℕ)
    pub splits : Splits limit seen lines begun
    pub prints : Prints says lines status old new

  pub starts : (limit : ℕ) (had old : Option (List ℕ)) → HasAnswered limit had had [] Allowed old old
  starts limit had old = record { seen = []; consumed = Consumes-nil had; lines = []; splits = begins limit; prints = prints_none says old }

  -- the answers to the lines of a part more
  pub answers_more : (limit : ℕ) (had mid left : Option (List ℕ)) (begun next part : List ℕ) (status added : LineStatus) (old now new : Option (List ℕ))
      → HasAnswered limit had mid begun status old now → Consumes mid left part → AnswersPart says limit begun part next now new added
      → HasAnswered limit had left next (worse status added) old new
  answers_more limit had mid left begun next part status added old now new has consumed is = record {
    seen = has.seen ++ part;
    consumed = Consumes-trans had mid left has.seen part has.consumed consumed;
    lines = has.lines ++ is.lines;
    splits = is.are_lines has.seen has.lines has.splits;
    prints = prints_more says has.lines is.lines status added old now new has.prints is.prints;
  }

  -- the end of the reader
  pub answers_all : (limit : ℕ) (had left : Option (List ℕ)) (begun : List ℕ) (status added : LineStatus) (old now new : Option (List ℕ)) → 0 < limit
      → HasAnswered limit had left begun status old now → IsAtEnd left → Prints says (last_line begun) added now new → AnswersAll says limit had old new (worse status added)
  answers_all limit had left begun status added old now new some has at_end prints = record {
    lines = has.lines ++ last_line begun;
    are_lines = Consumes-whole had left has.seen (λ all. has.lines ++ last_line begun ≡ cut_lines limit all) has.consumed at_end (sym (ends limit has.seen has.lines begun some has.splits));
    prints = prints_more says has.lines (last_line begun) status added old now new has.prints prints;
  }

  -- ---- a stop

  pub stops : (limit : ℕ) (had left : Option (List ℕ)) (begun : List ℕ) (status : LineStatus) (old new : Option (List ℕ)) → HasAnswered limit had left begun status old new
      → AnswersFirst says limit had old new
  stops limit had left begun status old new has = record {
    lines = has.lines;
    are_lines = begin_with had left has.seen (λ all. (others : List (List ℕ)) × (cut_lines limit all ≡ has.lines ++ others)) has.consumed (λ rest. goes_on limit has.seen has.lines begun rest has.splits);
    prints = front_of_whole_prints says has.lines status old new has.prints;
  }

  pub stops_within : (limit : ℕ) (had mid left : Option (List ℕ)) (begun part : List ℕ) (status : LineStatus) (old now new : Option (List ℕ))
      → HasAnswered limit had mid begun status old now → Consumes mid left part → AnswersPartFirst says limit begun part now new → AnswersFirst says limit had old new
  stops_within limit had mid left begun part status old now new has consumed is = record {
    lines = has.lines ++ is.lines;
    are_lines = begin_with had left (has.seen ++ part) (λ all. (others : List (List ℕ)) × (cut_lines limit all ≡ (has.lines ++ is.lines) ++ others))
        (Consumes-trans had mid left has.seen part has.consumed consumed)
        (λ rest. goes_on limit (has.seen ++ part) (has.lines ++ is.lines) is.next rest (is.are_lines has.seen has.lines has.splits));
    prints = front_after has.lines is.lines status old now new has.prints is.prints;
  }

  pub stops_at_last : (limit : ℕ) (had left : Option (List ℕ)) (begun : List ℕ) (status : LineStatus) (old now new : Option (List ℕ)) → 0 < limit
      → HasAnswered limit had left begun status old now → IsAtEnd left → PrintsFront says (last_line begun) now new → AnswersFirst says limit had old new
  stops_at_last limit had left begun status old now new some has at_end front = record {
    lines = has.lines ++ last_line begun;
    are_lines = Consumes-whole had left has.seen (λ all. (others : List (List ℕ)) × (cut_lines limit all ≡ (has.lines ++ last_line begun) ++ others)) has.consumed at_end
        ([], ends limit has.seen has.lines begun some has.splits ∙ sym (append-nil (has.lines ++ last_line begun)));
    prints = front_after has.lines (last_line begun) status old now new has.prints front;
  }

  -- a read that gave nothing
  pub reads_nothing : (limit : ℕ) (had mid left : Option (List ℕ)) (begun part : List ℕ) (status : LineStatus) (old new : Option (List ℕ)) → HasAnswered limit had mid begun status old new
      → Consumes mid left part → part ≡ [] → HasAnswered limit had left begun status old new
  reads_nothing limit had mid left begun part status old new has consumed none = record {
    seen = has.seen;
    consumed = subst (Consumes had left) (ap (λ more. has.seen ++ more) none ∙ append-nil has.seen) (Consumes-trans had mid left has.seen part has.consumed consumed);
    lines = has.lines;
    splits = has.splits;
    prints = has.prints;
  }

  -- ---- a part

  -- the lines of a part that has some
  pub part_lines : (limit : ℕ) (begun line left part : List ℕ) (rest : Bor (List ℕ)) (ended : List (List ℕ)) → EndsLine limit begun part line (Some rest) → AreLines limit line rest.now ended left
      → SplitsOn limit begun part ended (take limit left)
  part_lines limit begun line left part rest ended ends are =
      let both = splits_then limit begun [] (take limit left) ends.0 rest.now (line ∷ []) are.0 ends.2 are.2 in
      subst (λ bytes. SplitsOn limit begun bytes ended (take limit left)) (sym ends.1)
      (subst (λ lines. SplitsOn limit begun (ends.0 ++ rest.now) lines (take limit left)) (sym are.1) both)

  -- no answer is printed
  pub part_stops : (limit : ℕ) (begun part : List ℕ) (a : Option (List ℕ)) → AnswersPartFirst says limit begun part a a
  part_stops limit begun part a =
      let some = splits_some limit begun part in
      record { lines = some.0; next = some.1; are_lines = some.2; prints = front_none says some.0 a }

-- a buffer that was read into is what the read left there
pub whole_buffer : (new items : List ℕ) (n : ℕ) → length new ≡ n → take n (new ++ drop (length new) items) ≡ new
whole_buffer new items n size = ap (λ k. take k (new ++ drop (length new) items)) (sym size) ∙ take-append-le (length new) new (drop (length new) items) (omega arith) ∙ take_all (length new) new (omega arith)
