-- The answers to lines that follow other lines.
use Rattle.std.proofs.Common.{◌≡◌, ℕ, List, [], ◌∷◌, ◌++◌, length, Option, Bool, true, false, true≢false, OnErr, MatchResult, Result, Ok, Err, is_err, refl, sym, ap, ◌∙◌, subst, append_assoc, arith}
use Rattle.std.specs.Io.KnownBytes.{Appends}
use Rattle.std.specs.List.{AllZip}
use Rattle.std.proofs.KnownBytes.{Appends-nil, Appends-trans}
use Rattle.std.proofs.lemmas.List.{append-nil, take_all, take-append-le}
use Rattle.wm_stream.specs.declared.answer.LineStatus.{LineStatus}
use Rattle.wm_stream.specs.declared.answer.LineStatus.TheVariants.{Allowed, Broken, Refused}
use Rattle.wm_stream.specs.Answers.{Answered, AreAnswers, Prints, PrintsFront, overall, text_of, worse}
use Rattle.wm_stream.proofs.Writing.{front_of_whole}

-- ---- statuses

worse-assoc : (a b c : LineStatus) → worse a (worse b c) ≡ worse (worse a b) c
worse-assoc Broken b c = refl
worse-assoc Allowed b c = refl
worse-assoc Refused Broken c = refl
worse-assoc Refused Allowed c = refl
worse-assoc Refused Refused Broken = refl
worse-assoc Refused Refused Allowed = refl
worse-assoc Refused Refused Refused = refl

pub worse-allowed : (a : LineStatus) → worse a Allowed ≡ a
worse-allowed Broken = refl
worse-allowed Allowed = refl
worse-allowed Refused = refl

pub overall-append : (xs ys : List Answered) → overall (xs ++ ys) ≡ worse (overall xs) (overall ys)
overall-append [] ys = refl
overall-append (x ∷ xs) ys = ap (worse x.status) (overall-append xs ys) ∙ worse-assoc x.status (overall xs) (overall ys)

pub text-append : (xs ys : List Answered) → text_of (xs ++ ys) ≡ text_of xs ++ text_of ys
text-append [] ys = refl
text-append (x ∷ xs) ys = ap (λ more. x.text ++ more) (text-append xs ys) ∙ sym (append_assoc x.text (text_of xs) (text_of ys))

-- ---- answers

pub zip-append : {A B : Type 0} (R : A → B → Type 0) (xs more : List A) (ys others : List B) → AllZip R xs ys → AllZip R more others → AllZip R (xs ++ more) (ys ++ others)
zip-append R [] more [] others h k = k
zip-append R [] more (y ∷ ys) others h k = absurd h
zip-append R (x ∷ xs) more [] others h k = absurd h
zip-append R (x ∷ xs) more (y ∷ ys) others h k = (h.0, zip-append R xs more ys others h.1 k)

module _ (says : List ℕ → LineStatus → List ℕ → Type 0) where
  pub prints_none : (a : Option (List ℕ)) → Prints says [] Allowed a a
  prints_none a = record { answers = []; are_answers = tt; status_is = refl; gains = Appends-nil a }

  -- the answers to some lines, and then those to more
  pub prints_more : (lines more : List (List ℕ)) (first second : LineStatus) (a b c : Option (List ℕ)) → Prints says lines first a b → Prints says more second b c
      → Prints says (lines ++ more) (worse first second) a c
  prints_more lines more first second a b c p q = record {
    answers = p.answers ++ q.answers;
    are_answers = zip-append (λ line (answer : Answered). says line answer.status answer.text) lines more p.answers q.answers p.are_answers q.are_answers;
    status_is = let both : worse first second ≡ worse (overall p.answers) (overall q.answers) = rw (p.status_is, q.status_is) refl in both ∙ sym (overall-append p.answers q.answers);
    gains = subst (Appends a c) (sym (text-append p.answers q.answers)) (Appends-trans a b c (text_of p.answers) (text_of q.answers) p.gains q.gains);
  }

  -- one answer
  pub prints_one : (line : List ℕ) (status : LineStatus) (text : List ℕ) (a b : Option (List ℕ)) → says line status text → Appends a b text → Prints says (line ∷ []) status a b
  prints_one line status text a b is gains = record {
    answers = record { status = status; text = text } ∷ [];
    are_answers = (is, tt);
    status_is = sym (worse-allowed status);
    gains = subst (Appends a b) (sym (append-nil text)) gains;
  }

  -- the answers to the first lines
  pub front_of_prints : (lines more : List (List ℕ)) (status : LineStatus) (a b : Option (List ℕ)) → Prints says lines status a b → PrintsFront says (lines ++ more) a b
  front_of_prints lines more status a b p = record {
    count = length lines;
    answers = p.answers;
    are_answers = subst (λ first. AreAnswers says first p.answers) (sym (take-append-le (length lines) lines more (omega arith) ∙ take_all (length lines) lines (omega arith))) p.are_answers;
    gains = front_of_whole a b (text_of p.answers) p.gains;
  }

  pub front_of_whole_prints : (lines : List (List ℕ)) (status : LineStatus) (a b : Option (List ℕ)) → Prints says lines status a b → PrintsFront says lines a b
  front_of_whole_prints lines status a b p = subst (λ all. PrintsFront says all a b) (append-nil lines) (front_of_prints lines [] status a b p)

  -- nothing is printed
  pub front_none : (lines : List (List ℕ)) (a : Option (List ℕ)) → PrintsFront says lines a a
  front_none lines a = front_of_prints [] lines Allowed a a (prints_none a)

pub on_err : {T E P : Type 0} (r : Result T E) → P → OnErr r P
on_err (Ok value) p = tt
on_err (Err error) p = p

pub was_err : {T E Q : Type 0} (P : Type 0) (r : Result T E) (b : Bool) → b ≡ is_err r → b ≡ true → MatchResult r (λ _. P) (λ _. Q) → Q
was_err P (Ok value) b is is_true p = absurd (true≢false (sym is_true ∙ is))
was_err P (Err error) b is is_true q = q

pub was_ok : {T E P : Type 0} (Q : Type 0) (r : Result T E) (b : Bool) → b ≡ is_err r → b ≡ false → MatchResult r (λ _. P) (λ _. Q) → P
was_ok Q (Ok value) b is is_false p = p
was_ok Q (Err error) b is is_false q = absurd (true≢false (sym is ∙ is_false))
