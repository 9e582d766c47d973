-- The laws of numbers and words.
use Rattle.std.proofs.Common.{◌≡◌, ℕ, ◌≤◌, ◌⊎◌, inl, inr, Bool, true, false, cond, eqb, leb, List, [], ◌∷◌, Some, refl, ap, ◌∙◌}
use Rattle.std.proofs.lemmas.Option.{cond_some}
use Rattle.std.proofs.lemmas.Bool.{leb-true, le-leb, eqb-true}
use Rattle.std.proofs.lemmas.Slice.Eq.{bytes_eq-Decides}
use Rattle.std.specs.Str.{bytes_eq}
use Rattle.serde_json.specs.Data.{Data, null, boolean, number, string, array, object, unsigned, negative, float}
use Rattle.serde_json.specs.Find.{as_str, as_number, as_u64}
use Rattle.wm_access.specs.declared.AccessWidth.{AccessWidth}
use Rattle.wm_access.specs.declared.AccessWidth.TheVariants.{One, Two, Four, Eight}
use Rattle.wm_access.specs.AccessWidth.{bytes_of}
use Rattle.wm_event.specs.declared.event.EventKind.{EventKind}
use Rattle.wm_event.specs.declared.event.EventKind.TheVariants.{Read, Write, Update}
use Rattle.wm_access.specs.declared.MemoryOrder.{MemoryOrder}
use Rattle.wm_access.specs.declared.MemoryOrder.TheVariants.{Unordered, SeqCst}
use Rattle.wm_event.specs.declared.log.TrapKind.{TrapKind}
use Rattle.wm_event.specs.declared.log.TrapKind.TheVariants.{Unreachable, DivideByZero, Overflow, OutOfBounds, Unaligned, Exhausted}
use Rattle.wm_event.specs.TrapText.{trap_text}
use Rattle.wm_logfile.specs.Words.{kind_word, order_word}
use Rattle.wm_logfile.specs.Document.{count}
use Rattle.wm_logfile.specs.Reading.{◌>>=◌, word_from, number_at, width_from, width_at, kind_from, kind_at, order_from, order_at, trap_from, trap_at}
use Rattle.wm_logfile.proofs.Format.{bind_some, when_some, IsFormat}

-- a test between two answers
pub chosen : {A : Type 0} (b : Bool) (x y z : A) → cond b x y ≡ z → ((b ≡ true) × (x ≡ z)) ⊎ ((b ≡ false) × (y ≡ z))
chosen true x y z e = inl (refl, e)
chosen false x y z e = inr (refl, e)

-- ---- texts

str_takes : (d : Data) (s : List ℕ) → as_str d ≡ Some s → d ≡ string s
str_takes null s e = absurd cc
str_takes (boolean b) s e = absurd cc
str_takes (number n) s e = absurd cc
str_takes (string x) s e = let same : x ≡ s = cc in ap string same
str_takes (array js) s e = absurd cc
str_takes (object ms) s e = absurd cc

pub texts : IsFormat as_str string (λ _. Unit {0})
texts = record { takes = λ d s e. (str_takes d s e, tt); again = λ s fits. refl }

-- ---- numbers

number_takes : (limit : ℕ) (d : Data) (n : ℕ) → number_at limit d ≡ Some n → (d ≡ count n) × (n ≤ limit)
number_takes limit null n e = absurd cc
number_takes limit (boolean b) n e = absurd cc
number_takes limit (number (unsigned x)) n e =
    let t = cond_some (leb x limit) x n e in
    (ap count t.1, rw (← t.1) (leb-true x limit t.0))
number_takes limit (number (negative x)) n e = absurd cc
number_takes limit (number (float x)) n e = absurd cc
number_takes limit (string x) n e = absurd cc
number_takes limit (array js) n e = absurd cc
number_takes limit (object ms) n e = absurd cc

number_again : (limit n : ℕ) → n ≤ limit → number_at limit (count n) ≡ Some n
number_again limit n le = rw (le-leb n limit le) refl

pub numbers : (limit : ℕ) → IsFormat (number_at limit) count (λ n. n ≤ limit)
numbers limit = record { takes = λ d n e. number_takes limit d n e; again = λ n le. number_again limit n le }

pub u64_takes : (d : Data) (n : ℕ) → (as_number d >>= as_u64) ≡ Some n → d ≡ count n
u64_takes null n e = absurd cc
u64_takes (boolean b) n e = absurd cc
u64_takes (number (unsigned x)) n e = let same : x ≡ n = cc in ap count same
u64_takes (number (negative x)) n e = absurd cc
u64_takes (number (float x)) n e = absurd cc
u64_takes (string x) n e = absurd cc
u64_takes (array js) n e = absurd cc
u64_takes (object ms) n e = absurd cc

-- ---- words

-- a word that is read is the word of what it was read as
pub word_takes : {A : Type 0} (word : A → List ℕ) (these : List A) (s : List ℕ) (a : A) → word_from word these s ≡ Some a → s ≡ word a
word_takes word [] s a e = absurd cc
word_takes word (b ∷ others) s a e =
    elim (chosen (bytes_eq s (word b)) (Some b) (word_from word others s) (Some a) e) [
      | inl h ↦ (let same : b ≡ a = cc in (bytes_eq-Decides s (word b)).0 h.0 ∙ ap word same)
      | inr h ↦ word_takes word others s a h.1
    ]

-- a text that is one of these words
pub word_format : {A : Type 0} (word : A → List ℕ) (these : List A) → ((a : A) → word_from word these (word a) ≡ Some a) → IsFormat (λ d. as_str d >>= word_from word these) (λ a. string (word a)) (λ _. Unit {0})
word_format word these again = record {
  takes = λ d a e.
      let one = bind_some (as_str d) (word_from word these) a e in
      (str_takes d one.0 one.1 ∙ ap string (word_takes word these one.0 a one.2), tt);
  again = λ a fits. again a;
}

pub kind_again : (k : EventKind) → kind_from (kind_word k) ≡ Some k
kind_again Read = refl
kind_again Write = refl
kind_again Update = refl

pub kinds : IsFormat kind_at (λ k. string (kind_word k)) (λ _. Unit {0})
kinds = word_format kind_word (Read ∷ Write ∷ Update ∷ []) kind_again

pub order_again : (o : MemoryOrder) → order_from (order_word o) ≡ Some o
order_again Unordered = refl
order_again SeqCst = refl

pub orders : IsFormat order_at (λ o. string (order_word o)) (λ _. Unit {0})
orders = word_format order_word (Unordered ∷ SeqCst ∷ []) order_again

pub trap_again : (k : TrapKind) → trap_from (trap_text k) ≡ Some k
trap_again Unreachable = refl
trap_again DivideByZero = refl
trap_again Overflow = refl
trap_again OutOfBounds = refl
trap_again Unaligned = refl
trap_again Exhausted = refl

pub traps : IsFormat trap_at (λ k. string (trap_text k)) (λ _. Unit {0})
traps = word_format trap_text (Unreachable ∷ DivideByZero ∷ Overflow ∷ OutOfBounds ∷ Unaligned ∷ Exhausted ∷ []) trap_again

-- ---- widths

width_from_takes : (n : ℕ) (w : AccessWidth) → width_from n ≡ Some w → n ≡ bytes_of w
width_from_takes n w e =
    elim (chosen (eqb n 1) (Some One) _ (Some w) e) [
      | inl h ↦ (let same : One ≡ w = cc in eqb-true n 1 h.0 ∙ ap bytes_of same)
      | inr h ↦ elim (chosen (eqb n 2) (Some Two) _ (Some w) h.1) [
        | inl i ↦ (let same : Two ≡ w = cc in eqb-true n 2 i.0 ∙ ap bytes_of same)
        | inr i ↦ elim (chosen (eqb n 4) (Some Four) _ (Some w) i.1) [
          | inl j ↦ (let same : Four ≡ w = cc in eqb-true n 4 j.0 ∙ ap bytes_of same)
          | inr j ↦ (let k = when_some (eqb n 8) (Some Eight) w j.1 in let same : Eight ≡ w = cc in eqb-true n 8 k.0 ∙ ap bytes_of same)
        ]
      ]
    ]

width_takes : (d : Data) (w : AccessWidth) → width_at d ≡ Some w → d ≡ count (bytes_of w)
width_takes d w e =
    let one = bind_some (number_at 8 d) width_from w e in
    (number_takes 8 d one.0 one.1).0 ∙ ap count (width_from_takes one.0 w one.2)

width_again : (w : AccessWidth) → width_at (count (bytes_of w)) ≡ Some w
width_again One = refl
width_again Two = refl
width_again Four = refl
width_again Eight = refl

pub widths : IsFormat width_at (λ w. count (bytes_of w)) (λ _. Unit {0})
widths = record { takes = λ d w e. (width_takes d w e, tt); again = λ w h. width_again w }
