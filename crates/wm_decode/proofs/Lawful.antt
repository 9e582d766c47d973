-- What is read is spelled so, and what is spelled so is read, whatever follows: for vectors and for what has a size.
use Rattle.std.proofs.Common.{◌≡◌, ℕ, zero, suc, ◌+◌, ◌-◌, ◌^◌, ◌≤◌, cond, ltb, eqb, List, [], ◌∷◌, ◌++◌, length, take, drop, Result, Ok, Err, refl, sym, ap, subst, ◌∙◌, append_assoc, arith, length-append, length-take}
use Rattle.std.proofs.lemmas.List.{append-nil, nil_from_length, take-append-drop, take_at, drop_at}
use Rattle.std.proofs.lemmas.Bool.{ltb-false, le-ltb, eqb-true}
use Rattle.wm_decode.specs.Numbers.{Unsigned, U32, IsBytes}
use Rattle.wm_decode.specs.declared.fault.FaultKind.TheVariants.{SectionSize}
use Rattle.wm_decode.specs.Stop.{Stop, stop, ended, before, map_stop}
use Rattle.wm_decode.specs.Reading.{◌>>=◌, unsigned_at}
use Rattle.wm_decode.specs.Vectors.{Each, no_more, one_more, Vector, ByteVector, Sized}
use Rattle.wm_decode.specs.ReadingVectors.{u32_at, items_at, vector_at, own_bytes_at, byte_vector_at, filled_at, sized_at}
use Rattle.wm_decode.proofs.Steps.{bound, passed, met, pair_is, fits_behind, unmapped}
use Rattle.wm_decode.proofs.NumberLaws.{unsigned_takes, unsigned_again}

-- reading and spelling agree
pub record Lawful {X : Type 0} (Item : List ℕ → X → Type 0) (item_at : List ℕ → Result (X × List ℕ) Stop) : Type 0 where
  pub takes : (bytes : List ℕ) (x : X) (rest : List ℕ) → IsBytes bytes → item_at bytes ≡ Ok (x, rest) → (text : List ℕ) × (bytes ≡ text ++ rest) × Item text x
  pub again : (text : List ℕ) (x : X) (rest : List ℕ) → Item text x → item_at (text ++ rest) ≡ Ok (x, rest)

pub number_lawful : (most : ℕ) → Lawful (Unsigned most) (unsigned_at most)
number_lawful most = record { takes = unsigned_takes most; again = λ text n rest d. unsigned_again d rest }

pub bytes_within : (front middle back : List ℕ) → IsBytes ((front ++ middle) ++ back) → IsBytes middle
bytes_within [] [] back fits = tt
bytes_within [] (b ∷ middle) back fits = (fits.0, bytes_within [] middle back fits.1)
bytes_within (b ∷ front) middle back fits = bytes_within front middle back fits.1

pub own_bytes_take : (short : Stop) (bytes found rest : List ℕ) → IsBytes bytes → own_bytes_at short bytes ≡ Ok (found, rest) → (text : List ℕ) × (bytes ≡ text ++ rest) × ByteVector text found
unfolding own_bytes_at
own_bytes_take short bytes found rest fits e =
    let split = λ (count : ℕ × List ℕ). let k : Result (List ℕ × List ℕ) Stop = Ok (take count.0 count.1, drop count.0 count.1) in k in
    let a = bound (u32_at bytes) (λ count. cond (ltb (length count.1) count.0) (Err short) (split count)) (found, rest) e in
    let t = unsigned_takes (2 ^ 32 - 1) bytes a.0.0 a.0.1 fits a.1 in
    let p = passed _ (ltb (length a.0.1) a.0.0) (split a.0) (found, rest) a.2 in
    let long : a.0.0 ≤ length a.0.1 = ltb-false (length a.0.1) a.0.0 p.0 in
    let is = pair_is (take a.0.0 a.0.1, drop a.0.0 a.0.1) (found, rest) p.1 in
    let len : a.0.0 ≡ length found = omega (arith, length-take a.0.0 a.0.1, ap length is.0) in (
      t.0 ++ found,
      t.1 ∙ ap (λ (l : List ℕ). t.0 ++ l) (sym (take-append-drop a.0.0 a.0.1) ∙ ap (λ (l : List ℕ). l ++ drop a.0.0 a.0.1) is.0 ∙ ap (λ (l : List ℕ). found ++ l) is.1) ∙ sym (append_assoc t.0 found rest),
      record { count = t.0; parts = refl; counted = subst (λ (n : ℕ). U32 t.0 n) len t.2 },
    )

pub byte_vector_takes : (bytes found rest : List ℕ) → IsBytes bytes → byte_vector_at bytes ≡ Ok (found, rest) → (text : List ℕ) × (bytes ≡ text ++ rest) × ByteVector text found
byte_vector_takes bytes found rest fits e = own_bytes_take ended bytes found rest fits e

pub own_bytes_again : (short : Stop) (text found rest : List ℕ) → ByteVector text found → own_bytes_at short (text ++ rest) ≡ Ok (found, rest)
unfolding own_bytes_at
own_bytes_again short text found rest s =
    rw (s.parts, append_assoc, unsigned_again s.counted (found ++ rest), le-ltb (length (found ++ rest)) (length found) (omega (arith, length-append found rest)), take_at found rest (length found) refl, drop_at found rest (length found) refl) refl

pub byte_vector_again : (text found rest : List ℕ) → ByteVector text found → byte_vector_at (text ++ rest) ≡ Ok (found, rest)
byte_vector_again text found rest s = own_bytes_again ended text found rest s

-- what has its size before it: of its content it is only known how the whole is read
module _ {X : Type 0} (Item : List ℕ → X → Type 0) (item_at : List ℕ → Result (X × List ℕ) Stop)
    (item_takes : (bytes : List ℕ) (x : X) (rest : List ℕ) → IsBytes bytes → item_at bytes ≡ Ok (x, rest) → (text : List ℕ) × (bytes ≡ text ++ rest) × Item text x)
    (whole_again : (text : List ℕ) (x : X) → Item text x → item_at text ≡ Ok (x, [])) where
  -- a value that takes up these bytes, before others
  filled_takes : (content after : List ℕ) (x : X) (rest : List ℕ) → IsBytes content → filled_at item_at (content, after) ≡ Ok (x, rest) → Item content x × (after ≡ rest)
  unfolding filled_at
  filled_takes content after x rest fits e =
      let last = λ (y : X × List ℕ). let k : Result (X × List ℕ) Stop = cond (eqb (length y.1) 0) (Ok (y.0, after)) (Err (stop SectionSize (length y.1 + length after))) in k in
      let b = bound (map_stop (before (length after)) (item_at content)) last (x, rest) e in
      let m = met _ (eqb (length b.0.1) 0) (let k : Result (X × List ℕ) Stop = Ok (b.0.0, after) in k) (x, rest) b.2 in
      let is = pair_is (b.0.0, after) (x, rest) m.1 in
      let nothing : b.0.1 ≡ [] = nil_from_length b.0.1 (eqb-true (length b.0.1) 0 m.0) in
      let r = item_takes content b.0.0 b.0.1 fits (unmapped (before (length after)) (item_at content) b.0 b.1) in
      let same : r.0 ≡ content = sym (r.1 ∙ ap (λ (l : List ℕ). r.0 ++ l) nothing ∙ append-nil r.0) in
      (subst (λ (l : List ℕ). Item l x) same (subst (λ (y : X). Item r.0 y) is.0 r.2), is.1)

  filled_again : (content after : List ℕ) (x : X) → Item content x → filled_at item_at (content, after) ≡ Ok (x, after)
  unfolding filled_at
  filled_again content after x i = let back : item_at content ≡ Ok (x, []) = whole_again content x i in rw back refl

  -- with its size, whatever stops reading where there are fewer bytes
  pub own_law : (short : List ℕ → Stop) → Lawful (Sized Item) (λ bytes. own_bytes_at (short bytes) bytes >>= filled_at item_at)
  own_law short = record {
    takes = λ bytes x rest fits e.
        let a = bound (own_bytes_at (short bytes) bytes) (filled_at item_at) (x, rest) e in
        let t = own_bytes_take (short bytes) bytes a.0.0 a.0.1 fits a.1 in
        let own : IsBytes a.0.0 = bytes_within t.2.count a.0.0 a.0.1 (subst IsBytes (t.1 ∙ ap (λ (l : List ℕ). l ++ a.0.1) t.2.parts) fits) in
        let f = filled_takes a.0.0 a.0.1 x rest own a.2 in
        (t.0, t.1 ∙ ap (λ (l : List ℕ). t.0 ++ l) f.1, record { size = t.2.count; content = a.0.0; parts = t.2.parts; counted = t.2.counted; spelled = f.0 });
    again = λ text x rest s.
        rw (own_bytes_again (short (text ++ rest)) text s.content rest (record { count = s.size; parts = s.parts; counted = s.counted })) (filled_again s.content rest x s.spelled);
  }

  pub sized_law : Lawful (Sized Item) (sized_at item_at)
  unfolding sized_at
  sized_law = own_law (λ bytes. ended)

module _ {X : Type 0} (Item : List ℕ → X → Type 0) (item_at : List ℕ → Result (X × List ℕ) Stop) (law : Lawful Item item_at) where
  pub items_law : (n : ℕ) (bytes : List ℕ) (xs : List X) (rest : List ℕ) → IsBytes bytes → items_at item_at n bytes ≡ Ok (xs, rest) → (text : List ℕ) × (bytes ≡ text ++ rest) × Each Item text xs × (length xs ≡ n)
  unfolding items_at
  items_law zero bytes xs rest fits e =
      let is = pair_is ([], bytes) (xs, rest) e in
      ([], is.1, subst (λ (ys : List X). Each Item [] ys) is.0 no_more, ap length (sym is.0))
  items_law (suc n) bytes xs rest fits e =
      let a = bound (item_at bytes) (λ first. items_at item_at n first.1 >>= λ others. Ok (first.0 ∷ others.0, others.1)) (xs, rest) e in
      let t = law.takes bytes a.0.0 a.0.1 fits a.1 in
      let b = bound (items_at item_at n a.0.1) (λ others. Ok (a.0.0 ∷ others.0, others.1)) (xs, rest) a.2 in
      let is = pair_is (a.0.0 ∷ b.0.0, b.0.1) (xs, rest) b.2 in
      let r = items_law n a.0.1 b.0.0 b.0.1 (fits_behind bytes t.0 a.0.1 fits t.1) b.1 in
      (t.0 ++ r.0, t.1 ∙ ap (λ (l : List ℕ). t.0 ++ l) (r.1 ∙ ap (λ (l : List ℕ). r.0 ++ l) is.1) ∙ sym (append_assoc t.0 r.0 rest), subst (λ (ys : List X). Each Item (t.0 ++ r.0) ys) is.0 (one_more t.2 r.2), ap length (sym is.0) ∙ ap suc r.3)

  pub items_again_law : {text : List ℕ} {xs : List X} → Each Item text xs → (rest : List ℕ) → items_at item_at (length xs) (text ++ rest) ≡ Ok (xs, rest)
  unfolding items_at
  items_again_law no_more rest = refl
  items_again_law (one_more {text = t} {rest = r} {x = x} {xs = xs} d more) rest = rw (append_assoc, law.again t x (r ++ rest) d, items_again_law more rest) refl

  pub vector_lawful : Lawful (Vector Item) (vector_at item_at)
  unfolding vector_at
  vector_lawful = record {
    takes = λ bytes xs rest fits e.
        let a = bound (unsigned_at (2 ^ 32 - 1) bytes) (λ count. items_at item_at count.0 count.1) (xs, rest) e in
        let t = unsigned_takes (2 ^ 32 - 1) bytes a.0.0 a.0.1 fits a.1 in
        let r = items_law a.0.0 a.0.1 xs rest (fits_behind bytes t.0 a.0.1 fits t.1) a.2 in
        (t.0 ++ r.0, t.1 ∙ ap (λ (l : List ℕ). t.0 ++ l) r.1 ∙ sym (append_assoc t.0 r.0 rest), record { count = t.0; items = r.0; parts = refl; counted = subst (λ (n : ℕ). Unsigned (2 ^ 32 - 1) t.0 n) (sym r.3) t.2; each = r.2 });
    again = λ text xs rest v. rw (v.parts, append_assoc, unsigned_again v.counted (v.items ++ rest), items_again_law v.each rest) refl;
  }

  pub sized_lawful : Lawful (Sized Item) (sized_at item_at)
  sized_lawful = sized_law Item item_at law.takes (λ text x d. ap item_at (sym (append-nil text)) ∙ law.again text x [] d)
