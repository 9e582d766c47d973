-- Numbers, vectors, names and values with their size: reading that stops does so whatever comes after the faulty item.
use Rattle.std.proofs.Common.{◌≡◌, ℕ, zero, suc, ◌+◌, ◌-◌, ◌*◌, ◌/◌, ◌^◌, ◌≤◌, ◌<◌, Bool, true, false, cond, ltb, List, [], ◌∷◌, ◌++◌, length, take, drop, Result, Ok, Err, refl, sym, ap, subst, ◌∙◌, arith, append_assoc, length-append, ◌⊎◌, inl, inr}
use Rattle.std.proofs.lemmas.Bool.{ltb-false, ltb-true, lt-ltb}
use Rattle.std.proofs.lemmas.List.{append-nil, append_cancel_right}
use Rattle.wm_decode.specs.declared.fault.FaultKind.{FaultKind}
use Rattle.wm_decode.specs.declared.fault.FaultKind.TheVariants as kind
use Rattle.wm_decode.specs.Begins.{IsItem}
use Rattle.wm_decode.specs.Stop.{Stop, stop, ended, map_stop, moved}
use Rattle.wm_decode.specs.Numbers.{Signed, U32, IsBytes}
use Rattle.wm_decode.specs.Reading.{◌>>=◌, faulted_at, unsigned_at, signed_at}
use Rattle.wm_decode.proofs.NumberLaws.{Digits, unsigned_again, unsigned_length, unsigned_takes, signed_again, signed_takes}
use Rattle.wm_decode.proofs.Lawful.{Lawful, number_lawful, own_bytes_take, own_bytes_again}
use Rattle.std.specs.Str.{is_utf8}
use Rattle.std.proofs.lemmas.Str.{is_utf8-from_IsUtf8}
use Rattle.wm_decode.specs.Vectors.{ByteVector}
use Rattle.wm_decode.proofs.Steps.{unmapped}
use Rattle.wm_decode.specs.ReadingVectors.{u32_at, own_bytes_at, byte_vector_at, name_at, items_at, vector_at, more_at}
use Rattle.wm_decode.proofs.Lasting.{alike, fault_of_last, given, stops_first, test, then, then_known, too_early, Depends, Fits, IsNoLimit, Moves, Refused, Steady, Stops, refused_then}

abbrev pub pair : {X : Type 0} → X → List ℕ → X × List ℕ
pair x rest = (x, rest)

pub refused_map : {A : Type 0} (n : ℕ) (r : Result A Stop) → Refused r → Refused (map_stop (moved n) r)
refused_map n (Ok x) h = absurd h
refused_map n (Err s) h = h

-- reading a number of at most d bytes stops at its first byte
pub record NumberStopped (d : ℕ) (f : List ℕ → Result (ℕ × List ℕ) Stop) (bytes : List ℕ) (s : Stop) : Type 0 where
  pub read : List ℕ
  pub rest : List ℕ
  pub parts : bytes ≡ read ++ rest
  pub short : length read ≤ d
  pub left_is : s.left ≡ length bytes
  pub kind_is : (s.kind ≡ kind.BadNumber) ⊎ (s.kind ≡ kind.Truncated)
  pub lasts : (more : List ℕ) → (Depends true s.kind → length more ≤ length rest) → Refused (f (read ++ more))

abbrev pub NumberStops : ℕ → (List ℕ → Result (ℕ × List ℕ) Stop) → List ℕ → Result (ℕ × List ℕ) Stop → Type 0
NumberStops d f bytes (Ok x) = Unit {0}
NumberStops d f bytes (Err s) = NumberStopped d f bytes s

no_bytes : (d : ℕ) (f : List ℕ → Result (ℕ × List ℕ) Stop) → f [] ≡ Err ended → NumberStops d f [] (Err ended)
no_bytes d f e = record { read = []; rest = []; parts = refl; short = omega arith; left_is = refl; kind_is = inr refl; lasts = λ more few. still more (few tt) } where
  still : (more : List ℕ) → length more ≤ 0 → Refused (f ([] ++ more))
  still [] le = subst Refused (sym e) tt
  still (b ∷ more) le = absurd (omega arith)

-- the first byte is a number that is too large, or begins one that is too long
bad_first : (d b : ℕ) (bytes : List ℕ) (f : List ℕ → Result (ℕ × List ℕ) Stop) → ((more : List ℕ) → f (b ∷ more) ≡ Err (stop kind.BadNumber (length (b ∷ more)))) → NumberStops (suc d) f (b ∷ bytes) (Err (stop kind.BadNumber (length (b ∷ bytes))))
bad_first d b bytes f e = record { read = b ∷ []; rest = bytes; parts = refl; short = omega arith; left_is = refl; kind_is = inl refl; lasts = λ more few. subst Refused (sym (e more)) tt }

-- the bytes after the first are at fault
bad_later : (d b : ℕ) (bytes : List ℕ) (f g : List ℕ → Result (ℕ × List ℕ) Stop) (h : ℕ × List ℕ → Result (ℕ × List ℕ) Stop) (ok : (x : ℕ × List ℕ) → (y : ℕ × List ℕ) × (h x ≡ Ok y))
    → ((more : List ℕ) → f (b ∷ more) ≡ (faulted_at (b ∷ more) (g more) >>= h)) → (r : Result (ℕ × List ℕ) Stop) → NumberStops d g bytes r → NumberStops (suc d) f (b ∷ bytes) (faulted_at (b ∷ bytes) r >>= h)
bad_later d b bytes f g h ok e (Ok x) t = subst (NumberStops (suc d) f (b ∷ bytes)) (sym (ok x).1) tt
bad_later d b bytes f g h ok e (Err s) t = record {
  read = b ∷ t.read;
  rest = t.rest;
  parts = ap (λ (l : List ℕ). b ∷ l) t.parts;
  short = omega (arith, t.short);
  left_is = refl;
  kind_is = t.kind_is;
  lasts = λ more few. subst Refused (sym (e (t.read ++ more))) (refused_then (faulted_at (b ∷ (t.read ++ more)) (g (t.read ++ more))) h (refused_map (length (b ∷ (t.read ++ more))) (g (t.read ++ more)) (t.lasts more few)));
}

unsigned_stops : (d most : ℕ) → Digits d most → (bytes : List ℕ) → NumberStops d (unsigned_at most) bytes (unsigned_at most bytes)
unfolding unsigned_at
unsigned_stops zero most digits bytes = absurd digits
unsigned_stops (suc d) most digits [] = no_bytes (suc d) (unsigned_at most) refl
unsigned_stops (suc d) most digits (b ∷ bytes) = by (ltb b 128) (ltb most b) (ltb most 128) refl refl refl (λ long. unsigned_stops d (most / 128) (digits long) bytes) where
  bad : Stop
  bad = stop kind.BadNumber (length (b ∷ bytes))

  by : (t u w : Bool) → ltb b 128 ≡ t → ltb most b ≡ u → ltb most 128 ≡ w → (128 ≤ most → NumberStops d (unsigned_at (most / 128)) bytes (unsigned_at (most / 128) bytes)) → NumberStops (suc d) (unsigned_at most) (b ∷ bytes)
      (cond t (cond u (Err bad) (Ok (b, bytes))) (cond w (Err bad) (faulted_at (b ∷ bytes) (unsigned_at (most / 128) bytes) >>= λ x. Ok ((b - 128) + 128 * x.0, x.1))))
  by true true w e1 e2 e3 later = bad_first d b bytes (unsigned_at most) (λ rest. rw (e1, e2) refl)
  by true false w e1 e2 e3 later = tt
  by false u true e1 e2 e3 later = bad_first d b bytes (unsigned_at most) (λ rest. rw (e1, e3) refl)
  by false u false e1 e2 e3 later = bad_later d b bytes (unsigned_at most) (unsigned_at (most / 128)) (λ x. Ok ((b - 128) + 128 * x.0, x.1)) (λ x. (((b - 128) + 128 * x.0, x.1), refl)) (λ rest. rw (e1, e3) refl)
      (unsigned_at (most / 128) bytes) (later (ltb-false most 128 e3))

signed_stops : (d most : ℕ) → Digits d most → (bytes : List ℕ) → NumberStops d (signed_at most) bytes (signed_at most bytes)
unfolding signed_at
signed_stops zero most digits bytes = absurd digits
signed_stops (suc d) most digits [] = no_bytes (suc d) (signed_at most) refl
signed_stops (suc d) most digits (b ∷ bytes) = by (ltb b 64) (ltb (most / 2) b) (ltb b 128) (ltb (most / 2) (127 - b)) (ltb most 128) refl refl refl refl refl (λ long. signed_stops d (most / 128) (digits long) bytes) where
  bad : Stop
  bad = stop kind.BadNumber (length (b ∷ bytes))

  by : (t u v p w : Bool) → ltb b 64 ≡ t → ltb (most / 2) b ≡ u → ltb b 128 ≡ v → ltb (most / 2) (127 - b) ≡ p → ltb most 128 ≡ w → (128 ≤ most → NumberStops d (signed_at (most / 128)) bytes (signed_at (most / 128) bytes))
      → NumberStops (suc d) (signed_at most) (b ∷ bytes) (cond t (cond u (Err bad) (Ok (b, bytes))) (cond v (cond p (Err bad) (Ok (most - (127 - b), bytes)))
      (cond w (Err bad) (faulted_at (b ∷ bytes) (signed_at (most / 128) bytes) >>= λ x. Ok ((b - 128) + 128 * x.0, x.1)))))
  by true true v p w e1 e2 e3 e4 e5 later = bad_first d b bytes (signed_at most) (λ rest. rw (e1, e2) refl)
  by true false v p w e1 e2 e3 e4 e5 later = tt
  by false u true true w e1 e2 e3 e4 e5 later = bad_first d b bytes (signed_at most) (λ rest. rw (e1, e3, e4) refl)
  by false u true false w e1 e2 e3 e4 e5 later = tt
  by false u false p true e1 e2 e3 e4 e5 later = bad_first d b bytes (signed_at most) (λ rest. rw (e1, e3, e5) refl)
  by false u false p false e1 e2 e3 e4 e5 later = bad_later d b bytes (signed_at most) (signed_at (most / 128)) (λ x. Ok ((b - 128) + 128 * x.0, x.1)) (λ x. (((b - 128) + 128 * x.0, x.1), refl)) (λ rest. rw (e1, e3, e5) refl)
      (signed_at (most / 128) bytes) (later (ltb-false most 128 e5))

number_is_item : (k : FaultKind) (item : List ℕ) → (k ≡ kind.BadNumber) ⊎ (k ≡ kind.Truncated) → length item ≤ 10 → IsItem k item
number_is_item k item (inl e) short = subst (λ (j : FaultKind). IsItem j item) (sym e) short
number_is_item k item (inr e) short = subst (λ (j : FaultKind). IsItem j item) (sym e) short

depends_more : (inner : Bool) (k : FaultKind) → (k ≡ kind.BadNumber) ⊎ (k ≡ kind.Truncated) → Depends true k → Depends inner k
depends_more inner k (inl e) h = absurd (subst (Depends true) e h)
depends_more inner k (inr e) h = subst (Depends inner) (sym e) tt

-- a number after some bytes, of which the last ones count as a part of it
number_stopped : (inner : Bool) (d : ℕ) (f : List ℕ → Result (ℕ × List ℕ) Stop) (earlier begun bytes : List ℕ) (r : Result (ℕ × List ℕ) Stop) → length begun + d ≤ 10 → NumberStops d f bytes r
    → Stops inner (λ l. map_stop (moved (length begun + length l)) (f l)) (earlier ++ begun) bytes (map_stop (moved (length begun + length bytes)) r)
number_stopped inner d f earlier begun bytes (Ok x) le h = tt
number_stopped inner d f earlier begun bytes (Err s) le h = λ limit. record {
  front = earlier;
  item = begun ++ h.read;
  read = h.read;
  rest = h.rest;
  parts = h.parts;
  cut = append_assoc earlier begun h.read;
  left_is = omega (arith, ap length h.parts, length-append h.read h.rest, length-append begun h.read);
  is_item = number_is_item s.kind (begun ++ h.read) h.kind_is (omega (arith, h.short, length-append begun h.read));
  lasts = λ next few. refused_map (length begun + length (h.read ++ next)) (f (h.read ++ next)) (h.lasts next (λ depends. few (depends_more inner s.kind h.kind_is depends)));
}

-- what is read as it is spelled
pub law_moves : {X : Type 0} {Item : List ℕ → X → Type 0} {f : List ℕ → Result (X × List ℕ) Stop} → Lawful Item f → (bytes : List ℕ) → IsBytes bytes → Moves pair f bytes (f bytes)
law_moves {X = X} {f = f} law bytes fits = by (f bytes) refl where
  by : (r : Result (X × List ℕ) Stop) → f bytes ≡ r → Moves pair f bytes r
  by (Err s) e = tt
  by (Ok x) e = let t = law.takes bytes x.0 x.1 fits e in record { value = x.0; text = t.0; rest = x.1; is = refl; parts = t.1; again = λ next. law.again t.0 x.0 next t.2 }

pub law_known : {X : Type 0} {Item : List ℕ → X → Type 0} {f : List ℕ → Result (X × List ℕ) Stop} {k : ℕ} → Lawful Item f → (bytes : List ℕ) (x : X) (text rest : List ℕ) → Fits k bytes → bytes ≡ text ++ rest → f bytes ≡ Ok (pair x rest) → Item text x
law_known {Item = Item} law bytes x text rest fits parts e =
    let t = law.takes bytes x rest fits.0 e in
    subst (λ (l : List ℕ). Item l x) (append_cancel_right t.0 text rest (sym t.1 ∙ parts)) t.2

number_stays : (d : ℕ) (f : List ℕ → Result (ℕ × List ℕ) Stop) (bytes : List ℕ) (r : Result (ℕ × List ℕ) Stop) → NumberStops d f bytes r → r ≡ map_stop (moved (length bytes)) r
number_stays d f bytes (Ok x) h = refl
number_stays d f bytes (Err s) h = let at_first = λ (n : ℕ). let o : Result (ℕ × List ℕ) Stop = Err (stop s.kind n) in o in ap at_first h.left_is

-- the same with the fault at the first byte of what was begun
abbrev Mapped : List ℕ → (List ℕ → Result (ℕ × List ℕ) Stop) → List ℕ → Result (ℕ × List ℕ) Stop
Mapped begun f l = map_stop (moved (length begun + length l)) (f l)

mapped_moves : (f : List ℕ → Result (ℕ × List ℕ) Stop) (begun bytes : List ℕ) (r : Result (ℕ × List ℕ) Stop) → Moves pair f bytes r → Moves pair (Mapped begun f) bytes (map_stop (moved (length begun + length bytes)) r)
mapped_moves f begun bytes (Err s) h = tt
mapped_moves f begun bytes (Ok x) h = record { value = h.value; text = h.text; rest = h.rest; is = h.is; parts = h.parts; again = λ next. ap (map_stop (moved (length begun + length (h.text ++ next)))) (h.again next) }

number_after : {k : ℕ} {inner : Bool} {Item : List ℕ → ℕ → Type 0} (d : ℕ) (f g : List ℕ → Result (ℕ × List ℕ) Stop) (begun : List ℕ) → length begun + d ≤ 10 → ((bytes : List ℕ) → NumberStops d f bytes (f bytes)) → Lawful Item f
    → ((l : List ℕ) → map_stop (moved (length begun + length l)) (f l) ≡ g l) → Steady k inner pair begun g
number_after {k = k} {inner = inner} d f g begun le stopped law is = alike (Mapped begun f) g is (record {
  moves = λ bytes fits. mapped_moves f begun bytes (f bytes) (law_moves law bytes fits.0);
  stops = λ seen earlier bytes e fits. subst (λ (q : List ℕ). Stops inner (Mapped begun f) q bytes (Mapped begun f bytes)) (sym e) (number_stopped inner d f earlier begun bytes (f bytes) le (stopped bytes));
})

digits_32 : Digits 5 (2 ^ 32 - 1)
digits_32 = λ a b c d e. absurd (omega arith)

digits_64 : Digits 10 (2 ^ 64 - 1)
digits_64 = λ a b c d e f g h i j. absurd (omega arith)

u32_stops : (bytes : List ℕ) → NumberStops 5 u32_at bytes (u32_at bytes)
u32_stops bytes = unsigned_stops 5 (2 ^ 32 - 1) digits_32 bytes

u32_lawful : Lawful U32 u32_at
u32_lawful = number_lawful (2 ^ 32 - 1)

stays : (d : ℕ) (f : List ℕ → Result (ℕ × List ℕ) Stop) → ((bytes : List ℕ) → NumberStops d f bytes (f bytes)) → (l : List ℕ) → map_stop (moved (length {A = ℕ} [] + length l)) (f l) ≡ f l
stays d f stopped l = let none : length {A = ℕ} [] + length l ≡ length l = omega arith in ap (λ (n : ℕ). map_stop (moved n) (f l)) none ∙ sym (number_stays d f l (f l) (stopped l))

pub u32_steady : {k : ℕ} {inner : Bool} → Steady k inner pair [] u32_at
u32_steady = number_after 5 u32_at u32_at [] (omega arith) u32_stops u32_lawful (stays 5 u32_at u32_stops)

-- a u32 of which a byte was read before
pub later_steady : {k : ℕ} {inner : Bool} (op : ℕ) → Steady k inner pair (op ∷ []) (λ l. map_stop (moved (length l + 1)) (u32_at l))
later_steady op = number_after 5 u32_at (λ l. map_stop (moved (length l + 1)) (u32_at l)) (op ∷ []) (omega arith) u32_stops u32_lawful (λ l. let one : 1 + length l ≡ length l + 1 = omega arith in ap (λ (n : ℕ). map_stop (moved n) (u32_at l)) one)

signed_law : (most : ℕ) → Lawful (Signed most) (signed_at most)
signed_law most = record { takes = signed_takes most; again = λ text n rest d. signed_again d rest }

signed_steady : {k : ℕ} {inner : Bool} (d most : ℕ) → Digits d most → d ≤ 10 → Steady k inner pair [] (signed_at most)
signed_steady d most digits le = number_after d (signed_at most) (signed_at most) [] (omega arith) (signed_stops d most digits) (signed_law most) (stays d (signed_at most) (signed_stops d most digits))

pub i32_steady : {k : ℕ} {inner : Bool} → Steady k inner pair [] (signed_at (2 ^ 32 - 1))
i32_steady = signed_steady 5 (2 ^ 32 - 1) digits_32 (omega arith)

pub i64_steady : {k : ℕ} {inner : Bool} → Steady k inner pair [] (signed_at (2 ^ 64 - 1))
i64_steady = signed_steady 10 (2 ^ 64 - 1) digits_64 (omega arith)

-- what is known of a u32 that was read
pub u32_known : {k : ℕ} (bytes : List ℕ) (n : ℕ) (text rest : List ℕ) → Fits k bytes → bytes ≡ text ++ rest → u32_at bytes ≡ Ok (pair n rest) → length text ≤ 5
u32_known bytes n text rest fits parts e = unsigned_length 5 digits_32 (law_known u32_lawful bytes n text rest fits parts e)

-- bytes with their number before them; `short` is how reading stops if there are fewer
abbrev split : Stop → ℕ × List ℕ → Result (List ℕ × List ℕ) Stop
split short count = cond (ltb (length count.1) count.0) (Err short) (Ok (take count.0 count.1, drop count.0 count.1))

pub own_lawful : (short : List ℕ → Stop) → Lawful ByteVector (λ l. own_bytes_at (short l) l)
own_lawful short = record { takes = λ bytes found rest fits e. own_bytes_take (short bytes) bytes found rest fits e; again = λ text found rest s. own_bytes_again (short (text ++ rest)) text found rest s }

module _ (inner : Bool) (seen bytes : List ℕ) where
  ended_stops : (r : Result (ℕ × List ℕ) Stop) → u32_at bytes ≡ r → Stops inner u32_at seen bytes r → Stops inner byte_vector_at seen bytes (r >>= split ended)
  unfolding own_bytes_at
  ended_stops (Err s) e h = stops_first inner u32_at (λ l. split ended) seen bytes s h
  ended_stops (Ok count) e h = by (ltb (length count.1) count.0) refl where
    by : (t : Bool) → ltb (length count.1) count.0 ≡ t → Stops inner byte_vector_at seen bytes (cond t (Err ended) (Ok (take count.0 count.1, drop count.0 count.1)))
    by true e2 = too_early inner byte_vector_at seen bytes (rw (e, e2) refl)
    by false e2 = tt

pub byte_vector_steady : {k : ℕ} {inner : Bool} → Steady k inner pair [] byte_vector_at
unfolding own_bytes_at
byte_vector_steady {k = k} {inner = inner} = record {
  moves = λ bytes fits. law_moves (own_lawful (λ l. ended)) bytes fits.0;
  stops = λ seen earlier bytes e fits. ended_stops inner seen bytes (u32_at bytes) refl ((u32_steady {k = k} {inner = inner}).stops seen seen bytes (sym (append-nil seen)) fits);
}

-- where the number at the front is the faulty item
module _ (fault : FaultKind) (limit : IsNoLimit fault) (depends : Depends true fault) (is_item : (item : List ℕ) → length item ≤ 5 → IsItem fault item) where
  abbrev Own : List ℕ → Result (List ℕ × List ℕ) Stop
  Own l = own_bytes_at (stop fault (length l)) l

  module _ (seen bytes : List ℕ) (fits : IsBytes bytes) where
    own_stops : (r : Result (ℕ × List ℕ) Stop) → u32_at bytes ≡ r → Stops true u32_at seen bytes r → Stops true Own seen bytes (r >>= split (stop fault (length bytes)))
    unfolding own_bytes_at
    own_stops (Err s) e h = stops_first true u32_at (λ l. split (stop fault (length l))) seen bytes s h
    own_stops (Ok count) e h = by (ltb (length count.1) count.0) refl where
      by : (t : Bool) → ltb (length count.1) count.0 ≡ t → Stops true Own seen bytes (cond t (Err (stop fault (length bytes))) (Ok (take count.0 count.1, drop count.0 count.1)))
      by false e2 = tt
      by true e2 = λ limit2.
          let t = unsigned_takes (2 ^ 32 - 1) bytes count.0 count.1 fits e in
          record {
            front = seen;
            item = t.0;
            read = t.0;
            rest = count.1;
            parts = t.1;
            cut = refl;
            left_is = ap length t.1 ∙ length-append t.0 count.1;
            is_item = is_item t.0 (unsigned_length 5 digits_32 t.2);
            lasts = λ next few.
                let fewer : length next ≤ length count.1 = few depends in
                let small : length count.1 < count.0 = ltb-true (length count.1) count.0 e2 in
                let still : ltb (length next) count.0 ≡ true = lt-ltb (length next) count.0 (omega arith) in
                rw (unsigned_again t.2 next, still) limit;
          }

  pub own_steady : {k : ℕ} → Steady k true pair [] Own
  unfolding own_bytes_at
  own_steady {k = k} = record {
    moves = λ bytes fits. law_moves (own_lawful (λ l. stop fault (length l))) bytes fits.0;
    stops = λ seen earlier bytes e fits. own_stops seen bytes fits.0 (u32_at bytes) refl ((u32_steady {k = k} {inner = true}).stops seen seen bytes (sym (append-nil seen)) fits);
  }

-- names
same_test : (n : ℕ) (t : Bool) (x : List ℕ × List ℕ) → cond t (Err (stop kind.Truncated n)) (Ok x) ≡ map_stop (moved n) (cond t (Err ended) (Ok x))
same_test n true x = refl
same_test n false x = refl

faulted_own : (l : List ℕ) → own_bytes_at (stop kind.Truncated (length l)) l ≡ faulted_at l (byte_vector_at l)
unfolding own_bytes_at
faulted_own l = by (u32_at l) (u32_stops l) where
  by : (r : Result (ℕ × List ℕ) Stop) → NumberStops 5 u32_at l r → (r >>= split (stop kind.Truncated (length l))) ≡ map_stop (moved (length l)) (r >>= split ended)
  by (Err s) h = let at_first = λ (n : ℕ). let o : Result (List ℕ × List ℕ) Stop = Err (stop s.kind n) in o in ap at_first h.left_is
  by (Ok count) h = same_test (length l) (ltb (length count.1) count.0) (take count.0 count.1, drop count.0 count.1)

faulted_steady : {k : ℕ} → Steady k true pair [] (λ l. faulted_at l (byte_vector_at l))
faulted_steady = alike (λ l. own_bytes_at (stop kind.Truncated (length l)) l) (λ l. faulted_at l (byte_vector_at l)) faulted_own (own_steady kind.Truncated tt tt (λ item short. omega arith))

name_bytes_known : {k : ℕ} (bytes name text rest : List ℕ) → Fits k bytes → bytes ≡ text ++ rest → faulted_at bytes (byte_vector_at bytes) ≡ Ok (pair name rest) → ByteVector text name
name_bytes_known bytes name text rest fits parts e = law_known (own_lawful (λ l. ended)) bytes name text rest fits parts (unmapped (moved (length bytes)) (byte_vector_at bytes) (name, rest) e)

pub name_steady : {k : ℕ} → Steady k true pair [] name_at
unfolding name_at
name_steady = then_known (λ l. faulted_at l (byte_vector_at l)) (λ bytes text. cond (is_utf8 text.0) (Ok text) (Err (stop kind.BadName (length bytes)))) (λ name text. ByteVector text name) name_bytes_known faulted_steady (λ name text spelled.
    test (is_utf8 name) (λ l. Ok (pair name l)) (λ l. Err (stop kind.BadName (length (text ++ l)))) (λ e. given name) (λ e.
    fault_of_last [] text kind.BadName (λ l. length (text ++ l)) (λ l. length-append text l) tt (name, spelled, λ u. let yes = is_utf8-from_IsUtf8 name u in let no : true ≡ false = sym yes ∙ e in absurd cc)))

-- vectors
module _ {X : Type 0} (item_at : List ℕ → Result (X × List ℕ) Stop) {k : ℕ} {inner : Bool} (h : Steady k inner pair [] item_at) where
  pub items_steady : (n : ℕ) → Steady k inner pair [] (items_at item_at n)
  unfolding items_at
  items_steady zero = given []
  items_steady (suc n) = then item_at _ h (λ first. then (items_at item_at n) _ (items_steady n) (λ others. given (first ∷ others)))

  pub vector_steady : Steady k inner pair [] (vector_at item_at)
  unfolding vector_at
  vector_steady = then u32_at _ u32_steady (λ count. items_steady count)

pub more_steady : {S : Type 0} {k : ℕ} {inner : Bool} (step : S → List ℕ → Result (S × List ℕ) Stop) → ((s : S) → Steady k inner pair [] (step s)) → (n : ℕ) (s : S) → Steady k inner pair [] (more_at step n s)
unfolding more_at
more_steady step h zero s = given s
more_steady step h (suc n) s = then (step s) _ (h s) (λ x. more_steady step h n x)
