-- Reading that stops does so whatever comes after the item at which it stops.
use Rattle.std.proofs.Common.{◌≡◌, ℕ, suc, ◌+◌, ◌≤◌, Bool, true, false, cond, List, [], ◌∷◌, ◌++◌, length, Result, Ok, Err, refl, sym, ap, subst, ◌∙◌, arith, append_assoc, length-append}
use Rattle.std.proofs.lemmas.List.{append-nil}
use Rattle.wm_decode.specs.declared.fault.FaultKind.{FaultKind}
use Rattle.wm_decode.specs.declared.fault.FaultKind.TheVariants as kind
use Rattle.wm_decode.specs.Begins.{IsItem}
use Rattle.wm_decode.specs.declared.fault.Limit.{Limit}
use Rattle.wm_decode.specs.Stop.{Stop, stop, ended, past, before}
use Rattle.wm_decode.specs.Numbers.{IsBytes}
use Rattle.wm_decode.specs.Reading.{◌>>=◌}
use Rattle.wm_decode.proofs.Steps.{fits_behind}

abbrev pub IsNoLimit : FaultKind → Type 0
IsNoLimit (kind.Limit limit) = ⊥
IsNoLimit k = Unit {0}

-- reading stops, and not at a limit
abbrev pub Refused : {A : Type 0} → Result A Stop → Type 0
Refused (Ok x) = ⊥
Refused (Err s) = IsNoLimit s.kind

-- whether more bytes may make this stop go away: in a section or body, they may where it is too short
abbrev pub Depends : Bool → FaultKind → Type 0
Depends inner kind.Truncated = Unit {0}
Depends inner kind.SectionSize = inner ≡ true
Depends inner k = ⊥

-- f stops in these bytes, which come after those that were seen, and stops too where others come after those it read
pub record Stopped {A : Type 0} (inner : Bool) (f : List ℕ → Result A Stop) (seen bytes : List ℕ) (s : Stop) : Type 0 where
  pub front : List ℕ
  pub item : List ℕ
  pub read : List ℕ
  pub rest : List ℕ
  pub parts : bytes ≡ read ++ rest
  pub cut : seen ++ read ≡ front ++ item
  pub left_is : s.left ≡ length item + length rest
  pub is_item : IsItem s.kind item
  pub lasts : (more : List ℕ) → (Depends inner s.kind → length more ≤ length rest) → Refused (f (read ++ more))

abbrev pub Stops : {A : Type 0} → Bool → (List ℕ → Result A Stop) → List ℕ → List ℕ → Result A Stop → Type 0
Stops inner f seen bytes (Ok x) = Unit {0}
Stops inner f seen bytes (Err s) = IsNoLimit s.kind → Stopped inner f seen bytes s

-- f gives a value and the bytes after it, and gives the same value where others come after
pub record Moved {V A : Type 0} (at : V → List ℕ → A) (f : List ℕ → Result A Stop) (bytes : List ℕ) (x : A) : Type 0 where
  pub value : V
  pub text : List ℕ
  pub rest : List ℕ
  pub is : x ≡ at value rest
  pub parts : bytes ≡ text ++ rest
  pub again : (more : List ℕ) → f (text ++ more) ≡ Ok (at value more)

abbrev pub Moves : {V A : Type 0} → (V → List ℕ → A) → (List ℕ → Result A Stop) → List ℕ → Result A Stop → Type 0
Moves at f bytes (Ok x) = Moved at f bytes x
Moves at f bytes (Err s) = Unit {0}

-- at most k bytes
abbrev pub Fits : ℕ → List ℕ → Type 0
Fits k bytes = IsBytes bytes × (length bytes ≤ k)

-- f reads at most k bytes so, after this text
pub record Steady {V A : Type 0} (k : ℕ) (inner : Bool) (at : V → List ℕ → A) (text : List ℕ) (f : List ℕ → Result A Stop) : Type 0 where
  pub moves : (bytes : List ℕ) → Fits k bytes → Moves at f bytes (f bytes)
  pub stops : (seen earlier bytes : List ℕ) → seen ≡ earlier ++ text → Fits k bytes → Stops inner f seen bytes (f bytes)

pub refused_then : {A B : Type 0} (r : Result A Stop) (g : A → Result B Stop) → Refused r → Refused (r >>= g)
refused_then (Ok x) g h = absurd h
refused_then (Err s) g h = h

pub fits_after : (k : ℕ) (bytes text rest : List ℕ) → Fits k bytes → bytes ≡ text ++ rest → Fits k rest
fits_after k bytes text rest fits e = (fits_behind bytes text rest fits.0 e, omega (arith, fits.1, ap length e, length-append text rest))

-- after any text
pub anywhere : {V A : Type 0} {k : ℕ} {inner : Bool} {at : V → List ℕ → A} (text : List ℕ) {f : List ℕ → Result A Stop} → Steady k inner at [] f → Steady k inner at text f
anywhere text h = record { moves = h.moves; stops = λ seen earlier bytes e fits. h.stops seen seen bytes (sym (append-nil seen)) fits }

-- one reading, and then another of the bytes after it
abbrev Both : {A B : Type 0} → (List ℕ → Result A Stop) → (List ℕ → A → Result B Stop) → List ℕ → Result B Stop
Both f g l = f l >>= g l

module _ {V A B : Type 0} (at : V → List ℕ → A) (f : List ℕ → Result A Stop) (g : List ℕ → A → Result B Stop) (v : V) (text : List ℕ) (again : (more : List ℕ) → f (text ++ more) ≡ Ok (at v more)) where
  same : (read more : List ℕ) → Both f g ((text ++ read) ++ more) ≡ g (text ++ (read ++ more)) (at v (read ++ more))
  same read more = rw (append_assoc, again (read ++ more)) refl

  carried_moves : {W : Type 0} (at2 : W → List ℕ → B) (bytes rest : List ℕ) (r : Result B Stop) → bytes ≡ text ++ rest → Moves at2 (λ l. g (text ++ l) (at v l)) rest r → Moves at2 (Both f g) bytes r
  carried_moves at2 bytes rest (Err s) parts h = tt
  carried_moves at2 bytes rest (Ok y) parts h = record {
    value = h.value;
    text = text ++ h.text;
    rest = h.rest;
    is = h.is;
    parts = parts ∙ ap (λ (l : List ℕ). text ++ l) h.parts ∙ sym (append_assoc text h.text h.rest);
    again = λ more. same h.text more ∙ h.again more;
  }

  carried_stops : (inner : Bool) (seen bytes rest : List ℕ) (r : Result B Stop) → bytes ≡ text ++ rest → Stops inner (λ l. g (text ++ l) (at v l)) (seen ++ text) rest r → Stops inner (Both f g) seen bytes r
  carried_stops inner seen bytes rest (Ok y) parts h = tt
  carried_stops inner seen bytes rest (Err s) parts h = λ limit.
      let t = h limit in record {
        front = t.front;
        item = t.item;
        read = text ++ t.read;
        rest = t.rest;
        parts = parts ∙ ap (λ (l : List ℕ). text ++ l) t.parts ∙ sym (append_assoc text t.read t.rest);
        cut = sym (append_assoc seen text t.read) ∙ t.cut;
        left_is = t.left_is;
        is_item = t.is_item;
        lasts = λ more few. subst Refused (sym (same t.read more)) (t.lasts more few);
      }

pub stops_first : {A B : Type 0} (inner : Bool) (f : List ℕ → Result A Stop) (g : List ℕ → A → Result B Stop) (seen bytes : List ℕ) (s : Stop) → (IsNoLimit s.kind → Stopped inner f seen bytes s) → IsNoLimit s.kind → Stopped inner (Both f g) seen bytes s
stops_first inner f g seen bytes s h limit =
    let t = h limit in record {
      front = t.front;
      item = t.item;
      read = t.read;
      rest = t.rest;
      parts = t.parts;
      cut = t.cut;
      left_is = t.left_is;
      is_item = t.is_item;
      lasts = λ more few. refused_then (f (t.read ++ more)) (g (t.read ++ more)) (t.lasts more few);
    }

-- the same, where it is known what was read
module _ {V W A B : Type 0} (k : ℕ) (inner : Bool) (at : V → List ℕ → A) (at2 : W → List ℕ → B) (begun : List ℕ) (f : List ℕ → Result A Stop) (g : List ℕ → A → Result B Stop) (Known : V → List ℕ → Type 0)
    (known : (bytes : List ℕ) (v : V) (text rest : List ℕ) → Fits k bytes → bytes ≡ text ++ rest → f bytes ≡ Ok (at v rest) → Known v text)
    (next : (v : V) (text : List ℕ) → Known v text → Steady k inner at2 (begun ++ text) (λ l. g (text ++ l) (at v l))) where
  module _ (bytes : List ℕ) (x : A) (fits : Fits k bytes) (e : f bytes ≡ Ok x) (m : Moved at f bytes x) where
    going_on : Steady k inner at2 (begun ++ m.text) (λ l. g (m.text ++ l) (at m.value l))
    going_on = next m.value m.text (known bytes m.value m.text m.rest fits m.parts (e ∙ ap (λ (y : A). let o : Result A Stop = Ok y in o) m.is))

    same_bytes : g (m.text ++ m.rest) (at m.value m.rest) ≡ g bytes x
    same_bytes = ap (λ (l : List ℕ). g l (at m.value m.rest)) (sym m.parts) ∙ ap (g bytes) (sym m.is)

  moves_after : (bytes : List ℕ) (r : Result A Stop) → Fits k bytes → f bytes ≡ r → Moves at f bytes r → Moves at2 (Both f g) bytes (r >>= g bytes)
  moves_after bytes (Err s) fits e m = tt
  moves_after bytes (Ok x) fits e m =
      subst (Moves at2 (Both f g) bytes) (same_bytes bytes x fits e m)
      (carried_moves at f g m.value m.text m.again at2 bytes m.rest (g (m.text ++ m.rest) (at m.value m.rest)) m.parts ((going_on bytes x fits e m).moves m.rest (fits_after k bytes m.text m.rest fits m.parts)))

  stops_after : (seen earlier bytes : List ℕ) → seen ≡ earlier ++ begun → (r : Result A Stop) → Fits k bytes → f bytes ≡ r → Moves at f bytes r → Stops inner f seen bytes r → Stops inner (Both f g) seen bytes (r >>= g bytes)
  stops_after seen earlier bytes is (Err s) fits e m h = stops_first inner f g seen bytes s h
  stops_after seen earlier bytes is (Ok x) fits e m h =
      subst (Stops inner (Both f g) seen bytes) (same_bytes bytes x fits e m)
      (carried_stops at f g m.value m.text m.again inner seen bytes m.rest (g (m.text ++ m.rest) (at m.value m.rest)) m.parts ((going_on bytes x fits e m).stops (seen ++ m.text) earlier m.rest (ap (λ (l : List ℕ). l ++ m.text) is ∙ append_assoc earlier begun m.text) (fits_after k bytes m.text m.rest fits m.parts)))

  then_by : Steady k inner at begun f → Steady k inner at2 begun (Both f g)
  then_by h = record {
    moves = λ bytes fits. moves_after bytes (f bytes) fits refl (h.moves bytes fits);
    stops = λ seen earlier bytes e fits. stops_after seen earlier bytes e (f bytes) fits refl (h.moves bytes fits) (h.stops seen earlier bytes e fits);
  }

pub then_from : {V W A B : Type 0} {k : ℕ} {inner : Bool} {at : V → List ℕ → A} {at2 : W → List ℕ → B} (begun : List ℕ) (f : List ℕ → Result A Stop) (g : List ℕ → A → Result B Stop) (Known : V → List ℕ → Type 0)
    → ((bytes : List ℕ) (v : V) (text rest : List ℕ) → Fits k bytes → bytes ≡ text ++ rest → f bytes ≡ Ok (at v rest) → Known v text)
    → Steady k inner at begun f → ((v : V) (text : List ℕ) → Known v text → Steady k inner at2 (begun ++ text) (λ l. g (text ++ l) (at v l))) → Steady k inner at2 begun (λ l. f l >>= g l)
then_from {k = k} {inner = inner} {at = at} {at2 = at2} begun f g Known known h next = then_by k inner at at2 begun f g Known known next h

pub then_known : {V W A B : Type 0} {k : ℕ} {inner : Bool} {at : V → List ℕ → A} {at2 : W → List ℕ → B} (f : List ℕ → Result A Stop) (g : List ℕ → A → Result B Stop) (Known : V → List ℕ → Type 0)
    → ((bytes : List ℕ) (v : V) (text rest : List ℕ) → Fits k bytes → bytes ≡ text ++ rest → f bytes ≡ Ok (at v rest) → Known v text)
    → Steady k inner at [] f → ((v : V) (text : List ℕ) → Known v text → Steady k inner at2 text (λ l. g (text ++ l) (at v l))) → Steady k inner at2 [] (λ l. f l >>= g l)
then_known f g Known known h next = then_from [] f g Known known h next

-- one reading, and then another of the bytes after it
pub then : {V W A B : Type 0} {k : ℕ} {inner : Bool} {at : V → List ℕ → A} {at2 : W → List ℕ → B} (f : List ℕ → Result A Stop) (g : A → Result B Stop) → Steady k inner at [] f → ((v : V) → Steady k inner at2 [] (λ l. g (at v l)))
    → Steady k inner at2 [] (λ l. f l >>= g)
then f g h next = then_known f (λ l. g) (λ v text. Unit {0}) (λ bytes v text rest fits parts e. tt) h (λ v text known. anywhere text (next v))

-- the same after some bytes
pub later : {V W A B : Type 0} {k : ℕ} {inner : Bool} {at : V → List ℕ → A} {at2 : W → List ℕ → B} (begun : List ℕ) (f : List ℕ → Result A Stop) (g : A → Result B Stop) → Steady k inner at begun f → ((v : V) → Steady k inner at2 [] (λ l. g (at v l)))
    → Steady k inner at2 begun (λ l. f l >>= g)
later begun f g h next = then_from begun f (λ l. g) (λ v text. Unit {0}) (λ bytes v text rest fits parts e. tt) h (λ v text known. anywhere (begun ++ text) (next v))

-- a test of what was read before
pub test : {V A : Type 0} {k : ℕ} {inner : Bool} {at : V → List ℕ → A} {text : List ℕ} (b : Bool) (f g : List ℕ → Result A Stop) → (b ≡ true → Steady k inner at text f) → (b ≡ false → Steady k inner at text g) → Steady k inner at text (λ l. cond b (f l) (g l))
test true f g h1 h2 = h1 refl
test false f g h1 h2 = h2 refl

-- a value that is at hand
pub given : {V A : Type 0} {k : ℕ} {inner : Bool} {at : V → List ℕ → A} {text : List ℕ} (v : V) → Steady k inner at text (λ l. Ok (at v l))
given v = record { moves = λ bytes fits. record { value = v; text = []; rest = bytes; is = refl; parts = refl; again = λ more. refl }; stops = λ seen earlier bytes e fits. tt }

-- a limit that was passed
pub passed_limit : {V A : Type 0} {k : ℕ} {inner : Bool} {at : V → List ℕ → A} {text : List ℕ} (v : Limit) (left : List ℕ → ℕ) → Steady k inner at text (λ l. Err (past v (left l)))
passed_limit v left = record { moves = λ bytes fits. tt; stops = λ seen earlier bytes e fits limit. absurd limit }

-- a fault of what was read last
pub fault_of_last : {V A : Type 0} {k : ℕ} {inner : Bool} {at : V → List ℕ → A} (before item : List ℕ) (fault : FaultKind) (left : List ℕ → ℕ) → ((l : List ℕ) → left l ≡ length item + length l) → IsNoLimit fault → IsItem fault item
    → Steady k inner at (before ++ item) (λ l. Err (stop fault (left l)))
fault_of_last before item fault left is limit is_item = record {
  moves = λ bytes fits. tt;
  stops = λ seen earlier bytes e fits limit2. record {
    front = earlier ++ before;
    item = item;
    read = [];
    rest = bytes;
    parts = refl;
    cut = append-nil seen ∙ e ∙ sym (append_assoc earlier before item);
    left_is = is bytes;
    is_item = is_item;
    lasts = λ more few. limit;
  };
}

-- the bytes end too early
pub too_early : {A : Type 0} (inner : Bool) (f : List ℕ → Result A Stop) (seen bytes : List ℕ) → f bytes ≡ Err ended → Stops inner f seen bytes (Err ended)
too_early inner f seen bytes e limit = record {
  front = seen ++ bytes;
  item = [];
  read = bytes;
  rest = [];
  parts = sym (append-nil bytes);
  cut = sym (append-nil (seen ++ bytes));
  left_is = refl;
  is_item = omega arith;
  lasts = λ more few. whole more (few tt);
} where
  whole : (more : List ℕ) → length more ≤ 0 → Refused (f (bytes ++ more))
  whole [] le = subst Refused (sym (ap f (append-nil bytes) ∙ e)) tt
  whole (b ∷ more) le = absurd (omega arith)

-- readings that do the same
module _ {V A : Type 0} (at : V → List ℕ → A) (f g : List ℕ → Result A Stop) (same_result : (l : List ℕ) → f l ≡ g l) where
  moves_alike : (bytes : List ℕ) (r : Result A Stop) → Moves at f bytes r → Moves at g bytes r
  moves_alike bytes (Err s) h = tt
  moves_alike bytes (Ok x) h = record { value = h.value; text = h.text; rest = h.rest; is = h.is; parts = h.parts; again = λ more. sym (same_result (h.text ++ more)) ∙ h.again more }

  stops_alike : (inner : Bool) (seen bytes : List ℕ) (r : Result A Stop) → Stops inner f seen bytes r → Stops inner g seen bytes r
  stops_alike inner seen bytes (Ok x) h = tt
  stops_alike inner seen bytes (Err s) h = λ limit.
      let t = h limit in record {
        front = t.front;
        item = t.item;
        read = t.read;
        rest = t.rest;
        parts = t.parts;
        cut = t.cut;
        left_is = t.left_is;
        is_item = t.is_item;
        lasts = λ more few. subst Refused (same_result (t.read ++ more)) (t.lasts more few);
      }

pub alike : {V A : Type 0} {k : ℕ} {inner : Bool} {at : V → List ℕ → A} {text : List ℕ} (f g : List ℕ → Result A Stop) → ((l : List ℕ) → f l ≡ g l) → Steady k inner at text f → Steady k inner at text g
alike {k = k} {inner = inner} {at = at} f g e h = record {
  moves = λ bytes fits. subst (Moves at g bytes) (e bytes) (moves_alike at f g e bytes (f bytes) (h.moves bytes fits));
  stops = λ seen earlier bytes is fits. subst (Stops inner g seen bytes) (e bytes) (stops_alike at f g e inner seen bytes (f bytes) (h.stops seen earlier bytes is fits));
}

-- a byte, and then a reading that depends on it
module _ {V A : Type 0} (m n : ℕ) (le : n ≤ suc m) (inner : Bool) (at : V → List ℕ → A) (begun : List ℕ) (f : List ℕ → Result A Stop) (none : f [] ≡ Err ended) (g : ℕ → List ℕ → Result A Stop) (is : (b : ℕ) (l : List ℕ) → f (b ∷ l) ≡ g b l)
    (h : (b : ℕ) → Steady m inner at (begun ++ b ∷ []) (g b)) where
  first_moves : (b : ℕ) (l : List ℕ) (r : Result A Stop) → Moves at (g b) l r → Moves at f (b ∷ l) r
  first_moves b l (Err s) t = tt
  first_moves b l (Ok x) t = record { value = t.value; text = b ∷ t.text; rest = t.rest; is = t.is; parts = ap (λ (q : List ℕ). b ∷ q) t.parts; again = λ more. is b (t.text ++ more) ∙ t.again more }

  first_stops : (seen : List ℕ) (b : ℕ) (l : List ℕ) (r : Result A Stop) → Stops inner (g b) (seen ++ b ∷ []) l r → Stops inner f seen (b ∷ l) r
  first_stops seen b l (Ok x) t = tt
  first_stops seen b l (Err s) t = λ limit.
      let u = t limit in record {
        front = u.front;
        item = u.item;
        read = b ∷ u.read;
        rest = u.rest;
        parts = ap (λ (q : List ℕ). b ∷ q) u.parts;
        cut = sym (append_assoc seen (b ∷ []) u.read) ∙ u.cut;
        left_is = u.left_is;
        is_item = u.is_item;
        lasts = λ more few. subst Refused (sym (is b (u.read ++ more))) (u.lasts more few);
      }

  moves_by_first : (bytes : List ℕ) → Fits n bytes → Moves at f bytes (f bytes)
  moves_by_first [] fits = subst (Moves at f []) (sym none) tt
  moves_by_first (b ∷ l) fits = subst (Moves at f (b ∷ l)) (sym (is b l)) (first_moves b l (g b l) ((h b).moves l (fits.0.1, omega (arith, fits.1))))

  stops_by_first : (seen earlier bytes : List ℕ) → seen ≡ earlier ++ begun → Fits n bytes → Stops inner f seen bytes (f bytes)
  stops_by_first seen earlier [] e fits = subst (Stops inner f seen []) (sym none) (too_early inner f seen [] none)
  stops_by_first seen earlier (b ∷ l) e fits = subst (Stops inner f seen (b ∷ l)) (sym (is b l)) (first_stops seen b l (g b l) ((h b).stops (seen ++ b ∷ []) earlier l (ap (λ (q : List ℕ). q ++ b ∷ []) e ∙ append_assoc earlier begun (b ∷ [])) (fits.0.1, omega (arith, fits.1))))

  steady_by_first : Steady n inner at begun f
  steady_by_first = record { moves = moves_by_first; stops = λ seen earlier bytes e fits. stops_by_first seen earlier bytes e fits }

pub later_by_first : {V A : Type 0} {m n : ℕ} {inner : Bool} {at : V → List ℕ → A} (begun : List ℕ) → n ≤ suc m → (f : List ℕ → Result A Stop) → f [] ≡ Err ended → (g : ℕ → List ℕ → Result A Stop) → ((b : ℕ) (l : List ℕ) → f (b ∷ l) ≡ g b l)
    → ((b : ℕ) → Steady m inner at (begun ++ b ∷ []) (g b)) → Steady n inner at begun f
later_by_first {m = m} {n = n} {inner = inner} {at = at} begun le f none g is h = steady_by_first m n le inner at begun f none g is h

pub by_first : {V A : Type 0} {m n : ℕ} {inner : Bool} {at : V → List ℕ → A} → n ≤ suc m → (f : List ℕ → Result A Stop) → f [] ≡ Err ended → (g : ℕ → List ℕ → Result A Stop) → ((b : ℕ) (l : List ℕ) → f (b ∷ l) ≡ g b l)
    → ((b : ℕ) → Steady m inner at (b ∷ []) (g b)) → Steady n inner at [] f
by_first le f none g is h = later_by_first [] le f none g is h
