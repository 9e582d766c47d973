-- A module: reading that stops does so whatever comes after the faulty item.
use Rattle.std.proofs.Common.{◌≡◌, ℕ, zero, suc, ◌+◌, ◌≤◌, ◌<◌, Bool, true, false, cond, eqb, List, [], ◌∷◌, ◌++◌, length, Option, Some, None, Result, Ok, Err, refl, sym, ap, subst, ◌∙◌, arith, append_assoc, length-append}
use Rattle.std.specs.Prelude.{is_some}
use Rattle.std.specs.Option.{option_flatten}
use Rattle.std.proofs.lemmas.Bool.{eqb-true, eqb-false}
use Rattle.std.proofs.lemmas.List.{append-nil}
use Rattle.wm_ast.specs.declared.module.DataSegment.{DataSegment}
use Rattle.wm_ast.specs.declared.module.Func.{Func}
use Rattle.wm_ast.specs.declared.module.Module.{Module}
use Rattle.wm_decode.specs.declared.fault.FaultKind.{FaultKind}
use Rattle.wm_decode.specs.declared.fault.FaultKind.TheVariants as kind
use Rattle.wm_decode.specs.declared.module.Declared.{Declared}
use Rattle.wm_decode.specs.Begins.{IsItem}
use Rattle.wm_decode.specs.Bounds.{Bounds}
use Rattle.wm_decode.specs.Module.{header, items_of, magic, memory_of, version}
use Rattle.wm_decode.specs.Numbers.{IsBytes}
use Rattle.wm_decode.specs.Stop.{Stop, stop, ended}
use Rattle.wm_decode.specs.Reading.{◌>>=◌}
use Rattle.wm_decode.specs.ReadingVectors.{u32_at, byte_vector_at, name_at, sized_at, vector_at}
use Rattle.wm_decode.specs.ReadingParts.{func_type_at, imports_at, memories_at, indices_at, no_items_at, global_at, exports_at, code_at, segments_at, agrees}
use Rattle.wm_decode.specs.ReadingModule.{agreed_module, custom_at, customs_in, section_at, one_at, behind, header_at, front_at, definitions_at, declared_at, bodies_at, module_at}
use Rattle.wm_decode.proofs.Steps.{bound, fits_behind, pair_is}
use Rattle.wm_decode.proofs.Customs.{customs_cons, customs_none}
use Rattle.wm_decode.proofs.Lasting.{Depends, IsNoLimit, Moved, Moves, Refused, Steady, Stopped, Stops, alike, fault_of_last, given, later_by_first, refused_then, stops_first, test, then}
use Rattle.wm_decode.proofs.LastingFaults.{section_fine}
use Rattle.wm_decode.proofs.LastingItems.{pair, u32_steady, byte_vector_steady, name_steady}
use Rattle.wm_decode.proofs.LastingSized.{whole_steady}
use Rattle.wm_decode.proofs.LastingParts.{only, inside, surplus, types_steady, imports_steady, indices_steady, no_items_steady, memories_steady, globals_steady, exports_steady, code_steady, segments_steady}

-- a stop that no bytes after it can change: no limit, and not at the end of the bytes
abbrev pub Decides : FaultKind → ℕ → Type 0
Decides (kind.Limit limit) left = ⊥
Decides kind.Truncated left = ⊥
Decides kind.CountMismatch left = 0 < left
Decides k left = Unit {0}

is_no_limit : (k : FaultKind) (left : ℕ) → Decides k left → IsNoLimit k
is_no_limit kind.Magic left h = tt
is_no_limit kind.Version left h = tt
is_no_limit kind.Truncated left h = tt
is_no_limit kind.BadNumber left h = tt
is_no_limit kind.BadName left h = tt
is_no_limit kind.SectionOrder left h = tt
is_no_limit kind.SectionSize left h = tt
is_no_limit kind.CountMismatch left h = tt
is_no_limit (kind.UnknownOpcode byte) left h = tt
is_no_limit (kind.Unsupported feature) left h = tt
is_no_limit (kind.Limit limit) left h = h
is_no_limit kind.DuplicateExport left h = tt

independent : (k : FaultKind) (left : ℕ) → Decides k left → Depends false k → ⊥
independent kind.Magic left h d = d
independent kind.Version left h d = d
independent kind.Truncated left h d = h
independent kind.BadNumber left h d = d
independent kind.BadName left h d = d
independent kind.SectionOrder left h d = d
independent kind.SectionSize left h d = absurd cc
independent kind.CountMismatch left h d = d
independent (kind.UnknownOpcode byte) left h d = d
independent (kind.Unsupported feature) left h d = d
independent (kind.Limit limit) left h d = d
independent kind.DuplicateExport left h d = d

-- f stops in these bytes whatever comes after those that it read
pub record Settled (f : List ℕ → Result Module Stop) (seen bytes : List ℕ) (s : Stop) : Type 0 where
  pub front : List ℕ
  pub item : List ℕ
  pub read : List ℕ
  pub rest : List ℕ
  pub parts : bytes ≡ read ++ rest
  pub cut : seen ++ read ≡ front ++ item
  pub left_is : s.left ≡ length item + length rest
  pub is_item : IsItem s.kind item
  pub lasts : (more : List ℕ) → Refused (f (read ++ more))

abbrev Settles : (List ℕ → Result Module Stop) → List ℕ → List ℕ → Result Module Stop → Type 0
Settles f seen bytes (Ok m) = Unit {0}
Settles f seen bytes (Err s) = Decides s.kind s.left → Settled f seen bytes s

-- it read at least one byte
abbrev pub Begins : (List ℕ → Result Module Stop) → List ℕ → List ℕ → Result Module Stop → Type 0
Begins f seen bytes (Ok m) = Unit {0}
Begins f seen bytes (Err s) = Decides s.kind s.left → (t : Settled f seen bytes s) × (0 < length t.read)

abbrev pub Sure : (List ℕ → Result Module Stop) → Type 0
Sure f = (seen bytes : List ℕ) → IsBytes bytes → Begins f seen bytes (f bytes)

settles : (f : List ℕ → Result Module Stop) (seen bytes : List ℕ) (r : Result Module Stop) → Begins f seen bytes r → Settles f seen bytes r
settles f seen bytes (Ok m) h = tt
settles f seen bytes (Err s) h = λ d. (h d).0

unfoldable settled : {A : Type 0} (f : List ℕ → Result A Stop) (g : List ℕ → A → Result Module Stop) (seen bytes : List ℕ) (s : Stop) → Decides s.kind s.left → Stopped false f seen bytes s → Settled (λ l. f l >>= g l) seen bytes s
settled f g seen bytes s d t = record {
  front = t.front;
  item = t.item;
  read = t.read;
  rest = t.rest;
  parts = t.parts;
  cut = t.cut;
  left_is = t.left_is;
  is_item = t.is_item;
  lasts = λ more. refused_then (f (t.read ++ more)) (g (t.read ++ more)) (t.lasts more (λ depends. absurd (independent s.kind s.left d depends)));
}

-- bytes that were read before
unfoldable settled_after : (f g : List ℕ → Result Module Stop) (text : List ℕ) → ((l : List ℕ) → f (text ++ l) ≡ g l) → (seen bytes rest : List ℕ) (s : Stop) → bytes ≡ text ++ rest → Settled g (seen ++ text) rest s → Settled f seen bytes s
settled_after f g text is seen bytes rest s parts t = record {
  front = t.front;
  item = t.item;
  read = text ++ t.read;
  rest = t.rest;
  parts = parts ∙ ap (λ (l : List ℕ). text ++ l) t.parts ∙ sym (append_assoc text t.read t.rest);
  cut = sym (append_assoc seen text t.read) ∙ t.cut;
  left_is = t.left_is;
  is_item = t.is_item;
  lasts = λ more. subst Refused (sym (ap f (append_assoc text t.read more) ∙ is (t.read ++ more))) (t.lasts more);
}

settles_after : (f g : List ℕ → Result Module Stop) (text : List ℕ) → ((l : List ℕ) → f (text ++ l) ≡ g l) → (seen bytes rest : List ℕ) (r : Result Module Stop) → bytes ≡ text ++ rest → Settles g (seen ++ text) rest r → Settles f seen bytes r
settles_after f g text is seen bytes rest (Ok m) parts h = tt
settles_after f g text is seen bytes rest (Err s) parts h = λ d. settled_after f g text is seen bytes rest s parts (h d)

-- a byte before
byte_before : (f g : List ℕ → Result Module Stop) (b : ℕ) → ((l : List ℕ) → f (b ∷ l) ≡ g l) → (seen l : List ℕ) (r : Result Module Stop) → Settles g (seen ++ b ∷ []) l r → Begins f seen (b ∷ l) r
unfolding settled_after
byte_before f g b is seen l (Ok m) h = tt
byte_before f g b is seen l (Err s) h = λ d. (settled_after f g (b ∷ []) is seen (b ∷ l) l s refl (h d), omega arith)

-- a value with its size, and then another reading
module _ {X : Type 0} (f : List ℕ → Result (X × List ℕ) Stop) (h : (k : ℕ) → Steady k false pair [] f) (g : X × List ℕ → Result Module Stop) where
  steady_then : (seen bytes : List ℕ) → IsBytes bytes → ((x : X) (earlier rest : List ℕ) → IsBytes rest → length rest ≤ length bytes → Settles (λ l. g (x, l)) earlier rest (g (x, rest))) → Settles (λ l. f l >>= g) seen bytes (f bytes >>= g)
  steady_then seen bytes fits next = by (f bytes) ((h (length bytes)).moves bytes (fits, omega arith)) ((h (length bytes)).stops seen seen bytes (sym (append-nil seen)) (fits, omega arith)) where
    by : (r : Result (X × List ℕ) Stop) → Moves pair f bytes r → Stops false f seen bytes r → Settles (λ l. f l >>= g) seen bytes (r >>= g)
    by (Err s) m t = λ d. settled f (λ l. g) seen bytes s d (t (is_no_limit s.kind s.left d))
    by (Ok x) m t = subst (λ (y : X × List ℕ). Settles (λ l. f l >>= g) seen bytes (g y)) (sym m.is) (settles_after (λ l. f l >>= g) (λ l. g (m.value, l)) m.text (λ l. ap (λ (r : Result (X × List ℕ) Stop). r >>= g) (m.again l)) seen bytes m.rest (g (m.value, m.rest)) m.parts
        (next m.value (seen ++ m.text) m.rest (fits_behind bytes m.text m.rest fits m.parts) (omega (arith, ap length m.parts, length-append m.text m.rest))))

section_own : (seen bytes : List ℕ) → IsBytes bytes → Stops false byte_vector_at seen bytes (byte_vector_at bytes)
section_own seen bytes fits = (byte_vector_steady {k = length bytes} {inner = false}).stops seen seen bytes (sym (append-nil seen)) (fits, omega arith)

content_steady : {X : Type 0} (item_at : List ℕ → Result (X × List ℕ) Stop) → ((k : ℕ) → Steady k true pair [] item_at) → (k : ℕ) → Steady k false pair [] (sized_at item_at)
unfolding sized_at
content_steady item_at h k = whole_steady item_at false (λ l. ended) (λ l. tt) section_own (inside item_at h) (surplus item_at h)

-- custom sections
custom_inside : (seen bytes : List ℕ) → IsBytes bytes → Stops true custom_at seen bytes (custom_at bytes)
unfolding custom_at
custom_inside seen bytes fits = by (name_at bytes) ((name_steady {k = length bytes}).stops seen seen bytes (sym (append-nil seen)) (fits, omega arith)) where
  by : (r : Result (List ℕ × List ℕ) Stop) → Stops true name_at seen bytes r → Stops true custom_at seen bytes (r >>= λ name. Ok (name.0, []))
  by (Ok name) h = tt
  by (Err s) h = stops_first true name_at (λ l name. Ok (pair name.0 [])) seen bytes s h

custom_surplus : (bytes name : List ℕ) (b : ℕ) (rest : List ℕ) → IsBytes bytes → custom_at bytes ≡ Ok (name, b ∷ rest) → Moved pair custom_at bytes (name, b ∷ rest)
unfolding custom_at
custom_surplus bytes name b rest fits e =
    let a = bound (name_at bytes) (λ n. let o : Result (List ℕ × List ℕ) Stop = Ok (n.0, []) in o) (name, b ∷ rest) e in
    let none : [] ≡ b ∷ rest = (pair_is (a.0.0, []) (name, b ∷ rest) a.2).1 in absurd cc

custom_steady : (k : ℕ) → Steady k false pair [] (sized_at custom_at)
unfolding sized_at
custom_steady k = whole_steady custom_at false (λ l. ended) (λ l. tt) section_own custom_inside custom_surplus

same_reading : (f g : List ℕ → Result Module Stop) → ((l : List ℕ) → f l ≡ g l) → Sure f → Sure g
same_reading f g is h seen bytes fits = subst (Begins g seen bytes) (is bytes) (by (f bytes) (h seen bytes fits)) where
  by : (r : Result Module Stop) → Begins f seen bytes r → Begins g seen bytes r
  by (Ok m) t = tt
  by (Err s) t = λ d. let u = t d in (
    record {
      front = u.0.front;
      item = u.0.item;
      read = u.0.read;
      rest = u.0.rest;
      parts = u.0.parts;
      cut = u.0.cut;
      left_is = u.0.left_is;
      is_item = u.0.is_item;
      lasts = λ more. subst Refused (is (u.0.read ++ more)) (u.0.lasts more);
    },
    u.1,
  )

-- f, and then g, where f does nothing to bytes that begin with a byte of this kind
module _ {A : Type 0} (f : List ℕ → Result A Stop) (g : A → Result Module Stop) (k : List ℕ → Result Module Stop) where
  -- of these bytes f leaves all
  passed_by : (seen : List ℕ) (b : ℕ) (l : List ℕ) → ((more : List ℕ) → (f (b ∷ more) >>= g) ≡ k (b ∷ more)) → (r : Result Module Stop) → Begins k seen (b ∷ l) r → Begins (λ q. f q >>= g) seen (b ∷ l) r
  passed_by seen b l is (Ok m) h = tt
  passed_by seen b l is (Err s) h = λ d. let t = h d in by t.0 t.0.read refl t.1 where
    by : (t : Settled k seen (b ∷ l) s) (read : List ℕ) → t.read ≡ read → 0 < length t.read → (u : Settled (λ q. f q >>= g) seen (b ∷ l) s) × (0 < length u.read)
    by t [] e long = absurd (omega (arith, ap length e))
    by t (c ∷ read) e long = (
      record {
        front = t.front;
        item = t.item;
        read = t.read;
        rest = t.rest;
        parts = t.parts;
        cut = t.cut;
        left_is = t.left_is;
        is_item = t.is_item;
        lasts = λ more.
            let first : b ∷ l ≡ c ∷ (read ++ t.rest) = t.parts ∙ ap (λ (q : List ℕ). q ++ t.rest) e in
            let c_is : b ≡ c = cc in
            let at_read : t.read ++ more ≡ b ∷ (read ++ more) = ap (λ (q : List ℕ). q ++ more) e ∙ ap (λ (n : ℕ). n ∷ (read ++ more)) (sym c_is) in
            subst (λ (q : List ℕ). Refused (f q >>= g)) (sym at_read) (subst Refused (sym (is (read ++ more))) (subst (λ (q : List ℕ). Refused (k q)) at_read (t.lasts more)));
      },
      long,
    )

-- there is no byte to read
nothing_read : (f g : List ℕ → Result Module Stop) (seen : List ℕ) (r : Result Module Stop) → Begins g seen [] r → Begins f seen [] r
nothing_read f g seen (Ok m) h = tt
nothing_read f g seen (Err s) h = λ d. let t = h d in absurd (omega (arith, ap length t.0.parts, length-append t.0.read t.0.rest, t.1))

-- f, and then what is sure
abbrev pub Leads : {V A : Type 0} → (V → List ℕ → A) → (List ℕ → Result A Stop) → Type 0
Leads {V} {A} at f = (g : A → Result Module Stop) → ((v : V) → Sure (λ l. g (at v l))) → Sure (λ l. f l >>= g)

bind_assoc : {A B C : Type 0} (r : Result A Stop) (f : A → Result B Stop) (g : B → Result C Stop) → (r >>= λ x. f x >>= g) ≡ ((r >>= f) >>= g)
bind_assoc (Ok x) f g = refl
bind_assoc (Err s) f g = refl

leads_then : {V W A B : Type 0} {at : V → List ℕ → A} {at2 : W → List ℕ → B} (f : List ℕ → Result A Stop) (g : A → Result B Stop) → Leads at f → ((v : V) → Leads at2 (λ l. g (at v l))) → Leads at2 (λ l. f l >>= g)
leads_then {at = at} f g h next k sure = same_reading (λ l. f l >>= λ x. g x >>= k) (λ l. (f l >>= g) >>= k) (λ l. bind_assoc (f l) g k) (h (λ x. g x >>= k) (λ v. next v k sure))

-- custom sections
module _ (g : List ℕ → Result Module Stop) (sure : Sure g) where
  abbrev After_customs : List ℕ → Result Module Stop
  After_customs l = customs_in l >>= g

  left_alone : (bytes rest : List ℕ) → customs_in bytes ≡ Ok rest → After_customs bytes ≡ g rest
  left_alone bytes rest e = ap (λ (r : Result (List ℕ) Stop). r >>= g) e

  other_byte : (b : ℕ) (l : List ℕ) → eqb b 0 ≡ false → After_customs (b ∷ l) ≡ g (b ∷ l)
  other_byte b l e = left_alone (b ∷ l) (b ∷ l) (customs_none (b ∷ l) (λ long is. eqb-false b 0 e is))

  custom_byte : (b : ℕ) (l : List ℕ) → eqb b 0 ≡ true → After_customs (b ∷ l) ≡ (sized_at custom_at l >>= λ y. After_customs y.1)
  custom_byte b l e = ap (λ (n : ℕ). After_customs (n ∷ l)) (eqb-true b 0 e) ∙ ap (λ (r : Result (List ℕ) Stop). r >>= g) (customs_cons l) ∙ sym (bind_assoc (sized_at custom_at l) (λ y. customs_in y.1) g)

  module _ (n : ℕ) (next : (seen bytes : List ℕ) → length bytes ≤ n → IsBytes bytes → Begins After_customs seen bytes (After_customs bytes)) where
    with_first : (seen : List ℕ) (b : ℕ) (l : List ℕ) → length l ≤ n → IsBytes (b ∷ l) → (t : Bool) → eqb b 0 ≡ t → Begins After_customs seen (b ∷ l) (After_customs (b ∷ l))
    with_first seen b l le fits false e = subst (Begins After_customs seen (b ∷ l)) (sym (other_byte b l e)) (passed_by customs_in g g seen b l (λ more. other_byte b more e) (g (b ∷ l)) (sure seen (b ∷ l) fits))
    with_first seen b l le fits true e =
        let rest_of = λ (y : List ℕ × List ℕ). After_customs y.1 in
        let f = λ (q : List ℕ). sized_at custom_at q >>= rest_of in
        subst (Begins After_customs seen (b ∷ l)) (sym (custom_byte b l e)) (byte_before After_customs f b (λ more. custom_byte b more e) seen l (f l) (
        steady_then (sized_at custom_at) custom_steady rest_of (seen ++ b ∷ []) l fits.1 (λ name earlier rest fits2 short. settles After_customs earlier rest (After_customs rest) (next earlier rest (omega (arith, short)) fits2))))

  customs_by : (n : ℕ) (seen bytes : List ℕ) → length bytes ≤ n → IsBytes bytes → Begins After_customs seen bytes (After_customs bytes)
  customs_by n seen [] le fits = subst (Begins After_customs seen []) (sym (left_alone [] [] (customs_none [] (λ long is. absurd (omega arith))))) (nothing_read After_customs g seen (g []) (sure seen [] fits))
  customs_by zero seen (b ∷ l) le fits = absurd (omega arith)
  customs_by (suc n) seen (b ∷ l) le fits = with_first n (customs_by n) seen b l (omega arith) fits (eqb b 0) refl

customs_lead : Leads only customs_in
customs_lead g sure seen bytes fits = customs_by g (sure tt) (length bytes) seen bytes (omega arith) fits

-- sections
module _ {X : Type 0} (item_at : List ℕ → Result (X × List ℕ) Stop) (h : (k : ℕ) → Steady k true pair [] item_at) (id : ℕ) (g : Option X × List ℕ → Result Module Stop) (sure : (o : Option X) → Sure (λ l. g (o, l))) where
  abbrev After_section : List ℕ → Result Module Stop
  After_section l = section_at item_at id l >>= g

  abbrev With_content : X × List ℕ → Result Module Stop
  With_content x = customs_in x.1 >>= λ rest. g (Some x.0, rest)

  absent_byte : (b : ℕ) (l : List ℕ) → eqb b id ≡ false → After_section (b ∷ l) ≡ g (None, b ∷ l)
  unfolding section_at
  absent_byte b l e = rw e refl

  present_byte : (b : ℕ) (l : List ℕ) → eqb b id ≡ true → After_section (b ∷ l) ≡ (sized_at item_at l >>= With_content)
  unfolding section_at
  present_byte b l e = rw e (by (sized_at item_at l)) where
    by : (r : Result (X × List ℕ) Stop) → ((r >>= λ x. customs_in x.1 >>= λ rest. Ok (Some x.0, rest)) >>= g) ≡ (r >>= With_content)
    by (Err s) = refl
    by (Ok x) = sym (bind_assoc (customs_in x.1) (λ rest. let o : Result (Option X × List ℕ) Stop = Ok (Some x.0, rest) in o) g)

  section_by : (seen : List ℕ) (b : ℕ) (l : List ℕ) → IsBytes (b ∷ l) → (t : Bool) → eqb b id ≡ t → Begins After_section seen (b ∷ l) (After_section (b ∷ l))
  section_by seen b l fits false e = subst (Begins After_section seen (b ∷ l)) (sym (absent_byte b l e)) (passed_by (section_at item_at id) g (λ q. g (None, q)) seen b l (λ more. absent_byte b more e) (g (None, b ∷ l)) (sure None seen (b ∷ l) fits))
  section_by seen b l fits true e =
      let f = λ (q : List ℕ). sized_at item_at q >>= With_content in
      subst (Begins After_section seen (b ∷ l)) (sym (present_byte b l e)) (byte_before After_section f b (λ more. present_byte b more e) seen l (f l) (
      steady_then (sized_at item_at) (content_steady item_at h) With_content (seen ++ b ∷ []) l fits.1 (λ x earlier rest fits2 short.
      settles (λ q. With_content (x, q)) earlier rest (With_content (x, rest)) (customs_lead (λ q. g (Some x, q)) (λ u. sure (Some x)) earlier rest fits2))))

  no_section : (seen : List ℕ) → Begins After_section seen [] (After_section [])
  unfolding section_at
  no_section seen = nothing_read After_section (λ q. g (None, q)) seen (g (None, [])) (sure None seen [] tt)

  section_sure : Sure After_section
  section_sure seen [] fits = no_section seen
  section_sure seen (b ∷ l) fits = section_by seen b l fits (eqb b id) refl

section_lead : {X : Type 0} (item_at : List ℕ → Result (X × List ℕ) Stop) → ((k : ℕ) → Steady k true pair [] item_at) → (id : ℕ) → Leads pair (section_at item_at id)
section_lead item_at h id g sure = section_sure item_at h id g sure

-- the header
behind_steady : {k : ℕ} (fault : FaultKind) → IsNoLimit fault → ((item : List ℕ) → length item ≤ 4 → IsItem fault item) → (ps text : List ℕ) → length text + length ps ≤ 4 → Steady k false only text (λ l. behind (stop fault (length (text ++ l))) ps l)
unfolding one_at
behind_steady fault limit is_item [] text le = given tt
behind_steady {k = k} fault limit is_item (p ∷ ps) text le =
    later_by_first {m = k} text (omega arith) (λ l. behind (stop fault (length (text ++ l))) (p ∷ ps) l) refl (λ b l. cond (eqb b p) (behind (stop fault (length (text ++ b ∷ l))) ps l) (Err (stop fault (length (text ++ b ∷ l))))) (λ b l. by b l (eqb b p)) (λ b.
    let len : length (text ++ b ∷ []) ≡ length text + 1 = length-append text (b ∷ []) in
    test (eqb b p) _ _ (λ e. alike (λ l. behind (stop fault (length ((text ++ b ∷ []) ++ l))) ps l) _ (λ l. ap (λ (q : List ℕ). behind (stop fault (length q)) ps l) (append_assoc text (b ∷ []) l)) (behind_steady fault limit is_item ps (text ++ b ∷ []) (omega arith))) (λ e.
    fault_of_last [] (text ++ b ∷ []) fault (λ l. length (text ++ b ∷ l)) (λ l. omega (arith, length-append text (b ∷ l), len)) limit (is_item (text ++ b ∷ []) (omega (arith, len))))) where
      by : (b : ℕ) (l : List ℕ) (t : Bool) → (cond t (Ok l) (Err (stop fault (length (text ++ b ∷ l)))) >>= behind (stop fault (length (text ++ b ∷ l))) ps) ≡ cond t (behind (stop fault (length (text ++ b ∷ l))) ps l) (Err (stop fault (length (text ++ b ∷ l))))
      by b l true = refl
      by b l false = refl

header_steady : {k : ℕ} → Steady k false only [] header_at
unfolding header_at
header_steady = then (λ l. behind (stop kind.Magic (length l)) magic l) _ (behind_steady kind.Magic tt (λ item le. le) magic [] (omega arith)) (λ u. behind_steady kind.Version tt (λ item le. le) version [] (omega arith))

header_is_read : header_at header ≡ Ok []
unfolding header_at one_at
header_is_read = refl

-- reading that stops in the header has read a byte, since the header can come there
module _ (g : List ℕ → Result Module Stop) (sure : Sure g) where
  abbrev After_header : List ℕ → Result Module Stop
  After_header l = header_at l >>= g

  header_stop : (seen bytes : List ℕ) (s : Stop) → Decides s.kind s.left → Stopped false header_at seen bytes s → (t : Settled After_header seen bytes s) × (0 < length t.read)
  unfolding settled
  header_stop seen bytes s d t = (settled header_at (λ l. g) seen bytes s d t, by t.read refl) where
    by : (read : List ℕ) → t.read ≡ read → 0 < length t.read
    by [] e = absurd (subst (Refused {A = List ℕ}) (ap (λ (q : List ℕ). header_at (q ++ header)) e ∙ header_is_read) (t.lasts header (λ depends. absurd (independent s.kind s.left d depends))))
    by (b ∷ read) e = omega (arith, ap length e)

  header_go : (seen bytes : List ℕ) (v : Unit {0}) (text rest : List ℕ) → ((more : List ℕ) → header_at (text ++ more) ≡ Ok more) → bytes ≡ text ++ rest → (r : Result Module Stop) → Begins g (seen ++ text) rest r → Begins After_header seen bytes r
  unfolding settled_after
  header_go seen bytes v text rest again parts (Ok m) h = tt
  header_go seen bytes v text rest again parts (Err s) h = λ d.
      let t = h d in
      let u : Settled After_header seen bytes s = settled_after After_header g text (λ l. ap (λ (r : Result (List ℕ) Stop). r >>= g) (again l)) seen bytes rest s parts t.0 in
      (u, omega (arith, length-append text t.0.read, t.1))

  header_by : (seen bytes : List ℕ) → IsBytes bytes → (r : Result (List ℕ) Stop) → Moves only header_at bytes r → Stops false header_at seen bytes r → Begins After_header seen bytes (r >>= g)
  header_by seen bytes fits (Err s) m t = λ d. header_stop seen bytes s d (t (is_no_limit s.kind s.left d))
  header_by seen bytes fits (Ok x) m t = subst (λ (q : List ℕ). Begins After_header seen bytes (g q)) (sym m.is) (header_go seen bytes m.value m.text m.rest m.again m.parts (g m.rest) (sure (seen ++ m.text) m.rest (fits_behind bytes m.text m.rest fits m.parts)))

  header_sure : Sure After_header
  header_sure seen bytes fits = let h = header_steady {k = length bytes} in header_by seen bytes fits (header_at bytes) (h.moves bytes (fits, omega arith)) (h.stops seen seen bytes (sym (append-nil seen)) (fits, omega arith))

header_lead : Leads only header_at
header_lead g sure = header_sure g (sure tt)

-- the module
module _ (bounds : Bounds) where
  front_lead : Leads pair (front_at bounds)
  unfolding front_at
  front_lead =
      leads_then header_at _ header_lead (λ u.
      leads_then customs_in _ customs_lead (λ u2.
      leads_then (section_at (vector_at func_type_at) 1) _ (section_lead (vector_at func_type_at) (λ k. types_steady) 1) (λ types.
      leads_then (section_at (imports_at bounds) 2) _ (section_lead (imports_at bounds) (λ k. imports_steady bounds) 2) (λ imported.
      leads_then (section_at (indices_at bounds) 3) _ (section_lead (indices_at bounds) (λ k. indices_steady bounds) 3) (λ indices.
      λ g sure. sure (record { types = items_of types; imported = option_flatten imported; indices = items_of indices }))))))

  declared_lead : Leads pair (declared_at bounds)
  unfolding declared_at definitions_at
  declared_lead =
      leads_then (front_at bounds) _ front_lead (λ front.
      leads_then (section_at no_items_at 4) _ (section_lead no_items_at (λ k. no_items_steady) 4) (λ tables.
      leads_then (section_at (memories_at bounds (is_some front.imported)) 5) _ (section_lead (memories_at bounds (is_some front.imported)) (λ k. memories_steady bounds (is_some front.imported)) 5) (λ defined.
      leads_then (section_at (vector_at global_at) 6) _ (section_lead (vector_at global_at) (λ k. globals_steady) 6) (λ globals.
      leads_then (section_at exports_at 7) _ (section_lead exports_at (λ k. exports_steady) 7) (λ exports.
      leads_then (section_at no_items_at 9) _ (section_lead no_items_at (λ k. no_items_steady) 9) (λ elements.
      λ g sure. sure (record { types = front.types; indices = front.indices; memory = memory_of front.imported (option_flatten defined); globals = items_of globals; exports = items_of exports })))))))

  agreed_sure : (declared : Declared) (count : Option ℕ) (funcs : Option (List Func)) (segments : Option (List DataSegment)) → Sure (agreed_module declared count funcs segments)
  agreed_sure declared count funcs segments seen (id ∷ rest) fits = λ d.
      let fine = section_fine id in (
        record {
          front = seen;
          item = id ∷ [];
          read = id ∷ [];
          rest = rest;
          parts = refl;
          cut = refl;
          left_is = omega arith;
          is_item = fine.is_item (id ∷ []) (omega arith);
          lasts = λ more. fine.no_limit;
        },
        omega arith,
      )
  agreed_sure declared count funcs segments seen [] fits = by (eqb (length (items_of funcs)) (length declared.indices)) (agrees count (length (items_of segments))) where
    by : (t u : Bool) → Begins (agreed_module declared count funcs segments) seen [] (cond t (cond u (Ok (record { types = declared.types; funcs = items_of funcs; memory = declared.memory; globals = declared.globals; exports = declared.exports; «data» = items_of segments })) (Err (stop kind.CountMismatch 0))) (Err (stop kind.CountMismatch 0)))
    by true true = tt
    by true false = λ d. absurd (omega arith)
    by false u = λ d. absurd (omega arith)

  bodies_sure : (declared : Declared) → Sure (bodies_at bounds declared)
  unfolding bodies_at
  bodies_sure declared =
      section_lead u32_at (λ k. u32_steady) 12 _ (λ count.
      section_lead (code_at bounds declared.types declared.indices) (λ k. code_steady bounds declared.types declared.indices) 10 _ (λ code.
      section_lead (segments_at count) (λ k. segments_steady count) 11 _ (λ segments. agreed_sure declared count code segments)))

  pub module_sure : Sure (module_at bounds)
  unfolding module_at
  module_sure = declared_lead (λ d. bodies_at bounds d.0 d.1) bodies_sure
