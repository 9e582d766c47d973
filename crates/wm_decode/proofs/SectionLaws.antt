-- Sections are read as they are spelled.
use Rattle.std.proofs.Common.{◌≡◌, ℕ, zero, suc, ◌≤◌, Bool, true, false, cond, eqb, List, [], ◌∷◌, ◌++◌, length, Option, Some, None, Result, Ok, Err, refl, sym, ap, subst, ◌∙◌, append_assoc, arith, inl, inr, length-append}
use Rattle.std.proofs.lemmas.List.{append-nil}
use Rattle.std.proofs.lemmas.Bool.{eqb-true, eq-eqb, ne_eqb}
use Rattle.wm_decode.specs.declared.fault.FaultKind.TheVariants.{Magic, Version}
use Rattle.wm_decode.specs.Stop.{Stop, stop}
use Rattle.wm_decode.specs.Numbers.{IsBytes}
use Rattle.wm_decode.specs.Vectors.{Sized}
use Rattle.wm_decode.specs.Module.{Custom, Customs, no_custom, custom, Section, absent, header, magic, present, version}
use Rattle.wm_decode.specs.Reading.{◌>>=◌}
use Rattle.wm_decode.specs.ReadingVectors.{name_at, sized_at}
use Rattle.wm_decode.specs.ReadingModule.{behind, custom_at, customs_at, customs_in, header_at, one_at, section_at}
use Rattle.wm_decode.proofs.Steps.{bound, chosen, ok_is, pair_is, fits_behind, answered}
use Rattle.wm_decode.proofs.Lawful.{Lawful, sized_law, sized_lawful}
use Rattle.wm_decode.proofs.TypeLaws.{name_lawful}
use Rattle.wm_decode.proofs.BodyAgain.{from_suc}

custom_takes : (bytes name rest : List ℕ) → IsBytes bytes → custom_at bytes ≡ Ok (name, rest) → (text : List ℕ) × (bytes ≡ text ++ rest) × Custom text name
unfolding custom_at
custom_takes bytes name rest fits e =
    let a = bound (name_at bytes) (λ n. answered {X = List ℕ} n.0 []) (name, rest) e in
    let is = pair_is (a.0.0, []) (name, rest) a.2 in
    let t = name_lawful.takes bytes a.0.0 a.0.1 fits a.1 in
    let c : Custom bytes a.0.0 = record { first = t.0; rest = a.0.1; parts = t.1; named = t.2 } in
    (bytes, sym (append-nil bytes) ∙ ap (λ (l : List ℕ). bytes ++ l) is.1, subst (λ (n : List ℕ). Custom bytes n) is.0 c)

custom_again : (text name : List ℕ) → Custom text name → custom_at text ≡ Ok (name, [])
unfolding custom_at
custom_again text name c = rw (c.parts, name_lawful.again c.first name c.rest c.named) refl

sized_custom : Lawful (Sized Custom) (sized_at custom_at)
sized_custom = sized_law Custom custom_at custom_takes custom_again

customs_take : (fuel : ℕ) (bytes rest : List ℕ) → IsBytes bytes → customs_at fuel bytes ≡ Ok rest → (text : List ℕ) × (bytes ≡ text ++ rest) × Customs text
unfolding customs_at
customs_take zero [] rest fits e = ([], ok_is [] rest e, no_custom)
customs_take zero (b ∷ bytes) rest fits e = absurd cc
customs_take (suc fuel) [] rest fits e = ([], ok_is [] rest e, no_custom)
customs_take (suc fuel) (b ∷ bytes) rest fits e =
    elim (chosen (eqb b 0) (sized_at custom_at bytes >>= λ x. customs_at fuel x.1) (Ok (b ∷ bytes)) (Ok rest) e) [
      | inl h ↦
          let a = bound (sized_at custom_at bytes) (λ x. customs_at fuel x.1) rest h.1 in
          let t = sized_custom.takes bytes a.0.0 a.0.1 fits.1 a.1 in
          let r = customs_take fuel a.0.1 rest (fits_behind bytes t.0 a.0.1 fits.1 t.1) a.2 in
          (0x00 ∷ t.0 ++ r.0, ap (λ (k : ℕ). k ∷ bytes) (eqb-true b 0 h.0) ∙ ap (λ (l : List ℕ). 0x00 ∷ l) (t.1 ∙ ap (λ (l : List ℕ). t.0 ++ l) r.1 ∙ sym (append_assoc t.0 r.0 rest)), custom t.2 r.2)
      | inr h ↦ ([], ok_is (b ∷ bytes) rest h.1, no_custom)
    ]

-- the bytes do not begin so
abbrev pub BeginsElse : ℕ → List ℕ → Type 0
BeginsElse id [] = Unit {0}
BeginsElse id (b ∷ bytes) = b ≡ id → ⊥

none_again : (fuel : ℕ) (rest : List ℕ) → length rest ≤ fuel → BeginsElse 0 rest → customs_at fuel rest ≡ Ok rest
unfolding customs_at
none_again zero [] le h = refl
none_again zero (b ∷ rest) le h = absurd (omega arith)
none_again (suc fuel) [] le h = refl
none_again (suc fuel) (b ∷ rest) le h = rw (ne_eqb b 0 h) refl

one_again : (fuel : ℕ) (text name behind rest : List ℕ) → Sized Custom text name → customs_at fuel behind ≡ Ok rest → customs_at (suc fuel) (0x00 ∷ text ++ behind) ≡ Ok rest
unfolding customs_at
one_again fuel text name behind rest s e = rw (sized_custom.again text name behind s) e

customs_again : {text : List ℕ} → Customs text → (rest : List ℕ) → BeginsElse 0 rest → (fuel : ℕ) → length (text ++ rest) ≤ fuel → customs_at fuel (text ++ rest) ≡ Ok rest
customs_again no_custom rest h fuel le = none_again fuel rest le h
customs_again (custom {text = t} {rest = r} {name = name} s c) rest h fuel le =
    let flat : (0x00 ∷ t ++ r) ++ rest ≡ 0x00 ∷ t ++ (r ++ rest) = simp append_assoc in
    let le2 : length (0x00 ∷ t ++ (r ++ rest)) ≤ fuel = subst (λ (l : List ℕ). length l ≤ fuel) flat le in
    let parts = length-append t (r ++ rest) in
    from_suc fuel (omega arith) (λ f. customs_at f ((0x00 ∷ t ++ r) ++ rest) ≡ Ok rest) (λ f k.
    let next = customs_again c rest h f (omega arith) in
    ap (customs_at (suc f)) flat ∙ one_again f t name (r ++ rest) rest s next)

pub customs_in_take : (bytes rest : List ℕ) → IsBytes bytes → customs_in bytes ≡ Ok rest → (text : List ℕ) × (bytes ≡ text ++ rest) × Customs text
customs_in_take bytes rest fits e = customs_take (length bytes) bytes rest fits e

pub customs_in_again : {text : List ℕ} → Customs text → (rest : List ℕ) → BeginsElse 0 rest → customs_in (text ++ rest) ≡ Ok rest
customs_in_again {text = text} c rest h = customs_again c rest h (length (text ++ rest)) (omega arith)

module _ {X : Type 0} (Item : List ℕ → X → Type 0) (item_at : List ℕ → Result (X × List ℕ) Stop) (law : Lawful Item item_at) (id : ℕ) where
  pub section_takes : (bytes : List ℕ) (o : Option X) (rest : List ℕ) → IsBytes bytes → section_at item_at id bytes ≡ Ok (o, rest) → (text : List ℕ) × (bytes ≡ text ++ rest) × Section Item id text o
  unfolding section_at
  section_takes [] o rest fits e =
      let is = pair_is {A = Option X} (None, []) (o, rest) e in
      ([], is.1, subst (λ (y : Option X). Section Item id [] y) is.0 absent)
  section_takes (b ∷ bytes) o rest fits e =
      let made = λ (x : X) (rest : List ℕ). answered {X = Option X} (Some x) rest in
      let found = λ (x : X × List ℕ). customs_in x.1 >>= made x.0 in
      elim (chosen (eqb b id) (sized_at item_at bytes >>= found) (answered {X = Option X} None (b ∷ bytes)) (Ok (o, rest)) e) [
        | inl h ↦
            let a = bound (sized_at item_at bytes) found (o, rest) h.1 in
            let t = (sized_lawful Item item_at law).takes bytes a.0.0 a.0.1 fits.1 a.1 in
            let c = bound (customs_in a.0.1) (made a.0.0) (o, rest) a.2 in
            let u = customs_in_take a.0.1 c.0 (fits_behind bytes t.0 a.0.1 fits.1 t.1) c.1 in
            let is = pair_is {A = Option X} (Some a.0.0, c.0) (o, rest) c.2 in (
              id ∷ t.0 ++ u.0,
              ap (λ (k : ℕ). k ∷ bytes) (eqb-true b id h.0) ∙ ap (λ (l : List ℕ). id ∷ l) (t.1 ∙ ap (λ (l : List ℕ). t.0 ++ l) (u.1 ∙ ap (λ (l : List ℕ). u.0 ++ l) is.1) ∙ sym (append_assoc t.0 u.0 rest)),
              subst (λ (y : Option X). Section Item id (id ∷ t.0 ++ u.0) y) is.0 (present t.2 u.2),
            )
        | inr h ↦
            let is = pair_is {A = Option X} (None, b ∷ bytes) (o, rest) h.1 in
            ([], is.1, subst (λ (y : Option X). Section Item id [] y) is.0 absent)
      ]

  absent_again : (rest : List ℕ) → BeginsElse id rest → section_at item_at id rest ≡ Ok (None, rest)
  unfolding section_at
  absent_again [] h = refl
  absent_again (b ∷ rest) h = rw (ne_eqb b id h) refl

  present_again : (text customs : List ℕ) (x : X) (rest : List ℕ) → Sized Item text x → Customs customs → BeginsElse 0 rest → section_at item_at id (id ∷ text ++ (customs ++ rest)) ≡ Ok (Some x, rest)
  unfolding section_at
  present_again text customs x rest s c h = rw (eq-eqb id id refl, (sized_lawful Item item_at law).again text x (customs ++ rest) s, customs_in_again c rest h) refl

  pub section_again : {text : List ℕ} {o : Option X} → Section Item id text o → (rest : List ℕ) → BeginsElse id rest → BeginsElse 0 rest → section_at item_at id (text ++ rest) ≡ Ok (o, rest)
  section_again absent rest h z = absent_again rest h
  section_again (present {text = t} {customs = cs} {x = x} s c) rest h z =
      let flat : (id ∷ t ++ cs) ++ rest ≡ id ∷ t ++ (cs ++ rest) = simp append_assoc in
      ap (section_at item_at id) flat ∙ present_again t cs x rest s c z

-- one of these
abbrev pub member : ℕ → List ℕ → Bool
member b [] = false
member b (i ∷ is) = cond (eqb b i) true (member b is)

-- the bytes begin with one of these, if at all
abbrev pub StartsIn : List ℕ → List ℕ → Type 0
StartsIn ids [] = Unit {0}
StartsIn ids (b ∷ bytes) = member b ids ≡ true

pub begins_else : (other : ℕ) (ids rest : List ℕ) → StartsIn ids rest → member other ids ≡ false → BeginsElse other rest
begins_else other ids [] s n = tt
begins_else other ids (b ∷ rest) s n = λ h. let k : true ≡ false = sym s ∙ ap (λ (c : ℕ). member c ids) h ∙ n in absurd cc

either : (t u : Bool) → u ≡ true → cond t true u ≡ true
either true u h = refl
either false u h = h

starts_later : (id : ℕ) (ids rest : List ℕ) → StartsIn ids rest → StartsIn (id ∷ ids) rest
starts_later id ids [] s = tt
starts_later id ids (b ∷ rest) s = either (eqb b id) (member b ids) s

pub starts_section : {X : Type 0} {Item : List ℕ → X → Type 0} {id : ℕ} {text : List ℕ} {o : Option X} → Section Item id text o → (ids rest : List ℕ) → StartsIn ids rest → StartsIn (id ∷ ids) (text ++ rest)
starts_section {id = id} absent ids rest s = starts_later id ids rest s
starts_section {id = id} (present d c) ids rest s = rw (eq-eqb id id refl) refl

-- a section whose content is known to be more
pub section_map : {X : Type 0} {A B : List ℕ → X → Type 0} {id : ℕ} {text : List ℕ} {o : Option X} → Section A id text o → ((t : List ℕ) (x : X) → o ≡ Some x → A t x → B t x) → Section B id text o
section_map absent f = absent
section_map (present {x = x} s c) f = present (record { size = s.size; content = s.content; parts = s.parts; counted = s.counted; spelled = f s.content x refl s.spelled }) c

-- what is known of a section's value
pub section_fact : {X : Type 0} {A : List ℕ → X → Type 0} {id : ℕ} {text : List ℕ} {o : Option X} → Section A id text o → (P : X → Type 0) → ((t : List ℕ) (x : X) → A t x → P x) → (x : X) → o ≡ Some x → P x
section_fact absent P f x e = absurd cc
section_fact (present {x = y} s c) P f x e = let same : y ≡ x = cc in subst P same (f s.content y s.spelled)

one_takes : (other : Stop) (p : ℕ) (bytes rest : List ℕ) → one_at other p bytes ≡ Ok rest → bytes ≡ p ∷ rest
unfolding one_at
one_takes other p [] rest e = absurd cc
one_takes other p (b ∷ bytes) rest e =
    let m = chosen (eqb b p) (Ok bytes) (Err other) (Ok rest) e in
    elim m [
      | inl is ↦ ap (λ (k : ℕ). k ∷ bytes) (eqb-true b p is.0) ∙ ap (λ (l : List ℕ). p ∷ l) (ok_is bytes rest is.1)
      | inr is ↦ absurd (let no_answer : ◌≡◌ {A = Result (List ℕ) Stop} (Err other) (Ok rest) = is.1 in cc)
    ]

behind_takes : (other : Stop) (ps bytes rest : List ℕ) → behind other ps bytes ≡ Ok rest → bytes ≡ ps ++ rest
behind_takes other [] bytes rest e = ok_is bytes rest e
behind_takes other (p ∷ ps) bytes rest e =
    let one = bound (one_at other p bytes) (behind other ps) rest e in
    one_takes other p bytes one.0 one.1 ∙ ap (λ (l : List ℕ). p ∷ l) (behind_takes other ps one.0 rest one.2)

pub header_takes : (bytes rest : List ℕ) → header_at bytes ≡ Ok rest → bytes ≡ header ++ rest
unfolding header_at
header_takes bytes rest e =
    let second = λ (left : List ℕ). behind (stop Version (length left)) version left in
    let one = bound (behind (stop Magic (length bytes)) magic bytes) second rest e in
    behind_takes (stop Magic (length bytes)) magic bytes one.0 one.1 ∙ ap (λ (l : List ℕ). magic ++ l) (behind_takes (stop Version (length one.0)) version one.0 rest one.2)
