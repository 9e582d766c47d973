-- Locals of which those that were set are held.
use Rattle.std.proofs.Common.{◌≡◌, ◌≢◌, ℕ, zero, suc, ◌+◌, ◌<◌, ◌≤◌, List, [], ◌∷◌, Option, Some, None, length, map, get_or, set, slice_get, option_map, option_and_then, refl, sym, ap, subst, ◌∙◌, arith, ⊎_elim}
use Rattle.std.proofs.lemmas.Bool.{cases_eq}
use Rattle.std.proofs.lemmas.Bool.Decides.{nat_tests}
use Rattle.std.proofs.lemmas.Option.{slice_get-get_or, slice_get_past}
use Rattle.wm_ast.specs.declared.types.ValType.{ValType}
use Rattle.wm_machine.specs.declared.sparse_locals.Kept.{Kept}
use Rattle.wm_machine.specs.declared.value.TypedValue.{TypedValue}
use Rattle.wm_machine.specs.Values.{zero_of}
use Rattle.wm_machine.specs.SparseLocals.{found, value_of, locals_from, Sets}

-- what a list that was set has at each index
get_same : {X : Type 0} (xs : List X) (i : ℕ) (v : X) → i < length xs → slice_get (set xs i v) i ≡ Some v
get_same [] i v h = absurd (omega arith)
get_same (x ∷ xs) zero v h = refl
get_same (x ∷ xs) (suc i) v h = get_same xs i v (omega arith)

get_other : {X : Type 0} (xs : List X) (i j : ℕ) (v : X) → j ≢ i → slice_get (set xs i v) j ≡ slice_get xs j
get_other [] i j v n = refl
get_other (x ∷ xs) zero zero v n = absurd (n refl)
get_other (x ∷ xs) zero (suc j) v n = refl
get_other (x ∷ xs) (suc i) zero v n = refl
get_other (x ∷ xs) (suc i) (suc j) v n = get_other xs i j v (λ e. n (ap suc e))

-- a value that is held for a local, and one that is held for another
value_is : (index : ℕ) (ty : ValType) (kept : Kept) → kept.index ≡ index → value_of index ty (Some kept) ≡ kept.value
value_is index ty kept e = grind (arith, nat_tests)

value_not : (index : ℕ) (ty : ValType) (kept : Kept) → kept.index ≢ index → value_of index ty (Some kept) ≡ zero_of ty
value_not index ty kept n = grind (arith, nat_tests)

-- a value that is held is written
value_write : (held : List Kept) (index other slot q : ℕ) (d : Kept) (ty : ValType) (value : TypedValue) → other ≢ index → slot < length held → (get_or held slot d).index ≡ index → value_of other ty (slice_get (set held slot (record { index = index; value = value })) q) ≡ value_of other ty (slice_get held q)
value_write held index other slot q d ty value n h k =
    ⊎_elim
    (λ (e : q ≡ slot).
    subst (λ (p : ℕ). value_of other ty (slice_get (set held slot (record { index = index; value = value })) p) ≡ value_of other ty (slice_get held p)) (sym e)
    (ap (value_of other ty) (get_same held slot _ h) ∙ value_not other ty (record { index = index; value = value }) (λ f. n (sym f))
    ∙ sym (ap (value_of other ty) (slice_get-get_or held slot d h) ∙ value_not other ty (get_or held slot d) (λ f. n (sym f ∙ k)))))
    (λ (e : q ≢ slot). ap (value_of other ty) (get_other held slot q _ e))
    (cases_eq q slot)

value_write_at : (held : List Kept) (index other slot : ℕ) (o : Option ℕ) (d : Kept) (ty : ValType) (value : TypedValue) → other ≢ index → slot < length held → (get_or held slot d).index ≡ index → value_of other ty (option_and_then (slice_get (set held slot (record { index = index; value = value }))) o) ≡ value_of other ty (option_and_then (slice_get held) o)
value_write_at held index other slot None d ty value n h k = refl
value_write_at held index other slot (Some q) d ty value n h k = value_write held index other slot q d ty value n h k

-- one that is held is set
pub sets_held : (slots : List ℕ) (held : List Kept) (index slot : ℕ) (d : Kept) (value : TypedValue) → slice_get slots index ≡ Some slot → slot < length held → (get_or held slot d).index ≡ index → Sets slots held index value slots (set held slot (record { index = index; value = value }))
sets_held slots held index slot d value p h k = record {
  set = λ ty. ap (λ o. value_of index ty (option_and_then (slice_get (set held slot (record { index = index; value = value }))) o)) p ∙ (ap (value_of index ty) (get_same held slot _ h) ∙ value_is index ty (record { index = index; value = value }) refl);
  others = λ other ty n. value_write_at held index other slot (slice_get slots other) d ty value n h k;
}

nothing : (index : ℕ) (ty : ValType) (o : Option ℕ) → value_of index ty (option_and_then (slice_get []) o) ≡ zero_of ty
nothing index ty None = refl
nothing index ty (Some q) = refl

-- the locals, where nothing is held
pub none_held : (slots : List ℕ) (index : ℕ) (types : List ValType) → locals_from slots [] index types ≡ map zero_of types
none_held slots index [] = refl
none_held slots index (ty ∷ types) = ap (λ v. v ∷ locals_from slots [] (suc index) types) (nothing index ty (slice_get slots index)) ∙ ap (λ vs. zero_of ty ∷ vs) (none_held slots (suc index) types)

-- how many they are, and each of them
pub length_locals : (slots : List ℕ) (held : List Kept) (index : ℕ) (types : List ValType) → length (locals_from slots held index types) ≡ length types
length_locals slots held index [] = refl
length_locals slots held index (ty ∷ types) = ap suc (length_locals slots held (suc index) types)

get_local : (slots : List ℕ) (held : List Kept) (from index at : ℕ) (types : List ValType) → at ≡ from + index → slice_get (locals_from slots held from types) index ≡ option_map (λ ty. value_of at ty (found slots held at)) (slice_get types index)
get_local slots held from index at [] e = refl
get_local slots held from zero at (ty ∷ types) e = ap (λ i. Some (value_of i ty (found slots held i))) (let f : from ≡ at = omega arith in f)
get_local slots held from (suc index) at (ty ∷ types) e = get_local slots held (suc from) index at types (omega arith)

pub get_first : (slots : List ℕ) (held : List Kept) (index : ℕ) (types : List ValType) → slice_get (locals_from slots held 0 types) index ≡ option_map (λ ty. value_of index ty (found slots held index)) (slice_get types index)
get_first slots held index types = get_local slots held 0 index index types (omega arith)

-- one past them, one that is held, and one that isn't
pub get_none : (slots : List ℕ) (held : List Kept) (index : ℕ) (types : List ValType) → length types ≤ index → None ≡ slice_get (locals_from slots held 0 types) index
get_none slots held index types h = sym (slice_get_past (locals_from slots held 0 types) index (omega (arith, length_locals slots held 0 types)))

pub get_held : (slots : List ℕ) (held : List Kept) (index slot : ℕ) (types : List ValType) (ty : ValType) (kept : Kept) → slice_get types index ≡ Some ty → slice_get slots index ≡ Some slot → slot < length held → kept ≡ get_or held slot kept → kept.index ≡ index → Some kept.value ≡ slice_get (locals_from slots held 0 types) index
get_held slots held index slot types ty kept t p h k e = sym (get_first slots held index types ∙ (ap (option_map (λ (y : ValType). value_of index y (found slots held index))) t
    ∙ ap Some (ap (λ o. value_of index ty (option_and_then (slice_get held) o)) p ∙ (ap (value_of index ty) (slice_get-get_or held slot kept h ∙ ap Some (sym k)) ∙ value_is index ty kept e))))

pub get_zero : (slots : List ℕ) (held : List Kept) (index : ℕ) (types : List ValType) (ty : ValType) → slice_get types index ≡ Some ty → value_of index ty (found slots held index) ≡ zero_of ty → Some (zero_of ty) ≡ slice_get (locals_from slots held 0 types) index
get_zero slots held index types ty t z = sym (get_first slots held index types ∙ (ap (option_map (λ (y : ValType). value_of index y (found slots held index))) t ∙ ap Some z))

-- one of them is set
keeps_locals : (slots now : List ℕ) (held held_now : List Kept) (index from : ℕ) (value : TypedValue) (types : List ValType) → Sets slots held index value now held_now → index < from → locals_from now held_now from types ≡ locals_from slots held from types
keeps_locals slots now held held_now index from value [] s h = refl
keeps_locals slots now held held_now index from value (ty ∷ types) s h =
    ap (λ v. v ∷ locals_from now held_now (suc from) types) (s.others from ty (omega arith))
    ∙ ap (λ vs. value_of from ty (found slots held from) ∷ vs) (keeps_locals slots now held held_now index (suc from) value types s (omega arith))

set_local : (slots now : List ℕ) (held held_now : List Kept) (index from at : ℕ) (value : TypedValue) (types : List ValType) → Sets slots held index value now held_now → index ≡ from + at → at < length types → locals_from now held_now from types ≡ set (locals_from slots held from types) at value
set_local slots now held held_now index from at value [] s e h = absurd (omega arith)
set_local slots now held held_now index from zero value (ty ∷ types) s e h =
    ap (λ v. v ∷ locals_from now held_now (suc from) types) (subst (λ (i : ℕ). value_of i ty (found now held_now i) ≡ value) (let f : index ≡ from = omega arith in f) (s.set ty))
    ∙ ap (λ vs. value ∷ vs) (keeps_locals slots now held held_now index (suc from) value types s (omega arith))
set_local slots now held held_now index from (suc at) value (ty ∷ types) s e h =
    ap (λ v. v ∷ locals_from now held_now (suc from) types) (s.others from ty (omega arith))
    ∙ ap (λ vs. value_of from ty (found slots held from) ∷ vs) (set_local slots now held held_now index (suc from) at value types s (omega arith) (omega arith))

pub set_first : (slots now : List ℕ) (held held_now : List Kept) (index : ℕ) (value : TypedValue) (types : List ValType) → Sets slots held index value now held_now → index < length (locals_from slots held 0 types) → locals_from now held_now 0 types ≡ set (locals_from slots held 0 types) index value
set_first slots now held held_now index value types s h = set_local slots now held held_now index 0 index value types s (omega arith) (omega (arith, length_locals slots held 0 types))
