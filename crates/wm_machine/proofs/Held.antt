-- Locals that are held, followed by zeros.
use Rattle.std.proofs.lemmas.Option.{slice_get-map, slice_get_within}
use Rattle.std.proofs.Common.{◌≡◌, ℕ, zero, suc, ◌+◌, ◌-◌, ◌<◌, ◌≤◌, List, [], ◌∷◌, Some, option_map, slice_get, refl, ◌++◌, length, take, drop, map, set, sym, ap, ◌∙◌, arith, length-drop}
use Rattle.std.proofs.lemmas.List.{set-append_left, map-append, take-append-drop, append_assoc, length-map, length-append, length-take-le, take_all}
use Rattle.wm_ast.specs.declared.types.ValType.{ValType}
use Rattle.wm_machine.specs.declared.value.TypedValue.{TypedValue}
use Rattle.wm_machine.specs.Values.{zero_of}

-- an item after a prefix is set
set_behind : {X : Type 0} (xs ys : List X) (i at : ℕ) (v : X) → i ≡ length xs + at → set (xs ++ ys) i v ≡ xs ++ set ys at v
set_behind [] ys i at v e = ap (λ (n : ℕ). set ys n v) (let f : i ≡ at = omega arith in f)
set_behind (x ∷ xs) ys zero at v e = absurd (omega arith)
set_behind (x ∷ xs) ys (suc i) at v e = ap (λ (zs : List _). x ∷ zs) (set_behind xs ys i at v (omega arith))

-- one that is held is set
set_before : (held zeros late : List TypedValue) (index : ℕ) (value : TypedValue) → index < length held + length zeros → set (held ++ zeros) index value ++ late ≡ set ((held ++ zeros) ++ late) index value
set_before held zeros late index value h = sym (set-append_left (held ++ zeros) late index value (omega (arith, length-append held zeros)))

set_one : (held : List TypedValue) (unset : List ValType) (index : ℕ) (value : TypedValue) → index < length held → set held index value ++ map zero_of unset ≡ set (held ++ map zero_of unset) index value
set_one held unset index value within = sym (set-append_left held (map zero_of unset) index value within)

pub set_held : (held late : List TypedValue) (unset : List ValType) (index : ℕ) (value : TypedValue) → index < length held → (set held index value ++ map zero_of unset) ++ late ≡ set ((held ++ map zero_of unset) ++ late) index value
set_held held late unset index value within = ap (λ (vs : List TypedValue). vs ++ late) (set_one held unset index value within) ∙ set_before held (map zero_of unset) late index value (omega arith)

-- more of them are held
held_more : (held : List TypedValue) (unset : List ValType) (count : ℕ) → (held ++ map zero_of (take count unset)) ++ map zero_of (drop count unset) ≡ held ++ map zero_of unset
held_more held unset count =
    append_assoc held (map zero_of (take count unset)) (map zero_of (drop count unset))
    ∙ ap (λ (vs : List TypedValue). held ++ vs) (sym (map-append zero_of (take count unset) (drop count unset)) ∙ ap (map zero_of) (take-append-drop count unset))

-- more of them are held, the last of which is set
pub set_more : (held more late : List TypedValue) (unset : List ValType) (index count : ℕ) (value : TypedValue) → index + 1 ≡ length held + count → 0 < count → count ≤ length unset → more ≡ held ++ map zero_of (take count unset) → (set more index value ++ map zero_of (take (length unset - count) (drop count unset))) ++ late ≡ set ((held ++ map zero_of unset) ++ late) index value
set_more held more late unset index count value i positive room m =
    let some : length more ≡ length held + count = ap length m ∙ length-append held (map zero_of (take count unset)) ∙ ap (λ (n : ℕ). length held + n) (length-map (take count unset) zero_of ∙ length-take-le count unset room) in
    let rest : take (length unset - count) (drop count unset) ≡ drop count unset = take_all (length unset - count) (drop count unset) (omega (arith, length-drop count unset)) in
    ap (λ (ts : List ValType). (set more index value ++ map zero_of ts) ++ late) rest
    ∙ set_held more late (drop count unset) index value (omega arith)
    ∙ ap (λ (vs : List TypedValue). set (vs ++ late) index value) (ap (λ (vs : List TypedValue). vs ++ map zero_of (drop count unset)) m ∙ held_more held unset count)

-- a late one is set
pub set_late : (held late now : List TypedValue) (unset : List ValType) (index at : ℕ) (value : TypedValue) → index ≡ (length held + length unset) + at → now ≡ set late at value → (held ++ map zero_of unset) ++ now ≡ set ((held ++ map zero_of unset) ++ late) index value
set_late held late now unset index at value i e =
    let near = held ++ map zero_of unset in
    let n : length near ≡ length held + length unset = length-append held (map zero_of unset) ∙ ap (λ (n : ℕ). length held + n) (length-map unset zero_of) in
    ap (λ (vs : List TypedValue). near ++ vs) e ∙ sym (set_behind near late index at value (omega arith))

-- zeros in two parts
pub zeros_split : (near late all : List ValType) → near ++ late ≡ all → map zero_of near ++ map zero_of late ≡ map zero_of all
zeros_split near late all e = sym (map-append zero_of near late) ∙ ap (map zero_of) e

pub values_split : (values : List TypedValue) (near late all : List ValType) → near ++ late ≡ all → (values ++ map zero_of near) ++ map zero_of late ≡ values ++ map zero_of all
values_split values near late all e = append_assoc values (map zero_of near) (map zero_of late) ∙ ap (λ (vs : List TypedValue). values ++ vs) (zeros_split near late all e)

-- how many they are
pub length_parts : (held late : List TypedValue) (unset : List ValType) → length ((held ++ map zero_of unset) ++ late) ≡ length held + (length unset + length late)
length_parts held late unset =
    length-append (held ++ map zero_of unset) late
    ∙ ap (λ (n : ℕ). n + length late) (length-append held (map zero_of unset) ∙ ap (λ (n : ℕ). length held + n) (length-map unset zero_of))
    ∙ omega arith

-- what a list in two parts has at an index
pub get_before : {X : Type 0} (xs ys : List X) (i : ℕ) → i < length xs → slice_get (xs ++ ys) i ≡ slice_get xs i
get_before [] ys i h = absurd (omega arith)
get_before (x ∷ xs) ys zero h = refl
get_before (x ∷ xs) ys (suc i) h = get_before xs ys i (omega arith)

pub get_behind : {X : Type 0} (xs ys : List X) (i at : ℕ) → i ≡ length xs + at → slice_get (xs ++ ys) i ≡ slice_get ys at
get_behind [] ys i at e = ap (slice_get ys) (let f : i ≡ at = omega arith in f)
get_behind (x ∷ xs) ys zero at e = absurd (omega arith)
get_behind (x ∷ xs) ys (suc i) at e = get_behind xs ys i at (omega arith)

-- an item that is held, and an item after those
pub get_held : (held late : List TypedValue) (unset : List ValType) (index : ℕ) → index < length held → slice_get ((held ++ map zero_of unset) ++ late) index ≡ slice_get held index
get_held held late unset index h = ap (λ (vs : List TypedValue). slice_get vs index) (append_assoc held (map zero_of unset) late) ∙ get_before held (map zero_of unset ++ late) index h

pub get_unheld : (held late : List TypedValue) (unset : List ValType) (index : ℕ) → length held ≤ index → slice_get ((held ++ map zero_of unset) ++ late) index ≡ slice_get (map zero_of unset ++ late) (index - length held)
get_unheld held late unset index h = ap (λ (vs : List TypedValue). slice_get vs index) (append_assoc held (map zero_of unset) late) ∙ get_behind held (map zero_of unset ++ late) index (index - length held) (omega arith)

-- a zero, and an item after the zeros
pub get_near : (unset : List ValType) (late : List TypedValue) (index : ℕ) (ty : ValType) → slice_get unset index ≡ Some ty → Some (zero_of ty) ≡ slice_get (map zero_of unset ++ late) index
get_near unset late index ty t = sym (get_before (map zero_of unset) late index (omega (arith, slice_get_within unset index ty t, length-map unset zero_of)) ∙ (slice_get-map zero_of unset index ∙ ap (option_map zero_of) t))

pub get_late : (unset : List ValType) (late : List TypedValue) (index : ℕ) → length unset ≤ index → slice_get late (index - length unset) ≡ slice_get (map zero_of unset ++ late) index
get_late unset late index h = sym (get_behind (map zero_of unset) late index (index - length unset) (omega (arith, length-map unset zero_of)))
