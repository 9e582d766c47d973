-- The turns that are kept, as items come.
use Rattle.std.proofs.Common.{◌≡◌, ℕ, zero, suc, ◌+◌, ◌-◌, ◌≤◌, List, [], ◌∷◌, ◌++◌, length, take, Option, None, Some, refl, sym, ap, ◌∙◌, subst, inl, inr, arith}
use Rattle.std.proofs.lemmas.Bool.{cases_lt}
use Rattle.std.proofs.lemmas.List.{append-nil, length-replicate, length-take, take_all, take-replicate}
use Rattle.std.proofs.lemmas.List.Concat.{flat_map-append}
use Rattle.std.proofs.lemmas.Option.{none-some, same_Some}
use Rattle.std.proofs.Math.Seq.{take-append-add}
use Rattle.std.specs.Option.{option_map}
use Rattle.std.specs.List.{flat_map}
use Rattle.std.specs.Prelude.{min, replicate}
use Rattle.wm_run.specs.declared.turn.Turn.{Turn}
use Rattle.wm_command.specs.Each.{each}
use Rattle.wm_command.specs.Turns.{item_turns, kept}
use Rattle.wm_command.proofs.Every.{each_more}

-- ---- an item's turns after the others

filled : (k times j : ℕ) (turn : Turn) → j ≡ min times k → replicate j turn ≡ take k (replicate times turn)
filled k times j turn is =
    elim (cases_lt k times) [
      | inl more ↦ let all : j ≡ k = omega arith in ap (λ n. replicate n turn) all ∙ sym (take-replicate k times turn (omega arith))
      | inr few ↦ let all : j ≡ times = omega arith in
          ap (λ n. replicate n turn) all ∙ sym (take_all k (replicate times turn) (omega (arith, length-replicate times turn)))
    ]

pub pushed : (limit : ℕ) (old : List Turn) (turn : Turn) (times n : ℕ) → length old ≤ limit → n ≡ min (length old + times) limit
    → take n old ++ replicate (n - length old) turn ≡ take limit (old ++ replicate times turn)
pushed limit old turn times n within is =
    let room = limit - length old in
    let whole : limit ≡ length old + room = omega arith in
    let front : take n old ≡ old = take_all n old (omega arith) in
    let back : replicate (n - length old) turn ≡ take room (replicate times turn) = filled room times (n - length old) turn (omega arith) in
    rw (front, back) (sym (ap (λ k. take k (old ++ replicate times turn)) whole ∙ take-append-add old (replicate times turn) room))

-- ---- the turns of the items so far

take-take_append : (n : ℕ) (xs ys : List Turn) → take n (xs ++ ys) ≡ take n (take n xs ++ ys)
take-take_append zero xs ys = refl
take-take_append (suc n) [] ys = refl
take-take_append (suc n) (x ∷ xs) ys = ap (λ l. x ∷ l) (take-take_append n xs ys)

map_some : {A B : Type 0} (f : A → B) (o : Option A) (y : B) → option_map f o ≡ Some y → (x : A) × (o ≡ Some x) × (f x ≡ y)
map_some f None y h = absurd (none-some y h)
map_some f (Some x) y h = (x, refl, same_Some (f x) y h)

-- the turns of items one after the other
abbrev pub joined : List (List Turn) → List Turn
joined all = flat_map (λ turns. turns) all

joined_more : (all : List (List Turn)) (turns : List Turn) → joined (all ++ turns ∷ []) ≡ joined all ++ turns
joined_more all turns = flat_map-append (λ t. t) all (turns ∷ []) ∙ ap (λ l. joined all ++ l) (append-nil turns)

-- those of them that are kept
abbrev pub kept_of : List (List ℕ) → Option (List Turn)
kept_of items = option_map kept (option_map joined (each item_turns items))

pub kept_more : (items : List (List ℕ)) (turns : List Turn) (item : List ℕ) (more : List Turn) → kept_of items ≡ Some turns → item_turns item ≡ Some more
    → kept_of (items ++ item ∷ []) ≡ Some (kept (turns ++ more))
kept_more items turns item more h is =
    let outer = map_some kept (option_map joined (each item_turns items)) turns h in
    let inner = map_some joined (each item_turns items) outer.0 outer.1 in
    let all = inner.0 in
    let grown : each item_turns (items ++ item ∷ []) ≡ Some (all ++ more ∷ []) = each_more item_turns items all item more inner.1 is in
    let before : kept (joined all) ≡ turns = ap kept inner.2 ∙ outer.2 in
    ap (λ o. option_map kept (option_map joined o)) grown
    ∙ ap (λ l. Some (kept l)) (joined_more all more)
    ∙ ap Some (take-take_append 1000001 (joined all) more)
    ∙ ap (λ l. Some (kept (l ++ more))) before

kept_short : (turns : List Turn) → length (kept turns) ≤ 1000001
kept_short turns = let is = length-take 1000001 turns in omega arith

pub kept_within : (items : List (List ℕ)) (turns : List Turn) → kept_of items ≡ Some turns → length turns ≤ 1000001
kept_within items turns h =
    let outer = map_some kept (option_map joined (each item_turns items)) turns h in
    subst (λ (l : List Turn). length l ≤ 1000001) outer.2 (kept_short outer.0)
