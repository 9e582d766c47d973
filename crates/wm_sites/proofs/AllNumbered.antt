-- Each opcode has a number in the table, or is left on the stack of what is to number.
use Rattle.std.proofs.Common.{◌≡◌, ℕ, ◌+◌, ◌<◌, ◌≤◌, List, [], ◌∷◌, ◌++◌, Vec, Global, map, drop, reverse, length, get_or, Option, Some, None, refl, sym, ap, subst, ◌∙◌, slice_get, ⊎_elim, inl, inr, append_assoc, arith}
use Rattle.std.specs.Prelude.{◌⊎◌}
use Rattle.std.proofs.lemmas.List.{drop_all, reverse-append, reverse-reverse}
use Rattle.std.proofs.lemmas.Option.{none-some, same_Some, slice_get_cases}
use Rattle.wm_ast.specs.declared.instr.Instr.{Instr}
use Rattle.wm_decode.specs.Bounds.{max_module_bytes}
use Rattle.wm_valid.specs.Locations.{Part, parts, Opcodes, none, instr, part}
use Rattle.wm_sites.specs.declared.opcode_numbers.BlockPosition.{BlockPosition}
use Rattle.wm_sites.specs.Numbering.{AreBelow, number_in, begin_of, next_of, IsNumberedFrom, here, behind, in_part, past_part, IsNoted, IsNumbered, HasPlace, HasPlaces, Notes, begins_of, behind_of, followers}
use Rattle.wm_sites.proofs.Unnumbered.{IsLeft, in_top, below_top, drop_at, no_part, regroup}

abbrev Table : Type 0
Table = List (Vec (Option ℕ) Global)

-- ---- where an opcode of some instructions is

from_instr : {blocks : List (List Instr)} {p q : BlockPosition} {i : Instr} {rest : List Instr} {m : ℕ} → IsNumberedFrom blocks p [] (i ∷ rest) q m
    → ((m ≡ 0) × (q ≡ p)) ⊎ ((k : ℕ) × (m ≡ 1 + k) × IsNumberedFrom blocks (next_of p) (parts i) rest q k)
from_instr here = inl (refl, refl)
from_instr (behind {k = k} numbered) = inr (k, refl, numbered)

from_end : {blocks : List (List Instr)} {p q : BlockPosition} {m : ℕ} → IsNumberedFrom blocks p [] [] q m → (m ≡ 0) × (q ≡ p)
from_end here = (refl, refl)

count_instr : {blocks : List (List Instr)} {i : Instr} {rest : List Instr} {j : ℕ} → Opcodes blocks [] (i ∷ rest) j → (c : ℕ) × (j ≡ 1 + c) × Opcodes blocks (parts i) rest c
count_instr (instr {k = k} opcodes) = (k, refl, opcodes)

count_end : {blocks : List (List Instr)} {j : ℕ} → Opcodes blocks [] [] j → j ≡ 0
count_end none = refl

-- ---- the stack after the blocks of an instruction were put on it

numbered_left : {blocks : List (List Instr)} {q : BlockPosition} (stack : List BlockPosition) (ps : List Part) {k : ℕ} (p : BlockPosition) (body : List Instr) → slice_get blocks p.block ≡ Some body
    → IsNumberedFrom blocks p ps (drop p.at body) q k → IsLeft blocks (map (λ (x : Part). begin_of x.block) ps ++ p ∷ stack) q k
numbered_left stack [] p body is numbered = in_top body is numbered
numbered_left stack (first ∷ ps) p body is (in_part other at numbered) = in_top other at numbered
numbered_left stack (first ∷ ps) p body is (past_part other at opcodes numbered) = below_top other at opcodes (numbered_left stack ps p body is numbered)

passed_left : {blocks : List (List Instr)} {stack : List BlockPosition} {q : BlockPosition} {k : ℕ} (ps : List Part) {c : ℕ} (p : BlockPosition) (body : List Instr) → slice_get blocks p.block ≡ Some body
    → Opcodes blocks ps (drop p.at body) c → IsLeft blocks stack q k → IsLeft blocks (map (λ (x : Part). begin_of x.block) ps ++ p ∷ stack) q (c + 1 + k)
passed_left [] p body is opcodes left = below_top body is opcodes left
passed_left {blocks} {stack} {q} {k = k} (first ∷ ps) p body is (part {j = j} {k = c} other at inner opcodes) left =
    subst (λ (n : ℕ). IsLeft blocks (map (λ (x : Part). begin_of x.block) (first ∷ ps) ++ p ∷ stack) q n) (regroup j c k) (below_top other at inner (passed_left ps p body is opcodes left))

-- the top is at the position, or the opcode is left after it
abbrev IsTopOrAfter : List (List Instr) → BlockPosition → List BlockPosition → List Instr → BlockPosition → ℕ → Type 0
IsTopOrAfter blocks p stack body q m = ((m ≡ 0) × (q ≡ p)) ⊎ ((k : ℕ) × (m ≡ 1 + k) × IsLeft blocks (behind_of body p ++ stack) q k)

past_one : (j c k : ℕ) → j ≡ 1 + c → j + 1 + k ≡ 1 + (c + 1 + k)
past_one j c k e = omega (arith, e)

module _ (blocks : List (List Instr)) (p : BlockPosition) (stack : List BlockPosition) (body : List Instr) (is : slice_get blocks p.block ≡ Some body) where
  as_body : (other : List Instr) → slice_get blocks p.block ≡ Some other → other ≡ body
  as_body other at = same_Some other body (sym at ∙ is)

  -- at an instruction
  at_instr : (i : Instr) → slice_get body p.at ≡ Some i → (q : BlockPosition) (m : ℕ) → IsLeft blocks (p ∷ stack) q m → IsTopOrAfter blocks p stack body q m
  at_instr i at q m left = by left
    where
      opened : drop p.at body ≡ i ∷ drop (p.at + 1) body
      opened = drop_at body p.at i at

      followed : (k : ℕ) → IsLeft blocks (map (λ (x : Part). begin_of x.block) (parts i) ++ next_of p ∷ stack) q k → IsLeft blocks (behind_of body p ++ stack) q k
      followed k after =
          subst (λ (o : Option Instr). IsLeft blocks (followers o p ++ stack) q k) (sym at)
          (subst (λ (xs : List BlockPosition). IsLeft blocks xs q k) (sym (append_assoc (begins_of i) (next_of p ∷ []) stack)) after)

      by : {n : ℕ} → IsLeft blocks (p ∷ stack) q n → IsTopOrAfter blocks p stack body q n
      by {n} (in_top other there numbered) =
          ⊎_elim
          (λ (top : (n ≡ 0) × (q ≡ p)). inl top)
          (λ (after : (k : ℕ) × (n ≡ 1 + k) × IsNumberedFrom blocks (next_of p) (parts i) (drop (p.at + 1) body) q k). inr (after.0, after.1, followed after.0 (numbered_left stack (parts i) (next_of p) body is after.2)))
          (from_instr (subst (λ (xs : List Instr). IsNumberedFrom blocks p [] xs q n) opened (subst (λ (xs : List Instr). IsNumberedFrom blocks p [] (drop p.at xs) q n) (as_body other there) numbered)))
      by (below_top {j = j} {k = k} other there opcodes below) =
          let counted = count_instr (subst (λ (xs : List Instr). Opcodes blocks [] xs j) opened (subst (λ (xs : List Instr). Opcodes blocks [] (drop p.at xs) j) (as_body other there) opcodes)) in
          inr (counted.0 + 1 + k, past_one j counted.0 k counted.1, followed (counted.0 + 1 + k) (passed_left (parts i) (next_of p) body is counted.2 below))

  -- at the end of the block
  at_end : drop p.at body ≡ [] → slice_get body p.at ≡ None → (q : BlockPosition) (m : ℕ) → IsLeft blocks (p ∷ stack) q m → IsTopOrAfter blocks p stack body q m
  at_end ended past q m left = by left
    where
      by : {n : ℕ} → IsLeft blocks (p ∷ stack) q n → IsTopOrAfter blocks p stack body q n
      by {n} (in_top other there numbered) =
          inl (from_end (subst (λ (xs : List Instr). IsNumberedFrom blocks p [] xs q n) ended (subst (λ (xs : List Instr). IsNumberedFrom blocks p [] (drop p.at xs) q n) (as_body other there) numbered)))
      by (below_top {j = j} {k = k} other there opcodes below) =
          let counted = count_end (subst (λ (xs : List Instr). Opcodes blocks [] xs j) ended (subst (λ (xs : List Instr). Opcodes blocks [] (drop p.at xs) j) (as_body other there) opcodes)) in
          let one : j + 1 + k ≡ 1 + k = omega (arith, counted) in
          inr (k, one, subst (λ (o : Option Instr). IsLeft blocks (followers o p ++ stack) q k) (sym past) below)

  top_or_after : (q : BlockPosition) (m : ℕ) → IsLeft blocks (p ∷ stack) q m → IsTopOrAfter blocks p stack body q m
  top_or_after = ⊎_elim
      (λ (at : (x : Instr) × (p.at < length body) × (slice_get body p.at ≡ Some x) × (get_or body p.at x ≡ x)). at_instr at.0 at.2)
      (λ (past : (length body ≤ p.at) × (slice_get body p.at ≡ None)). at_end (drop_all p.at body past.0) past.1)
      (slice_get_cases body p.at).1

-- ---- an opcode's position is in its block

-- the position is one of a block, or its end
abbrev IsWithin : List (List Instr) → BlockPosition → Type 0
IsWithin blocks q = (body : List Instr) × (slice_get blocks q.block ≡ Some body) × (q.at ≤ length body)

opened_within : (body rest : List Instr) (first : Instr) (k : ℕ) → first ∷ rest ≡ drop k body → (k + 1 ≤ length body) × (rest ≡ drop (k + 1) body)
opened_within body rest first k is = ⊎_elim
    (λ (at : (x : Instr) × (k < length body) × (slice_get body k ≡ Some x) × (get_or body k x ≡ x)).
    let both : first ∷ rest ≡ at.0 ∷ drop (k + 1) body = is ∙ drop_at body k at.0 at.2 in
    let lt = at.1 in ((let le : k + 1 ≤ length body = omega (arith, lt) in le), ap (drop 1) both))
    (λ (past : (length body ≤ k) × (slice_get body k ≡ None)). absurd (cc (is ∙ drop_all k body past.0)))
    (slice_get_cases body k).1

within_block : {blocks : List (List Instr)} {p q : BlockPosition} {ps : List Part} {rest : List Instr} {k : ℕ} → IsNumberedFrom blocks p ps rest q k → (body : List Instr) → slice_get blocks p.block ≡ Some body
    → rest ≡ drop p.at body → p.at ≤ length body → IsWithin blocks q
within_block here body is rest le = (body, is, le)
within_block (behind {p = p} {first = first} {rest = more} numbered) body is rest le =
    let opened = opened_within body more first p.at rest in within_block numbered body is opened.1 opened.0
within_block (in_part other at numbered) body is rest le =
    let none : 0 ≤ length other = omega arith in within_block numbered other at refl none
within_block (past_part other at opcodes numbered) body is rest le = within_block numbered body is rest le

is_within : (blocks : List (List Instr)) (q : BlockPosition) (k : ℕ) → IsNumbered blocks q k → IsWithin blocks q
is_within blocks q k numbered =
    let least : 0 ≤ length numbered.body = omega arith in within_block numbered.numbered numbered.body numbered.is_body refl least

-- ---- the loop

-- each opcode has a number, or is left from this number on
abbrev pub AreNotedOrLeft : List (List Instr) → ℕ → Table → List BlockPosition → Type 0
AreNotedOrLeft blocks number table stack = (q : BlockPosition) (k : ℕ) → IsNumbered blocks q k → IsNoted table q ⊎ ((m : ℕ) × (k ≡ number + m) × IsLeft blocks stack q m)

pub all_left : (blocks : List (List Instr)) (table : Table) (stack : List BlockPosition) → stack ≡ begin_of 0 ∷ [] → AreNotedOrLeft blocks 0 table (reverse stack)
all_left blocks table stack is q k numbered =
    let same : k ≡ 0 + k = omega arith in
    inr (k, same, subst (λ (xs : List BlockPosition). IsLeft blocks (reverse xs) q k) (sym is) (in_top numbered.body numbered.is_body numbered.numbered))

one_more : (k n m j : ℕ) → k ≡ n + m → m ≡ 1 + j → k ≡ n + 1 + j
one_more k n m j e f = omega (arith, e, f)

pub noted_or_left_more : (blocks : List (List Instr)) (old now : Table) (number : ℕ) (stack rest after : List BlockPosition) (p : BlockPosition) (body : List Instr)
    → AreNotedOrLeft blocks number old (reverse stack) → HasPlaces blocks old → stack ≡ rest ++ p ∷ [] → slice_get blocks p.block ≡ Some body → Notes old now p number
    → after ≡ rest ++ reverse (behind_of body p) → AreNotedOrLeft blocks (number + 1) now (reverse after)
noted_or_left_more blocks old now number stack rest after p body are places popped is notes passes q k numbered = ⊎_elim
    (λ (noted : IsNoted old q). inl (notes.keeps q noted))
    (λ (left : (m : ℕ) × (k ≡ number + m) × IsLeft blocks (reverse stack) q m).
    let on_top : IsLeft blocks (p ∷ reverse rest) q left.0 = subst (λ (xs : List BlockPosition). IsLeft blocks xs q left.0) (ap reverse popped ∙ reverse-append rest (p ∷ [])) left.2 in
    ⊎_elim
    (λ (top : (left.0 ≡ 0) × (q ≡ p)).
    let within = is_within blocks q k numbered in
    let place : HasPlace old p = subst (HasPlace old) top.1 (places q within.0 within.1 within.2) in
    inl (subst (IsNoted now) (sym top.1) (notes.notes place)))
    (λ (next : (j : ℕ) × (left.0 ≡ 1 + j) × IsLeft blocks (behind_of body p ++ reverse rest) q j).
    inr (next.0, one_more k number left.0 next.0 left.1 next.1, subst (λ (xs : List BlockPosition). IsLeft blocks xs q next.0) (sym turned) next.2))
    (top_or_after blocks p (reverse rest) body is q left.0 on_top))
    (are q k numbered)
  where
    turned : reverse after ≡ behind_of body p ++ reverse rest
    turned =
        ap reverse passes ∙ reverse-append rest (reverse (behind_of body p)) ∙ ap (λ (xs : List BlockPosition). xs ++ reverse rest) (reverse-reverse (behind_of body p))

abbrev pub AllAreNoted : List (List Instr) → Table → Type 0
AllAreNoted blocks table = (q : BlockPosition) (k : ℕ) → IsNumbered blocks q k → k < max_module_bytes → IsNoted table q

pub no_items : {X : Type 0} (xs : List X) → length xs ≡ 0 → xs ≡ []
no_items [] e = refl
no_items (x ∷ xs) e = absurd (omega (arith, e))

-- nothing is left
pub none_left : (blocks : List (List Instr)) (number : ℕ) (table : Table) (stack : List BlockPosition) → AreNotedOrLeft blocks number table (reverse stack) → stack ≡ [] → AllAreNoted blocks table
none_left blocks number table stack are empty q k numbered below = ⊎_elim
    (λ (noted : IsNoted table q). noted)
    (λ (left : (m : ℕ) × (k ≡ number + m) × IsLeft blocks (reverse stack) q m). absurd (no_part (subst (λ (xs : List BlockPosition). IsLeft blocks (reverse xs) q left.0) empty left.2)))
    (are q k numbered)

no_block : {blocks : List (List Instr)} {p q : BlockPosition} {stack : List BlockPosition} {m : ℕ} → slice_get blocks p.block ≡ None → IsLeft blocks (p ∷ stack) q m → ⊥
no_block missing (in_top body is numbered) = none-some body (sym missing ∙ is)
no_block missing (below_top body is opcodes left) = none-some body (sym missing ∙ is)

-- nothing is left after a block that is not there
pub missing_left : (blocks : List (List Instr)) (number : ℕ) (table : Table) (stack rest : List BlockPosition) (p : BlockPosition) → AreNotedOrLeft blocks number table (reverse stack) → stack ≡ rest ++ p ∷ []
    → slice_get blocks p.block ≡ None → AllAreNoted blocks table
missing_left blocks number table stack rest p are popped missing q k numbered below = ⊎_elim
    (λ (noted : IsNoted table q). noted)
    (λ (left : (m : ℕ) × (k ≡ number + m) × IsLeft blocks (reverse stack) q m).
    absurd (no_block missing (subst (λ (xs : List BlockPosition). IsLeft blocks xs q left.0) (ap reverse popped ∙ reverse-append rest (p ∷ [])) left.2)))
    (are q k numbered)

-- what is left has greater numbers than those that are asked for
pub late_left : (blocks : List (List Instr)) (number : ℕ) (table : Table) (stack : List BlockPosition) → AreNotedOrLeft blocks number table (reverse stack) → max_module_bytes ≤ number → AllAreNoted blocks table
late_left blocks number table stack are end q k numbered below = ⊎_elim
    (λ (noted : IsNoted table q). noted)
    (λ (left : (m : ℕ) × (k ≡ number + m) × IsLeft blocks (reverse stack) q m). let sum = left.1 in absurd (omega (arith, sum, end, below)))
    (are q k numbered)

-- ---- the count

pub below_none : (table : Table) → ((q : BlockPosition) → number_in table q ≡ None) → AreBelow 0 table
below_none table empty q k is = absurd (none-some k (sym (empty q) ∙ is))

pub below_more : (old now : Table) (number : ℕ) (p : BlockPosition) → AreBelow number old → Notes old now p number → AreBelow (number + 1) now
below_more old now number p below notes q k is = ⊎_elim
    (λ (before : number_in old q ≡ Some k). let less = below q k before in let lt : k < number + 1 = omega (arith, less) in lt)
    (λ (same : (q ≡ p) × (k ≡ number)). let e = same.1 in let lt : k < number + 1 = omega (arith, e) in lt)
    (notes.from q k is)

pub below_at_most : (table : Table) (number most : ℕ) → AreBelow number table → number ≤ most → AreBelow most table
below_at_most table number most below le q k is =
    let less = below q k is in omega (arith, less, le)
