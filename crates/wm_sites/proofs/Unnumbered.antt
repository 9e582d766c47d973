-- What is left to number, as a stack of positions: from each to the end of its block, the top first.
use Rattle.std.proofs.Common.{◌≡◌, ℕ, suc, ◌+◌, ◌<◌, ◌≤◌, List, [], ◌∷◌, ◌++◌, Vec, Global, map, drop, reverse, length, get_or, Option, Some, None, refl, sym, ap, subst, ◌∙◌, slice_get, inl, inr, append_assoc, append-nil, arith}
use Rattle.std.specs.Prelude.{◌⊎◌}
use Rattle.std.proofs.Math.Seq.{drop-cons}
use Rattle.std.proofs.lemmas.Option.{none-some, same_Some, slice_get_cases, slice_get_past, slice_get_within, get_or_from_slice_get}
use Rattle.std.proofs.lemmas.List.{drop_all, reverse-append, reverse-reverse}
use Rattle.wm_ast.specs.declared.instr.Instr.{Instr}
use Rattle.wm_valid.specs.Locations.{Part, parts, Opcodes, none, instr, part}
use Rattle.wm_sites.specs.declared.opcode_numbers.BlockPosition.{BlockPosition}
use Rattle.wm_sites.specs.Numbering.{begin_of, next_of, IsNumberedFrom, here, behind, in_part, past_part, IsNumbered, HasNumbers, Notes, number_in, begins_of, behind_of, followers}

-- opcode k of what is left is at position q
pub data IsLeft (blocks : List (List Instr)) : List BlockPosition → BlockPosition → ℕ → Type 0 where
  in_top : {p q : BlockPosition} {stack : List BlockPosition} {k : ℕ} (body : List Instr) → slice_get blocks p.block ≡ Some body
      → IsNumberedFrom blocks p [] (drop p.at body) q k → IsLeft blocks (p ∷ stack) q k
  below_top : {p q : BlockPosition} {stack : List BlockPosition} {j k : ℕ} (body : List Instr) → slice_get blocks p.block ≡ Some body
      → Opcodes blocks [] (drop p.at body) j → IsLeft blocks stack q k → IsLeft blocks (p ∷ stack) q (j + 1 + k)

-- opcode k is after the parts and the instructions
record Behind (blocks : List (List Instr)) (ps : List Part) (rest : List Instr) (stack : List BlockPosition) (q : BlockPosition) (k : ℕ) : Type 0 where
  pub count : ℕ
  pub opcodes : Opcodes blocks ps rest count
  pub more : ℕ
  pub left : IsLeft blocks stack q more
  pub sum : k ≡ count + 1 + more

pub regroup : (j c m : ℕ) → j + 1 + (c + 1 + m) ≡ j + 1 + c + 1 + m
regroup j c m = omega arith

same_body : (blocks : List (List Instr)) (b : ℕ) (body other : List Instr) → slice_get blocks b ≡ Some body → slice_get blocks b ≡ Some other → other ≡ body
same_body blocks b body other is at = same_Some other body (sym at ∙ is)

-- an opcode of what is left when the blocks of an instruction are put on the stack
split : {blocks : List (List Instr)} {stack : List BlockPosition} (ps : List Part) (p : BlockPosition) (body : List Instr) → slice_get blocks p.block ≡ Some body → (q : BlockPosition) (k : ℕ)
    → IsLeft blocks (map (λ (x : Part). begin_of x.block) ps ++ p ∷ stack) q k → IsNumberedFrom blocks p ps (drop p.at body) q k ⊎ Behind blocks ps (drop p.at body) stack q k
split {blocks} [] p body is q k (in_top other at numbered) =
    inl (subst (λ (xs : List Instr). IsNumberedFrom blocks p [] (drop p.at xs) q k) (same_body blocks p.block body other is at) numbered)
split {blocks} [] p body is q k (below_top {j = j} {k = more} other at ops left) = inr (record {
  count = j;
  opcodes = subst (λ (xs : List Instr). Opcodes blocks [] (drop p.at xs) j) (same_body blocks p.block body other is at) ops;
  more = more;
  left = left;
  sum = refl;
})
split (first ∷ ps) p body is q k (in_top other at numbered) = inl (in_part other at numbered)
split {blocks} {stack} (first ∷ ps) p body is q k (below_top {j = j} {k = more} other at ops left) = both (split ps p body is q more left)
  where
    both : IsNumberedFrom blocks p ps (drop p.at body) q more ⊎ Behind blocks ps (drop p.at body) stack q more
        → IsNumberedFrom blocks p (first ∷ ps) (drop p.at body) q (j + 1 + more) ⊎ Behind blocks (first ∷ ps) (drop p.at body) stack q (j + 1 + more)
    both (inl numbered) = inl (past_part other at ops numbered)
    both (inr b) = inr (record {
      count = j + 1 + b.count;
      opcodes = part other at ops b.opcodes;
      more = b.more;
      left = b.left;
      sum = ap (λ (x : ℕ). j + 1 + x) b.sum ∙ regroup j b.count b.more;
    })

pub drop_at : (body : List Instr) (k : ℕ) (i : Instr) → slice_get body k ≡ Some i → drop k body ≡ i ∷ drop (k + 1) body
drop_at body k i is =
    let one : suc k ≡ k + 1 = omega arith in
    drop-cons body k i (slice_get_within body k i is) ∙ ap (λ (x : Instr). x ∷ drop (suc k) body) (get_or_from_slice_get body k i i is) ∙ ap (λ (n : ℕ). i ∷ drop n body) one

one_behind : (c m k : ℕ) → k ≡ c + 1 + m → 1 + c + 1 + m ≡ 1 + k
one_behind c m k e = omega arith

-- the stack after an instruction numbers what comes after it
pub left_behind : {blocks : List (List Instr)} {stack : List BlockPosition} {q : BlockPosition} {k : ℕ} (p : BlockPosition) (body : List Instr) (i : Instr) → slice_get blocks p.block ≡ Some body
    → slice_get body p.at ≡ Some i → IsLeft blocks (map (λ (x : Part). begin_of x.block) (parts i) ++ next_of p ∷ stack) q k → IsLeft blocks (p ∷ stack) q (1 + k)
left_behind {blocks} {stack} {q} {k} p body i is at left = either (split (parts i) (next_of p) body is q k left)
  where
    opened : drop p.at body ≡ i ∷ drop (p.at + 1) body
    opened = drop_at body p.at i at

    either : IsNumberedFrom blocks (next_of p) (parts i) (drop (p.at + 1) body) q k ⊎ Behind blocks (parts i) (drop (p.at + 1) body) stack q k → IsLeft blocks (p ∷ stack) q (1 + k)
    either (inl numbered) = in_top body is (subst (λ (xs : List Instr). IsNumberedFrom blocks p [] xs q (1 + k)) (sym opened) (behind numbered))
    either (inr b) =
        subst (λ (n : ℕ). IsLeft blocks (p ∷ stack) q n) (one_behind b.count b.more k b.sum)
        (below_top body is (subst (λ (xs : List Instr). Opcodes blocks [] xs (1 + b.count)) (sym opened) (instr b.opcodes)) b.left)

-- the stack after the end of a block numbers what comes after it
pub left_past : {blocks : List (List Instr)} {stack : List BlockPosition} {q : BlockPosition} {k : ℕ} (p : BlockPosition) (body : List Instr) → slice_get blocks p.block ≡ Some body
    → drop p.at body ≡ [] → IsLeft blocks stack q k → IsLeft blocks (p ∷ stack) q (1 + k)
left_past {blocks} p body is ended left = below_top body is (subst (λ (xs : List Instr). Opcodes blocks [] xs 0) (sym ended) none) left

-- what is left is numbered from here on
abbrev pub IsNumberedOn : List (List Instr) → ℕ → List BlockPosition → Type 0
IsNumberedOn blocks number stack = (q : BlockPosition) (k : ℕ) → IsLeft blocks stack q k → IsNumbered blocks q (number + k)

-- the top has the number
pub top_numbered : (blocks : List (List Instr)) (number : ℕ) (p : BlockPosition) (stack : List BlockPosition) (body : List Instr) → slice_get blocks p.block ≡ Some body
    → IsNumberedOn blocks number (p ∷ stack) → IsNumbered blocks p number
top_numbered blocks number p stack body is on =
    let same : number + 0 ≡ number = omega arith in subst (λ (n : ℕ). IsNumbered blocks p n) same (on p 0 (in_top body is here))

pub no_part : {blocks : List (List Instr)} {q : BlockPosition} {k : ℕ} → IsLeft blocks [] q k → ⊥
no_part h = elim h [ ]

pub first_on : (blocks : List (List Instr)) → IsNumberedOn blocks 0 (begin_of 0 ∷ [])
first_on blocks q k (in_top body is numbered) =
    let same : k ≡ 0 + k = omega arith in subst (λ (n : ℕ). IsNumbered blocks q n) same (record { body = body; is_body = is; numbered = numbered })
first_on blocks q k (below_top body is ops left) = absurd (no_part left)

pub on_behind : (blocks : List (List Instr)) (number : ℕ) (p : BlockPosition) (stack : List BlockPosition) (body : List Instr) (i : Instr) → slice_get blocks p.block ≡ Some body → slice_get body p.at ≡ Some i
    → IsNumberedOn blocks number (p ∷ stack) → IsNumberedOn blocks (number + 1) (map (λ (x : Part). begin_of x.block) (parts i) ++ next_of p ∷ stack)
on_behind blocks number p stack body i is at on q k left =
    let same : number + (1 + k) ≡ number + 1 + k = omega arith in subst (λ (n : ℕ). IsNumbered blocks q n) same (on q (1 + k) (left_behind p body i is at left))

pub on_past : (blocks : List (List Instr)) (number : ℕ) (p : BlockPosition) (stack : List BlockPosition) (body : List Instr) → slice_get blocks p.block ≡ Some body → drop p.at body ≡ []
    → IsNumberedOn blocks number (p ∷ stack) → IsNumberedOn blocks (number + 1) stack
on_past blocks number p stack body is ended on q k left =
    let same : number + (1 + k) ≡ number + 1 + k = omega arith in subst (λ (n : ℕ). IsNumbered blocks q n) same (on q (1 + k) (left_past p body is ended left))

-- ---- the stack, its top last

-- an instruction is passed
pub passed : (body : List Instr) (p : BlockPosition) (i : Instr) (old mid new : List BlockPosition) → slice_get body p.at ≡ Some i → mid ≡ old ++ next_of p ∷ [] → new ≡ mid ++ reverse (begins_of i)
    → new ≡ old ++ reverse (behind_of body p)
passed body p i old mid new at pushed opened =
    let turned : reverse (behind_of body p) ≡ next_of p ∷ reverse (begins_of i) = ap (λ (o : Option Instr). reverse (followers o p)) at ∙ reverse-append (begins_of i) (next_of p ∷ []) in
    opened ∙ ap (λ (xs : List BlockPosition). xs ++ reverse (begins_of i)) pushed ∙ append_assoc old (next_of p ∷ []) (reverse (begins_of i)) ∙ ap (λ (xs : List BlockPosition). old ++ xs) (sym turned)

-- the end of a block is passed
pub ended : (body : List Instr) (p : BlockPosition) (old : List BlockPosition) → length body ≤ p.at → old ≡ old ++ reverse (behind_of body p)
ended body p old past =
    sym (ap (λ (o : Option Instr). old ++ reverse (followers o p)) (slice_get_past body p.at past) ∙ append-nil old)

-- ---- the table

noted_more : (blocks : List (List Instr)) (old new : List (Vec (Option ℕ) Global)) (p : BlockPosition) (number : ℕ) → HasNumbers blocks old → IsNumbered blocks p number → Notes old new p number → HasNumbers blocks new
noted_more blocks old new p number noted here_is notes q k is = either (notes.from q k is)
  where
    either : (number_in old q ≡ Some k) ⊎ ((q ≡ p) × (k ≡ number)) → IsNumbered blocks q k
    either (inl before) = noted q k before
    either (inr same) = subst (λ (n : ℕ). IsNumbered blocks q n) (sym same.1) (subst (λ (x : BlockPosition). IsNumbered blocks x number) (sym same.0) here_is)

left_more : (blocks : List (List Instr)) (number : ℕ) (p : BlockPosition) (stack : List BlockPosition) (body : List Instr) → slice_get blocks p.block ≡ Some body → IsNumberedOn blocks number (p ∷ stack)
    → IsNumberedOn blocks (number + 1) (behind_of body p ++ stack)
left_more blocks number p stack body is on = either (slice_get_cases body p.at).1
  where
    either : ((x : Instr) × (p.at < length body) × (slice_get body p.at ≡ Some x) × (get_or body p.at x ≡ x)) ⊎ ((length body ≤ p.at) × (slice_get body p.at ≡ None)) → IsNumberedOn blocks (number + 1) (behind_of body p ++ stack)
    either (inl at) =
        subst (λ (o : Option Instr). IsNumberedOn blocks (number + 1) (followers o p ++ stack)) (sym (at.2))
        (subst (IsNumberedOn blocks (number + 1)) (sym (append_assoc (begins_of at.0) (next_of p ∷ []) stack)) (on_behind blocks number p stack body at.0 is at.2 on))
    either (inr at) =
        subst (λ (o : Option Instr). IsNumberedOn blocks (number + 1) (followers o p ++ stack)) (sym at.1) (on_past blocks number p stack body is (drop_all p.at body at.0) on)

pub numbering_begun : (blocks : List (List Instr)) (table : List (Vec (Option ℕ) Global)) (stack : List BlockPosition) → ((q : BlockPosition) → number_in table q ≡ None) → stack ≡ begin_of 0 ∷ []
    → HasNumbers blocks table × IsNumberedOn blocks 0 (reverse stack)
numbering_begun blocks table stack empty is =
    ((λ q k at. absurd (none-some k (sym (empty q) ∙ at))), subst (λ (xs : List BlockPosition). IsNumberedOn blocks 0 (reverse xs)) (sym is) (first_on blocks))

-- an opcode is noted and passed
pub numbering_more : (blocks : List (List Instr)) (old new : List (Vec (Option ℕ) Global)) (number : ℕ) (stack rest after : List BlockPosition) (p : BlockPosition) (body : List Instr)
    → HasNumbers blocks old → IsNumberedOn blocks number (reverse stack) → stack ≡ rest ++ p ∷ [] → slice_get blocks p.block ≡ Some body → Notes old new p number
    → after ≡ rest ++ reverse (behind_of body p) → HasNumbers blocks new × IsNumberedOn blocks (number + 1) (reverse after)
numbering_more blocks old new number stack rest after p body noted left popped is notes passes =
    let on : IsNumberedOn blocks number (p ∷ reverse rest) = subst (IsNumberedOn blocks number) (ap reverse popped ∙ reverse-append rest (p ∷ [])) left in
    let turned : reverse after ≡ behind_of body p ++ reverse rest =
    ap reverse passes ∙ reverse-append rest (reverse (behind_of body p)) ∙ ap (λ (xs : List BlockPosition). xs ++ reverse rest) (reverse-reverse (behind_of body p)) in (
      noted_more blocks old new p number noted (top_numbered blocks number p (reverse rest) body is on) notes,
      subst (IsNumberedOn blocks (number + 1)) (sym turned) (left_more blocks number p (reverse rest) body is on),
    )
