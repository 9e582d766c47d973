-- A position's number is that of its instruction, as a fault of the module is located, or that of an `else` or an `end`; and small functions.
use Rattle.std.proofs.Common.{◌≡◌, ℕ, ◌≤◌, List, [], ◌∷◌, drop, length, get_or, Some, None, refl, sym, ap, subst, ◌∙◌, slice_get, inl, inr}
use Rattle.std.specs.Prelude.{◌⊎◌, ◌+◌, ◌<◌}
use Rattle.std.proofs.lemmas.List.{drop_all}
use Rattle.std.proofs.lemmas.Option.{same_Some, slice_get_cases}
use Rattle.wm_ast.specs.declared.instr.Else.TheVariants.{Present}
use Rattle.wm_ast.specs.declared.instr.Instr.{Instr}
use Rattle.wm_ast.specs.declared.instr.Instr.TheVariants.{Nop, Block, If, Drop}
use Rattle.wm_valid.specs.InstrTypes.{Labels}
use Rattle.wm_valid.specs.Locations.{Part, At, here as at_here, behind as at_behind, in_part as at_in_part, past_part as at_past_part, IsEnd, last, end_behind, end_in_part, end_past_part, none, instr}
use Rattle.wm_sites.specs.declared.opcode_numbers.BlockPosition.{BlockPosition}
use Rattle.wm_sites.specs.Numbering.{IsNumberedFrom, here, behind, in_part, past_part, IsNumbered}
use Rattle.wm_sites.proofs.Unnumbered.{drop_at}

-- what follows the first of the instructions from an index on
behind_first : (own rest : List Instr) (k : ℕ) (first : Instr) → first ∷ rest ≡ drop k own → rest ≡ drop (k + 1) own
behind_first own rest k first is = either (slice_get_cases own k).1
  where
    either : ((x : Instr) × (k < length own) × (slice_get own k ≡ Some x) × (get_or own k x ≡ x)) ⊎ ((length own ≤ k) × (slice_get own k ≡ None)) → rest ≡ drop (k + 1) own
    either (inl at) = ap (drop 1) (is ∙ drop_at own k at.0 at.2)
    either (inr at) = let empty : first ∷ rest ≡ [] = is ∙ drop_all k own at.0 in absurd (cc (empty))

-- where the position has an instruction, the opcode is that instruction
at_from : {blocks : List (List Instr)} {p q : BlockPosition} {ps : List Part} {rest : List Instr} {k : ℕ} → IsNumberedFrom blocks p ps rest q k → (own : List Instr) → slice_get blocks p.block ≡ Some own
    → rest ≡ drop p.at own → (mine : List Instr) (i : Instr) → slice_get blocks q.block ≡ Some mine → slice_get mine q.at ≡ Some i → (labels : Labels) → (under : Labels) × At blocks labels ps rest k i under
at_from {blocks} (here {p = p}) own is rest_is mine i mine_is at labels =
    let same : mine ≡ own = same_Some mine own (sym mine_is ∙ is) in
    let at_own : slice_get own p.at ≡ Some i = subst (λ (xs : List Instr). slice_get xs p.at ≡ Some i) same at in
    (labels, subst (λ (xs : List Instr). At blocks labels [] xs 0 i labels) (sym (rest_is ∙ drop_at own p.at i at_own)) at_here)
at_from (behind {p = p} {first = first} {rest = rest} h) own is rest_is mine i mine_is at labels =
    let r = at_from h own is (behind_first own rest p.at first rest_is) mine i mine_is at labels in (r.0, at_behind r.1)
at_from (in_part {part = part} body there h) own is rest_is mine i mine_is at labels =
    let r = at_from h body there refl mine i mine_is at (part.label ∷ labels) in (r.0, at_in_part body there r.1)
at_from (past_part body there ops h) own is rest_is mine i mine_is at labels =
    let r = at_from h own is rest_is mine i mine_is at labels in (r.0, at_past_part body there ops r.1)

pub instruction_at : (blocks : List (List Instr)) (q : BlockPosition) (k : ℕ) (own : List Instr) (i : Instr) → slice_get blocks q.block ≡ Some own → slice_get own q.at ≡ Some i → (n : IsNumbered blocks q k)
    → (labels : Labels) → (under : Labels) × At blocks labels [] n.body k i under
instruction_at blocks q k own i is at n labels = at_from n.numbered n.body n.is_body refl own i is at labels

-- after the last instruction of a block the opcode is its `else` or `end`
end_from : {blocks : List (List Instr)} {p q : BlockPosition} {ps : List Part} {rest : List Instr} {k : ℕ} → IsNumberedFrom blocks p ps rest q k → (own : List Instr) → slice_get blocks p.block ≡ Some own
    → rest ≡ drop p.at own → (mine : List Instr) → slice_get blocks q.block ≡ Some mine → length mine ≤ q.at → IsEnd blocks ps rest k
end_from {blocks} (here {p = p}) own is rest_is mine mine_is past =
    let same : mine ≡ own = same_Some mine own (sym mine_is ∙ is) in
    let all : length own ≤ p.at = subst (λ (xs : List Instr). length xs ≤ p.at) same past in subst (λ (xs : List Instr). IsEnd blocks [] xs 0) (sym (rest_is ∙ drop_all p.at own all)) last
end_from (behind {p = p} {first = first} {rest = rest} h) own is rest_is mine mine_is past = end_behind (end_from h own is (behind_first own rest p.at first rest_is) mine mine_is past)
end_from (in_part body there h) own is rest_is mine mine_is past = end_in_part body there (end_from h body there refl mine mine_is past)
end_from (past_part body there ops h) own is rest_is mine mine_is past = end_past_part body there ops (end_from h own is rest_is mine mine_is past)

pub end_at : (blocks : List (List Instr)) (q : BlockPosition) (k : ℕ) (own : List Instr) → slice_get blocks q.block ≡ Some own → length own ≤ q.at → (n : IsNumbered blocks q k) → IsEnd blocks [] n.body k
end_at blocks q k own is past n = end_from n.numbered n.body n.is_body refl own is past

-- ---- block nop end drop end

abbrev nested : List (List Instr)
nested = (Block None 1 ∷ Drop ∷ []) ∷ (Nop ∷ []) ∷ []

pub block_first : IsNumbered nested (record { block = 0; at = 0 }) 0
block_first = record { body = Block None 1 ∷ Drop ∷ []; is_body = refl; numbered = here }

pub nop_in_block : IsNumbered nested (record { block = 1; at = 0 }) 1
nop_in_block = record { body = Block None 1 ∷ Drop ∷ []; is_body = refl; numbered = behind (in_part (Nop ∷ []) refl here) }

pub end_of_block : IsNumbered nested (record { block = 1; at = 1 }) 2
end_of_block = record { body = Block None 1 ∷ Drop ∷ []; is_body = refl; numbered = behind (in_part (Nop ∷ []) refl (behind here)) }

pub drop_behind_block : IsNumbered nested (record { block = 0; at = 1 }) 3
drop_behind_block = record { body = Block None 1 ∷ Drop ∷ []; is_body = refl; numbered = behind (past_part (Nop ∷ []) refl (instr none) here) }

pub end_of_body : IsNumbered nested (record { block = 0; at = 2 }) 4
end_of_body = record { body = Block None 1 ∷ Drop ∷ []; is_body = refl; numbered = behind (past_part (Nop ∷ []) refl (instr none) (behind here)) }

-- ---- if nop else drop end end

abbrev either_way : List (List Instr)
either_way = (If None 1 2 Present ∷ []) ∷ (Nop ∷ []) ∷ (Drop ∷ []) ∷ []

pub else_behind_then : IsNumbered either_way (record { block = 1; at = 1 }) 2
else_behind_then = record { body = If None 1 2 Present ∷ []; is_body = refl; numbered = behind (in_part (Nop ∷ []) refl (behind here)) }

pub drop_in_else : IsNumbered either_way (record { block = 2; at = 0 }) 3
drop_in_else = record { body = If None 1 2 Present ∷ []; is_body = refl; numbered = behind (past_part (Nop ∷ []) refl (instr none) (in_part (Drop ∷ []) refl here)) }

pub end_of_else : IsNumbered either_way (record { block = 2; at = 1 }) 4
end_of_else = record { body = If None 1 2 Present ∷ []; is_body = refl; numbered = behind (past_part (Nop ∷ []) refl (instr none) (in_part (Drop ∷ []) refl (behind here))) }

pub end_behind_if : IsNumbered either_way (record { block = 0; at = 1 }) 5
end_behind_if = record { body = If None 1 2 Present ∷ []; is_body = refl; numbered = behind (past_part (Nop ∷ []) refl (instr none) (past_part (Drop ∷ []) refl (instr none) here)) }
