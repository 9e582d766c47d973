-- Where the data segments end.
use Rattle.std.proofs.Common.{◌≡◌, ◌<◌, ◌≤◌, ◌+◌, ◌-◌, ℕ, Bool, true, false, cond, ltb, leb, List, [], ◌∷◌, All, refl, ap, subst, ◌∙◌, length, take, get_or, arith}
use Rattle.std.proofs.lemmas.Bool.{ltb-true}
use Rattle.std.proofs.lemmas.List.Elements.{All-head, All-more, All-tail, All-weaker}
use Rattle.wm_ast.specs.declared.module.DataSegment.{DataSegment}
use Rattle.wm_valid.specs.Memory.{Within, covered, over, start}

-- one more segment, up to an end that may be further
pub within_more : (ds : List DataSegment) (i : ℕ) (d : DataSegment) (end further : ℕ) → i < length ds → d ≡ get_or ds i d → end ≤ further → All (Within end) (take i ds) → Within further d → All (Within further) (take (i + 1) ds)
within_more ds i d end further within is more before now =
    let reaches : (e : DataSegment) → Within end e → Within further e = λ e h. omega (arith, h, more) in
    All-more (Within further) ds i d within (All-weaker (Within end) (Within further) reaches (take i ds) before) (subst (Within further) is now)

over_past : (d : DataSegment) (byte k : ℕ) → start d.offset + length d.bytes ≤ k → over d byte k ≡ byte
over_past d byte k past = go (leb (start d.offset) k) (ltb k (start d.offset + length d.bytes)) refl refl
  where
    go : (p q : Bool) → leb (start d.offset) k ≡ p → ltb k (start d.offset + length d.bytes) ≡ q → cond p (cond q (get_or d.bytes (k - start d.offset) 0) byte) byte ≡ byte
    go true true p q = let below : k < start d.offset + length d.bytes = ltb-true k (start d.offset + length d.bytes) q in absurd (omega (arith, below, past))
    go true false p q = refl
    go false q p h = refl

-- no byte is covered where all segments have ended
pub nothing_behind : (ds : List DataSegment) (byte end k : ℕ) → All (Within end) ds → end ≤ k → covered ds byte k ≡ byte
nothing_behind [] byte end k all past = refl
nothing_behind (d ∷ ds) byte end k all past =
    let ends : start d.offset + length d.bytes ≤ end = All-head (Within end) d ds all in
    ap (λ (b : ℕ). covered ds b k) (over_past d byte k (omega (arith, ends, past))) ∙ nothing_behind ds byte end k (All-tail (Within end) d ds all) past
