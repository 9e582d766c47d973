-- Bytes under a segment.
use Rattle.std.proofs.Common.{◌≡◌, ℕ, suc, ◌+◌, ◌-◌, ◌<◌, ◌≤◌, Bool, true, false, cond, ltb, leb, List, [], ◌∷◌, ◌++◌, refl, sym, ap, ◌∙◌, length, take, drop, get_or, arith}
use Rattle.std.proofs.Math.ListN.{get_or-append}
use Rattle.std.proofs.Math.Seq.{take-append_seam, take-suc}
use Rattle.std.proofs.lemmas.List.{get_or-append_right, get_or-take, get_or-drop, length-take-le}
use Rattle.std.proofs.lemmas.List.Edits.{paste_all}
use Rattle.std.proofs.lemmas.Slice.{put_mid-paste}
use Rattle.std.proofs.lemmas.Bool.{ltb-true, ltb-false, leb-true, leb-false}
use borrow.Rule.Slice.PartMut.{put_mid}
use Rattle.wm_ast.specs.declared.module.DataSegment.{DataSegment}
use Rattle.wm_valid.specs.Memory.{over, covered, start}

module _ (d s : List ℕ) (a k : ℕ) (within : a + length s ≤ length d) where
  front : length (take a d) ≡ a
  front = length-take-le a d (omega arith)

  go : (p q : Bool) → leb a k ≡ p → ltb k (a + length s) ≡ q → get_or (take a d ++ (s ++ drop (a + length s) d)) k 0 ≡ cond p (cond q (get_or s (k - a) 0) (get_or d k 0)) (get_or d k 0)
  go true true p q =
      let above : a ≤ k = leb-true a k p in
      let below : k < a + length s = ltb-true k (a + length s) q in
      let inside : k - a < length s = omega arith in
      get_or-append_right (take a d) (s ++ drop (a + length s) d) a k 0 front above ∙ get_or-append s (drop (a + length s) d) 0 (k - a) inside
  go true false p q =
      let above : a ≤ k = leb-true a k p in
      let past : a + length s ≤ k = ltb-false k (a + length s) q in
      let behind : length s ≤ k - a = omega arith in
      let same-place : a + length s + (k - a - length s) ≡ k = omega arith in
      get_or-append_right (take a d) (s ++ drop (a + length s) d) a k 0 front above ∙ get_or-append_right s (drop (a + length s) d) (length s) (k - a) 0 refl behind
      ∙ get_or-drop (a + length s) d (k - a - length s) 0 ∙ ap (λ (i : ℕ). get_or d i 0) same-place
  go false q p h =
      let below : k < a = leb-false a k p in
      let inside : k < length (take a d) = rw front below in
      get_or-append (take a d) (s ++ drop (a + length s) d) 0 k inside ∙ get_or-take a d k 0 below

pub laid_byte : (d bytes : List ℕ) (seg : DataSegment) (a n k : ℕ) → a ≡ start seg.offset → n ≡ length seg.bytes → a + length seg.bytes ≤ length d → bytes ≡ seg.bytes → get_or (put_mid a (a + n - a) d bytes) k 0 ≡ over seg (get_or d k 0) k
laid_byte d bytes seg a n k at-start long within same-bytes =
    let n-is : length seg.bytes ≡ a + n - a = omega arith in
    let pasted = put_mid-paste a (a + n - a) d bytes seg.bytes (length seg.bytes) same-bytes n-is refl ∙ paste_all d a seg.bytes (length seg.bytes) refl in
    ap (λ (l : List ℕ). get_or l k 0) pasted ∙ go d seg.bytes a k within (leb a k) (ltb k (a + length seg.bytes)) refl refl
    ∙ ap (λ (i : ℕ). cond (leb i k) (cond (ltb k (i + length seg.bytes)) (get_or seg.bytes (k - i) 0) (get_or d k 0)) (get_or d k 0)) at-start

-- one more segment
pub covered_more : (ds : List DataSegment) (d : DataSegment) (byte k : ℕ) → covered (ds ++ d ∷ []) byte k ≡ over d (covered ds byte k) k
covered_more [] d byte k = refl
covered_more (e ∷ ds) d byte k = covered_more ds d (over e byte k) k

pub written : (n : ℕ) (new rest : List ℕ) → n ≡ length new → take n (new ++ rest) ≡ new
written n new rest e = ap (λ (m : ℕ). take m (new ++ rest)) e ∙ take-append_seam new rest

pub taken_more : {X : Type 0} (ds : List X) (i : ℕ) (d : X) → i < length ds → d ≡ get_or ds i d → take (i + 1) ds ≡ take i ds ++ d ∷ []
taken_more {X} ds i d within is =
    let one : i + 1 ≡ suc i = omega arith in
    ap (λ (m : ℕ). take m ds) one ∙ take-suc ds i d within ∙ ap (λ (x : X). take i ds ++ x ∷ []) (sym is)

-- the byte after one more segment
pub byte_goes : (ds : List DataSegment) (i : ℕ) (d : DataSegment) (new old : List ℕ) (k : ℕ) → i < length ds → d ≡ get_or ds i d → get_or new k 0 ≡ over d (get_or old k 0) k → get_or old k 0 ≡ covered (take i ds) 0 k → get_or new k 0 ≡ covered (take (i + 1) ds) 0 k
byte_goes ds i d new old k within is laid so =
    laid ∙ ap (λ (b : ℕ). over d b k) so ∙ sym (covered_more (take i ds) d 0 k) ∙ ap (λ (l : List DataSegment). covered l 0 k) (sym (taken_more ds i d within is))
