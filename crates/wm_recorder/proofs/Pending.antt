-- How many stores wait after an access.
use Rattle.std.proofs.Common.{◌≡◌, ◌≢◌, ℕ, Bool, true, false, List, [], ◌∷◌, ◌++◌, ◌==◌, ◌&&◌, ◌<◌, ◌≤◌, ◌+◌, inl, inr, length, refl, ap, sym, ◌∙◌, subst, arith, if◌then◌else◌}
use Rattle.std.proofs.lemmas.Bool.{cases_Bool, cases_eq, eqb-true, eqb-false, eq-eqb, ne_eqb}
use Rattle.wm_access.specs.declared.AccessWidth.{AccessWidth}
use Rattle.wm_access.specs.AccessWidth.{bytes_of}
use Rattle.wm_access.specs.MemoryOrder.{is_sequential}
use Rattle.wm_access.specs.declared.MemoryOrder.{MemoryOrder}
use Rattle.wm_access.specs.declared.MemoryOrder.TheVariants.{Unordered, SeqCst}
use Rattle.wm_event.specs.declared.event.Event.{Event}
use Rattle.wm_event.specs.declared.event.EventKind.{EventKind}
use Rattle.wm_event.specs.declared.op.OpFields.{OpFields as Op}
use Rattle.wm_event.specs.declared.op.OpKind.{OpKind}
use Rattle.wm_event.specs.declared.op.OpKind.TheVariants.{Read, Write, Rmw, CmpXchg}
use Rattle.wm_event.specs.Event.{kind_writes}
use Rattle.wm_event.specs.Op.{IsOp, KindFits, made_kind}
use Rattle.wm_memory.specs.Memory.{plain_store, drains_first}
use Rattle.wm_memory.specs.Visibility.{Step, Made, Drained, own_write, rest, waiting, seen, visible, value_at, made_after, writers_after}

-- one store less
pub rest_count : (k : ℕ) (w : List Event) → k < length w → length (rest k w) + 1 ≡ length w
rest_count k [] h = absurd (omega arith)
rest_count k (x ∷ xs) h = elim (cases_eq (length xs) k) [
  | inl e ↦ rw (eq-eqb (length xs) k e) (omega arith)
  | inr ne ↦ rw (ne_eqb (length xs) k ne) (omega (arith, rest_count k xs (omega (arith, ne))))
]

not_both : (a b : Bool) → b ≡ false → (a && b) ≡ false
not_both true b h = h
not_both false b h = refl

both_parts : (a b : Bool) → (a && b) ≡ true → (a ≡ true) × (b ≡ true)
both_parts true b h = (refl, h)
both_parts false b h = absurd (cc)

pub first_parts : (s : List Step) (t : ℕ) (op : Op) → drains_first s t op ≡ true → length (waiting s t) ≡ 64
first_parts s t op h = eqb-true (length (waiting s t)) 64 (both_parts (plain_store op.order op.kind) (length (waiting s t) == 64) h).1

drained_own : (s : List Step) (t : ℕ) → waiting (Drained t 0 ∷ s) t ≡ rest 0 (waiting s t)
drained_own s t = rw (eq-eqb t t refl) refl

-- after the drain that an access forces it forces none
pub not_again : (s : List Step) (t : ℕ) (op : Op) → length (waiting s t) ≡ 64 → drains_first (Drained t 0 ∷ s) t op ≡ false
not_again s t op h =
    let less : length (waiting (Drained t 0 ∷ s) t) ≢ 64 = λ e. omega (arith, h, e, ap (λ (l : List Event). length l) (drained_own s t), rest_count 0 (waiting s t) (omega (arith, h))) in
    not_both (plain_store op.order op.kind) (length (waiting (Drained t 0 ∷ s) t) == 64) (ne_eqb (length (waiting (Drained t 0 ∷ s) t)) 64 less)

own_none : (e : Event) (kind : EventKind) → e.kind ≡ kind → kind_writes kind ≡ false → own_write e ≡ []
own_none e kind h w = let p : kind_writes e.kind ≡ false = ap kind_writes h ∙ w in rw p refl

own_at_most : (e : Event) (b : Bool) → kind_writes e.kind ≡ b → (w : List Event) → length (own_write e ++ w) ≤ length w + 1
own_at_most e true h w = rw h (omega arith)
own_at_most e false h w = rw h (omega arith)

-- the stores that wait after an access that no drain has to precede
room : (order : MemoryOrder) (kind : OpKind) (width : AccessWidth) (r : ℕ) (e : Event) (w : List Event) → KindFits kind order width → e.kind ≡ made_kind kind r
    → (plain_store order kind && (length w == 64)) ≡ false → length w ≤ 64 → length (if is_sequential order then [] else (own_write e ++ w)) ≤ 64
room SeqCst kind width r e w fits k first old = omega arith
room Unordered Read width r e w fits k first old = rw (own_none e (made_kind Read r) k refl) old
room Unordered (Write v) width r e w fits k first old =
    let ne : length w ≢ 64 = eqb-false (length w) 64 first in
    omega (arith, ne, own_at_most e (kind_writes e.kind) refl w)
room Unordered (Rmw op v) width r e w fits k first old = absurd (let h : Unordered ≡ SeqCst = fits.1 in cc)
room Unordered (CmpXchg x y) width r e w fits k first old = absurd (let h : Unordered ≡ SeqCst = fits.2 in cc)

pub pending_after : (init : List ℕ) (s : List Step) (t : ℕ) (op : Op) (u : ℕ) → IsOp op → drains_first s t op ≡ false → length (waiting s u) ≤ 64
    → length (waiting (Made (made_after init s t op) (writers_after init s (made_after init s t op)) ∷ s) u) ≤ 64
pending_after init s t op u fits first old = elim (cases_Bool (t == u)) [
  | inl h ↦
      (let same : t ≡ u = eqb-true t u h in
      let here : length (if is_sequential op.order then [] else (own_write (made_after init s t op) ++ waiting s t)) ≤ 64 =
      room op.order op.kind op.width (value_at (seen init (visible s t)) op.address (bytes_of op.width)) (made_after init s t op) (waiting s t) fits refl first (subst (λ (v : ℕ). length (waiting s v) ≤ 64) (sym same) old) in
      rw h (subst (λ (v : ℕ). length (if is_sequential op.order then [] else (own_write (made_after init s t op) ++ waiting s v)) ≤ 64) same here))
  | inr h ↦ rw h old
]
