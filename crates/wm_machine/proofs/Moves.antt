-- The moves of a control stack, on the view.
use Rattle.std.proofs.Common.{◌≡◌, ℕ, zero, suc, ◌+◌, ◌≤◌, ◌<◌, ◌-◌, ◌^◌, List, [], ◌∷◌, ◌++◌, length, take, drop, set, reverse, get_or, Some, refl, ap, ◌∙◌, arith, length-drop}
use Rattle.std.proofs.lemmas.List.{take-take, take-set-le, length-reverse, length-take-le, take_all}
use Rattle.std.proofs.lemmas.List.Elements.{All-append}
use Rattle.wm_machine.proofs.Continuations.{drop_past}
use Rattle.wm_machine.specs.declared.value.TypedValue.{TypedValue}
use Rattle.wm_machine.specs.declared.control_stack.ControlFrame.{ControlFrame}
use Rattle.std.specs.Prelude.{slice_get, IfSome}
use Rattle.wm_machine.specs.Nest.{Nest, closed}
use Rattle.wm_machine.specs.ControlStack.{nest_of, places_of, Bases, AreFollowed}
use Rattle.wm_machine.proofs.Stacks.{reverse_parts, reverse_cut, reverse_put, reverse_last}

pub popped_off : (i : ControlFrame) (ls : List ControlFrame) (vs : List TypedValue) (len p : ℕ) → len ≡ length vs → i.base ≤ length vs → p ≤ length (reverse (drop i.base vs)) → nest_of i ls (take (len - p) vs) ≡ record (nest_of i ls vs) { operands = drop p (reverse (drop i.base vs)) }
popped_off i ls vs len p e b room =
    let r : p ≤ length vs - i.base = omega (arith, room, length-reverse (drop i.base vs), length-drop i.base vs) in
    let le : i.base ≤ len - p = omega arith in
    let h : (len - p) + p ≡ length vs = omega arith in
    let a = reverse_cut vs i.base (len - p) p le h in
    let t = take-take i.base (len - p) vs le in
    rw (a, t)

pub put_over : (i : ControlFrame) (ls : List ControlFrame) (vs : List TypedValue) (len p : ℕ) (v : TypedValue) → len ≡ length vs → i.base ≤ length vs → p ≤ length (reverse (drop i.base vs)) → 0 < p → nest_of i ls (take (len - p + 1) (set vs (len - p) v)) ≡ record (nest_of i ls vs) { operands = v ∷ drop p (reverse (drop i.base vs)) }
put_over i ls vs len p v e b room pos =
    let r : p ≤ length vs - i.base = omega (arith, room, length-reverse (drop i.base vs), length-drop i.base vs) in
    let n = len - p in
    let le : i.base ≤ n = omega arith in
    let le1 : i.base ≤ n + 1 = omega arith in
    let h : n + p ≡ length vs = omega arith in
    let a = reverse_put vs i.base n p v le h pos in
    let t = take-take i.base (n + 1) (set vs n v) le1 in
    let u = take-set-le i.base vs n v le in
    rw (a, t, u)

pub closes : (i l : ControlFrame) (ls : List ControlFrame) (vs : List TypedValue) → Bases (length vs) (i ∷ l ∷ ls) → closed (nest_of i (l ∷ ls) vs) ≡ Some (nest_of l ls vs)
closes i l ls vs h =
    let a = reverse_parts vs l.base i.base h.1.0 h.0 in
    let b = take-take l.base i.base vs h.1.0 in
    rw (a, b)

pub closes_last : (i l : ControlFrame) (outer : List ControlFrame) (vs : List TypedValue) → Bases (length vs) (i ∷ reverse (outer ++ l ∷ [])) → closed (nest_of i (reverse (outer ++ l ∷ [])) vs) ≡ Some (nest_of l (reverse outer) vs)
closes_last i l outer vs h =
    let e = reverse_last outer l in
    rw e (closes i l (reverse outer) vs (rw e at h))

pub places_length : (ls : List ControlFrame) (vs : List TypedValue) → length (places_of ls vs) ≡ length ls
places_length [] vs = refl
places_length (l ∷ ls) vs = ap suc (places_length ls (take l.base vs))

pub place_read : (ls : List ControlFrame) (vs : List TypedValue) (k : ℕ) (d : ControlFrame) → IfSome (slice_get (places_of ls vs) k) (λ p. ((get_or ls k d).block ≡ p.block) × ((get_or ls k d).at ≡ p.at))
place_read [] vs k d = tt
place_read (l ∷ ls) vs zero d = (refl, refl)
place_read (l ∷ ls) vs (suc k) d = place_read ls (take l.base vs) k d

pub entered : (i : ControlFrame) (ls : List ControlFrame) (vs : List TypedValue) (len p : ℕ) → len ≡ length vs → i.base ≤ length vs → p ≤ length (reverse (drop i.base vs)) → places_of (i ∷ ls) (take (len - p) vs) ≡ record { operands = drop p (reverse (drop i.base vs)); block = i.block; at = i.at } ∷ places_of ls (take i.base vs)
entered i ls vs len p e b room =
    let h = popped_off i ls vs len p e b room in
    ap (λ (n : Nest). record { operands = n.operands; block = n.block; at = n.at } ∷ n.outer) h

pub entered_in : (i : ControlFrame) (outer pushed : List ControlFrame) (vs vs' : List TypedValue) (b len len' p : ℕ) → pushed ≡ outer ++ i ∷ [] → vs' ≡ take (len - p) vs → len ≡ length vs → len' ≡ length vs' → i.base ≤ length vs → p ≤ length (reverse (drop i.base vs)) → nest_of record { block = b; at = 0; base = len' } (reverse pushed) vs' ≡ record { operands = []; block = b; at = 0; outer = record { operands = drop p (reverse (drop i.base vs)); block = i.block; at = i.at } ∷ places_of (reverse outer) (take i.base vs) }
entered_in i outer pushed vs vs' b len len' p ep ev el el' base room =
    let r : reverse pushed ≡ i ∷ reverse outer = ap reverse ep ∙ reverse_last outer i in
    let t : take len' vs' ≡ vs' = take_all len' vs' (omega arith) in
    let d : drop len' vs' ≡ [] = drop_past vs' len' (omega arith) in
    let e = ap (places_of (i ∷ reverse outer)) ev ∙ entered i (reverse outer) vs len p el base room in
    rw (r, t, d, e) refl

one_followed : (i : ControlFrame) → i.at + 1 < 2 ^ 64 → AreFollowed (i ∷ [])
one_followed i h zero d k = h
one_followed i h (suc n) d k = absurd (omega arith)

-- the control stack once a block was entered
pub entered_levels : (i : ControlFrame) (outer pushed : List ControlFrame) (vs vs' : List TypedValue) (len len' p : ℕ) → pushed ≡ outer ++ i ∷ [] → vs' ≡ take (len - p) vs → len ≡ length vs → len' ≡ length vs' → i.base ≤ length vs → p ≤ length (reverse (drop i.base vs)) → Bases i.base (reverse outer) → AreFollowed outer → i.at + 1 < 2 ^ 64 → ((len' ≤ length vs') × Bases len' (reverse pushed)) × AreFollowed pushed
entered_levels i outer pushed vs vs' len len' p ep ev el el' base room bases f at =
    let r : reverse pushed ≡ i ∷ reverse outer = ap reverse ep ∙ reverse_last outer i in
    let t : length vs' ≡ len - p = ap length ev ∙ length-take-le (len - p) vs (omega arith) in
    let le : i.base ≤ len' = omega (arith, room, length-reverse (drop i.base vs), length-drop i.base vs) in
    ((omega arith, rw r (le, bases)), rw ep (All-append (λ (l : ControlFrame). l.at + 1 < 2 ^ 64) outer (i ∷ []) f (one_followed i at)))
