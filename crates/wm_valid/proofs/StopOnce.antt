-- A block in which typing stops has no typing, and typing stops in it at one opcode at most.
use Rattle.std.proofs.Common.{◌≡◌, ℕ, suc, zero, ◌+◌, ◌<◌, List, [], ◌∷◌, ◌++◌, Option, Some, None, refl, sym, ap, subst, ◌∙◌, ◌⊎◌, slice_get, inl, inr, arith}
use Rattle.wm_ast.specs.declared.types.ValType.{ValType}
use Rattle.wm_ast.specs.declared.types.ValType.TheVariants.{I32}
use Rattle.wm_ast.specs.declared.instr.Else.{Else}
use Rattle.wm_ast.specs.declared.instr.Else.TheVariants.{Present, Absent}
use Rattle.wm_ast.specs.declared.instr.Instr.{Instr}
use Rattle.wm_ast.specs.declared.instr.Instr.TheVariants.{Block, Loop, If}
use Rattle.wm_valid.specs.InstrTypes.{Context, Labels, InstrType, listed, instr_type}
use Rattle.wm_valid.specs.Typing.{Typed, none, plain, Nested, ElsePart}
use Rattle.wm_valid.specs.Locations.{Part, parts, Opcodes, none as no_opcode, instr, part as of_part}
use Rattle.wm_valid.specs.Untyped.{HasTyping, HasTest, IsBehind, HasTypingWith, GoesOn, block_result, PastFirst, StandsBehind, StopsTyping, at_opcode, at_end, in_first, behind_first, in_second}
use Rattle.wm_valid.proofs.StackLaws.{some_is}
use Rattle.wm_valid.proofs.BodyLaws.{Framed, apart}
use Rattle.wm_valid.proofs.StopLaws.{typed_both, parted}

-- the blocks of an instruction of block n are typed as they should be
abbrev pub TypedParts : Context → ℕ → Labels → Instr → Type 0
TypedParts C n labels (Block t b) = Nested C n b (t ∷ labels) t
TypedParts C n labels (Loop t b) = Nested C n b (None ∷ labels) t
TypedParts C n labels (If t one other part) = Nested C n one (t ∷ labels) t × ElsePart C n other labels t part
TypedParts C n labels _ = Unit {0}

pub record TypedAll (C : Context) (n : ℕ) (labels : Labels) (before : List Instr) (i : Instr) : Type 0 where
  pub with_it : HasTypingWith C n labels before i
  pub inside : TypedParts C n labels i

there : {C : Context} {n b : ℕ} {labels : Labels} {t : Option ValType} → Nested C n b labels t → IsBehind C n b
there h = (h.behind, (h.block.body, h.block.is_there))

plainly_all : (C : Context) (n : ℕ) (labels : Labels) (before : List Instr) (i : Instr) (ty : InstrType) → instr_type C labels i ≡ Some ty → HasTyping C n labels (before ++ i ∷ []) → TypedAll C n labels before i
plainly_all C n labels before (Block t b) ty is h = absurd cc
plainly_all C n labels before (Loop t b) ty is h = absurd cc
plainly_all C n labels before (If t one other part) ty is h = absurd cc
plainly_all C n labels before _ ty is h = record { with_it = h; inside = tt }

framed_all : (C : Context) (n : ℕ) (labels : Labels) (before : List Instr) (i : Instr) (rest : List Instr) (ts vs : List ValType) → Typed C n labels before [] ts → Framed C n labels i rest ts vs → TypedAll C n labels before i
framed_all C n labels before (Block t b) rest ts vs d f = record { with_it = ((ts, d), there f.0); inside = f.0 }
framed_all C n labels before (Loop t b) rest ts vs d f = record { with_it = ((ts, d), there f.0); inside = f.0 }
framed_all C n labels before (If t one other part) rest ts vs d f = record {
  with_it = ((f.0, subst (λ (l : List ValType). Typed C n labels before [] l) f.1 d), there f.2);
  inside = (f.2, f.3);
}
framed_all C n labels before _ rest ts vs d f = absurd f

-- what a typing means for an instruction in the middle
pub typed_all : (C : Context) (n : ℕ) (labels : Labels) (before after : List Instr) (i : Instr) (vs : List ValType) → Typed C n labels (before ++ i ∷ after) [] vs → TypedAll C n labels before i
typed_all C n labels before after i vs d =
    let q = parted C n labels before (i ∷ after) [] vs d in
    elim (apart q.2) [
      | inl p ↦ plainly_all C n labels before i p.type p.is_type (p.us, typed_both (i ∷ []) p.us q.1 (plain p.type p.is_type p.makes none))
      | inr f ↦ framed_all C n labels before i after q.0 vs q.1 f
    ]

first_item : {X : Type 0} (x y : X) (xs ys : List X) → x ∷ xs ≡ y ∷ ys → x ≡ y
first_item x y xs ys e = cc

-- its first block
first_typed : (C : Context) (n : ℕ) (labels : Labels) (i : Instr) (p : Part) (ps : List Part) → TypedParts C n labels i → parts i ≡ p ∷ ps → Nested C n p.block (p.label ∷ labels) (block_result i)
first_typed C n labels (Block t b) p ps h e = subst (λ (q : Part). Nested C n q.block (q.label ∷ labels) t) (first_item (record { label = t; block = b }) p [] ps e) h
first_typed C n labels (Loop t b) p ps h e = subst (λ (q : Part). Nested C n q.block (q.label ∷ labels) t) (first_item (record { label = None; block = b }) p [] ps e) h
first_typed C n labels (If t one other Present) p ps h e =
    subst (λ (q : Part). Nested C n q.block (q.label ∷ labels) t) (first_item (record { label = t; block = one }) p (record { label = t; block = other } ∷ []) ps e) h.0
first_typed C n labels (If t one other Absent) p ps h e = subst (λ (q : Part). Nested C n q.block (q.label ∷ labels) t) (first_item (record { label = t; block = one }) p [] ps e) h.0
first_typed C n labels _ p ps h e = absurd cc

else_goes_on : (C : Context) (n other : ℕ) (labels : Labels) (t : Option ValType) (part : Else) → ElsePart C n other labels t part → GoesOn C n other t part
else_goes_on C n other labels t Present h = there h
else_goes_on C n other labels t Absent h = h

body_typed : (C : Context) (n b : ℕ) (labels : Labels) (t : Option ValType) (body : List Instr) → Nested C n b labels t → slice_get C.blocks b ≡ Some body → Typed C b labels body [] (listed t)
body_typed C n b labels t body h is = subst (λ (l : List Instr). Typed C b labels l [] (listed t)) (some_is h.block.body body (sym h.block.is_there ∙ is)) h.block.typed

in_the_middle : (C : Context) (n : ℕ) (labels : Labels) (whole before after : List Instr) (i : Instr) (vs : List ValType) → whole ≡ before ++ i ∷ after → Typed C n labels whole [] vs → TypedAll C n labels before i
in_the_middle C n labels whole before after i vs is d = typed_all C n labels before after i vs (subst (λ (l : List Instr). Typed C n labels l [] vs) is d)

-- a block in which typing stops has no typing
pub stopped_untyped : {C : Context} {n : ℕ} {labels : Labels} {result : Option ValType} {whole : List Instr} {k : ℕ} → StopsTyping C n labels result whole k → Typed C n labels whole [] (listed result) → ⊥
stopped_untyped {C} {n} {labels} {result} {whole} (at_opcode before i b h not) d = not (in_the_middle C n labels whole before b.after i (listed result) b.is d).with_it
stopped_untyped (at_end ops h not) d = not d
stopped_untyped {C} {n} {labels} {result} {whole} (in_first before i p ps body b with_it are found s) d =
    let all = in_the_middle C n labels whole before b.after i (listed result) b.is d in
    stopped_untyped s (body_typed C n p.block (p.label ∷ labels) (block_result i) body (first_typed C n labels i p ps all.inside are) found)
stopped_untyped {C} {n} {labels} {result} {whole} (behind_first before t one other part b past not) d =
    let all = in_the_middle C n labels whole before b.after (If t one other part) (listed result) b.is d in
    not (else_goes_on C n other labels t part all.inside.1)
stopped_untyped {C} {n} {labels} {result} {whole} (in_second before t one other body b past later found s) d =
    let all = in_the_middle C n labels whole before b.after (If t one other Present) (listed result) b.is d in
    stopped_untyped s (body_typed C n other (t ∷ labels) t body all.inside.1 found)

part_sum : (i j k l : ℕ) → i ≡ j → k ≡ l → i + 1 + k ≡ j + 1 + l
part_sum i j k l e f = omega arith

-- instructions have one number of opcodes
pub opcodes_same : {blocks : List (List Instr)} {ps : List Part} {is : List Instr} {j k : ℕ} → Opcodes blocks ps is j → Opcodes blocks ps is k → j ≡ k
opcodes_same no_opcode no_opcode = refl
opcodes_same (instr a) (instr b) = ap (λ (m : ℕ). 1 + m) (opcodes_same a b)
opcodes_same {blocks} (of_part {j = i} {k = k} one found inner ops) (of_part {j = j} {k = l} other found2 inner2 ops2) =
    part_sum i j k l (opcodes_same inner (subst (λ (l : List Instr). Opcodes blocks [] l j) (some_is other one (sym found2 ∙ found)) inner2)) (opcodes_same ops ops2)

-- two places in one list
abbrev pub Placed : {X : Type 0} → List X → X → List X → X → Type 0
Placed {X} xs x ys y = ((xs ≡ ys) × (x ≡ y)) ⊎ ((c : List X) × (ys ≡ xs ++ x ∷ c)) ⊎ ((c : List X) × (xs ≡ ys ++ y ∷ c))

pub compared : {X : Type 0} (xs : List X) (x : X) (xs2 ys : List X) (y : X) (bs : List X) → xs ++ x ∷ xs2 ≡ ys ++ y ∷ bs → Placed xs x ys y
compared [] x xs2 [] y bs e = inl (refl, first_item x y xs2 bs e)
compared [] x xs2 (z ∷ ys) y bs e = inr (inl (ys, ap (λ w. w ∷ ys) (sym (first_item x z xs2 (ys ++ y ∷ bs) e))))
compared (w ∷ xs) x xs2 [] y bs e = inr (inr (xs, ap (λ z. z ∷ xs) (first_item w y (xs ++ x ∷ xs2) bs e)))
compared (w ∷ xs) x xs2 (z ∷ ys) y bs e = compared_more w z xs ys x y (first_item w z (xs ++ x ∷ xs2) (ys ++ y ∷ bs) e) (compared xs x xs2 ys y bs cc)
  where
    compared_more : {X : Type 0} (w z : X) (xs ys : List X) (x y : X) → w ≡ z → Placed xs x ys y → Placed (w ∷ xs) x (z ∷ ys) y
    compared_more w z xs ys x y e (inl h) = inl (cc (e, h.0), h.1)
    compared_more w z xs ys x y e (inr (inl h)) = inr (inl (h.0, cc (e, h.1)))
    compared_more w z xs ys x y e (inr (inr h)) = inr (inr (h.0, cc (e, h.1)))

-- where typing stops in an instruction after others, counted from its own opcode
pub data ItemStop (C : Context) (n : ℕ) (labels : Labels) (before : List Instr) (i : Instr) : ℕ → Type 0 where
  itself : HasTyping C n labels before → (HasTypingWith C n labels before i → ⊥) → ItemStop C n labels before i 0
  inside : {k : ℕ} (p : Part) (ps : List Part) (body : List Instr) → HasTypingWith C n labels before i → parts i ≡ p ∷ ps → slice_get C.blocks p.block ≡ Some body
      → StopsTyping C p.block (p.label ∷ labels) (block_result i) body k → ItemStop C n labels before i (1 + k)
  between : {l : ℕ} (t : Option ValType) (one other : ℕ) (part : Else) → i ≡ If t one other part → PastFirst C n labels before t one l → (GoesOn C n other t part → ⊥) → ItemStop C n labels before i (1 + l)
  in_else : {l k : ℕ} (t : Option ValType) (one other : ℕ) (body : List Instr) → i ≡ If t one other Present → PastFirst C n labels before t one l → n < other → slice_get C.blocks other ≡ Some body
      → StopsTyping C other (t ∷ labels) t body k → ItemStop C n labels before i (1 + (l + 1 + k))

-- the instruction in which typing stops
pub record InItem (C : Context) (n : ℕ) (labels : Labels) (whole : List Instr) (k : ℕ) : Type 0 where
  pub before : List Instr
  pub item : Instr
  pub opcodes : ℕ
  pub more : ℕ
  pub stands : StandsBehind C whole before item opcodes
  pub stop : ItemStop C n labels before item more
  pub is_number : k ≡ opcodes + more

pub record AtEnd (C : Context) (n : ℕ) (labels : Labels) (result : Option ValType) (whole : List Instr) (k : ℕ) : Type 0 where
  pub are_opcodes : Opcodes C.blocks [] whole k
  pub has : HasTyping C n labels whole
  pub lacks : Typed C n labels whole [] (listed result) → ⊥

plus_none : (k : ℕ) → k ≡ k + 0
plus_none k = omega arith

viewed : {C : Context} {n : ℕ} {labels : Labels} {result : Option ValType} {whole : List Instr} {k : ℕ} → StopsTyping C n labels result whole k → AtEnd C n labels result whole k ⊎ InItem C n labels whole k
viewed {k = k} (at_opcode before i b h not) =
    inr (record { before = before; item = i; opcodes = k; more = 0; stands = b; stop = itself h not; is_number = plus_none k })
viewed (at_end ops h not) = inl (record { are_opcodes = ops; has = h; lacks = not })
viewed (in_first {j = j} {k = k} before i p ps body b with_it are found s) =
    inr (record { before = before; item = i; opcodes = j; more = 1 + k; stands = b; stop = inside p ps body with_it are found s; is_number = refl })
viewed (behind_first {j = j} {l = l} before t one other part b past not) =
    inr (record { before = before; item = If t one other part; opcodes = j; more = 1 + l; stands = b; stop = between t one other part refl past not; is_number = refl })
viewed (in_second {j = j} {l = l} {k = k} before t one other body b past later found s) =
    inr (record { before = before; item = If t one other Present; opcodes = j; more = 1 + (l + 1 + k); stands = b; stop = in_else t one other body refl past later found s; is_number = refl })

item_untyped : {C : Context} {n : ℕ} {labels : Labels} {before : List Instr} {i : Instr} {m : ℕ} → ItemStop C n labels before i m → TypedAll C n labels before i → ⊥
item_untyped (itself h not) all = not all.with_it
item_untyped {C} {n} {labels} {before} {i} (inside p ps body with_it are found s) all =
    stopped_untyped s (body_typed C n p.block (p.label ∷ labels) (block_result i) body (first_typed C n labels i p ps all.inside are) found)
item_untyped {C} {n} {labels} {before} {i} (between t one other part is past not) all =
    let both : TypedParts C n labels (If t one other part) = subst (λ (x : Instr). TypedParts C n labels x) is all.inside in
    not (else_goes_on C n other labels t part both.1)
item_untyped {C} {n} {labels} {before} {i} (in_else t one other body is past later found s) all =
    let both : TypedParts C n labels (If t one other Present) = subst (λ (x : Instr). TypedParts C n labels x) is all.inside in
    stopped_untyped s (body_typed C n other (t ∷ labels) t body both.1 found)

before_typed : (C : Context) (n : ℕ) (labels : Labels) (before : List Instr) (i : Instr) → HasTypingWith C n labels before i → HasTyping C n labels before
before_typed C n labels before (Block t b) h = h.0
before_typed C n labels before (Loop t b) h = h.0
before_typed C n labels before (If t one other part) h = (I32 ∷ h.0.0, h.0.1)
before_typed C n labels before i h = let q = parted C n labels before (i ∷ []) [] h.0 h.1 in (q.0, q.1)

test_typed : {C : Context} {n : ℕ} {labels : Labels} {before : List Instr} → HasTest C n labels before → HasTyping C n labels before
test_typed h = (I32 ∷ h.0, h.1)

begun : {C : Context} {n : ℕ} {labels : Labels} {before : List Instr} {i : Instr} {m : ℕ} → ItemStop C n labels before i m → HasTyping C n labels before
begun (itself h not) = h
begun {C} {n} {labels} {before} {i} (inside p ps body with_it are found s) = before_typed C n labels before i with_it
begun (between t one other part is past not) = test_typed past.test
begun (in_else t one other body is past later found s) = test_typed past.test

past_with : (C : Context) (n : ℕ) (labels : Labels) (before : List Instr) (i : Instr) (t : Option ValType) (one other l : ℕ) (part : Else) → i ≡ If t one other part → PastFirst C n labels before t one l → HasTypingWith C n labels before i
past_with C n labels before i t one other l part is past = subst (λ (x : Instr). HasTypingWith C n labels before x) (sym is) (past.test, there past.first)

-- typing stops at the instruction's own opcode, or not before it
opened : {C : Context} {n : ℕ} {labels : Labels} {before : List Instr} {i : Instr} {m : ℕ} → ItemStop C n labels before i m → (m ≡ 0) ⊎ HasTypingWith C n labels before i
opened (itself h not) = inl refl
opened (inside p ps body with_it are found s) = inr with_it
opened {C} {n} {labels} {before} {i} (between {l = l} t one other part is past not) = inr (past_with C n labels before i t one other l part is past)
opened {C} {n} {labels} {before} {i} (in_else {l = l} t one other body is past later found s) = inr (past_with C n labels before i t one other l Present is past)

first_of_if : (C : Context) (n : ℕ) (labels : Labels) (t : Option ValType) (one other : ℕ) (part : Else) (p : Part) (ps : List Part) → Nested C n one (t ∷ labels) t → parts (If t one other part) ≡ p ∷ ps
    → Nested C n p.block (p.label ∷ labels) t
first_of_if C n labels t one other Present p ps h e = subst (λ (q : Part). Nested C n q.block (q.label ∷ labels) t) (first_item (record { label = t; block = one }) p (record { label = t; block = other } ∷ []) ps e) h
first_of_if C n labels t one other Absent p ps h e = subst (λ (q : Part). Nested C n q.block (q.label ∷ labels) t) (first_item (record { label = t; block = one }) p [] ps e) h

-- typing does not stop in a first block that is typed
not_inside : {C : Context} {n : ℕ} {labels : Labels} {i : Instr} {k : ℕ} (t : Option ValType) (one other : ℕ) (part : Else) (p : Part) (ps : List Part) (body : List Instr) → i ≡ If t one other part
    → Nested C n one (t ∷ labels) t → parts i ≡ p ∷ ps → slice_get C.blocks p.block ≡ Some body → StopsTyping C p.block (p.label ∷ labels) (block_result i) body k → ⊥
not_inside {C} {n} {labels} {i} {k} t one other part p ps body is h are found s =
    stopped_untyped (subst (λ (x : Instr). StopsTyping C p.block (p.label ∷ labels) (block_result x) body k) is s)
    (body_typed C n p.block (p.label ∷ labels) t body (first_of_if C n labels t one other part p ps h (subst (λ (x : Instr). parts x ≡ p ∷ ps) is are)) found)

-- two ways to read one `if`
pub record SameIf (t u : Option ValType) (one two other another : ℕ) (part part2 : Else) : Type 0 where
  pub result : u ≡ t
  pub first : two ≡ one
  pub second : another ≡ other
  pub part_is : part2 ≡ part

same_if : (i : Instr) (t u : Option ValType) (one two other another : ℕ) (part part2 : Else) → i ≡ If t one other part → i ≡ If u two another part2 → SameIf t u one two other another part part2
same_if i t u one two other another part part2 e f = record { result = cc (e, f); first = cc (e, f); second = cc (e, f); part_is = cc (e, f) }

first_same : {C : Context} {n : ℕ} {labels : Labels} {before : List Instr} {t u : Option ValType} {one two l m : ℕ} → two ≡ one → PastFirst C n labels before t one l → PastFirst C n labels before u two m → l ≡ m
first_same {C} {m = m} e a b =
    opcodes_same a.are_opcodes
    (subst (λ (is : List Instr). Opcodes C.blocks [] is m) (some_is b.first.block.body a.first.block.body (sym b.first.block.is_there ∙ (ap (λ (x : ℕ). slice_get C.blocks x) e ∙ a.first.block.is_there))) b.are_opcodes)

not_between : (C : Context) {n : ℕ} {i : Instr} (t u : Option ValType) (one two other another : ℕ) (part : Else) (body : List Instr) → i ≡ If t one other part → i ≡ If u two another Present → n < another → slice_get C.blocks another ≡ Some body
    → (GoesOn C n other t part → ⊥) → ⊥
not_between C {n} {i} t u one two other another part body is is2 later found not =
    let same = same_if i t u one two other another part Present is is2 in
    let second : GoesOn C n other t Present = subst (λ (b : ℕ). IsBehind C n b) same.second (later, (body, found)) in
    not (subst (λ (q : Else). GoesOn C n other t q) same.part_is second)

-- typing stops at one opcode at most in the smaller blocks
abbrev pub OnceBelow : Context → ℕ → Type 0
OnceBelow C bound =
    (b : ℕ) (labels : Labels) (t : Option ValType) (body : List Instr) (k l : ℕ) → k < bound → StopsTyping C b labels t body k → StopsTyping C b labels t body l → k ≡ l

inside_same : {C : Context} {labels : Labels} {bound k l : ℕ} (t : Option ValType) (p q : Part) (body other : List Instr) → OnceBelow C bound → k < bound → q ≡ p → slice_get C.blocks p.block ≡ Some body → slice_get C.blocks q.block ≡ Some other
    → StopsTyping C p.block (p.label ∷ labels) t body k → StopsTyping C q.block (q.label ∷ labels) t other l → k ≡ l
inside_same {C} {labels} {l = l} t p q body other once below e found found2 s r =
    let found3 : slice_get C.blocks p.block ≡ Some other = subst (λ (x : Part). slice_get C.blocks x.block ≡ Some other) e found2 in
    let r2 : StopsTyping C p.block (p.label ∷ labels) t other l = subst (λ (x : Part). StopsTyping C x.block (x.label ∷ labels) t other l) e r in
    once p.block (p.label ∷ labels) t body _ l below s (subst (λ (is : List Instr). StopsTyping C p.block (p.label ∷ labels) t is l) (some_is other body (sym found3 ∙ found)) r2)

else_same : {C : Context} {labels : Labels} {bound k l : ℕ} (t u : Option ValType) (b c : ℕ) (body other : List Instr) → OnceBelow C bound → k < bound → u ≡ t → c ≡ b → slice_get C.blocks b ≡ Some body → slice_get C.blocks c ≡ Some other
    → StopsTyping C b (t ∷ labels) t body k → StopsTyping C c (u ∷ labels) u other l → k ≡ l
else_same {C} {labels} {l = l} t u b c body other once below e f found found2 s r =
    let r2 : StopsTyping C c (t ∷ labels) t other l = subst (λ (x : Option ValType). StopsTyping C c (x ∷ labels) x other l) e r in
    inside_same t (record { label = t; block = b }) (record { label = t; block = c }) body other once below (ap (λ (x : ℕ). let y : Part = record { label = t; block = x } in y) f) found found2 s r2

under_one : (k bound : ℕ) → 1 + k < suc bound → k < bound
under_one k bound h = omega arith

under_two : (l k bound : ℕ) → 1 + (l + 1 + k) < suc bound → k < bound
under_two l k bound h = omega arith

item_same : {C : Context} {n : ℕ} {labels : Labels} {before : List Instr} {i : Instr} {k l : ℕ} (bound : ℕ) → OnceBelow C bound → k < suc bound → ItemStop C n labels before i k → ItemStop C n labels before i l → k ≡ l
item_same bound once below (itself h not) s = elim (opened s) [ inl e ↦ sym e | inr w ↦ absurd (not w) ]
item_same bound once below (inside p ps body w are found s) (itself h not) = absurd (not w)
item_same {i = i} bound once below (inside {k = k} p ps body w are found s) (inside q qs other w2 are2 found2 r) =
    ap (λ (x : ℕ). 1 + x) (inside_same (block_result i) p q body other once (under_one k bound below) (first_item q p qs ps (sym are2 ∙ are)) found found2 s r)
item_same bound once below (inside p ps body w are found s) (between t one other part is past not) = absurd (not_inside t one other part p ps body is past.first are found s)
item_same bound once below (inside p ps body w are found s) (in_else t one other body2 is past later found2 r) = absurd (not_inside t one other Present p ps body is past.first are found s)
item_same {C} {n} {labels} {before} {i} bound once below (between {l = l} t one other part is past not) (itself h not2) = absurd (not2 (past_with C n labels before i t one other l part is past))
item_same bound once below (between t one other part is past not) (inside p ps body w are found s) = absurd (not_inside t one other part p ps body is past.first are found s)
item_same {i = i} bound once below (between t one other part is past not) (between u two another part2 is2 past2 not2) =
    ap (λ (x : ℕ). 1 + x) (first_same (same_if i t u one two other another part part2 is is2).first past past2)
item_same {C} bound once below (between t one other part is past not) (in_else u two another body is2 past2 later found s) = absurd (not_between C t u one two other another part body is is2 later found not)
item_same {C} {n} {labels} {before} {i} bound once below (in_else {l = l} t one other body is past later found s) (itself h not2) = absurd (not2 (past_with C n labels before i t one other l Present is past))
item_same bound once below (in_else t one other body is past later found s) (inside p ps body2 w are found2 r) = absurd (not_inside t one other Present p ps body2 is past.first are found2 r)
item_same {C} bound once below (in_else t one other body is past later found s) (between u two another part is2 past2 not) = absurd (not_between C u t two one another other part body is2 is later found not)
item_same {i = i} bound once below (in_else {l = l} {k = k} t one other body is past later found s) (in_else {l = m} {k = k2} u two another body2 is2 past2 later2 found2 r) =
    let same = same_if i t u one two other another Present Present is is2 in
    ap (λ (x : ℕ). 1 + x) (part_sum l m k k2 (first_same same.first past past2) (else_same t u other another body body2 once (under_two l k bound below) same.result same.second found found2 s r))

sum_same : (i j k l n m : ℕ) → k ≡ i + n → l ≡ j + m → i ≡ j → n ≡ m → k ≡ l
sum_same i j k l n m e f g h = omega arith

more_below : (k i n bound : ℕ) → k ≡ i + n → k < suc bound → n < suc bound
more_below k i n bound e h = omega arith

items_same : {C : Context} {n : ℕ} {labels : Labels} {whole : List Instr} {k l : ℕ} (bound : ℕ) → OnceBelow C bound → k < suc bound → InItem C n labels whole k → InItem C n labels whole l → k ≡ l
items_same {C} {n} {labels} {whole} {k} {l} bound once below v w = elim (compared v.before v.item v.stands.after w.before w.item w.stands.after (sym v.stands.is ∙ w.stands.is)) [
  | inl same ↦
      let ops : Opcodes C.blocks [] v.before w.opcodes = subst (λ (is : List Instr). Opcodes C.blocks [] is w.opcodes) (sym same.0) w.stands.are_opcodes in
      let stop : ItemStop C n labels v.before w.item w.more = subst (λ (is : List Instr). ItemStop C n labels is w.item w.more) (sym same.0) w.stop in
      let stop2 : ItemStop C n labels v.before v.item w.more = subst (λ (x : Instr). ItemStop C n labels v.before x w.more) (sym same.1) stop in
      sum_same v.opcodes w.opcodes k l v.more w.more v.is_number w.is_number (opcodes_same v.stands.are_opcodes ops) (item_same bound once (more_below k v.opcodes v.more bound v.is_number below) v.stop stop2)
  | inr (inl r) ↦ let h = begun w.stop in absurd (item_untyped v.stop (in_the_middle C n labels w.before v.before r.0 v.item h.0 r.1 h.1))
  | inr (inr r) ↦ let h = begun v.stop in absurd (item_untyped w.stop (in_the_middle C n labels v.before w.before r.0 w.item h.0 r.1 h.1))
]

end_or_item : {C : Context} {n : ℕ} {labels : Labels} {result : Option ValType} {whole : List Instr} {k l : ℕ} → AtEnd C n labels result whole k → InItem C n labels whole l → ⊥
end_or_item {C} {n} {labels} {result} {whole} e v = item_untyped v.stop (in_the_middle C n labels whole v.before v.stands.after v.item e.has.0 v.stands.is e.has.1)

once_below : (C : Context) (bound : ℕ) → OnceBelow C bound
once_below C zero n labels result whole k l below s r = absurd (omega arith)
once_below C (suc bound) n labels result whole k l below s r = elim (viewed s) [
  | inl e ↦ elim (viewed r) [ inl f ↦ opcodes_same e.are_opcodes f.are_opcodes | inr w ↦ absurd (end_or_item e w) ]
  | inr v ↦ elim (viewed r) [ inl f ↦ absurd (end_or_item f v) | inr w ↦ items_same bound (once_below C bound) below v w ]
]

below_next : (k : ℕ) → k < suc k
below_next k = omega arith

-- typing stops at one opcode of a block at most
pub stops_once : (C : Context) (n : ℕ) (labels : Labels) (result : Option ValType) (whole : List Instr) (k l : ℕ) → StopsTyping C n labels result whole k → StopsTyping C n labels result whole l → k ≡ l
stops_once C n labels result whole k l s r = once_below C (suc k) n labels result whole k l (below_next k) s r
