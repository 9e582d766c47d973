-- Where the typing of a block stops, from the instruction that is refused outwards.
use Rattle.std.proofs.Common.{◌≡◌, ℕ, ◌+◌, ◌-◌, ◌^◌, ◌<◌, min, List, [], ◌∷◌, ◌++◌, Option, Some, None, refl, sym, ap, subst, ◌∙◌, slice_get, length, take, drop, get_or, Result, Ok, Err, inl, inr, arith}
use Rattle.std.specs.Prelude.{IfErr}
use Rattle.wm_ast.specs.declared.types.ValType.{ValType}
use Rattle.wm_ast.specs.declared.types.ValType.TheVariants.{I32}
use Rattle.wm_ast.specs.declared.instr.Else.{Else}
use Rattle.wm_ast.specs.declared.instr.Else.TheVariants.{Present, Absent}
use Rattle.wm_ast.specs.declared.instr.Instr.{Instr}
use Rattle.wm_ast.specs.declared.instr.Instr.TheVariants.{Block, Loop, If}
use Rattle.wm_valid.specs.InstrTypes.{Context, Labels, listed}
use Rattle.wm_valid.specs.Typing.{Typed, none, plain, block, loop, if_else, if_then, Nested}
use Rattle.wm_valid.specs.Stacks.{Stack, Matches, empty, take_one, ended}
use Rattle.wm_valid.specs.Locations.{Part, parts, Opcodes, number_of}
use Rattle.wm_valid.specs.Untyped.{HasTyping, HasTest, IsBehind, HasTypingWith, GoesOn, block_result, PastFirst, StandsBehind, at_opcode, at_end, in_first, behind_first, in_second, TypingStopsAt}
use Rattle.wm_valid.specs.Implements.{MapsStack, Rejects, Unless, Counted, CountedBlock, Reaches, StopsInElse, StopsInstr, StopsBlock, StopsNested, StopsElse, LeavesStack}
use Rattle.wm_valid.specs.declared.fault.FaultKind.TheVariants.{BadType}
use Rattle.wm_valid.specs.declared.fault.InstrFault.{InstrFault}
use Rattle.wm_valid.specs.declared.fault.InstrFault.TheVariants.{Breaks, OutOfMemory}
use Rattle.wm_valid.proofs.StackLaws.{some_is, some_list, take_one_forth, take_one_back, ended_forth}
use Rattle.wm_valid.proofs.BodyLaws.{IsPlain, Framed, apart, if_typed}
use Rattle.wm_valid.proofs.LoopLaws.{split_item}
use Rattle.wm_valid.proofs.Laid.{taken_more}

-- instructions after others
pub typed_both : {C : Context} {n : ℕ} {labels : Labels} {xs : List Instr} {ts us : List ValType} (ys : List Instr) (vs : List ValType) → Typed C n labels xs ts us → Typed C n labels ys us vs → Typed C n labels (xs ++ ys) ts vs
typed_both ys vs none e = e
typed_both ys vs (plain ty is makes d) e = plain ty is makes (typed_both ys vs d e)
typed_both ys vs (block body behind there inner d) e = block body behind there inner (typed_both ys vs d e)
typed_both ys vs (loop body behind there inner d) e = loop body behind there inner (typed_both ys vs d e)
typed_both ys vs (if_else first second behind1 there1 inner1 behind2 there2 inner2 d) e = if_else first second behind1 there1 inner1 behind2 there2 inner2 (typed_both ys vs d e)
typed_both ys vs (if_then first behind1 there1 inner1 there2 d) e = if_then first behind1 there1 inner1 there2 (typed_both ys vs d e)

-- what these instructions make, and then those
abbrev pub Parted : Context → ℕ → Labels → List Instr → List Instr → List ValType → List ValType → Type 0
Parted C n labels xs ys ts vs = (us : List ValType) × Typed C n labels xs ts us × Typed C n labels ys us vs

framed_parted : (C : Context) (n : ℕ) (labels : Labels) (x : Instr) (xs ys : List Instr) (ts vs : List ValType) → ((us : List ValType) → Typed C n labels (xs ++ ys) us vs → Parted C n labels xs ys us vs)
    → Framed C n labels x (xs ++ ys) ts vs → Parted C n labels (x ∷ xs) ys ts vs
framed_parted C n labels (Block t b) xs ys ts vs more f =
    let r = more (listed t ++ ts) f.1 in
    (r.0, block f.0.block.body f.0.behind f.0.block.is_there f.0.block.typed r.1, r.2)
framed_parted C n labels (Loop t b) xs ys ts vs more f =
    let r = more (listed t ++ ts) f.1 in
    (r.0, loop f.0.block.body f.0.behind f.0.block.is_there f.0.block.typed r.1, r.2)
framed_parted C n labels (If t one other part) xs ys ts vs more f =
    let r = more (listed t ++ f.0) f.4 in
    (r.0, subst (λ (l : List ValType). Typed C n labels (If t one other part ∷ xs) l r.0) (sym f.1) (if_typed C n one other part labels t xs f.0 r.0 f.2 f.3 r.1), r.2)
framed_parted C n labels _ xs ys ts vs more f = absurd f

pub parted : (C : Context) (n : ℕ) (labels : Labels) (xs ys : List Instr) (ts vs : List ValType) → Typed C n labels (xs ++ ys) ts vs → Parted C n labels xs ys ts vs
parted C n labels [] ys ts vs d = (ts, none, d)
parted C n labels (x ∷ xs) ys ts vs d = elim (apart d) [
  | inl p ↦ let r = parted C n labels xs ys p.us vs p.typed in (r.0, plain p.type p.is_type p.makes r.1, r.2)
  | inr f ↦ framed_parted C n labels x xs ys ts vs (λ us e. parted C n labels xs ys us vs e) f
]

nothing_back : (C : Context) (n : ℕ) (labels : Labels) (us : List ValType) → Matches empty us → Typed C n labels [] [] us
nothing_back C n labels [] m = none
nothing_back C n labels (u ∷ us) m = absurd m

pub reaches_none : (C : Context) (n : ℕ) (labels : Labels) → Reaches C n labels [] empty
reaches_none C n labels = record {
  back = nothing_back C n labels;
  forth = λ us d. subst (λ (l : List ValType). Matches empty l) (apart d) tt;
}

pub reaches_more : (C : Context) (n : ℕ) (labels : Labels) (before : List Instr) (i : Instr) (s s1 : Stack) → Reaches C n labels before s → MapsStack C n labels i s s1 → Reaches C n labels (before ++ i ∷ []) s1
reaches_more C n labels before i s s1 so turned = record {
  back = λ us m. let r = turned.back us us [] m none in typed_both (i ∷ []) us (so.back r.0 r.1) r.2;
  forth = λ us d.
      let q = parted C n labels before (i ∷ []) [] us d in
      let r = turned.forth q.0 us [] (so.forth q.0 q.1) q.2 in
      subst (λ (l : List ValType). Matches s1 l) (apart r.2) r.1;
}

has_typing : (C : Context) (n : ℕ) (labels : Labels) (before : List Instr) (s : Stack) → Reaches C n labels before s → HasTyping C n labels before
has_typing C n labels before s so = let r = some_list s.known s.open_below in (r.0, so.back r.0 r.1)

-- an i32 is on top exactly where one can be taken
has_test : (C : Context) (n : ℕ) (labels : Labels) (before : List Instr) (s s1 : Stack) → Reaches C n labels before s → take_one I32 s ≡ Some s1 → HasTest C n labels before
has_test C n labels before s s1 so e = let r = some_list s1.known s1.open_below in (r.0, so.back (I32 ∷ r.0) (take_one_back s s1 I32 r.0 e r.1))

no_test : (C : Context) (n : ℕ) (labels : Labels) (before : List Instr) (s : Stack) → Reaches C n labels before s → take_one I32 s ≡ None → HasTest C n labels before → ⊥
no_test C n labels before s so e h = let r = take_one_forth s I32 h.0 (so.forth (I32 ∷ h.0) h.1) in absurd (cc (e, r.1))

plain_with : (C : Context) (n : ℕ) (labels : Labels) (before : List Instr) (i : Instr) → IsPlain i → HasTypingWith C n labels before i → HasTyping C n labels (before ++ i ∷ [])
plain_with C n labels before (Block t b) p h = absurd p
plain_with C n labels before (Loop t b) p h = absurd p
plain_with C n labels before (If t one other part) p h = absurd p
plain_with C n labels before _ p h = h

pub unless_untyped : {P : Type 0} (e : InstrFault) → e ≡ Breaks BadType → Unless e P → P
unless_untyped {P} e is h = subst (λ (q : InstrFault). Unless q P) is h

-- an instruction after those that were counted
stands : (C : Context) (before after : List Instr) (i : Instr) (start first : ℕ) → (counted : Counted C.blocks before start first) → StandsBehind C (before ++ i ∷ after) before i counted.opcodes
stands C before after i start first counted = record { after = after; is = refl; are_opcodes = counted.are_opcodes }

-- the instruction at which the refusal stops
stops_here : (C : Context) (n : ℕ) (labels : Labels) (result : Option ValType) (before after : List Instr) (i : Instr) (s : Stack) (start first : ℕ) → Reaches C n labels before s → Counted C.blocks before start first
    → (HasTypingWith C n labels before i → ⊥) → TypingStopsAt C n labels result (before ++ i ∷ after) start first
stops_here C n labels result before after i s start first so counted not = record {
  number = counted.opcodes;
  stops = at_opcode before i (stands C before after i start first counted) (has_typing C n labels before s so) not;
  is_number = counted.is_next;
}

pub plain_stops : (e : InstrFault) (C : Context) (n : ℕ) (labels : Labels) (i : Instr) (s : Stack) (first : ℕ) → IsPlain i → Unless e (Rejects C n labels i s) → StopsInstr C n labels i s first first e
plain_stops e C n labels i s first is-plain refused is before after result start so counted =
    stops_here C n labels result before after i s start first so counted
    λ h.
    let t = plain_with C n labels before i is-plain h in
    let q = parted C n labels before (i ∷ []) [] t.0 t.1 in
    unless_untyped e is refused q.0 t.0 [] (so.forth q.0 q.1) q.2

pub test_stops : (e : InstrFault) (C : Context) (n : ℕ) (labels : Labels) (t : Option ValType) (one other : ℕ) (part : Else) (s : Stack) (first : ℕ) → Unless e (take_one I32 s ≡ None)
    → StopsInstr C n labels (If t one other part) s first first e
test_stops e C n labels t one other part s first refused is before after result start so counted =
    stops_here C n labels result before after (If t one other part) s start first so counted λ h. no_test C n labels before s so (unless_untyped e is refused) h.0

number_deeper : (m start j first k next : ℕ) → first ≡ min (start + j) m → next ≡ min (min (first + 1) m + k) m → next ≡ min (start + (j + (1 + k))) m
number_deeper m start j first k next e f = omega arith

-- a fault in an instruction's first block, or at the opcode in front of it
nested_stops : (e : InstrFault) (C : Context) (n : ℕ) (labels : Labels) (i : Instr) (p : Part) (ps : List Part) (s : Stack) (first next : ℕ) → parts i ≡ p ∷ ps
    → ((before : List Instr) → HasTypingWith C n labels before i → IsBehind C n p.block) → ((before : List Instr) → Reaches C n labels before s → IsBehind C n p.block → HasTypingWith C n labels before i)
    → StopsNested C n p.block (p.label ∷ labels) (block_result i) first next e → StopsInstr C n labels i s first next e
nested_stops e C n labels i p ps s first next is opens opened h bad before after result start so counted = elim (h bad) [
  | inl stop ↦ subst (λ (k : ℕ). TypingStopsAt C n labels result (before ++ i ∷ after) start k) (sym stop.1) (stops_here C n labels result before after i s start first so counted λ g. stop.0 (opens before g))
  | inr r ↦ record {
    number = counted.opcodes + (1 + r.1.2.number);
    stops = in_first before i p ps r.1.0 (stands C before after i start first counted) (opened before so (r.0, (r.1.0, r.1.1))) is r.1.1 r.1.2.stops;
    is_number = number_deeper (2 ^ 64 - 1) start counted.opcodes first r.1.2.number next counted.is_next r.1.2.is_number;
  }
]

pub block_stops : (e : InstrFault) (C : Context) (n : ℕ) (labels : Labels) (t : Option ValType) (b : ℕ) (s : Stack) (first next : ℕ) → StopsNested C n b (t ∷ labels) t first next e → StopsInstr C n labels (Block t b) s first next e
block_stops e C n labels t b s first next h =
    nested_stops e C n labels (Block t b) (record { label = t; block = b }) [] s first next refl (λ before g. g.1) (λ before so g. (has_typing C n labels before s so, g)) h

pub loop_stops : (e : InstrFault) (C : Context) (n : ℕ) (labels : Labels) (t : Option ValType) (b : ℕ) (s : Stack) (first next : ℕ) → StopsNested C n b (None ∷ labels) t first next e → StopsInstr C n labels (Loop t b) s first next e
loop_stops e C n labels t b s first next h =
    nested_stops e C n labels (Loop t b) (record { label = None; block = b }) [] s first next refl (λ before g. g.1) (λ before so g. (has_typing C n labels before s so, g)) h

pub if_first_stops : (e : InstrFault) (C : Context) (n : ℕ) (labels : Labels) (t : Option ValType) (one other : ℕ) (part : Else) (s s1 : Stack) (first next : ℕ) → take_one I32 s ≡ Some s1
    → StopsNested C n one (t ∷ labels) t first next e → StopsInstr C n labels (If t one other part) s first next e
if_first_stops e C n labels t one other Present s s1 first next took h =
    nested_stops e C n labels (If t one other Present) (record { label = t; block = one }) (record { label = t; block = other } ∷ []) s first next refl (λ before g. g.1) (λ before so g. (has_test C n labels before s s1 so took, g)) h
if_first_stops e C n labels t one other Absent s s1 first next took h =
    nested_stops e C n labels (If t one other Absent) (record { label = t; block = one }) [] s first next refl (λ before g. g.1) (λ before so g. (has_test C n labels before s s1 so took, g)) h

-- an `if` is read up to the end of its first block
past_first : (C : Context) (n : ℕ) (labels : Labels) (before : List Instr) (t : Option ValType) (one : ℕ) (s s1 : Stack) (first mid : ℕ) → Reaches C n labels before s → take_one I32 s ≡ Some s1
    → Nested C n one (t ∷ labels) t → (h : CountedBlock C one first mid) → PastFirst C n labels before t one h.2.opcodes
past_first C n labels before t one s s1 first mid so took nested h = record {
  test = has_test C n labels before s s1 so took;
  first = nested;
  are_opcodes = subst (λ (l : List Instr). Opcodes C.blocks [] l h.2.opcodes) (some_is h.0 nested.block.body (sym h.1 ∙ nested.block.is_there)) h.2.are_opcodes;
}

number_behind : (m start j first l mid : ℕ) → first ≡ min (start + j) m → mid ≡ min (min (first + 1) m + l) m → mid ≡ min (start + (j + (1 + l))) m
number_behind m start j first l mid e f = omega arith

number_in_second : (m start j first l mid k next : ℕ) → first ≡ min (start + j) m → mid ≡ min (min (first + 1) m + l) m → next ≡ min (min (mid + 1) m + k) m → next ≡ min (start + (j + (1 + (l + 1 + k)))) m
number_in_second m start j first l mid k next e f g = omega arith

-- a fault at the opcode after the first block of an `if`
stops_past_first : (C : Context) (n : ℕ) (labels : Labels) (result : Option ValType) (before after : List Instr) (t : Option ValType) (one other : ℕ) (part : Else) (start first mid next : ℕ)
    → Counted C.blocks before start first → (h : CountedBlock C one (number_of (first + 1)) mid) → PastFirst C n labels before t one h.2.opcodes → (GoesOn C n other t part → ⊥) → next ≡ mid
    → TypingStopsAt C n labels result (before ++ If t one other part ∷ after) start next
stops_past_first C n labels result before after t one other part start first mid next counted h past not same = record {
  number = counted.opcodes + (1 + h.2.opcodes);
  stops = behind_first before t one other part (stands C before after (If t one other part) start first counted) past not;
  is_number = same ∙ number_behind (2 ^ 64 - 1) start counted.opcodes first h.2.opcodes mid counted.is_next h.2.is_next;
}

in_else : (C : Context) (n : ℕ) (labels : Labels) (result : Option ValType) (before after : List Instr) (t : Option ValType) (one other : ℕ) (part : Else) (start first mid next : ℕ) → Counted C.blocks before start first
    → (h : CountedBlock C one (number_of (first + 1)) mid) → PastFirst C n labels before t one h.2.opcodes → StopsInElse C n other labels t part mid next
    → TypingStopsAt C n labels result (before ++ If t one other part ∷ after) start next
in_else C n labels result before after t one other Absent start first mid next counted h past g = stops_past_first C n labels result before after t one other Absent start first mid next counted h past g.0 g.1
in_else C n labels result before after t one other Present start first mid next counted h past (inl g) = stops_past_first C n labels result before after t one other Present start first mid next counted h past g.0 g.1
in_else C n labels result before after t one other Present start first mid next counted h past (inr g) = record {
  number = counted.opcodes + (1 + (h.2.opcodes + 1 + g.1.2.number));
  stops = in_second before t one other g.1.0 (stands C before after (If t one other Present) start first counted) past g.0 g.1.1 g.1.2.stops;
  is_number = number_in_second (2 ^ 64 - 1) start counted.opcodes first h.2.opcodes mid g.1.2.number next counted.is_next h.2.is_next g.1.2.is_number;
}

pub if_else_stops : (e : InstrFault) (C : Context) (n : ℕ) (labels : Labels) (t : Option ValType) (one other : ℕ) (part : Else) (s s1 : Stack) (first mid next : ℕ) → take_one I32 s ≡ Some s1
    → Nested C n one (t ∷ labels) t → CountedBlock C one (number_of (first + 1)) mid → StopsElse C n other labels t part mid next e → StopsInstr C n labels (If t one other part) s first next e
if_else_stops e C n labels t one other part s s1 first mid next took nested h g is before after result start so counted =
    in_else C n labels result before after t one other part start first mid next counted h (past_first C n labels before t one s s1 (number_of (first + 1)) mid so took nested h) (g is)

-- the loop of a block
pub reaches_item : (C : Context) (n : ℕ) (labels same_labels : Labels) (items : List Instr) (i : ℕ) (item : Instr) (s s1 : Stack) → i < length items → item ≡ get_or items i item → same_labels ≡ labels
    → Reaches C n labels (take i items) s → MapsStack C n same_labels item s s1 → Reaches C n labels (take (i + 1) items) s1
reaches_item C n labels same_labels items i item s s1 within is same so turned =
    subst (λ (l : List Instr). Reaches C n labels l s1) (sym (taken_more items i item within is))
    (reaches_more C n labels (take i items) item s s1 so (subst (λ (l : Labels). MapsStack C n l item s s1) same turned))

pub item_stops : (e : InstrFault) (C : Context) (labels same_labels : Labels) (b : ℕ) (result : Option ValType) (items : List Instr) (i : ℕ) (item : Instr) (s : Stack) (first mid next : ℕ) → i < length items → item ≡ get_or items i item
    → same_labels ≡ labels → slice_get C.blocks b ≡ Some items → Reaches C b labels (take i items) s → Counted C.blocks (take i items) first mid → StopsInstr C b same_labels item s mid next e → StopsBlock C b labels result first next e
item_stops e C labels same_labels b result items i item s first mid next within is same there so counted h bad = (
  items,
  there,
  subst (λ (l : List Instr). TypingStopsAt C b labels result l first next) (sym (split_item items i item within is))
      (subst (λ (l : Labels). StopsInstr C b l item s mid next e) same h bad (take i items) (drop (i + 1) items) result first so counted),
)

pub end_stops : {X : Type 0} (r : Result X InstrFault) (C : Context) (labels : Labels) (b : ℕ) (result : Option ValType) (items before : List Instr) (s s1 : Stack) (first next : ℕ) → slice_get C.blocks b ≡ Some items → before ≡ items
    → Reaches C b labels before s → Counted C.blocks before first next → LeavesStack r (ended result s) s1 → IfErr r (StopsBlock C b labels result first next)
end_stops (Ok x) C labels b result items before s s1 first next there whole so counted h = tt
end_stops (Err e) C labels b result items before s s1 first next there whole so counted h =
    λ bad. (
      before,
      there ∙ ap Some (sym whole),
      record {
        number = counted.opcodes;
        stops = at_end counted.are_opcodes (has_typing C b labels before s so) λ d. absurd (cc (unless_untyped e bad h, ended_forth result s (so.forth (listed result) d)));
        is_number = counted.is_next;
      },
    )

-- a refusal for an allocation failure stops nowhere
pub given_stops : {X : Type 0} (r : Result X InstrFault) (C : Context) (n : ℕ) (labels : Labels) (i : Instr) (s : Stack) (first next : ℕ) → IfErr r (λ e. e ≡ OutOfMemory) → IfErr r (StopsInstr C n labels i s first next)
given_stops (Ok x) C n labels i s first next h = tt
given_stops (Err e) C n labels i s first next h = λ bad. absurd (cc (bad, h))
