-- The lists that the typing allows after the instructions so far are exactly those that the stack represents.
use Rattle.std.proofs.Common.{◌≡◌, ℕ, List, [], ◌∷◌, ◌++◌, Option, Some, None, refl, sym, subst, ◌∙◌, ◌⊎◌, inl, inr, slice_get, Result, Ok, Err}
use Rattle.wm_ast.specs.declared.types.ValType.{ValType}
use Rattle.wm_ast.specs.declared.types.ValType.TheVariants.{I32}
use Rattle.wm_ast.specs.declared.instr.Else.{Else}
use Rattle.wm_ast.specs.declared.instr.Else.TheVariants.{Present, Absent}
use Rattle.wm_ast.specs.declared.instr.Instr.{Instr}
use Rattle.wm_ast.specs.declared.instr.Instr.TheVariants.{Block, Loop, If}
use Rattle.wm_valid.specs.InstrTypes.{Context, Labels, InstrType, listed, instr_type}
use Rattle.wm_valid.specs.Typing.{Makes, Typed, none, plain, block, loop, if_else, if_then, TypedBlock, Nested, ElsePart}
use Rattle.wm_valid.specs.Stacks.{Stack, Matches, empty, take_one, give_all, made_by, plain_on, ended}
use Rattle.wm_valid.specs.Implements.{MapsStack, Rejects, LeavesStack, Checked, Decides}
use Rattle.wm_valid.proofs.ParamLaws.{unless_then}
use Rattle.wm_valid.specs.declared.fault.InstrFault.{InstrFault}
use Rattle.wm_valid.proofs.StackLaws.{bind_some, some_is, then_some, take_one_forth, take_one_back, give_forth, give_back, made_forth, made_back, ended_forth, ended_back}

-- a block's instruction at the front
abbrev pub Framed : (C : Context) (n : ℕ) (labels : Labels) → Instr → List Instr → List ValType → List ValType → Type 0
Framed C n labels (Block t b) rest ts vs = Nested C n b (t ∷ labels) t × Typed C n labels rest (listed t ++ ts) vs
Framed C n labels (Loop t b) rest ts vs = Nested C n b (None ∷ labels) t × Typed C n labels rest (listed t ++ ts) vs
Framed C n labels (If t one other part) rest ts vs =
    (us : List ValType) × (ts ≡ I32 ∷ us) × Nested C n one (t ∷ labels) t × ElsePart C n other labels t part × Typed C n labels rest (listed t ++ us) vs
Framed C n labels _ rest ts vs = ⊥

-- a plain instruction at the front
pub record Plainly (C : Context) (n : ℕ) (labels : Labels) (i : Instr) (rest : List Instr) (ts vs : List ValType) : Type 0 where
  pub type : InstrType
  pub is_type : instr_type C labels i ≡ Some type
  pub us : List ValType
  pub makes : Makes type ts us
  pub typed : Typed C n labels rest us vs

abbrev pub Apart : (C : Context) (n : ℕ) (labels : Labels) → List Instr → List ValType → List ValType → Type 0
Apart C n labels [] ts vs = ts ≡ vs
Apart C n labels (i ∷ rest) ts vs = Plainly C n labels i rest ts vs ⊎ Framed C n labels i rest ts vs

pub apart : {C : Context} {n : ℕ} {labels : Labels} {is : List Instr} {ts vs : List ValType} → Typed C n labels is ts vs → Apart C n labels is ts vs
apart none = refl
apart (plain {us = us} ty is makes d) = inl (record { type = ty; is_type = is; us = us; makes = makes; typed = d })
apart (block body behind is_there inner d) = inr (record { behind = behind; block = record { body = body; is_there = is_there; typed = inner } }, d)
apart (loop body behind is_there inner d) = inr (record { behind = behind; block = record { body = body; is_there = is_there; typed = inner } }, d)
apart (if_else {ts = ts} first second behind1 there1 inner1 behind2 there2 inner2 d) =
    inr (ts, refl, record { behind = behind1; block = record { body = first; is_there = there1; typed = inner1 } }, record { behind = behind2; block = record { body = second; is_there = there2; typed = inner2 } }, d)
apart (if_then {ts = ts} first behind1 there1 inner1 there2 d) =
    inr (ts, refl, record { behind = behind1; block = record { body = first; is_there = there1; typed = inner1 } }, (refl, there2), d)

framed_none : (C : Context) (n : ℕ) (labels : Labels) (i : Instr) (rest : List Instr) (ts vs : List ValType) → Framed C n labels i rest ts vs → instr_type C labels i ≡ None
framed_none C n labels (Block t b) rest ts vs h = refl
framed_none C n labels (Loop t b) rest ts vs h = refl
framed_none C n labels (If t one other part) rest ts vs h = refl
framed_none C n labels _ rest ts vs h = absurd h

pub plain_turned : (C : Context) (n : ℕ) (labels : Labels) (i : Instr) (s s1 : Stack) → plain_on C labels i s ≡ Some s1 → MapsStack C n labels i s s1
plain_turned C n labels i s s1 e =
    let ty = bind_some (instr_type C labels i) (λ (t : InstrType). made_by t s) s1 e in
    record {
      back = λ us vs rest m d.
          let r = made_back ty.0 s s1 us ty.2 m in
          (r.0, r.1, plain ty.0 ty.1 r.2 d);
      forth = λ ts vs rest m d. elim (apart d) [
        | inl p ↦
            let same-is : p.type ≡ ty.0 = some_is p.type ty.0 (sym p.is_type ∙ ty.1) in
            let r = made_forth ty.0 s ts p.us m (subst (λ (t : InstrType). Makes t ts p.us) same-is p.makes) in
            let s1-is : r.0 ≡ s1 = some_is r.0 s1 (sym r.1 ∙ ty.2) in
            (p.us, subst (λ (q : Stack). Matches q p.us) s1-is r.2, p.typed)
        | inr f ↦ let h = framed_none C n labels i rest ts vs f in absurd (cc (h, ty.1))
      ];
    }

-- no block of its own
abbrev pub IsPlain : Instr → Type 0
IsPlain (Block t b) = ⊥
IsPlain (Loop t b) = ⊥
IsPlain (If t one other part) = ⊥
IsPlain _ = Unit {0}

not_framed : (C : Context) (n : ℕ) (labels : Labels) (i : Instr) (rest : List Instr) (ts vs : List ValType) → IsPlain i → Framed C n labels i rest ts vs → ⊥
not_framed C n labels (Block t b) rest ts vs p h = p
not_framed C n labels (Loop t b) rest ts vs p h = p
not_framed C n labels (If t one other part) rest ts vs p h = p
not_framed C n labels _ rest ts vs p h = h

pub plain_refused : (C : Context) (n : ℕ) (labels : Labels) (i : Instr) (s : Stack) → IsPlain i → plain_on C labels i s ≡ None → Rejects C n labels i s
plain_refused C n labels i s is-plain e ts vs rest m d = elim (apart d) [
  | inl p ↦
      let r = made_forth p.type s ts p.us m p.makes in
      let h : plain_on C labels i s ≡ Some r.0 = then_some (instr_type C labels i) (λ (t : InstrType). made_by t s) p.type r.0 p.is_type r.1 in
      absurd (cc (e, h))
  | inr f ↦ not_framed C n labels i rest ts vs is-plain f
]

pub block_turned : (C : Context) (n b : ℕ) (labels : Labels) (t : Option ValType) (s s1 : Stack) → Nested C n b (t ∷ labels) t → give_all (listed t) s ≡ s1 → MapsStack C n labels (Block t b) s s1
block_turned C n b labels t s s1 nested e = record {
  back = λ us vs rest m d.
      let g = give_back (listed t) s us (subst (λ (q : Stack). Matches q us) (sym e) m) in
      (g.0, g.2, block nested.block.body nested.behind nested.block.is_there nested.block.typed (subst (λ (l : List ValType). Typed C n labels rest l vs) g.1 d));
  forth = λ ts vs rest m d. elim (apart d) [
    | inl p ↦ absurd (cc p.is_type)
    | inr f ↦ (listed t ++ ts, subst (λ (q : Stack). Matches q (listed t ++ ts)) e (give_forth (listed t) s ts m), f.1)
  ];
}

pub block_refused : (C : Context) (n b : ℕ) (labels : Labels) (t : Option ValType) (s : Stack) → (Nested C n b (t ∷ labels) t → ⊥) → Rejects C n labels (Block t b) s
block_refused C n b labels t s not ts vs rest m d = elim (apart d) [ inl p ↦ absurd (cc p.is_type) | inr f ↦ not f.0 ]

pub loop_turned : (C : Context) (n b : ℕ) (labels : Labels) (t : Option ValType) (s s1 : Stack) → Nested C n b (None ∷ labels) t → give_all (listed t) s ≡ s1 → MapsStack C n labels (Loop t b) s s1
loop_turned C n b labels t s s1 nested e = record {
  back = λ us vs rest m d.
      let g = give_back (listed t) s us (subst (λ (q : Stack). Matches q us) (sym e) m) in
      (g.0, g.2, loop nested.block.body nested.behind nested.block.is_there nested.block.typed (subst (λ (l : List ValType). Typed C n labels rest l vs) g.1 d));
  forth = λ ts vs rest m d. elim (apart d) [
    | inl p ↦ absurd (cc p.is_type)
    | inr f ↦ (listed t ++ ts, subst (λ (q : Stack). Matches q (listed t ++ ts)) e (give_forth (listed t) s ts m), f.1)
  ];
}

pub loop_refused : (C : Context) (n b : ℕ) (labels : Labels) (t : Option ValType) (s : Stack) → (Nested C n b (None ∷ labels) t → ⊥) → Rejects C n labels (Loop t b) s
loop_refused C n b labels t s not ts vs rest m d = elim (apart d) [ inl p ↦ absurd (cc p.is_type) | inr f ↦ not f.0 ]

-- an `if` at the front of what follows it
pub if_typed : (C : Context) (n one other : ℕ) (part : Else) (labels : Labels) (t : Option ValType) (rest : List Instr) (ts vs : List ValType) → Nested C n one (t ∷ labels) t → ElsePart C n other labels t part
    → Typed C n labels rest (listed t ++ ts) vs → Typed C n labels (If t one other part ∷ rest) (I32 ∷ ts) vs
if_typed C n one other Present labels t rest ts vs first second d =
    if_else first.block.body second.block.body first.behind first.block.is_there first.block.typed second.behind second.block.is_there second.block.typed d
if_typed C n one other Absent labels None rest ts vs first second d = if_then first.block.body first.behind first.block.is_there first.block.typed second.1 d
if_typed C n one other Absent labels (Some t) rest ts vs first second d = absurd (cc second.0)

pub if_turned : (C : Context) (n one other : ℕ) (part : Else) (labels : Labels) (t : Option ValType) (s s1 s2 : Stack) → take_one I32 s ≡ Some s1 → Nested C n one (t ∷ labels) t → ElsePart C n other labels t part → give_all (listed t) s1 ≡ s2 → MapsStack C n labels (If t one other part) s s2
if_turned C n one other part labels t s s1 s2 took first second e = record {
  back = λ us vs rest m d.
      let g = give_back (listed t) s1 us (subst (λ (q : Stack). Matches q us) (sym e) m) in (
        I32 ∷ g.0,
        take_one_back s s1 I32 g.0 took g.2,
        if_typed C n one other part labels t rest g.0 vs first second (subst (λ (l : List ValType). Typed C n labels rest l vs) g.1 d),
      );
  forth = λ ts vs rest m d. elim (apart d) [
    | inl p ↦ absurd (cc p.is_type)
    | inr f ↦
        let r = take_one_forth s I32 f.0 (subst (λ (l : List ValType). Matches s l) f.1 m) in
        let s1-is : r.0 ≡ s1 = some_is r.0 s1 (sym r.1 ∙ took) in
        (listed t ++ f.0, subst (λ (q : Stack). Matches q (listed t ++ f.0)) e (give_forth (listed t) s1 f.0 (subst (λ (q : Stack). Matches q f.0) s1-is r.2)), f.4)
  ];
}

pub if_no_test : (C : Context) (n one other : ℕ) (part : Else) (labels : Labels) (t : Option ValType) (s : Stack) → take_one I32 s ≡ None → Rejects C n labels (If t one other part) s
if_no_test C n one other part labels t s e ts vs rest m d = elim (apart d) [
  | inl p ↦ absurd (cc p.is_type)
  | inr f ↦ let r = take_one_forth s I32 f.0 (subst (λ (l : List ValType). Matches s l) f.1 m) in absurd (cc (e, r.1))
]

pub if_first_refused : (C : Context) (n one other : ℕ) (part : Else) (labels : Labels) (t : Option ValType) (s : Stack) → (Nested C n one (t ∷ labels) t → ⊥) → Rejects C n labels (If t one other part) s
if_first_refused C n one other part labels t s not ts vs rest m d = elim (apart d) [ inl p ↦ absurd (cc p.is_type) | inr f ↦ not f.2 ]

pub if_other_refused : (C : Context) (n one other : ℕ) (part : Else) (labels : Labels) (t : Option ValType) (s : Stack) → (ElsePart C n other labels t part → ⊥) → Rejects C n labels (If t one other part) s
if_other_refused C n one other part labels t s not ts vs rest m d = elim (apart d) [ inl p ↦ absurd (cc p.is_type) | inr f ↦ not f.3 ]

-- how far a block was read: the rest is typed from a list that the stack represents exactly if the whole is typed from
-- no operands
pub record SoFar (C : Context) (n : ℕ) (labels : Labels) (whole rest : List Instr) (s : Stack) : Type 0 where
  pub back : (us vs : List ValType) → Matches s us → Typed C n labels rest us vs → Typed C n labels whole [] vs
  pub forth : (vs : List ValType) → Typed C n labels whole [] vs → (us : List ValType) × Matches s us × Typed C n labels rest us vs

begins : (C : Context) (n : ℕ) (labels : Labels) (whole : List Instr) (us vs : List ValType) → Matches empty us → Typed C n labels whole us vs → Typed C n labels whole [] vs
begins C n labels whole [] vs m d = d
begins C n labels whole (u ∷ us) vs m d = absurd m

pub starts : (C : Context) (n : ℕ) (labels : Labels) (whole : List Instr) → SoFar C n labels whole whole empty
starts C n labels whole = record { back = begins C n labels whole; forth = λ vs d. ([], tt, d) }

pub goes_on : (C : Context) (n : ℕ) (labels : Labels) (whole rest : List Instr) (i : Instr) (s s1 : Stack) → SoFar C n labels whole (i ∷ rest) s → MapsStack C n labels i s s1 → SoFar C n labels whole rest s1
goes_on C n labels whole rest i s s1 so turned = record {
  back = λ us vs m d. let r = turned.back us vs rest m d in so.back r.0 vs r.1 r.2;
  forth = λ vs d. let r = so.forth vs d in turned.forth r.0 vs rest r.1 r.2;
}

-- the refused instruction leaves the block without a type
pub refuses : (C : Context) (b : ℕ) (labels : Labels) (whole rest : List Instr) (i : Instr) (s : Stack) (result : Option ValType) → slice_get C.blocks b ≡ Some whole → SoFar C b labels whole (i ∷ rest) s → Rejects C b labels i s → TypedBlock C b labels result → ⊥
refuses C b labels whole rest i s result there so refused t =
    let same-is : t.body ≡ whole = some_is t.body whole (sym t.is_there ∙ there) in
    let r = so.forth (listed result) (subst (λ (w : List Instr). Typed C b labels w [] (listed result)) same-is t.typed) in
    refused r.0 (listed result) rest r.1 r.2

pub ends_well : (C : Context) (b : ℕ) (labels : Labels) (whole : List Instr) (s s1 : Stack) (result : Option ValType) → slice_get C.blocks b ≡ Some whole → SoFar C b labels whole [] s → ended result s ≡ Some s1 → TypedBlock C b labels result
ends_well C b labels whole s s1 result there so e = record { body = whole; is_there = there; typed = so.back (listed result) (listed result) (ended_back result s s1 e) none }

pub ends_badly : (C : Context) (b : ℕ) (labels : Labels) (whole : List Instr) (s : Stack) (result : Option ValType) → slice_get C.blocks b ≡ Some whole → SoFar C b labels whole [] s → ended result s ≡ None → TypedBlock C b labels result → ⊥
ends_badly C b labels whole s result there so e t =
    let same-is : t.body ≡ whole = some_is t.body whole (sym t.is_there ∙ there) in
    let r = so.forth (listed result) (subst (λ (w : List Instr). Typed C b labels w [] (listed result)) same-is t.typed) in
    let same-list : r.0 ≡ listed result = apart r.2 in
    let h = ended_forth result s (subst (λ (l : List ValType). Matches s l) same-list r.1) in
    absurd (cc (e, h))

pub given_checked : {X : Type 0} (r : Result X InstrFault) (C : Context) (n : ℕ) (labels : Labels) (i : Instr) (old after new : Stack) → (after ≡ new → MapsStack C n labels i old new) → LeavesStack r (Some after) new → Checked r C n labels i old new
given_checked (Ok x) C n labels i old after new f h = f (some_is after new h)
given_checked (Err e) C n labels i old after new f h = unless_then e (λ g. absurd cc) h

pub plain_checked : {X : Type 0} (r : Result X InstrFault) (C : Context) (n : ℕ) (labels : Labels) (i : Instr) (old new : Stack) → IsPlain i → LeavesStack r (plain_on C labels i old) new → Checked r C n labels i old new
plain_checked (Ok x) C n labels i old new is-plain h = plain_turned C n labels i old new h
plain_checked (Err e) C n labels i old new is-plain h = unless_then e (plain_refused C n labels i old is-plain) h

pub end_decides : {X : Type 0} (r : Result X InstrFault) (C : Context) (b : ℕ) (labels : Labels) (whole rest : List Instr) (s : Stack) (result : Option ValType) → slice_get C.blocks b ≡ Some whole → SoFar C b labels whole rest s → rest ≡ [] → LeavesStack r (ended result s) empty → Decides r (TypedBlock C b labels result)
end_decides (Ok x) C b labels whole rest s result there so done h = ends_well C b labels whole s empty result there (subst (λ (l : List Instr). SoFar C b labels whole l s) done so) h
end_decides (Err e) C b labels whole rest s result there so done h = unless_then e (ends_badly C b labels whole s result there (subst (λ (l : List Instr). SoFar C b labels whole l s) done so)) h

pub is_plain : (i : Instr) → ((t : Option ValType) (b : ℕ) → i ≡ Block t b → ⊥) → ((t : Option ValType) (b : ℕ) → i ≡ Loop t b → ⊥) → ((t : Option ValType) (one other : ℕ) (part : Else) → i ≡ If t one other part → ⊥) → IsPlain i
is_plain (Block t b) p q r = p t b refl
is_plain (Loop t b) p q r = q t b refl
is_plain (If t one other part) p q r = r t one other part refl
is_plain _ p q r = tt
