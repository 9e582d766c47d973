-- The lists that a stack represents after an instruction are exactly those that the instruction makes from those
-- before.
use Rattle.std.proofs.Common.{◌≡◌, Bool, true, false, List, [], ◌∷◌, ◌++◌, Option, Some, None, refl, sym, ap, subst, ◌∙◌}
use Rattle.wm_ast.specs.declared.types.ValType.{ValType}
use Rattle.wm_ast.specs.declared.types.ValType.TheVariants.{I32, I64}
use Rattle.wm_valid.specs.InstrTypes.{◌>>=◌, InstrType, maps, drops, selects, stack_polymorphic, listed}
use Rattle.wm_valid.specs.Typing.{Makes}
use Rattle.wm_valid.specs.Stacks.{Stack, IsOf, MatchesAll, Matches, Popped, empty, opened, push, pop_from, pop, joined, take_one, take_all, give_all, select_on, made_by, bare, ended}

-- the value of a step that answered
pub bind_some : {A B : Type 0} (r : Option A) (f : A → Option B) (y : B) → (r >>= f) ≡ Some y → (x : A) × (r ≡ Some x) × (f x ≡ Some y)
bind_some (Some x) f y e = (x, refl, e)
bind_some None f y e = absurd cc

pub some_is : {A : Type 0} (x y : A) → Some x ≡ Some y → x ≡ y
some_is x y e = cc

-- a step that answered, and the one after it
pub then_some : {A B : Type 0} (r : Option A) (f : A → Option B) (x : A) (y : B) → r ≡ Some x → f x ≡ Some y → (r >>= f) ≡ Some y
then_some (Some z) f x y e h = let same-is : z ≡ x = cc in ap f same-is ∙ h
then_some None f x y e h = absurd cc

-- some list for every stack
pub some_list : (os : List (Option ValType)) (below : Bool) → (ts : List ValType) × MatchesAll os below ts
some_list [] true = ([], tt)
some_list [] false = ([], tt)
some_list (None ∷ os) below = let r = some_list os below in (I32 ∷ r.0, (tt, r.1))
some_list (Some t ∷ os) below = let r = some_list os below in (t ∷ r.0, (refl, r.1))

-- some type for every operand
pub some_type : (o : Option ValType) → (t : ValType) × IsOf o t
some_type None = (I32, tt)
some_type (Some t) = (t, refl)

pub pop_forth : (os : List (Option ValType)) (below : Bool) (t : ValType) (ts : List ValType) → MatchesAll os below (t ∷ ts) → (p : Popped) × (pop_from os below ≡ Some p) × IsOf p.operand t × Matches p.under ts
pop_forth [] true t ts m = (record { operand = None; under = opened }, refl, tt, tt)
pop_forth [] false t ts m = absurd m
pop_forth (o ∷ os) below t ts m = (record { operand = o; under = record { known = os; open_below = below } }, refl, m.0, m.1)

pub pop_back : (os : List (Option ValType)) (below : Bool) (p : Popped) (t : ValType) (ts : List ValType) → pop_from os below ≡ Some p → IsOf p.operand t → Matches p.under ts → MatchesAll os below (t ∷ ts)
pop_back [] true p t ts e is m = tt
pop_back [] false p t ts e is m = absurd cc
pop_back (o ∷ os) below p t ts e is m =
    let made : Popped = record { operand = o; under = record { known = os; open_below = below } } in
    let same-is : p ≡ made = sym (some_is made p e) in
    (subst (λ (q : Popped). IsOf q.operand t) same-is is, subst (λ (q : Popped). Matches q.under ts) same-is m)

pub joined_forth : (a b : Option ValType) (t : ValType) → IsOf a t → IsOf b t → (o : Option ValType) × (joined a b ≡ Some o) × IsOf o t
joined_forth None b t x y = (b, refl, y)
joined_forth (Some u) None t x y = (Some u, refl, x)
joined_forth (Some I32) (Some I32) t x y = (Some I32, refl, x)
joined_forth (Some I32) (Some I64) t x y = absurd cc
joined_forth (Some I64) (Some I32) t x y = absurd cc
joined_forth (Some I64) (Some I64) t x y = (Some I64, refl, x)

pub joined_back : (a b o : Option ValType) (t : ValType) → joined a b ≡ Some o → IsOf o t → IsOf a t × IsOf b t
joined_back None b o t e x = (tt, subst (λ (q : Option ValType). IsOf q t) (sym (some_is b o e)) x)
joined_back (Some u) None o t e x = (subst (λ (q : Option ValType). IsOf q t) (sym (some_is (Some u) o e)) x, tt)
joined_back (Some I32) (Some I32) o t e x = let h : IsOf (Some I32) t = subst (λ (q : Option ValType). IsOf q t) (sym (some_is (Some I32) o e)) x in (h, h)
joined_back (Some I32) (Some I64) o t e x = absurd cc
joined_back (Some I64) (Some I32) o t e x = absurd cc
joined_back (Some I64) (Some I64) o t e x = let h : IsOf (Some I64) t = subst (λ (q : Option ValType). IsOf q t) (sym (some_is (Some I64) o e)) x in (h, h)

pub take_one_forth : (s : Stack) (t : ValType) (ts : List ValType) → Matches s (t ∷ ts) → (s1 : Stack) × (take_one t s ≡ Some s1) × Matches s1 ts
take_one_forth s t ts m =
    let p = pop_forth s.known s.open_below t ts m in
    let j = joined_forth (Some t) p.0.operand t refl p.2 in
    (p.0.under, then_some (pop s) (λ (q : Popped). joined (Some t) q.operand >>= λ o. Some q.under) p.0 p.0.under p.1 (then_some (joined (Some t) p.0.operand) (λ o. Some p.0.under) j.0 p.0.under j.1 refl), p.3)

pub take_one_back : (s s1 : Stack) (t : ValType) (ts : List ValType) → take_one t s ≡ Some s1 → Matches s1 ts → Matches s (t ∷ ts)
take_one_back s s1 t ts e m =
    let p = bind_some (pop s) (λ (q : Popped). joined (Some t) q.operand >>= λ o. Some q.under) s1 e in
    let j = bind_some (joined (Some t) p.0.operand) (λ o. Some p.0.under) s1 p.2 in
    let under-is : p.0.under ≡ s1 = some_is p.0.under s1 j.2 in
    let o = some_type j.0 in
    let both = joined_back (Some t) p.0.operand j.0 o.0 j.1 o.1 in
    pop_back s.known s.open_below p.0 t ts p.1 (subst (λ (u : ValType). IsOf p.0.operand u) (sym both.0) both.1) (subst (λ (q : Stack). Matches q ts) (sym under-is) m)

pub take_forth : (takes : List ValType) (s : Stack) (ts : List ValType) → Matches s (takes ++ ts) → (s1 : Stack) × (take_all takes s ≡ Some s1) × Matches s1 ts
take_forth [] s ts m = (s, refl, m)
take_forth (t ∷ takes) s ts m =
    let one = take_one_forth s t (takes ++ ts) m in
    let more = take_forth takes one.0 ts one.2 in
    (more.0, then_some (take_one t s) (take_all takes) one.0 more.0 one.1 more.1, more.2)

pub take_back : (takes : List ValType) (s s1 : Stack) (ts : List ValType) → take_all takes s ≡ Some s1 → Matches s1 ts → Matches s (takes ++ ts)
take_back [] s s1 ts e m = subst (λ (q : Stack). Matches q ts) (sym (some_is s s1 e)) m
take_back (t ∷ takes) s s1 ts e m =
    let one = bind_some (take_one t s) (take_all takes) s1 e in
    take_one_back s one.0 t (takes ++ ts) one.1 (take_back takes one.0 s1 ts one.2 m)

pub give_forth : (gives : List ValType) (s : Stack) (ts : List ValType) → Matches s ts → Matches (give_all gives s) (gives ++ ts)
give_forth [] s ts m = m
give_forth (t ∷ gives) s ts m = (refl, give_forth gives s ts m)

pub give_back : (gives : List ValType) (s : Stack) (us : List ValType) → Matches (give_all gives s) us → (ts : List ValType) × (us ≡ gives ++ ts) × Matches s ts
give_back [] s us m = (us, refl, m)
give_back (t ∷ gives) s [] m = absurd m
give_back (t ∷ gives) s (u ∷ us) m =
    let more = give_back gives s us m.1 in
    (more.0, cc, more.2)

select_forth : (s : Stack) (t : ValType) (ts : List ValType) → Matches s (I32 ∷ t ∷ t ∷ ts) → (s1 : Stack) × (select_on s ≡ Some s1) × Matches s1 (t ∷ ts)
select_forth s t ts m =
    let c = take_one_forth s I32 (t ∷ t ∷ ts) m in
    let a = pop_forth c.0.known c.0.open_below t (t ∷ ts) c.2 in
    let b = pop_forth a.0.under.known a.0.under.open_below t ts a.3 in
    let j = joined_forth a.0.operand b.0.operand t a.2 b.2 in
    let s1 : Stack = push j.0 b.0.under in (
      s1,
      then_some (take_one I32 s) (λ (s2 : Stack). pop s2 >>= λ a2. pop a2.under >>= λ b2. joined a2.operand b2.operand >>= λ o. Some (push o b2.under)) c.0 s1 c.1
          (then_some (pop c.0) (λ (a2 : Popped). pop a2.under >>= λ b2. joined a2.operand b2.operand >>= λ o. Some (push o b2.under)) a.0 s1 a.1
          (then_some (pop a.0.under) (λ (b2 : Popped). joined a.0.operand b2.operand >>= λ o. Some (push o b2.under)) b.0 s1 b.1
          (then_some (joined a.0.operand b.0.operand) (λ (o : Option ValType). Some (push o b.0.under)) j.0 s1 j.1 refl))),
      (j.2, b.3),
    )

select_back : (s s1 : Stack) (us : List ValType) → select_on s ≡ Some s1 → Matches s1 us → (t : ValType) × (ts : List ValType) × Matches s (I32 ∷ t ∷ t ∷ ts) × (us ≡ t ∷ ts)
select_back s s1 us e m =
    let c = bind_some (take_one I32 s) (λ (s2 : Stack). pop s2 >>= λ a2. pop a2.under >>= λ b2. joined a2.operand b2.operand >>= λ o. Some (push o b2.under)) s1 e in
    let a = bind_some (pop c.0) (λ (a2 : Popped). pop a2.under >>= λ b2. joined a2.operand b2.operand >>= λ o. Some (push o b2.under)) s1 c.2 in
    let b = bind_some (pop a.0.under) (λ (b2 : Popped). joined a.0.operand b2.operand >>= λ o. Some (push o b2.under)) s1 a.2 in
    let j = bind_some (joined a.0.operand b.0.operand) (λ (o : Option ValType). Some (push o b.0.under)) s1 b.2 in
    selected c.0 a.0 b.0 j.0 us a.1 b.1 j.1 (take_one_back s c.0 I32) c.1 (subst (λ (q : Stack). Matches q us) (sym (some_is (push j.0 b.0.under) s1 j.2)) m)
  where
    selected : (s2 : Stack) (a b : Popped) (o : Option ValType) (us : List ValType) → pop s2 ≡ Some a → pop a.under ≡ Some b → joined a.operand b.operand ≡ Some o
        → ((ts : List ValType) → take_one I32 s ≡ Some s2 → Matches s2 ts → Matches s (I32 ∷ ts)) → take_one I32 s ≡ Some s2
        → Matches (push o b.under) us → (t : ValType) × (ts : List ValType) × Matches s (I32 ∷ t ∷ t ∷ ts) × (us ≡ t ∷ ts)
    selected s2 a b o [] ea eb j back ec m = absurd m
    selected s2 a b o (t ∷ ts) ea eb j back ec m =
        let both = joined_back a.operand b.operand o t j m.0 in
        let two = pop_back a.under.known a.under.open_below b t ts eb both.1 m.1 in
        let three = pop_back s2.known s2.open_below a t (t ∷ ts) ea both.0 two in
        (t, ts, back (t ∷ t ∷ ts) ec three, refl)

-- what the typing allows after the instruction, the stack after it represents
pub made_forth : (ty : InstrType) (s : Stack) (ts us : List ValType) → Matches s ts → Makes ty ts us → (s1 : Stack) × (made_by ty s ≡ Some s1) × Matches s1 us
made_forth (maps takes gives) s ts us m h =
    let one = take_forth takes s h.0 (subst (λ (l : List ValType). Matches s l) h.1 m) in (
      give_all gives one.0,
      then_some (take_all takes s) (λ (s1 : Stack). Some (give_all gives s1)) one.0 (give_all gives one.0) one.1 refl,
      subst (λ (l : List ValType). Matches (give_all gives one.0) l) (sym h.2) (give_forth gives one.0 h.0 one.2),
    )
made_forth drops s ts us m h =
    let p = pop_forth s.known s.open_below h.0 us (subst (λ (l : List ValType). Matches s l) h.1 m) in
    (p.0.under, then_some (pop s) (λ (q : Popped). Some q.under) p.0 p.0.under p.1 refl, p.3)
made_forth selects s ts us m h =
    let one = select_forth s h.0 h.1 (subst (λ (l : List ValType). Matches s l) h.2 m) in
    (one.0, one.1, subst (λ (l : List ValType). Matches one.0 l) (sym h.3) one.2)
made_forth (stack_polymorphic takes) s ts us m h =
    let one = take_forth takes s h.0 (subst (λ (l : List ValType). Matches s l) h.1 m) in
    (opened, then_some (take_all takes s) (λ (s1 : Stack). Some opened) one.0 opened one.1 refl, tt)

-- what the stack after the instruction represents, the typing allows after it
pub made_back : (ty : InstrType) (s s1 : Stack) (us : List ValType) → made_by ty s ≡ Some s1 → Matches s1 us → (ts : List ValType) × Matches s ts × Makes ty ts us
made_back (maps takes gives) s s1 us e m =
    let one = bind_some (take_all takes s) (λ (s2 : Stack). Some (give_all gives s2)) s1 e in
    let given = give_back gives one.0 us (subst (λ (q : Stack). Matches q us) (sym (some_is (give_all gives one.0) s1 one.2)) m) in
    (takes ++ given.0, take_back takes s one.0 given.0 one.1 given.2, (given.0, refl, given.1))
made_back drops s s1 us e m =
    let p = bind_some (pop s) (λ (q : Popped). Some q.under) s1 e in
    let t = some_type p.0.operand in
    (t.0 ∷ us, pop_back s.known s.open_below p.0 t.0 us p.1 t.1 (subst (λ (q : Stack). Matches q us) (sym (some_is p.0.under s1 p.2)) m), (t.0, refl))
made_back selects s s1 us e m =
    let r = select_back s s1 us e m in
    (I32 ∷ r.0 ∷ r.0 ∷ r.1, r.2, (r.0, r.1, refl, r.3))
made_back (stack_polymorphic takes) s s1 us e m =
    let one = bind_some (take_all takes s) (λ (s2 : Stack). Some opened) s1 e in
    let r = some_list one.0.known one.0.open_below in
    (takes ++ r.0, take_back takes s one.0 r.0 one.1 r.1, (r.0, refl))

bare_forth : (os : List (Option ValType)) (below : Bool) → MatchesAll os below [] → bare os ≡ Some empty
bare_forth [] below m = refl
bare_forth (o ∷ os) below m = absurd m

bare_back : (os : List (Option ValType)) (below : Bool) (s : Stack) → bare os ≡ Some s → MatchesAll os below []
bare_back [] true s e = tt
bare_back [] false s e = tt
bare_back (o ∷ os) below s e = absurd cc

append_none : (ts : List ValType) → ts ++ [] ≡ ts
append_none [] = refl
append_none (t ∷ ts) = ap (λ (l : List ValType). t ∷ l) (append_none ts)

-- a block ends well exactly where its result is one of the lists
pub ended_forth : (result : Option ValType) (s : Stack) → Matches s (listed result) → ended result s ≡ Some empty
ended_forth result s m =
    let one = take_forth (listed result) s [] (subst (λ (l : List ValType). Matches s l) (sym (append_none (listed result))) m) in
    then_some (take_all (listed result) s) (λ (s1 : Stack). bare s1.known) one.0 empty one.1 (bare_forth one.0.known one.0.open_below one.2)

pub ended_back : (result : Option ValType) (s s1 : Stack) → ended result s ≡ Some s1 → Matches s (listed result)
ended_back result s s1 e =
    let one = bind_some (take_all (listed result) s) (λ (s2 : Stack). bare s2.known) s1 e in
    subst (λ (l : List ValType). Matches s l) (append_none (listed result)) (take_back (listed result) s one.0 [] one.1 (bare_back one.0.known one.0.open_below s1 one.2))
