-- Reading within two bounds that differ in limits other than w: what is read within the second is read within the first too, or another limit than w is named.
use Rattle.std.proofs.Common.{◌≡◌, ℕ, zero, suc, ◌-◌, ◌+◌, Bool, true, false, cond, ltb, eqb, List, [], ◌∷◌, ◌++◌, length, Option, None, Result, Ok, Err, refl, sym, ap, subst, ◌⊎◌, inl, inr}
use Rattle.std.specs.Prelude.{◌≢◌, is_some}
use Rattle.wm_ast.specs.declared.types.FuncType.{FuncType}
use Rattle.wm_ast.specs.declared.types.ValType.{ValType}
use Rattle.wm_ast.specs.declared.instr.Instr.{Instr}
use Rattle.wm_ast.specs.declared.instr.Instr.TheVariants as instr
use Rattle.wm_ast.specs.declared.module.Func.{Func}
use Rattle.wm_decode.specs.declared.fault.Limit.{Limit}
use Rattle.wm_decode.specs.declared.fault.Limit.TheVariants as limit
use Rattle.wm_decode.specs.Bounds.{Bounds}
use Rattle.wm_decode.specs.Faults.{limits_fault, import_kind_fault}
use Rattle.wm_decode.specs.Stop.{Stop, ended, past, before, map_stop}
use Rattle.wm_decode.specs.Module.{params_of}
use Rattle.wm_decode.specs.Reading.{◌>>=◌}
use Rattle.wm_decode.specs.ReadingVectors.{u32_at, vector_at, name_at, filled_at, sized_at, more_at}
use Rattle.wm_decode.specs.ReadingInstructions.{Reader, block_type_at, closed_with, opened_at, framed_with, if_with, instr_with, instrs_at, instrs_in, blocks_at}
use Rattle.wm_decode.specs.ReadingParts.{byte_at, func_type_at, no_items_at, limits_at, import_at, imports_at, memories_at, indices_at, local_entry_at, locals_at, function_at, sized_function_at, more_functions_at, code_at}
use Rattle.wm_decode.specs.ReadingModule.{header_at, customs_in, section_at, front_at, definitions_at, declared_at, bodies_at, module_at}
use Rattle.wm_decode.proofs.Steps.{bound, unmapped}

module _ (w : Limit) where
  -- another limit than w was passed
  abbrev pub Other : {A : Type 0} → Result A Stop → Type 0
  Other r = (v : Limit) × (left : ℕ) × (r ≡ Err (past v left)) × (v ≢ w)

  -- what wide gives, r gives too, or it stops at another limit than w
  abbrev pub Kept : {A : Type 0} → Result A Stop → Result A Stop → Type 0
  Kept {A} r wide = (x : A) → wide ≡ Ok x → (r ≡ Ok x) ⊎ Other r

  -- two bounds are the same, or those of another limit than w
  abbrev pub Agree : Limit → ℕ → ℕ → Type 0
  Agree v b c = (b ≡ c) ⊎ (v ≢ w)

  agree_map : {A : Type 0} (f : ℕ → A) (v : Limit) (b c : ℕ) → Agree v b c → (f b ≡ f c) ⊎ (v ≢ w)
  agree_map f v b c (inl e) = inl (ap f e)
  agree_map f v b c (inr e) = inr e

  same : {A : Type 0} (r : Result A Stop) → Kept r r
  same r x e = inl e

  -- a step, by the result of the step before it
  led : {A B : Type 0} (r : Result A Stop) (f : A → Result B Stop) (x : A) (y : B) → (r ≡ Ok x) ⊎ Other r → ((f x ≡ Ok y) ⊎ Other (f x)) → ((r >>= f) ≡ Ok y) ⊎ Other (r >>= f)
  led r f x y (inl e) d = subst (λ (q : Result _ Stop). ((q >>= f) ≡ Ok y) ⊎ Other (q >>= f)) (sym e) d
  led r f x y (inr o) d = inr (o.0, o.1, ap (λ (q : Result _ Stop). q >>= f) o.2, o.3)

  bind : {A B : Type 0} (r wide : Result A Stop) (f g : A → Result B Stop) → Kept r wide → ((x : A) → Kept (f x) (g x)) → Kept (r >>= f) (wide >>= g)
  bind r wide f g h k y e = let a = bound wide g y e in led r f a.0 y (h a.0 a.1) (k a.0 y a.2)

  -- the same first step
  next : {A B : Type 0} (r : Result A Stop) (f g : A → Result B Stop) → ((x : A) → Kept (f x) (g x)) → Kept (r >>= f) (r >>= g)
  next r f g k = bind r r f g (same r) k

  -- the same last step
  lead : {A B : Type 0} (r wide : Result A Stop) (f : A → Result B Stop) → Kept r wide → Kept (r >>= f) (wide >>= f)
  lead r wide f h = bind r wide f f h (λ x. same (f x))

  -- in a section or body
  within : {A : Type 0} (after : ℕ) (r wide : Result A Stop) → Kept r wide → Kept (map_stop (before after) r) (map_stop (before after) wide)
  within {A} after r wide h x e = elim (h x (unmapped (before after) wide x e)) as (λ _. (map_stop (before after) r ≡ Ok x) ⊎ Other (map_stop (before after) r)) [
    | inl k ↦ inl (ap (map_stop (before after)) k)
    | inr o ↦ inr (o.0, (before after (past o.0 o.1)).left, ap (map_stop (before after)) o.2, o.3)
  ]

  test : {A : Type 0} (b : Bool) {x y x2 y2 : Result A Stop} → Kept x x2 → Kept y y2 → Kept (cond b x y) (cond b x2 y2)
  test true h k = h
  test false h k = k

  -- a test against a bound
  passes : {A : Type 0} (v : Limit) (left : ℕ) (p q : Bool) {y z : Result A Stop} → v ≢ w → Kept y z → Kept (cond p (Err (past v left)) y) (cond q (Err (past v left)) z)
  passes v left true q ne k x e = inr (v, left, refl, ne)
  passes v left false true ne k x e = absurd cc
  passes v left false false ne k x e = k x e

  limited : {A : Type 0} (v : Limit) (left : ℕ) (p q : Bool) {y z : Result A Stop} → (p ≡ q) ⊎ (v ≢ w) → Kept y z → Kept (cond p (Err (past v left)) y) (cond q (Err (past v left)) z)
  limited v left p q {y} {z} (inl e) k = subst (λ (b : Bool). Kept (cond p (Err (past v left)) y) (cond b (Err (past v left)) z)) e (test p (same (Err (past v left))) k)
  limited v left p q (inr ne) k = passes v left p q ne k

  module _ {X : Type 0} {f g : List ℕ → Result (X × List ℕ) Stop} (h : (bytes : List ℕ) → Kept (f bytes) (g bytes)) where
    filled_kept : (content : List ℕ × List ℕ) → Kept (filled_at f content) (filled_at g content)
    unfolding filled_at
    filled_kept content = lead _ _ _ (within (length content.1) (f content.0) (g content.0) (h content.0))

    sized_kept : (bytes : List ℕ) → Kept (sized_at f bytes) (sized_at g bytes)
    unfolding sized_at
    sized_kept bytes = next _ _ _ filled_kept

    section_kept : (id : ℕ) (bytes : List ℕ) → Kept (section_at f id bytes) (section_at g id bytes)
    unfolding section_at
    section_kept id [] = same (Ok (None, []))
    section_kept id (b ∷ bytes) = test (eqb b id) (lead _ _ _ (sized_kept bytes)) (same (Ok (None, b ∷ bytes)))

  more_kept : {S : Type 0} {f g : S → List ℕ → Result (S × List ℕ) Stop} → ((s : S) (bytes : List ℕ) → Kept (f s bytes) (g s bytes)) → (n : ℕ) (s : S) (bytes : List ℕ) → Kept (more_at f n s bytes) (more_at g n s bytes)
  unfolding more_at
  more_kept h zero s bytes = same (Ok (s, bytes))
  more_kept h (suc n) s bytes = bind _ _ _ _ (h s bytes) (λ x. more_kept h n x.0 x.1)

  -- blocks that may nest more or less deeply
  abbrev Reads : Reader → Reader → Type 0
  Reads read wide = (depth_left room2 : ℕ) → Agree limit.Nesting depth_left room2 → (at : ℕ) (bytes : List ℕ) → Kept (read depth_left at bytes) (wide room2 at bytes)

  less : (v : Limit) (b c n : ℕ) → Agree v b c → Agree v (b - n) (c - n)
  less v b c n agree = agree_map (λ k. k - n) v b c agree

  opened_kept : (depth_left room2 : ℕ) → Agree limit.Nesting depth_left room2 → (bytes : List ℕ) → Kept (opened_at depth_left bytes) (opened_at room2 bytes)
  unfolding opened_at
  opened_kept depth_left room2 agree bytes = limited limit.Nesting (length bytes + 1) (eqb depth_left 0) (eqb room2 0) (agree_map (λ k. eqb k 0) limit.Nesting depth_left room2 agree) (same (block_type_at bytes))

  module _ {read wide : Reader} (h : Reads read wide) where
    closed_kept : Reads (closed_with read) (closed_with wide)
    unfolding closed_with
    closed_kept depth_left room2 agree at bytes = lead _ _ _ (h depth_left room2 agree at bytes)

    framed_kept : (depth_left room2 : ℕ) → Agree limit.Nesting depth_left room2 → (at : ℕ) (make : Option ValType → ℕ → Instr) (bytes : List ℕ) → Kept (framed_with read depth_left at make bytes) (framed_with wide room2 at make bytes)
    unfolding framed_with
    framed_kept depth_left room2 agree at make bytes = bind _ _ _ _ (opened_kept depth_left room2 agree bytes) (λ ty. lead _ _ _ (closed_kept (depth_left - 1) (room2 - 1) (less limit.Nesting depth_left room2 1 agree) (at + 1) ty.1))

    if_kept : (depth_left room2 : ℕ) → Agree limit.Nesting depth_left room2 → (at : ℕ) (bytes : List ℕ) → Kept (if_with read depth_left at bytes) (if_with wide room2 at bytes)
    unfolding if_with
    if_kept depth_left room2 agree at bytes =
        let fewer = less limit.Nesting depth_left room2 1 agree in
        bind _ _ _ _ (opened_kept depth_left room2 agree bytes) (λ ty.
        bind _ _ _ _ (h (depth_left - 1) (room2 - 1) fewer (at + 1) ty.1) (λ one.
        test (eqb one.closer 0x0B) (same _) (lead _ _ _ (closed_kept (depth_left - 1) (room2 - 1) fewer (at + 1 + length one.nested + 1) one.rest))))

    instr_kept : (depth_left room2 : ℕ) → Agree limit.Nesting depth_left room2 → (at op : ℕ) (bytes : List ℕ) → Kept (instr_with read depth_left at op bytes) (instr_with wide room2 at op bytes)
    unfolding instr_with
    instr_kept depth_left room2 agree at op bytes =
        test (eqb op 0x02) (framed_kept depth_left room2 agree at instr.Block bytes) (
        test (eqb op 0x03) (framed_kept depth_left room2 agree at instr.Loop bytes) (
        test (eqb op 0x04) (if_kept depth_left room2 agree at bytes) (same _)))

  instrs_kept : (fuel : ℕ) → Reads (instrs_at fuel) (instrs_at fuel)
  unfolding instrs_at
  instrs_kept zero depth_left room2 agree at bytes = same (Err ended)
  instrs_kept (suc fuel) depth_left room2 agree at [] = same (Err ended)
  instrs_kept (suc fuel) depth_left room2 agree at (op ∷ bytes) =
      test (eqb op 0x0B) (same _) (
      test (eqb op 0x05) (same _) (
      bind _ _ _ _ (instr_kept (instrs_kept fuel) depth_left room2 agree at op bytes) (λ one.
      lead _ _ _ (instrs_kept fuel depth_left room2 agree (at + length one.nested) one.rest))))

  blocks_kept : (depth_left room2 : ℕ) → Agree limit.Nesting depth_left room2 → (bytes : List ℕ) → Kept (blocks_at depth_left bytes) (blocks_at room2 bytes)
  unfolding blocks_at
  blocks_kept depth_left room2 agree bytes = lead _ _ _ (closed_kept {read = instrs_in} {wide = instrs_in} (λ k k2 same at rest. instrs_kept (length rest) k k2 same at rest) depth_left room2 agree 1 bytes)

  entry_kept : (depth_left room2 : ℕ) → Agree limit.Locals depth_left room2 → (bytes : List ℕ) → Kept (local_entry_at depth_left bytes) (local_entry_at room2 bytes)
  unfolding local_entry_at
  entry_kept depth_left room2 agree bytes = next _ _ _ (λ count. limited limit.Locals (length bytes) (ltb depth_left count.0) (ltb room2 count.0) (agree_map (λ k. ltb k count.0) limit.Locals depth_left room2 agree) (same _))

  locals_kept : (most most2 : ℕ) → Agree limit.Locals most most2 → (bytes : List ℕ) → Kept (locals_at most bytes) (locals_at most2 bytes)
  unfolding locals_at
  locals_kept most most2 agree bytes = next _ _ _ (λ entries.
      more_kept (λ earlier rest. lead _ _ _ (entry_kept (most - length earlier) (most2 - length earlier) (less limit.Locals most most2 (length earlier) agree) rest)) entries.0 [] entries.1)

  -- the contents of sections, and the module
  module _ (b c : Bounds) (pages : Agree limit.Pages b.pages c.pages) (functions : Agree limit.Functions b.functions c.functions) (locals : Agree limit.Locals b.locals c.locals) (nesting : Agree limit.Nesting b.nesting c.nesting) where
    limits_kept : (bytes : List ℕ) → Kept (limits_at b bytes) (limits_at c bytes)
    unfolding limits_at
    limits_kept bytes = next {A = List ℕ} (byte_at limits_fault 0x03 bytes) _ _ (λ rest. next {A = ℕ × List ℕ} (u32_at rest) _ _ (λ least.
        limited limit.Pages (length rest) (ltb b.pages least.0) (ltb c.pages least.0) (agree_map (λ k. ltb k least.0) limit.Pages b.pages c.pages pages) (same _)))

    import_kept : (bytes : List ℕ) → Kept (import_at b bytes) (import_at c bytes)
    unfolding import_at
    import_kept bytes = next {A = List ℕ × List ℕ} (name_at bytes) _ _ (λ from. next {A = List ℕ × List ℕ} (name_at from.1) _ _ (λ name. next {A = List ℕ} (byte_at import_kind_fault 0x02 name.1) _ _ (λ rest. lead (limits_at b rest) (limits_at c rest) _ (limits_kept rest))))

    imports_kept : (bytes : List ℕ) → Kept (imports_at b bytes) (imports_at c bytes)
    unfolding imports_at
    imports_kept bytes = next {A = ℕ × List ℕ} (u32_at bytes) _ _ (λ count. test (eqb count.0 0) (same _) (lead (import_at b count.1) (import_at c count.1) _ (import_kept count.1)))

    memories_kept : (imported : Bool) (bytes : List ℕ) → Kept (memories_at b imported bytes) (memories_at c imported bytes)
    unfolding memories_at
    memories_kept imported bytes = next {A = ℕ × List ℕ} (u32_at bytes) _ _ (λ count.
        test (eqb count.0 0) (same _) (test imported (same _) (test (eqb count.0 1) (lead _ _ _ (limits_kept count.1)) (same _))))

    indices_kept : (bytes : List ℕ) → Kept (indices_at b bytes) (indices_at c bytes)
    unfolding indices_at
    indices_kept bytes = next _ _ _ (λ count.
        limited limit.Functions (length bytes) (ltb b.functions count.0) (ltb c.functions count.0) (agree_map (λ k. ltb k count.0) limit.Functions b.functions c.functions functions) (same _))

    function_kept : (most most2 index : ℕ) → Agree limit.Locals most most2 → (bytes : List ℕ) → Kept (function_at b most index bytes) (function_at c most2 index bytes)
    unfolding function_at
    function_kept most most2 index agree bytes = bind _ _ _ _ (locals_kept most most2 agree bytes) (λ found. lead _ _ _ (blocks_kept b.nesting c.nesting nesting found.1))

    module _ (types : List FuncType) where
      sized_function_kept : (index : ℕ) (bytes : List ℕ) → Kept (sized_function_at b types index bytes) (sized_function_at c types index bytes)
      unfolding sized_function_at
      sized_function_kept index bytes =
          let n = params_of types index in
          next _ _ _ (λ content.
          limited limit.Locals (length bytes) (ltb b.locals n) (ltb c.locals n) (agree_map (λ k. ltb k n) limit.Locals b.locals c.locals locals)
          (filled_kept (function_kept (b.locals - n) (c.locals - n) index (less limit.Locals b.locals c.locals n locals)) content))

      functions_kept : (indices : List ℕ) (earlier : List Func) (bytes : List ℕ) → Kept (more_functions_at b types indices earlier bytes) (more_functions_at c types indices earlier bytes)
      unfolding more_functions_at
      functions_kept [] earlier bytes = same _
      functions_kept (index ∷ indices) earlier bytes = bind _ _ _ _ (sized_function_kept index bytes) (λ first. functions_kept indices (earlier ++ first.0 ∷ []) first.1)

      code_kept : (indices : List ℕ) (bytes : List ℕ) → Kept (code_at b types indices bytes) (code_at c types indices bytes)
      unfolding code_at
      code_kept indices bytes = next _ _ _ (λ count. test (eqb count.0 (length indices)) (functions_kept indices [] count.1) (same _))

    front_kept : (bytes : List ℕ) → Kept (front_at b bytes) (front_at c bytes)
    unfolding front_at
    front_kept bytes =
        next (header_at bytes) _ _ (λ rest.
        next (customs_in rest) _ _ (λ start.
        next (section_at (vector_at func_type_at) 1 start) _ _ (λ types.
        bind (section_at (imports_at b) 2 types.1) (section_at (imports_at c) 2 types.1) _ _ (section_kept imports_kept 2 types.1) (λ imported.
        lead (section_at (indices_at b) 3 imported.1) (section_at (indices_at c) 3 imported.1) _ (section_kept indices_kept 3 imported.1)))))

    declared_kept : (bytes : List ℕ) → Kept (declared_at b bytes) (declared_at c bytes)
    unfolding declared_at definitions_at
    declared_kept bytes =
        bind (front_at b bytes) (front_at c bytes) _ _ (front_kept bytes) (λ front.
        next (section_at no_items_at 4 front.1) _ _ (λ tables.
        lead (section_at (memories_at b (is_some front.0.imported)) 5 tables.1) (section_at (memories_at c (is_some front.0.imported)) 5 tables.1) _ (section_kept (memories_kept (is_some front.0.imported)) 5 tables.1)))

    pub module_kept : (bytes : List ℕ) → Kept (module_at b bytes) (module_at c bytes)
    unfolding module_at bodies_at
    module_kept bytes =
        bind (declared_at b bytes) (declared_at c bytes) _ _ (declared_kept bytes) (λ declared.
        next (section_at u32_at 12 declared.1) _ _ (λ count.
        lead (section_at (code_at b declared.0.types declared.0.indices) 10 count.1) (section_at (code_at c declared.0.types declared.0.indices) 10 count.1) _ (section_kept (code_kept declared.0.types declared.0.indices) 10 count.1)))
