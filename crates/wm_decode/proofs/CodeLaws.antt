-- Functions are read as they are spelled.
use Rattle.std.proofs.Common.{◌≡◌, ℕ, zero, suc, ◌-◌, ◌+◌, ◌^◌, ◌≤◌, cond, ltb, eqb, List, [], ◌∷◌, ◌++◌, length, Ok, Err, refl, sym, ap, subst, ◌∙◌, append_assoc, arith, length-append}
use Rattle.std.proofs.lemmas.List.{append-nil}
use Rattle.std.proofs.lemmas.Bool.{eqb-true, eq-eqb, ltb-false, le-ltb}
use Rattle.wm_ast.specs.declared.types.ValType.{ValType}
use Rattle.wm_ast.specs.declared.types.FuncType.{FuncType}
use Rattle.wm_ast.specs.declared.instr.Instr.{Instr}
use Rattle.wm_ast.specs.declared.module.Func.{Func}
use Rattle.wm_decode.specs.declared.fault.Limit.TheVariants as limit
use Rattle.wm_decode.specs.declared.fault.FaultKind.TheVariants.{CountMismatch, SectionSize}
use Rattle.wm_decode.specs.Bounds.{Bounds}
use Rattle.wm_decode.specs.Stop.{stop, past}
use Rattle.wm_decode.specs.Numbers.{U32, IsBytes}
use Rattle.wm_decode.specs.Vectors.{Sized}
use Rattle.wm_decode.specs.Instructions.{value_type, Spells}
use Rattle.wm_decode.specs.Parts.{locals_of, Locals, no_locals, locals, FunctionBody, Functions, no_function, function, FunctionVector}
use Rattle.wm_decode.specs.Module.{params_of, LocalsWithin}
use Rattle.wm_decode.specs.Reading.{◌>>=◌}
use Rattle.wm_decode.specs.ReadingVectors.{u32_at, own_bytes_at, filled_at, more_at}
use Rattle.wm_decode.specs.ReadingInstructions.{value_type_at, instrs_in, closed_with, blocks_at}
use Rattle.wm_decode.specs.ReadingParts.{local_entry_at, local_step, locals_at, function_at, sized_function_at, more_functions_at, code_at}
use Rattle.wm_decode.proofs.Steps.{bound, passed, met, pair_is, fits_behind, answered}
use Rattle.wm_decode.proofs.NumberLaws.{unsigned_takes, unsigned_again}
use Rattle.wm_decode.proofs.Lawful.{Lawful, own_law}
use Rattle.wm_decode.proofs.BodyAgain.{ends, spelled_again, closed_again}
use Rattle.wm_decode.proofs.BodyTakes.{closed_takes}
use Rattle.wm_decode.proofs.Fuel.{instrs_take_in}
use Rattle.wm_decode.proofs.TypeLaws.{value_takes, value_again}

locals_length : (n : ℕ) (ty : ValType) → length (locals_of n ty) ≡ n
locals_length zero ty = refl
locals_length (suc n) ty = ap suc (locals_length n ty)

record EntryTook (depth_left : ℕ) (bytes : List ℕ) (n : ℕ) (ty : ValType) (rest : List ℕ) : Type 0 where
  text : List ℕ
  parts : bytes ≡ text ++ value_type ty ∷ rest
  counted : U32 text n
  small : n ≤ depth_left

entry_takes : (depth_left : ℕ) (bytes : List ℕ) (n : ℕ) (ty : ValType) (rest : List ℕ) → IsBytes bytes → local_entry_at depth_left bytes ≡ Ok ((n, ty), rest) → EntryTook depth_left bytes n ty rest
unfolding local_entry_at
entry_takes depth_left bytes n ty rest fits e =
    let last = λ (n : ℕ) (ty : ValType × List ℕ). let p : ℕ × ValType = (n, ty.0) in answered p ty.1 in
    let a = bound (u32_at bytes) (λ count. cond (ltb depth_left count.0) (Err (past limit.Locals (length bytes))) (value_type_at count.1 >>= last count.0)) ((n, ty), rest) e in
    let t = unsigned_takes (2 ^ 32 - 1) bytes a.0.0 a.0.1 fits a.1 in
    let w = passed _ (ltb depth_left a.0.0) (value_type_at a.0.1 >>= last a.0.0) ((n, ty), rest) a.2 in
    let b = bound (value_type_at a.0.1) (last a.0.0) ((n, ty), rest) w.1 in
    let is = pair_is {A = ℕ × ValType} ((a.0.0, b.0.0), b.0.1) ((n, ty), rest) b.2 in
    let n-is : a.0.0 ≡ n = ap (λ (p : ℕ × ValType). p.0) is.0 in
    let ty-is : b.0.0 ≡ ty = ap (λ (p : ℕ × ValType). p.1) is.0 in
    let v = value_takes a.0.1 b.0.0 b.0.1 b.1 in
    record {
      text = t.0;
      parts = t.1 ∙ ap (λ (l : List ℕ). t.0 ++ l) (v ∙ ap (λ (y : ValType). value_type y ∷ b.0.1) ty-is ∙ ap (λ (l : List ℕ). value_type ty ∷ l) is.1);
      counted = subst (λ (k : ℕ). U32 t.0 k) n-is t.2;
      small = subst (λ (k : ℕ). k ≤ depth_left) n-is (ltb-false depth_left a.0.0 w.0);
    }

entry_again : (depth_left : ℕ) (text : List ℕ) (n : ℕ) (ty : ValType) (rest : List ℕ) → U32 text n → n ≤ depth_left → local_entry_at depth_left (text ++ value_type ty ∷ rest) ≡ Ok ((n, ty), rest)
unfolding local_entry_at
entry_again depth_left text n ty rest d small = rw (unsigned_again d (value_type ty ∷ rest), le-ltb depth_left n small, value_again ty rest) refl

record LocalsTook (most n : ℕ) (earlier : List ValType) (bytes : List ℕ) (all : List ValType) (rest : List ℕ) : Type 0 where
  tys : List ValType
  text : List ℕ
  all_are : all ≡ earlier ++ tys
  parts : bytes ≡ text ++ rest
  spelled : Locals text n tys
  small : length all ≤ most

locals_take : (most n : ℕ) (earlier : List ValType) (bytes : List ℕ) (all : List ValType) (rest : List ℕ) → IsBytes bytes → length earlier ≤ most → more_at (local_step most) n earlier bytes ≡ Ok (all, rest) → LocalsTook most n earlier bytes all rest
unfolding more_at
locals_take most zero earlier bytes all rest fits le e =
    let is = pair_is {A = List ValType} (earlier, bytes) (all, rest) e in
    record { tys = []; text = []; all_are = sym is.0 ∙ sym (append-nil earlier); parts = is.1; spelled = no_locals; small = subst (λ (l : List ValType). length l ≤ most) is.0 le }
locals_take most (suc n) earlier bytes all rest fits le e =
    let a = bound (local_step most earlier bytes) (λ x. more_at (local_step most) n x.0 x.1) (all, rest) e in
    let b = bound (local_entry_at (most - length earlier) bytes) (λ (x : (ℕ × ValType) × List ℕ). answered {X = List ValType} (earlier ++ locals_of x.0.0 x.0.1) x.1) a.0 a.1 in
    let count : ℕ = b.0.0.0 in
    let ty : ValType = b.0.0.1 in
    let is = pair_is {A = List ValType} (earlier ++ locals_of count ty, b.0.1) a.0 b.2 in
    let t = entry_takes (most - length earlier) bytes count ty b.0.1 fits b.1 in
    let step : more_at (local_step most) n (earlier ++ locals_of count ty) b.0.1 ≡ Ok (all, rest) = rw (is.0, is.1) a.2 in
    let le2 : length (earlier ++ locals_of count ty) ≤ most = omega (arith, length-append earlier (locals_of count ty), locals_length count ty, t.small) in
    let behind : bytes ≡ (t.text ++ value_type ty ∷ []) ++ b.0.1 = t.parts ∙ sym (append_assoc t.text (value_type ty ∷ []) b.0.1) in
    let r = locals_take most n (earlier ++ locals_of count ty) b.0.1 all rest (fits_behind bytes (t.text ++ value_type ty ∷ []) b.0.1 fits behind) le2 step in
    record {
      tys = locals_of count ty ++ r.tys;
      text = t.text ++ value_type ty ∷ r.text;
      all_are = r.all_are ∙ append_assoc earlier (locals_of count ty) r.tys;
      parts = t.parts ∙ ap (λ (l : List ℕ). t.text ++ value_type ty ∷ l) r.parts ∙ sym (append_assoc t.text (value_type ty ∷ r.text) rest);
      spelled = locals ty t.counted r.spelled;
      small = r.small;
    }

locals_again : {text : List ℕ} {n : ℕ} {tys : List ValType} → Locals text n tys → (most : ℕ) (earlier : List ValType) (rest : List ℕ) → length earlier + length tys ≤ most → more_at (local_step most) n earlier (text ++ rest) ≡ Ok (earlier ++ tys, rest)
unfolding more_at
locals_again no_locals most earlier rest le = ap (λ (l : List ValType). answered l rest) (sym (append-nil earlier))
locals_again (locals {count = t} {text = text} {entries = k} {n = n} {tys = tys} ty d more) most earlier rest le =
    let sum : length (locals_of n ty ++ tys) ≡ n + length tys = length-append (locals_of n ty) tys ∙ ap (λ (k : ℕ). k + length tys) (locals_length n ty) in
    let small : n ≤ most - length earlier = omega arith in
    let sum2 : length (earlier ++ locals_of n ty) ≡ length earlier + n = length-append earlier (locals_of n ty) ∙ ap (λ (k : ℕ). length earlier + k) (locals_length n ty) in
    let next = locals_again more most (earlier ++ locals_of n ty) rest (omega arith) in
    rw (append_assoc, entry_again (most - length earlier) t n ty (text ++ rest) d small, next) (ap (λ (l : List ValType). answered l rest) (append_assoc earlier (locals_of n ty) tys))

record BlocksTook (depth_left : ℕ) (bytes : List ℕ) (blocks : List (List Instr)) (rest : List ℕ) : Type 0 where
  text : List ℕ
  body : List Instr
  nested : List (List Instr)
  parts : bytes ≡ text ++ 0x0B ∷ rest
  spelled : Spells depth_left 1 text body nested
  blocks_are : blocks ≡ body ∷ nested

blocks_take : (depth_left : ℕ) (bytes : List ℕ) (blocks : List (List Instr)) (rest : List ℕ) → IsBytes bytes → blocks_at depth_left bytes ≡ Ok (blocks, rest) → BlocksTook depth_left bytes blocks rest
unfolding blocks_at
blocks_take depth_left bytes blocks rest fits e =
    let a = bound (closed_with instrs_in depth_left 1 bytes) (λ b. answered {X = List (List Instr)} (b.instrs ∷ b.nested) b.rest) (blocks, rest) e in
    let c = closed_takes instrs_in depth_left 1 bytes a.0 a.1 in
    let is = pair_is {A = List (List Instr)} (a.0.instrs ∷ a.0.nested, a.0.rest) (blocks, rest) a.2 in
    let t = instrs_take_in depth_left 1 bytes a.0 fits c.0 in
    record { text = t.text; body = a.0.instrs; nested = a.0.nested; parts = t.parts ∙ ap (λ (k : ℕ). t.text ++ k ∷ a.0.rest) c.1 ∙ ap (λ (l : List ℕ). t.text ++ 0x0B ∷ l) is.1; spelled = t.spelled; blocks_are = sym is.0 }

blocks_again : (depth_left : ℕ) (text : List ℕ) (body : List Instr) (nested : List (List Instr)) (rest : List ℕ) → Spells depth_left 1 text body nested → blocks_at depth_left (text ++ 0x0B ∷ rest) ≡ Ok (body ∷ nested, rest)
unfolding blocks_at
blocks_again depth_left text body nested rest d =
    rw (closed_again instrs_in depth_left 1 (text ++ 0x0B ∷ rest) body nested rest (spelled_again d 0x0B ends rest (length (text ++ 0x0B ∷ rest)) (omega arith))) refl

module _ (bounds : Bounds) where
  -- a function with at most most locals
  record Small (most index : ℕ) (text : List ℕ) (f : Func) : Type 0 where
    spelled : FunctionBody bounds.nesting index text f
    small : length f.locals ≤ most

  function_takes : (most index : ℕ) (bytes : List ℕ) (f : Func) (rest : List ℕ) → IsBytes bytes → function_at bounds most index bytes ≡ Ok (f, rest) → (text : List ℕ) × (bytes ≡ text ++ rest) × Small most index text f
  unfolding function_at locals_at
  function_takes most index bytes f rest fits e =
      let made = λ (ls : List ValType) (bs : List (List Instr)). let k : Func = record { type_index = index; locals = ls; blocks = bs } in k in
      let second = λ (ls : List ValType) (bs : List (List Instr) × List ℕ). answered {X = Func} (made ls bs.0) bs.1 in
      let first = λ (ls : List ValType × List ℕ). blocks_at bounds.nesting ls.1 >>= second ls.0 in
      let p = bound (u32_at bytes >>= λ entries. more_at (local_step most) entries.0 [] entries.1) first (f, rest) e in
      let a = bound (u32_at bytes) (λ entries. more_at (local_step most) entries.0 [] entries.1) p.0 p.1 in
      let one = unsigned_takes (2 ^ 32 - 1) bytes a.0.0 a.0.1 fits a.1 in
      let fits1 = fits_behind bytes one.0 a.0.1 fits one.1 in
      let two = locals_take most a.0.0 [] a.0.1 p.0.0 p.0.1 fits1 (omega arith) a.2 in
      let fits2 = fits_behind a.0.1 two.text p.0.1 fits1 two.parts in
      let b = bound (blocks_at bounds.nesting p.0.1) (second p.0.0) (f, rest) p.2 in
      let three = blocks_take bounds.nesting p.0.1 b.0.0 b.0.1 fits2 b.1 in
      let is = pair_is {A = Func} (made p.0.0 b.0.0, b.0.1) (f, rest) b.2 in
      let text : List ℕ = one.0 ++ (two.text ++ (three.text ++ 0x0B ∷ [])) in
      let spelled : FunctionBody bounds.nesting index text (made p.0.0 b.0.0) = record {
        entries = a.0.0;
        first = one.0;
        second = two.text;
        third = three.text;
        body = three.body;
        nested = three.nested;
        parts = refl;
        counted = one.2;
        declared = subst (λ (l : List ValType). Locals two.text a.0.0 l) (sym two.all_are) two.spelled;
        spelled = three.spelled;
        blocks = three.blocks_are;
        typed = refl;
      } in
      let small : Small most index text (made p.0.0 b.0.0) = record { spelled = spelled; small = two.small } in (
        text,
        one.1 ∙ ap (λ (l : List ℕ). one.0 ++ l) (two.parts ∙ ap (λ (l : List ℕ). two.text ++ l) (three.parts ∙ ap (λ (l : List ℕ). three.text ++ 0x0B ∷ l) is.1)) ∙ simp append_assoc,
        subst (λ (x : Func). Small most index text x) is.0 small,
      )

  func_is : (f : Func) (index : ℕ) → f.type_index ≡ index → (let k : Func = record { type_index = index; locals = f.locals; blocks = f.blocks } in k) ≡ f
  func_is f index e = rw (← e) refl

  function_again : (most index : ℕ) (text : List ℕ) (f : Func) (rest : List ℕ) → Small most index text f → function_at bounds most index (text ++ rest) ≡ Ok (f, rest)
  unfolding function_at locals_at
  function_again most index text f rest s =
      let d = s.spelled in
      let flat : (d.first ++ (d.second ++ (d.third ++ 0x0B ∷ []))) ++ rest ≡ d.first ++ (d.second ++ (d.third ++ 0x0B ∷ rest)) = simp append_assoc in
      ap (function_at bounds most index) (ap (λ (l : List ℕ). l ++ rest) d.parts ∙ flat)
      ∙ rw (unsigned_again d.counted (d.second ++ (d.third ++ 0x0B ∷ rest)), locals_again d.declared most [] (d.third ++ 0x0B ∷ rest) (omega (arith, s.small)), blocks_again bounds.nesting d.third d.body d.nested rest d.spelled, ← d.blocks)
      (ap (λ (x : Func). answered x rest) (func_is f index d.typed))

  module _ (types : List FuncType) where
    -- a function whose parameters and locals are within the bounds
    record Bounded (index : ℕ) (text : List ℕ) (f : Func) : Type 0 where
      spelled : FunctionBody bounds.nesting index text f
      small : params_of types index + length f.locals ≤ bounds.locals

    -- a function with its size, where the parameters of its type are within the bounds
    whole_lawful : (index : ℕ) → Lawful (Sized (Small (bounds.locals - params_of types index) index)) (λ bytes. own_bytes_at (stop SectionSize (length bytes)) bytes >>= filled_at (function_at bounds (bounds.locals - params_of types index) index))
    whole_lawful index =
        let most = bounds.locals - params_of types index in
        own_law (Small most index) (function_at bounds most index) (λ bytes f rest fits e. function_takes most index bytes f rest fits e)
        (λ text f s. ap (function_at bounds most index) (sym (append-nil text)) ∙ function_again most index text f [] s) (λ bytes. stop SectionSize (length bytes))

    bounded_lawful : (index : ℕ) → Lawful (Sized (Bounded index)) (sized_function_at bounds types index)
    unfolding sized_function_at
    bounded_lawful index = record {
      takes = λ bytes f rest fits e.
          let n = params_of types index in
          let fill = filled_at (function_at bounds (bounds.locals - n) index) in
          let own = own_bytes_at (stop SectionSize (length bytes)) bytes in
          let a = bound own (λ content. cond (ltb bounds.locals n) (Err (past limit.Locals (length bytes))) (fill content)) (f, rest) e in
          let w = passed _ (ltb bounds.locals n) (fill a.0) (f, rest) a.2 in
          let le : n ≤ bounds.locals = ltb-false bounds.locals n w.0 in
          let read : (own >>= fill) ≡ Ok (f, rest) = rw a.1 w.1 in
          let t = (whole_lawful index).takes bytes f rest fits read in
          let s = t.2 in
          let sum : n + length f.locals ≤ bounds.locals = omega (arith, s.spelled.small) in
          (t.0, t.1, record { size = s.size; content = s.content; parts = s.parts; counted = s.counted; spelled = record { spelled = s.spelled.spelled; small = sum } });
      again = λ text f rest s.
          let n = params_of types index in
          let le : n ≤ bounds.locals = omega (arith, s.spelled.small) in
          let small : length f.locals ≤ bounds.locals - n = omega (arith, s.spelled.small) in
          let sized : Sized (Small (bounds.locals - n) index) text f = record { size = s.size; content = s.content; parts = s.parts; counted = s.counted; spelled = record { spelled = s.spelled.spelled; small = small } } in
          rw (le-ltb bounds.locals n le) ((whole_lawful index).again text f rest sized);
    }

    record FunctionsTook (indices : List ℕ) (earlier : List Func) (bytes : List ℕ) (all : List Func) (rest : List ℕ) : Type 0 where
      fs : List Func
      text : List ℕ
      all_are : all ≡ earlier ++ fs
      parts : bytes ≡ text ++ rest
      spelled : Functions bounds.nesting indices text fs
      small : LocalsWithin bounds types fs
      counted : length fs ≡ length indices

    functions_take : (indices : List ℕ) (earlier : List Func) (bytes : List ℕ) (all : List Func) (rest : List ℕ) → IsBytes bytes → more_functions_at bounds types indices earlier bytes ≡ Ok (all, rest) → FunctionsTook indices earlier bytes all rest
    unfolding more_functions_at
    functions_take [] earlier bytes all rest fits e =
        let is = pair_is {A = List Func} (earlier, bytes) (all, rest) e in
        record { fs = []; text = []; all_are = sym is.0 ∙ sym (append-nil earlier); parts = is.1; spelled = no_function; small = tt; counted = refl }
    functions_take (index ∷ indices) earlier bytes all rest fits e =
        let a = bound (sized_function_at bounds types index bytes) (λ x. more_functions_at bounds types indices (earlier ++ x.0 ∷ []) x.1) (all, rest) e in
        let t = (bounded_lawful index).takes bytes a.0.0 a.0.1 fits a.1 in
        let r = functions_take indices (earlier ++ a.0.0 ∷ []) a.0.1 all rest (fits_behind bytes t.0 a.0.1 fits t.1) a.2 in
        let s = t.2 in
        let sized : Sized (FunctionBody bounds.nesting index) t.0 a.0.0 = record { size = s.size; content = s.content; parts = s.parts; counted = s.counted; spelled = s.spelled.spelled } in
        let small : params_of types a.0.0.type_index + length a.0.0.locals ≤ bounds.locals = subst (λ (i : ℕ). params_of types i + length a.0.0.locals ≤ bounds.locals) (sym s.spelled.spelled.typed) s.spelled.small in
        record {
          fs = a.0.0 ∷ r.fs;
          text = t.0 ++ r.text;
          all_are = r.all_are ∙ append_assoc earlier (a.0.0 ∷ []) r.fs;
          parts = t.1 ∙ ap (λ (l : List ℕ). t.0 ++ l) r.parts ∙ sym (append_assoc t.0 r.text rest);
          spelled = function sized r.spelled;
          small = (small, r.small);
          counted = ap suc r.counted;
        }

    functions_again : {indices text : List ℕ} {fs : List Func} → Functions bounds.nesting indices text fs → LocalsWithin bounds types fs → (earlier : List Func) (rest : List ℕ)
        → more_functions_at bounds types indices earlier (text ++ rest) ≡ Ok (earlier ++ fs, rest)
    unfolding more_functions_at
    functions_again no_function w earlier rest = ap (λ (l : List Func). answered l rest) (sym (append-nil earlier))
    functions_again (function {index = index} {indices = indices} {text = t} {rest = r} {f = f} {fs = fs} s more) w earlier rest =
        let small : params_of types index + length f.locals ≤ bounds.locals = subst (λ (i : ℕ). params_of types i + length f.locals ≤ bounds.locals) s.spelled.typed w.0 in
        let sized : Sized (Bounded index) t f = record { size = s.size; content = s.content; parts = s.parts; counted = s.counted; spelled = record { spelled = s.spelled; small = small } } in
        let next = functions_again more w.1 (earlier ++ f ∷ []) rest in
        rw (append_assoc, (bounded_lawful index).again t f (r ++ rest) sized, next) (ap (λ (l : List Func). answered l rest) (append_assoc earlier (f ∷ []) fs))

    -- the functions of a code section
    pub record Code (indices : List ℕ) (text : List ℕ) (fs : List Func) : Type 0 where
      pub spelled : FunctionVector bounds.nesting indices text fs
      pub small : LocalsWithin bounds types fs
      pub counted : length fs ≡ length indices

    pub code_lawful : (indices : List ℕ) → Lawful (Code indices) (code_at bounds types indices)
    unfolding code_at
    code_lawful indices = record {
      takes = λ bytes fs rest fits e.
          let a = bound (u32_at bytes) (λ count. cond (eqb count.0 (length indices)) (more_functions_at bounds types indices [] count.1) (Err (stop CountMismatch (length bytes)))) (fs, rest) e in
          let t = unsigned_takes (2 ^ 32 - 1) bytes a.0.0 a.0.1 fits a.1 in
          let m = met _ (eqb a.0.0 (length indices)) (more_functions_at bounds types indices [] a.0.1) (fs, rest) a.2 in
          let r = functions_take indices [] a.0.1 fs rest (fits_behind bytes t.0 a.0.1 fits t.1) m.1 in
          let count : a.0.0 ≡ length r.fs = eqb-true a.0.0 (length indices) m.0 ∙ sym r.counted in
          let spelled : FunctionVector bounds.nesting indices (t.0 ++ r.text) r.fs = record { count = t.0; items = r.text; parts = refl; counted = subst (λ (n : ℕ). U32 t.0 n) count t.2; each = r.spelled } in
          let whole : Code indices (t.0 ++ r.text) r.fs = record { spelled = spelled; small = r.small; counted = r.counted } in
          (t.0 ++ r.text, t.1 ∙ ap (λ (l : List ℕ). t.0 ++ l) r.parts ∙ sym (append_assoc t.0 r.text rest), subst (λ (x : List Func). Code indices (t.0 ++ r.text) x) (sym r.all_are) whole);
      again = λ text fs rest c. let d = c.spelled in
          rw (d.parts, append_assoc, unsigned_again d.counted (d.items ++ rest), eq-eqb (length fs) (length indices) c.counted) (functions_again d.each c.small [] rest);
    }
