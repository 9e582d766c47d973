-- Types, limits, imports and memories are read as they are spelled.
use Rattle.std.proofs.Common.{◌≡◌, ℕ, ◌-◌, ◌^◌, ◌≤◌, cond, ltb, eqb, List, [], ◌∷◌, ◌++◌, length, Option, Some, None, Ok, Err, refl, sym, ap, subst, ◌∙◌, append_assoc, inl, inr}
use Rattle.std.specs.Str.{is_utf8}
use Rattle.std.proofs.lemmas.List.{append-nil}
use Rattle.std.proofs.lemmas.Bool.{eqb-true, eq-eqb, ltb-false, le-ltb}
use Rattle.std.proofs.lemmas.Str.{IsUtf8-from_is_utf8, is_utf8-from_IsUtf8}
use Rattle.wm_ast.specs.declared.types.ValType.{ValType}
use Rattle.wm_ast.specs.declared.types.ValType.TheVariants.{I32, I64}
use Rattle.wm_ast.specs.declared.types.FuncType.{FuncType}
use Rattle.wm_ast.specs.declared.types.Limits.{Limits}
use Rattle.wm_ast.specs.declared.module.ImportName.{ImportName}
use Rattle.wm_ast.specs.declared.module.Memory.{Memory}
use Rattle.wm_decode.specs.declared.fault.Limit.TheVariants.{Pages}
use Rattle.wm_decode.specs.declared.fault.Feature.TheVariants.{MultiValue}
use Rattle.wm_decode.specs.declared.fault.FaultKind.{FaultKind}
use Rattle.wm_decode.specs.declared.fault.FaultKind.TheVariants.{BadName, BadNumber}
use Rattle.wm_decode.specs.Faults.{value_type_fault, limits_fault, import_kind_fault}
use Rattle.wm_decode.specs.Bounds.{Bounds}
use Rattle.wm_decode.specs.Stop.{stop, past, moved}
use Rattle.wm_decode.specs.Numbers.{U32, IsBytes}
use Rattle.wm_decode.specs.Vectors.{Each, no_more, one_more, Vector, Name}
use Rattle.wm_decode.specs.Instructions.{value_type}
use Rattle.wm_decode.specs.Parts.{ValueType, FunctionType, SharedLimits, MemoryImport}
use Rattle.wm_decode.specs.Module.{AtMostOne}
use Rattle.wm_decode.specs.Reading.{◌>>=◌, faulted_at}
use Rattle.wm_decode.specs.ReadingVectors.{u32_at, vector_at, byte_vector_at, name_at}
use Rattle.wm_decode.specs.ReadingInstructions.{value_type_at}
use Rattle.wm_decode.specs.ReadingParts.{byte_at, unsupported, result_at, func_type_at, limits_at, import_at}
use Rattle.wm_decode.proofs.Steps.{bound, passed, unmapped, met, chosen, ok_is, pair_is, fits_behind, answered}
use Rattle.wm_decode.proofs.NumberLaws.{unsigned_takes, unsigned_again}
use Rattle.wm_decode.proofs.Lawful.{Lawful, vector_lawful, byte_vector_takes, byte_vector_again}

pub name_lawful : Lawful Name name_at
unfolding name_at
name_lawful = record {
  takes = λ bytes name rest fits e.
      let a = bound (faulted_at bytes (byte_vector_at bytes)) (λ text. cond (is_utf8 text.0) (Ok text) (Err (stop BadName (length bytes)))) (name, rest) e in
      let t = byte_vector_takes bytes a.0.0 a.0.1 fits (unmapped (moved (length bytes)) (byte_vector_at bytes) a.0 a.1) in
      let m = met _ (is_utf8 a.0.0) (Ok a.0) (name, rest) a.2 in
      let is = pair_is a.0 (name, rest) m.1 in
      let spelled : Name t.0 a.0.0 = record { spelled = t.2; utf8 = IsUtf8-from_is_utf8 a.0.0 m.0 } in
      (t.0, t.1 ∙ ap (λ (l : List ℕ). t.0 ++ l) is.1, subst (λ (n : List ℕ). Name t.0 n) is.0 spelled);
  again = λ text name rest d. rw (byte_vector_again text name rest d.spelled, is_utf8-from_IsUtf8 name d.utf8) refl;
}

pub value_takes : (bytes : List ℕ) (ty : ValType) (rest : List ℕ) → value_type_at bytes ≡ Ok (ty, rest) → bytes ≡ value_type ty ∷ rest
unfolding value_type_at
value_takes [] ty rest e = absurd cc
value_takes (b ∷ bytes) ty rest e =
    elim (chosen (eqb b 0x7F) (answered I32 bytes) (cond (eqb b 0x7E) (answered I64 bytes) (Err (stop (value_type_fault b) (length (b ∷ bytes))))) (Ok (ty, rest)) e) [
      | inl h ↦ let is = pair_is (I32, bytes) (ty, rest) h.1 in rw (eqb-true b 0x7F h.0, ← is.0, is.1) refl
      | inr f ↦
          let h = met _ (eqb b 0x7E) (answered I64 bytes) (ty, rest) f.1 in
          let is = pair_is (I64, bytes) (ty, rest) h.1 in rw (eqb-true b 0x7E h.0, ← is.0, is.1) refl
    ]

pub value_again : (ty : ValType) (rest : List ℕ) → value_type_at (value_type ty ∷ rest) ≡ Ok (ty, rest)
unfolding value_type_at
value_again I32 rest = refl
value_again I64 rest = refl

pub value_lawful : Lawful ValueType value_type_at
value_lawful = record {
  takes = λ bytes ty rest fits e. (value_type ty ∷ [], value_takes bytes ty rest e, refl);
  again = λ text ty rest d. rw d (value_again ty rest);
}

pub byte_takes : (wrong : ℕ → FaultKind) (code : ℕ) (bytes rest : List ℕ) → byte_at wrong code bytes ≡ Ok rest → bytes ≡ code ∷ rest
byte_takes wrong code [] rest e = absurd cc
byte_takes wrong code (b ∷ bytes) rest e =
    let m = met _ (eqb b code) (Ok bytes) rest e in
    ap (λ (k : ℕ). k ∷ bytes) (eqb-true b code m.0) ∙ ap (λ (l : List ℕ). code ∷ l) (ok_is bytes rest m.1)

pub byte_again : (wrong : ℕ → FaultKind) (code : ℕ) (rest : List ℕ) → byte_at wrong code (code ∷ rest) ≡ Ok rest
byte_again wrong code rest = rw (eq-eqb code code refl) refl

-- a vector of no item, and of one
module _ {X : Type 0} (Item : List ℕ → X → Type 0) where
  pub make_none : (count : List ℕ) (n : ℕ) → U32 count n → n ≡ 0 → Vector Item count []
  make_none count n d e = record { count = count; items = []; parts = sym (append-nil count); counted = subst (λ (k : ℕ). U32 count k) e d; each = no_more }

  pub make_one : (count : List ℕ) (n : ℕ) (text : List ℕ) (x : X) → U32 count n → n ≡ 1 → Item text x → Vector Item (count ++ text) (x ∷ [])
  make_one count n text x d e i =
      let each : Each Item (text ++ []) (x ∷ []) = one_more i no_more in
      record { count = count; items = text; parts = refl; counted = subst (λ (k : ℕ). U32 count k) e d; each = subst (λ (t : List ℕ). Each Item t (x ∷ [])) (append-nil text) each }

  each_none : {text : List ℕ} {xs : List X} → Each Item text xs → xs ≡ [] → text ≡ []
  each_none no_more e = refl
  each_none (one_more i d) e = absurd cc

  pub take_none : (text : List ℕ) → Vector Item text [] → U32 text 0
  take_none text v = subst (λ (t : List ℕ). U32 t 0) (sym (v.parts ∙ ap (λ (l : List ℕ). v.count ++ l) (each_none v.each refl) ∙ append-nil v.count)) v.counted

  pub record One (text : List ℕ) (x : X) : Type 0 where
    pub count : List ℕ
    pub item : List ℕ
    pub parts : text ≡ count ++ item
    pub counted : U32 count 1
    pub spelled : Item item x

  each_one : {text : List ℕ} {xs : List X} → Each Item text xs → (x : X) → xs ≡ x ∷ [] → Item text x
  each_one no_more x e = absurd cc
  each_one (one_more {text = t} {rest = r} {x = y} {xs = ys} i d) x e =
      let same : y ≡ x = cc in
      let none : ys ≡ [] = cc in
      subst (λ (l : List ℕ). Item l x) (sym (ap (λ (l : List ℕ). t ++ l) (each_none d none) ∙ append-nil t)) (subst (λ (z : X). Item t z) same i)

  pub take_one : (text : List ℕ) (x : X) → Vector Item text (x ∷ []) → One text x
  take_one text x v = record { count = v.count; item = v.items; parts = v.parts; counted = v.counted; spelled = each_one v.each x refl }

pub types_lawful : Lawful (Vector ValueType) (vector_at value_type_at)
types_lawful = vector_lawful ValueType value_type_at value_lawful

result_takes : (bytes : List ℕ) (r : Option ValType) (rest : List ℕ) → IsBytes bytes → result_at bytes ≡ Ok (r, rest) → (text : List ℕ) × (bytes ≡ text ++ rest) × AtMostOne ValueType text r
unfolding result_at
result_takes bytes r rest fits e =
    let some = λ (ty : ValType × List ℕ). answered {X = Option ValType} (Some ty.0) ty.1 in
    let one = λ (count : ℕ × List ℕ). cond (eqb count.0 1) (value_type_at count.1 >>= some) (Err (unsupported MultiValue bytes)) in
    let a = bound (u32_at bytes) (λ count. cond (eqb count.0 0) (answered {X = Option ValType} None count.1) (one count)) (r, rest) e in
    let t = unsigned_takes (2 ^ 32 - 1) bytes a.0.0 a.0.1 fits a.1 in
    elim (chosen (eqb a.0.0 0) (answered {X = Option ValType} None a.0.1) (one a.0) (Ok (r, rest)) a.2) [
      | inl h ↦
          let is = pair_is {A = Option ValType} (None, a.0.1) (r, rest) h.1 in
          (t.0, t.1 ∙ ap (λ (l : List ℕ). t.0 ++ l) is.1, subst (λ (o : Option ValType). AtMostOne ValueType t.0 o) is.0 (make_none ValueType t.0 a.0.0 t.2 (eqb-true a.0.0 0 h.0)))
      | inr h ↦
          let m = met _ (eqb a.0.0 1) (value_type_at a.0.1 >>= some) (r, rest) h.1 in
          let b = bound (value_type_at a.0.1) some (r, rest) m.1 in
          let v = value_takes a.0.1 b.0.0 b.0.1 b.1 in
          let is = pair_is {A = Option ValType} (Some b.0.0, b.0.1) (r, rest) b.2 in
          let text : List ℕ = value_type b.0.0 ∷ [] in (
            t.0 ++ text,
            t.1 ∙ ap (λ (l : List ℕ). t.0 ++ l) (v ∙ ap (λ (l : List ℕ). value_type b.0.0 ∷ l) is.1) ∙ sym (append_assoc t.0 text rest),
            subst (λ (o : Option ValType). AtMostOne ValueType (t.0 ++ text) o) is.0 (make_one ValueType t.0 a.0.0 text b.0.0 t.2 (eqb-true a.0.0 1 m.0) refl),
          )
    ]

result_again : (text : List ℕ) (r : Option ValType) (rest : List ℕ) → AtMostOne ValueType text r → result_at (text ++ rest) ≡ Ok (r, rest)
unfolding result_at
result_again text None rest v = rw (unsigned_again (take_none ValueType text v) rest) refl
result_again text (Some ty) rest v =
    let o = take_one ValueType text ty v in
    rw (o.parts, append_assoc, unsigned_again o.counted (o.item ++ rest), o.spelled, value_again ty rest) refl

pub result_lawful : Lawful (AtMostOne ValueType) result_at
result_lawful = record { takes = result_takes; again = result_again }

pub func_type_lawful : Lawful FunctionType func_type_at
unfolding func_type_at
func_type_lawful = record {
  takes = λ bytes t rest fits e.
      let made = λ (ps : List ValType) (r : Option ValType). let k : FuncType = record { params = ps; result = r } in k in
      let third = λ (ps : List ValType) (r : Option ValType × List ℕ). answered {X = FuncType} (made ps r.0) r.1 in
      let second = λ (ps : List ValType × List ℕ). result_at ps.1 >>= third ps.0 in
      let z = bound (byte_at (λ b. BadNumber) 0x60 bytes) (λ rest. vector_at value_type_at rest >>= second) (t, rest) e in
      let start = byte_takes (λ b. BadNumber) 0x60 bytes z.0 z.1 in
      let fits1 = fits_behind bytes (0x60 ∷ []) z.0 fits start in
      let p = bound (vector_at value_type_at z.0) second (t, rest) z.2 in
      let q = bound (result_at p.0.1) (third p.0.0) (t, rest) p.2 in
      let is = pair_is {A = FuncType} (made p.0.0 q.0.0, q.0.1) (t, rest) q.2 in
      let one = types_lawful.takes z.0 p.0.0 p.0.1 fits1 p.1 in
      let two = result_lawful.takes p.0.1 q.0.0 q.0.1 (fits_behind z.0 one.0 p.0.1 fits1 one.1) q.1 in
      let text : List ℕ = 0x60 ∷ one.0 ++ two.0 in
      let spelled : FunctionType text (made p.0.0 q.0.0) = record { first = one.0; second = two.0; parts = refl; params = one.2; results = two.2 } in (
        text,
        start ∙ ap (λ (l : List ℕ). 0x60 ∷ l) (one.1 ∙ ap (λ (l : List ℕ). one.0 ++ l) (two.1 ∙ ap (λ (l : List ℕ). two.0 ++ l) is.1) ∙ sym (append_assoc one.0 two.0 rest)),
        subst (λ (x : FuncType). FunctionType text x) is.0 spelled,
      );
  again = λ text t rest d. rw d.parts (
      let flat : (0x60 ∷ d.first ++ d.second) ++ rest ≡ 0x60 ∷ (d.first ++ (d.second ++ rest)) = simp append_assoc in
      ap func_type_at flat ∙ rw (types_lawful.again d.first t.params (d.second ++ rest) d.params, result_lawful.again d.second t.result rest d.results) refl);
}

-- limits within the bounds
pub record Limited (bounds : Bounds) (text : List ℕ) (l : Limits) : Type 0 where
  pub spelled : SharedLimits text l
  pub within : l.minimum ≤ bounds.pages

module _ (bounds : Bounds) where
  pub limits_lawful : Lawful (Limited bounds) (limits_at bounds)
  unfolding limits_at
  limits_lawful = record {
    takes = λ bytes l rest fits e.
        let made = λ (a b : ℕ). let k : Limits = record { minimum = a; maximum = b } in k in
        let third = λ (a : ℕ) (b : ℕ × List ℕ). answered {X = Limits} (made a b.0) b.1 in
        let second = λ (read : List ℕ) (a : ℕ × List ℕ). cond (ltb bounds.pages a.0) (Err (past Pages (length read))) (u32_at a.1 >>= third a.0) in
        let z = bound (byte_at limits_fault 0x03 bytes) (λ rest. u32_at rest >>= second rest) (l, rest) e in
        let start = byte_takes limits_fault 0x03 bytes z.0 z.1 in
        let fits1 = fits_behind bytes (0x03 ∷ []) z.0 fits start in
        let p = bound (u32_at z.0) (second z.0) (l, rest) z.2 in
        let w = passed _ (ltb bounds.pages p.0.0) (u32_at p.0.1 >>= third p.0.0) (l, rest) p.2 in
        let q = bound (u32_at p.0.1) (third p.0.0) (l, rest) w.1 in
        let is = pair_is {A = Limits} (made p.0.0 q.0.0, q.0.1) (l, rest) q.2 in
        let one = unsigned_takes (2 ^ 32 - 1) z.0 p.0.0 p.0.1 fits1 p.1 in
        let two = unsigned_takes (2 ^ 32 - 1) p.0.1 q.0.0 q.0.1 (fits_behind z.0 one.0 p.0.1 fits1 one.1) q.1 in
        let text : List ℕ = 0x03 ∷ one.0 ++ two.0 in
        let spelled : SharedLimits text (made p.0.0 q.0.0) = record { first = one.0; second = two.0; parts = refl; least = one.2; most = two.2 } in
        let limited : Limited bounds text (made p.0.0 q.0.0) = record { spelled = spelled; within = ltb-false bounds.pages p.0.0 w.0 } in (
          text,
          start ∙ ap (λ (l : List ℕ). 0x03 ∷ l) (one.1 ∙ ap (λ (l : List ℕ). one.0 ++ l) (two.1 ∙ ap (λ (l : List ℕ). two.0 ++ l) is.1) ∙ sym (append_assoc one.0 two.0 rest)),
          subst (λ (x : Limits). Limited bounds text x) is.0 limited,
        );
    again = λ text l rest k. let d = k.spelled in rw d.parts (
        let flat : (0x03 ∷ d.first ++ d.second) ++ rest ≡ 0x03 ∷ (d.first ++ (d.second ++ rest)) = simp append_assoc in
        ap (limits_at bounds) flat ∙ rw (unsigned_again d.least (d.second ++ rest), le-ltb bounds.pages l.minimum k.within, unsigned_again d.most rest) refl);
  }

  -- an import within the bounds
  pub record LimitedImport (text : List ℕ) (m : Memory) : Type 0 where
    pub spelled : MemoryImport text m
    pub within : m.limits.minimum ≤ bounds.pages

  pub import_lawful : Lawful LimitedImport (import_at bounds)
  unfolding import_at
  import_lawful = record {
    takes = λ bytes m rest fits e.
        let named = λ (a b : List ℕ). let k : ImportName = record { «module» = a; name = b } in k in
        let made = λ (a b : List ℕ) (l : Limits). let k : Memory = record { limits = l; import = Some (named a b) } in k in
        let fourth = λ (a b : List ℕ) (l : Limits × List ℕ). answered {X = Memory} (made a b l.0) l.1 in
        let third = λ (a b rest : List ℕ). limits_at bounds rest >>= fourth a b in
        let second = λ (a : List ℕ) (b : List ℕ × List ℕ). byte_at import_kind_fault 0x02 b.1 >>= third a b.0 in
        let first = λ (a : List ℕ × List ℕ). name_at a.1 >>= second a.0 in
        let p = bound (name_at bytes) first (m, rest) e in
        let one = name_lawful.takes bytes p.0.0 p.0.1 fits p.1 in
        let fits1 = fits_behind bytes one.0 p.0.1 fits one.1 in
        let q = bound (name_at p.0.1) (second p.0.0) (m, rest) p.2 in
        let two = name_lawful.takes p.0.1 q.0.0 q.0.1 fits1 q.1 in
        let fits2 = fits_behind p.0.1 two.0 q.0.1 fits1 two.1 in
        let z = bound (byte_at import_kind_fault 0x02 q.0.1) (third p.0.0 q.0.0) (m, rest) q.2 in
        let kind = byte_takes import_kind_fault 0x02 q.0.1 z.0 z.1 in
        let fits3 = fits_behind q.0.1 (0x02 ∷ []) z.0 fits2 kind in
        let r = bound (limits_at bounds z.0) (fourth p.0.0 q.0.0) (m, rest) z.2 in
        let three = limits_lawful.takes z.0 r.0.0 r.0.1 fits3 r.1 in
        let is = pair_is {A = Memory} (made p.0.0 q.0.0 r.0.0, r.0.1) (m, rest) r.2 in
        let text : List ℕ = one.0 ++ (two.0 ++ 0x02 ∷ three.0) in
        let spelled : MemoryImport text (made p.0.0 q.0.0 r.0.0) =
        record { first = one.0; second = two.0; third = three.0; named = named p.0.0 q.0.0; parts = refl; from = one.2; name = two.2; limits = three.2.spelled; import_is = refl } in
        let limited : LimitedImport text (made p.0.0 q.0.0 r.0.0) = record { spelled = spelled; within = three.2.within } in (
          text,
          one.1 ∙ ap (λ (l : List ℕ). one.0 ++ l) (two.1 ∙ ap (λ (l : List ℕ). two.0 ++ l) (kind ∙ ap (λ (l : List ℕ). 0x02 ∷ l) (three.1 ∙ ap (λ (l : List ℕ). three.0 ++ l) is.1))) ∙ simp append_assoc,
          subst (λ (x : Memory). LimitedImport text x) is.0 limited,
        );
    again = λ text m rest k. let d = k.spelled in rw d.parts (
        let flat : (d.first ++ (d.second ++ 0x02 ∷ d.third)) ++ rest ≡ d.first ++ (d.second ++ 0x02 ∷ (d.third ++ rest)) = simp append_assoc in
        ap (import_at bounds) flat ∙ rw (
          name_lawful.again d.first d.named.module (d.second ++ 0x02 ∷ (d.third ++ rest)) d.from,
          name_lawful.again d.second d.named.name (0x02 ∷ (d.third ++ rest)) d.name,
          limits_lawful.again d.third m.limits rest (record { spelled = d.limits; within = k.within }),
          ← d.import_is,
        ) refl);
  }
