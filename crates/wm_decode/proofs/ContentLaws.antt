-- Imports, memories, globals, exports and data are read as they are spelled.
use Rattle.std.proofs.Common.{◌≡◌, ℕ, zero, suc, ◌-◌, ◌^◌, ◌≤◌, Bool, true, false, cond, ltb, eqb, List, [], ◌∷◌, ◌++◌, length, Option, Some, None, Result, Ok, Err, refl, sym, ap, subst, ◌∙◌, append_assoc, inl, inr}
use Rattle.std.specs.Prelude.{is_some}
use Rattle.std.proofs.lemmas.List.{append-nil}
use Rattle.std.proofs.lemmas.Bool.{eqb-true, eq-eqb, ltb-false, le-ltb}
use Rattle.wm_ast.specs.Exports.{export_at}
use Rattle.wm_ast.specs.declared.types.ValType.{ValType}
use Rattle.wm_ast.specs.declared.types.Limits.{Limits}
use Rattle.wm_ast.specs.declared.types.Mutability.{Mutability}
use Rattle.wm_ast.specs.declared.types.Mutability.TheVariants.{Constant, Variable}
use Rattle.wm_ast.specs.declared.exports.Export.{Export}
use Rattle.wm_ast.specs.declared.exports.ExportKind.{ExportKind}
use Rattle.wm_ast.specs.declared.exports.ExportKind.TheVariants as kind
use Rattle.wm_ast.specs.declared.module.ConstExpr.{ConstExpr}
use Rattle.wm_ast.specs.declared.module.ConstExpr.TheVariants.{I32, I64}
use Rattle.wm_ast.specs.declared.module.Global.{Global}
use Rattle.wm_ast.specs.declared.module.Memory.{Memory}
use Rattle.wm_ast.specs.declared.module.DataSegment.{DataSegment}
use Rattle.wm_decode.specs.declared.fault.Limit.TheVariants.{Functions}
use Rattle.wm_decode.specs.declared.fault.Feature.TheVariants as feature
use Rattle.wm_decode.specs.declared.fault.FaultKind.TheVariants.{CountMismatch, DuplicateExport, Unsupported}
use Rattle.wm_decode.specs.Faults.{export_kind_fault, import_kind_fault, segment_flag_fault}
use Rattle.wm_decode.specs.Bounds.{Bounds}
use Rattle.wm_decode.specs.Stop.{Stop, stop, past}
use Rattle.wm_decode.specs.Numbers.{Signed, U32, IsBytes}
use Rattle.wm_decode.specs.Vectors.{Vector}
use Rattle.wm_decode.specs.Instructions.{value_type}
use Rattle.wm_decode.specs.Parts.{Initial, i32, i64, mutability, GlobalEntry, export_kind, ExportEntry, Exports, no_export, export, ExportVector, Segment}
use Rattle.wm_decode.specs.Module.{AtMostOne, NoItems, Agrees}
use Rattle.wm_decode.specs.Reading.{◌>>=◌, signed_at}
use Rattle.wm_decode.specs.ReadingVectors.{u32_at, items_at, byte_vector_at, name_at, more_at}
use Rattle.wm_decode.specs.ReadingInstructions.{value_type_at}
use Rattle.wm_decode.specs.ReadingParts.{byte_at, unsupported, bad_number, end_at, limits_at, import_at, second_import_at, imports_at, memories_at, indices_at, no_items_at, initial_at, mutability_at, global_at, export_kind_at, export_entry_at, export_step, exports_at, segment_at, segments_at, agrees}
use Rattle.wm_decode.proofs.Steps.{bound, passed, met, chosen, pair_is, fits_behind, answered}
use Rattle.wm_decode.proofs.NumberLaws.{unsigned_takes, unsigned_again, signed_takes, signed_again}
use Rattle.wm_decode.proofs.Lawful.{Lawful, number_lawful, items_law, items_again_law, byte_vector_takes, byte_vector_again}
use Rattle.wm_decode.proofs.TypeLaws.{name_lawful, value_takes, value_again, byte_takes, make_none, make_one, take_none, take_one, Limited, limits_lawful, LimitedImport, import_lawful}

-- no second import is read
no_second : (bytes : List ℕ) (z : Option Memory × List ℕ) → second_import_at bytes ≡ Ok z → ⊥
unfolding second_import_at
no_second bytes z e =
    let last = λ (left : List ℕ) (rest : List ℕ). let k : Result (Option Memory × List ℕ) Stop = Err (unsupported feature.SeveralMemories left) in k in
    let third = λ (b : List ℕ × List ℕ). byte_at import_kind_fault 0x02 b.1 >>= last b.1 in
    let p = bound (name_at bytes) (λ a. name_at a.1 >>= third) z e in
    let q = bound (name_at p.0.1) third z p.2 in
    let r = bound (byte_at import_kind_fault 0x02 q.0.1) (last q.0.1) z q.2 in
    let k = r.2 in absurd cc

only_one : (count : ℕ) (o : Option Memory) (rest : List ℕ) (z : Option Memory × List ℕ) → cond (eqb count 1) (answered {X = Option Memory} o rest) (second_import_at rest) ≡ Ok z → (eqb count 1 ≡ true) × (answered {X = Option Memory} o rest ≡ Ok z)
only_one count o rest z e = elim (chosen (eqb count 1) (answered {X = Option Memory} o rest) (second_import_at rest) (Ok z) e) [
  | inl h ↦ h
  | inr h ↦ absurd (no_second rest z h.1)
]

module _ (bounds : Bounds) where
  pub imports_again : (text : List ℕ) (r : Option Memory) (rest : List ℕ) → AtMostOne (LimitedImport bounds) text r → imports_at bounds (text ++ rest) ≡ Ok (r, rest)
  unfolding imports_at
  imports_again text None rest v = rw (unsigned_again (take_none (LimitedImport bounds) text v) rest) refl
  imports_again text (Some m) rest v =
      let o = take_one (LimitedImport bounds) text m v in
      rw (o.parts, append_assoc, unsigned_again o.counted (o.item ++ rest), (import_lawful bounds).again o.item m rest o.spelled) refl

  pub imports_lawful : Lawful (AtMostOne (LimitedImport bounds)) (imports_at bounds)
  unfolding imports_at
  imports_lawful = record {
    takes = λ bytes r rest fits e.
        let some = λ (count : ℕ) (m : Memory × List ℕ). cond (eqb count 1) (answered {X = Option Memory} (Some m.0) m.1) (second_import_at m.1) in
        let one = λ (count : ℕ × List ℕ). import_at bounds count.1 >>= some count.0 in
        let a = bound (u32_at bytes) (λ count. cond (eqb count.0 0) (answered {X = Option Memory} None count.1) (one count)) (r, rest) e in
        let t = unsigned_takes (2 ^ 32 - 1) bytes a.0.0 a.0.1 fits a.1 in
        elim (chosen (eqb a.0.0 0) (answered {X = Option Memory} None a.0.1) (one a.0) (Ok (r, rest)) a.2) [
          | inl h ↦
              let is = pair_is {A = Option Memory} (None, a.0.1) (r, rest) h.1 in
              (t.0, t.1 ∙ ap (λ (l : List ℕ). t.0 ++ l) is.1, subst (λ (o : Option Memory). AtMostOne (LimitedImport bounds) t.0 o) is.0 (make_none (LimitedImport bounds) t.0 a.0.0 t.2 (eqb-true a.0.0 0 h.0)))
          | inr h ↦
              let b = bound (import_at bounds a.0.1) (some a.0.0) (r, rest) h.1 in
              let m = only_one a.0.0 (Some b.0.0) b.0.1 (r, rest) b.2 in
              let v = (import_lawful bounds).takes a.0.1 b.0.0 b.0.1 (fits_behind bytes t.0 a.0.1 fits t.1) b.1 in
              let is = pair_is {A = Option Memory} (Some b.0.0, b.0.1) (r, rest) m.1 in (
                t.0 ++ v.0,
                t.1 ∙ ap (λ (l : List ℕ). t.0 ++ l) (v.1 ∙ ap (λ (l : List ℕ). v.0 ++ l) is.1) ∙ sym (append_assoc t.0 v.0 rest),
                subst (λ (o : Option Memory). AtMostOne (LimitedImport bounds) (t.0 ++ v.0) o) is.0 (make_one (LimitedImport bounds) t.0 a.0.0 v.0 b.0.0 t.2 (eqb-true a.0.0 1 m.0) v.2),
              )
        ];
    again = λ text r rest v. imports_again text r rest v;
  }

  -- no memory is defined where one is imported
  pub record Defined (imported : Bool) (text : List ℕ) (l : Option Limits) : Type 0 where
    pub spelled : AtMostOne (Limited bounds) text l
    pub one : imported ≡ true → l ≡ None

  pub memories_again : (imported : Bool) (text : List ℕ) (r : Option Limits) (rest : List ℕ) → Defined imported text r → memories_at bounds imported (text ++ rest) ≡ Ok (r, rest)
  unfolding memories_at
  memories_again imported text None rest d = rw (unsigned_again (take_none (Limited bounds) text d.spelled) rest) refl
  memories_again true text (Some l) rest d = let h : Some l ≡ None = d.one refl in absurd cc
  memories_again false text (Some l) rest d =
      let o = take_one (Limited bounds) text l d.spelled in
      rw (o.parts, append_assoc, unsigned_again o.counted (o.item ++ rest), (limits_lawful bounds).again o.item l rest o.spelled) refl

  pub memories_take : (imported : Bool) (bytes : List ℕ) (r : Option Limits) (rest : List ℕ) → IsBytes bytes → memories_at bounds imported bytes ≡ Ok (r, rest) → (text : List ℕ) × (bytes ≡ text ++ rest) × Defined imported text r
  unfolding memories_at
  memories_take imported bytes r rest fits e =
      let some = λ (l : Limits × List ℕ). answered {X = Option Limits} (Some l.0) l.1 in
      let several : Stop = unsupported feature.SeveralMemories bytes in
      let one = λ (count : ℕ × List ℕ). cond (eqb count.0 1) (limits_at bounds count.1 >>= some) (Err several) in
      let a = bound (u32_at bytes) (λ count. cond (eqb count.0 0) (answered {X = Option Limits} None count.1) (cond imported (Err several) (one count))) (r, rest) e in
      let t = unsigned_takes (2 ^ 32 - 1) bytes a.0.0 a.0.1 fits a.1 in
      elim (chosen (eqb a.0.0 0) (answered {X = Option Limits} None a.0.1) (cond imported (Err several) (one a.0)) (Ok (r, rest)) a.2) [
        | inl h ↦
            let is = pair_is {A = Option Limits} (None, a.0.1) (r, rest) h.1 in
            let v : AtMostOne (Limited bounds) t.0 None = make_none (Limited bounds) t.0 a.0.0 t.2 (eqb-true a.0.0 0 h.0) in
            let d : Defined imported t.0 None = record { spelled = v; one = λ k. refl } in
            (t.0, t.1 ∙ ap (λ (l : List ℕ). t.0 ++ l) is.1, subst (λ (o : Option Limits). Defined imported t.0 o) is.0 d)
        | inr h ↦
            let n = passed _ imported (one a.0) (r, rest) h.1 in
            let m = met _ (eqb a.0.0 1) (limits_at bounds a.0.1 >>= some) (r, rest) n.1 in
            let b = bound (limits_at bounds a.0.1) some (r, rest) m.1 in
            let v = (limits_lawful bounds).takes a.0.1 b.0.0 b.0.1 (fits_behind bytes t.0 a.0.1 fits t.1) b.1 in
            let is = pair_is {A = Option Limits} (Some b.0.0, b.0.1) (r, rest) b.2 in
            let w : AtMostOne (Limited bounds) (t.0 ++ v.0) (Some b.0.0) = make_one (Limited bounds) t.0 a.0.0 v.0 b.0.0 t.2 (eqb-true a.0.0 1 m.0) v.2 in
            let d : Defined imported (t.0 ++ v.0) (Some b.0.0) = record { spelled = w; one = λ k. let c : true ≡ false = sym k ∙ n.0 in absurd cc } in
            (t.0 ++ v.0, t.1 ∙ ap (λ (l : List ℕ). t.0 ++ l) (v.1 ∙ ap (λ (l : List ℕ). v.0 ++ l) is.1) ∙ sym (append_assoc t.0 v.0 rest), subst (λ (o : Option Limits). Defined imported (t.0 ++ v.0) o) is.0 d)
      ]

  pub memories_lawful : (imported : Bool) → Lawful (Defined imported) (memories_at bounds imported)
  memories_lawful imported = record { takes = memories_take imported; again = memories_again imported }

  -- type indices within the bounds
  pub record Indices (text : List ℕ) (is : List ℕ) : Type 0 where
    pub spelled : Vector U32 text is
    pub within : length is ≤ bounds.functions

  pub indices_lawful : Lawful Indices (indices_at bounds)
  unfolding indices_at
  indices_lawful = record {
    takes = λ bytes is rest fits e.
        let a = bound (u32_at bytes) (λ count. cond (ltb bounds.functions count.0) (Err (past Functions (length bytes))) (items_at u32_at count.0 count.1)) (is, rest) e in
        let t = unsigned_takes (2 ^ 32 - 1) bytes a.0.0 a.0.1 fits a.1 in
        let w = passed _ (ltb bounds.functions a.0.0) (items_at u32_at a.0.0 a.0.1) (is, rest) a.2 in
        let r = items_law U32 u32_at (number_lawful (2 ^ 32 - 1)) a.0.0 a.0.1 is rest (fits_behind bytes t.0 a.0.1 fits t.1) w.1 in
        let le : a.0.0 ≤ bounds.functions = ltb-false bounds.functions a.0.0 w.0 in (
          t.0 ++ r.0,
          t.1 ∙ ap (λ (l : List ℕ). t.0 ++ l) r.1 ∙ sym (append_assoc t.0 r.0 rest),
          record { spelled = record { count = t.0; items = r.0; parts = refl; counted = subst (λ (n : ℕ). U32 t.0 n) (sym r.3) t.2; each = r.2 }; within = subst (λ (n : ℕ). n ≤ bounds.functions) (sym r.3) le },
        );
    again = λ text is rest d. let v = d.spelled in
        rw (v.parts, append_assoc, unsigned_again v.counted (v.items ++ rest), le-ltb bounds.functions (length is) d.within) (items_again_law U32 u32_at (number_lawful (2 ^ 32 - 1)) v.each rest);
  }

pub no_items_lawful : Lawful NoItems no_items_at
unfolding no_items_at
no_items_lawful = record {
  takes = λ bytes n rest fits e.
      let a = bound (u32_at bytes) (λ count. cond (eqb count.0 0) (Ok count) (Err (unsupported feature.Table bytes))) (n, rest) e in
      let t = unsigned_takes (2 ^ 32 - 1) bytes a.0.0 a.0.1 fits a.1 in
      let m = met _ (eqb a.0.0 0) (Ok a.0) (n, rest) a.2 in
      let is = pair_is a.0 (n, rest) m.1 in
      (t.0, t.1 ∙ ap (λ (l : List ℕ). t.0 ++ l) is.1, (subst (λ (k : ℕ). U32 t.0 k) is.0 t.2, sym is.0 ∙ eqb-true a.0.0 0 m.0));
  again = λ text n rest d. rw (unsigned_again d.0 rest, d.1) refl;
}

-- a constant, and its end
constant_takes : (Number : List ℕ → ℕ → Type 0) (read : List ℕ → Result (ℕ × List ℕ) Stop) (make : ℕ → ConstExpr) (code : ℕ) (bytes : List ℕ) (c : ConstExpr) (rest : List ℕ) → IsBytes bytes
    → ((n : ℕ) (rest : List ℕ) → read bytes ≡ Ok (n, rest) → (text : List ℕ) × (bytes ≡ text ++ rest) × Number text n)
    → ((text : List ℕ) (n : ℕ) → Number text n → Initial (code ∷ text ++ 0x0B ∷ []) (make n))
    → (read bytes >>= λ n. end_at n.1 >>= λ rest. answered (make n.0) rest) ≡ Ok (c, rest) → (text : List ℕ) × (code ∷ bytes ≡ text ++ rest) × Initial text c
constant_takes Number read make code bytes c rest fits takes spell e =
    let last = λ (n : ℕ) (rest : List ℕ). answered (make n) rest in
    let a = bound (read bytes) (λ n. end_at n.1 >>= last n.0) (c, rest) e in
    let t = takes a.0.0 a.0.1 a.1 in
    let b = bound (end_at a.0.1) (last a.0.0) (c, rest) a.2 in
    let end = byte_takes (λ b. Unsupported feature.ConstExpression) 0x0B a.0.1 b.0 b.1 in
    let is = pair_is (make a.0.0, b.0) (c, rest) b.2 in (
      code ∷ t.0 ++ 0x0B ∷ [],
      ap (λ (l : List ℕ). code ∷ l) (t.1 ∙ ap (λ (l : List ℕ). t.0 ++ l) (end ∙ ap (λ (l : List ℕ). 0x0B ∷ l) is.1) ∙ sym (append_assoc t.0 (0x0B ∷ []) rest)),
      subst (λ (x : ConstExpr). Initial (code ∷ t.0 ++ 0x0B ∷ []) x) is.0 (spell t.0 a.0.0 t.2),
    )

initial_takes : (bytes : List ℕ) (c : ConstExpr) (rest : List ℕ) → IsBytes bytes → initial_at bytes ≡ Ok (c, rest) → (text : List ℕ) × (bytes ≡ text ++ rest) × Initial text c
unfolding initial_at
initial_takes [] c rest fits e = absurd cc
initial_takes (b ∷ bytes) c rest fits e =
    let of32 = signed_at (2 ^ 32 - 1) bytes >>= λ n. end_at n.1 >>= λ rest. answered (I32 n.0) rest in
    let of64 = signed_at (2 ^ 64 - 1) bytes >>= λ n. end_at n.1 >>= λ rest. answered (I64 n.0) rest in
    elim (chosen (eqb b 0x41) of32 (cond (eqb b 0x42) of64 (Err (unsupported feature.ConstExpression (b ∷ bytes)))) (Ok (c, rest)) e) [
      | inl h ↦
          let r = constant_takes (Signed (2 ^ 32 - 1)) (signed_at (2 ^ 32 - 1)) I32 0x41 bytes c rest fits.1 (λ n rest k. signed_takes (2 ^ 32 - 1) bytes n rest fits.1 k) (λ t n d. i32 d) h.1 in
          (r.0, ap (λ (k : ℕ). k ∷ bytes) (eqb-true b 0x41 h.0) ∙ r.1, r.2)
      | inr g ↦
          let h = met _ (eqb b 0x42) of64 (c, rest) g.1 in
          let r = constant_takes (Signed (2 ^ 64 - 1)) (signed_at (2 ^ 64 - 1)) I64 0x42 bytes c rest fits.1 (λ n rest k. signed_takes (2 ^ 64 - 1) bytes n rest fits.1 k) (λ t n d. i64 d) h.1 in
          (r.0, ap (λ (k : ℕ). k ∷ bytes) (eqb-true b 0x42 h.0) ∙ r.1, r.2)
    ]

initial_again : {text : List ℕ} {c : ConstExpr} → Initial text c → (rest : List ℕ) → initial_at (text ++ rest) ≡ Ok (c, rest)
unfolding initial_at
initial_again (i32 {text = t} d) rest =
    let flat : (0x41 ∷ t ++ 0x0B ∷ []) ++ rest ≡ 0x41 ∷ (t ++ 0x0B ∷ rest) = simp append_assoc in ap initial_at flat ∙ rw (signed_again d (0x0B ∷ rest)) refl
initial_again (i64 {text = t} d) rest =
    let flat : (0x42 ∷ t ++ 0x0B ∷ []) ++ rest ≡ 0x42 ∷ (t ++ 0x0B ∷ rest) = simp append_assoc in ap initial_at flat ∙ rw (signed_again d (0x0B ∷ rest)) refl

pub initial_lawful : Lawful Initial initial_at
initial_lawful = record { takes = initial_takes; again = λ text c rest d. initial_again d rest }

mutability_takes : (bytes : List ℕ) (m : Mutability) (rest : List ℕ) → mutability_at bytes ≡ Ok (m, rest) → bytes ≡ mutability m ∷ rest
unfolding mutability_at
mutability_takes [] m rest e = absurd cc
mutability_takes (b ∷ bytes) m rest e =
    elim (chosen (eqb b 0x00) (answered Constant bytes) (cond (eqb b 0x01) (answered Variable bytes) (Err (bad_number (b ∷ bytes)))) (Ok (m, rest)) e) [
      | inl h ↦ let is = pair_is (Constant, bytes) (m, rest) h.1 in rw (eqb-true b 0x00 h.0, ← is.0, is.1) refl
      | inr f ↦
          let h = met _ (eqb b 0x01) (answered Variable bytes) (m, rest) f.1 in
          let is = pair_is (Variable, bytes) (m, rest) h.1 in rw (eqb-true b 0x01 h.0, ← is.0, is.1) refl
    ]

mutability_again : (m : Mutability) (rest : List ℕ) → mutability_at (mutability m ∷ rest) ≡ Ok (m, rest)
unfolding mutability_at
mutability_again Constant rest = refl
mutability_again Variable rest = refl

pub global_lawful : Lawful GlobalEntry global_at
unfolding global_at
global_lawful = record {
  takes = λ bytes g rest fits e.
      let made = λ (ty : ValType) (m : Mutability) (c : ConstExpr). let k : Global = record { ty = ty; mutability = m; init = c } in k in
      let third = λ (ty : ValType) (m : Mutability) (c : ConstExpr × List ℕ). answered {X = Global} (made ty m c.0) c.1 in
      let second = λ (ty : ValType) (m : Mutability × List ℕ). initial_at m.1 >>= third ty m.0 in
      let first = λ (ty : ValType × List ℕ). mutability_at ty.1 >>= second ty.0 in
      let a = bound (value_type_at bytes) first (g, rest) e in
      let one = value_takes bytes a.0.0 a.0.1 a.1 in
      let fits1 = fits_behind bytes (value_type a.0.0 ∷ []) a.0.1 fits one in
      let b = bound (mutability_at a.0.1) (second a.0.0) (g, rest) a.2 in
      let two = mutability_takes a.0.1 b.0.0 b.0.1 b.1 in
      let fits2 = fits_behind a.0.1 (mutability b.0.0 ∷ []) b.0.1 fits1 two in
      let c = bound (initial_at b.0.1) (third a.0.0 b.0.0) (g, rest) b.2 in
      let three = initial_takes b.0.1 c.0.0 c.0.1 fits2 c.1 in
      let is = pair_is {A = Global} (made a.0.0 b.0.0 c.0.0, c.0.1) (g, rest) c.2 in
      let text : List ℕ = value_type a.0.0 ∷ mutability b.0.0 ∷ three.0 in
      let spelled : GlobalEntry text (made a.0.0 b.0.0 c.0.0) = record { init = three.0; parts = refl; spelled = three.2 } in
      (text, one ∙ ap (λ (l : List ℕ). value_type a.0.0 ∷ l) (two ∙ ap (λ (l : List ℕ). mutability b.0.0 ∷ l) (three.1 ∙ ap (λ (l : List ℕ). three.0 ++ l) is.1)), subst (λ (x : Global). GlobalEntry text x) is.0 spelled);
  again = λ text g rest d. rw (d.parts, value_again g.ty (mutability g.mutability ∷ (d.init ++ rest)), mutability_again g.mutability (d.init ++ rest), initial_again d.spelled rest) refl;
}

pub segment_lawful : Lawful Segment segment_at
unfolding segment_at
segment_lawful = record {
  takes = λ bytes s rest fits e.
      let made = λ (c : ConstExpr) (bs : List ℕ). let k : DataSegment = record { offset = c; bytes = bs } in k in
      let third = λ (c : ConstExpr) (bs : List ℕ × List ℕ). answered {X = DataSegment} (made c bs.0) bs.1 in
      let second = λ (c : ConstExpr × List ℕ). byte_vector_at c.1 >>= third c.0 in
      let z = bound (byte_at segment_flag_fault 0x00 bytes) (λ rest. initial_at rest >>= second) (s, rest) e in
      let start = byte_takes segment_flag_fault 0x00 bytes z.0 z.1 in
      let fits1 = fits_behind bytes (0x00 ∷ []) z.0 fits start in
      let p = bound (initial_at z.0) second (s, rest) z.2 in
      let one = initial_takes z.0 p.0.0 p.0.1 fits1 p.1 in
      let q = bound (byte_vector_at p.0.1) (third p.0.0) (s, rest) p.2 in
      let two = byte_vector_takes p.0.1 q.0.0 q.0.1 (fits_behind z.0 one.0 p.0.1 fits1 one.1) q.1 in
      let is = pair_is {A = DataSegment} (made p.0.0 q.0.0, q.0.1) (s, rest) q.2 in
      let text : List ℕ = 0x00 ∷ one.0 ++ two.0 in
      let spelled : Segment text (made p.0.0 q.0.0) = record { first = one.0; second = two.0; parts = refl; offset = one.2; bytes = two.2 } in
      (text, start ∙ ap (λ (l : List ℕ). 0x00 ∷ l) (one.1 ∙ ap (λ (l : List ℕ). one.0 ++ l) (two.1 ∙ ap (λ (l : List ℕ). two.0 ++ l) is.1) ∙ sym (append_assoc one.0 two.0 rest)), subst (λ (x : DataSegment). Segment text x) is.0 spelled);
  again = λ text s rest d. rw d.parts (
      let flat : (0x00 ∷ d.first ++ d.second) ++ rest ≡ 0x00 ∷ (d.first ++ (d.second ++ rest)) = simp append_assoc in
      ap segment_at flat ∙ rw (initial_again d.offset (d.second ++ rest), byte_vector_again d.second s.bytes rest d.bytes) refl);
}

pub agreed : (declared : Option ℕ) (n : ℕ) → agrees declared n ≡ true → Agrees declared n
agreed None n e = tt
agreed (Some k) n e = eqb-true n k e

pub agrees_again : (declared : Option ℕ) (n : ℕ) → Agrees declared n → agrees declared n ≡ true
agrees_again None n h = refl
agrees_again (Some k) n h = eq-eqb n k h

-- data segments, as many as were declared
pub record Segments (declared : Option ℕ) (text : List ℕ) (ds : List DataSegment) : Type 0 where
  pub spelled : Vector Segment text ds
  pub agree : Agrees declared (length ds)

pub segments_lawful : (declared : Option ℕ) → Lawful (Segments declared) (segments_at declared)
unfolding segments_at
segments_lawful declared = record {
  takes = λ bytes ds rest fits e.
      let a = bound (u32_at bytes) (λ count. cond (agrees declared count.0) (items_at segment_at count.0 count.1) (Err (stop CountMismatch (length bytes)))) (ds, rest) e in
      let t = unsigned_takes (2 ^ 32 - 1) bytes a.0.0 a.0.1 fits a.1 in
      let m = met _ (agrees declared a.0.0) (items_at segment_at a.0.0 a.0.1) (ds, rest) a.2 in
      let r = items_law Segment segment_at segment_lawful a.0.0 a.0.1 ds rest (fits_behind bytes t.0 a.0.1 fits t.1) m.1 in (
        t.0 ++ r.0,
        t.1 ∙ ap (λ (l : List ℕ). t.0 ++ l) r.1 ∙ sym (append_assoc t.0 r.0 rest),
        record { spelled = record { count = t.0; items = r.0; parts = refl; counted = subst (λ (n : ℕ). U32 t.0 n) (sym r.3) t.2; each = r.2 }; agree = subst (λ (n : ℕ). Agrees declared n) (sym r.3) (agreed declared a.0.0 m.0) },
      );
  again = λ text ds rest d. let v = d.spelled in
      rw (v.parts, append_assoc, unsigned_again v.counted (v.items ++ rest), agrees_again declared (length ds) d.agree) (items_again_law Segment segment_at segment_lawful v.each rest);
}

kind_takes : (bytes : List ℕ) (k : ExportKind) (rest : List ℕ) → export_kind_at bytes ≡ Ok (k, rest) → bytes ≡ export_kind k ∷ rest
unfolding export_kind_at
kind_takes [] k rest e = absurd cc
kind_takes (b ∷ bytes) k rest e =
    let third = cond (eqb b 0x03) (answered kind.Global bytes) (Err (stop (export_kind_fault b) (length (b ∷ bytes)))) in
    elim (chosen (eqb b 0x00) (answered kind.Func bytes) (cond (eqb b 0x02) (answered kind.Memory bytes) third) (Ok (k, rest)) e) [
      | inl h ↦ let is = pair_is (kind.Func, bytes) (k, rest) h.1 in rw (eqb-true b 0x00 h.0, ← is.0, is.1) refl
      | inr g ↦ elim (chosen (eqb b 0x02) (answered kind.Memory bytes) third (Ok (k, rest)) g.1) [
        | inl h ↦ let is = pair_is (kind.Memory, bytes) (k, rest) h.1 in rw (eqb-true b 0x02 h.0, ← is.0, is.1) refl
        | inr f ↦
            let h = met _ (eqb b 0x03) (answered kind.Global bytes) (k, rest) f.1 in
            let is = pair_is (kind.Global, bytes) (k, rest) h.1 in rw (eqb-true b 0x03 h.0, ← is.0, is.1) refl
      ]
    ]

kind_again : (k : ExportKind) (rest : List ℕ) → export_kind_at (export_kind k ∷ rest) ≡ Ok (k, rest)
unfolding export_kind_at
kind_again kind.Func rest = refl
kind_again kind.Memory rest = refl
kind_again kind.Global rest = refl

-- an export whose name differs from all earlier ones
record NewExport (earlier : List (List ℕ × Export)) (text : List ℕ) (e : List ℕ × Export) : Type 0 where
  spelled : ExportEntry text e
  new : export_at e.0 earlier ≡ None

is_none : {X : Type 0} (o : Option X) → is_some o ≡ false → o ≡ None
is_none None e = refl
is_none (Some x) e = absurd cc

entry_lawful : (earlier : List (List ℕ × Export)) → Lawful (NewExport earlier) (export_entry_at earlier)
unfolding export_entry_at
entry_lawful earlier = record {
  takes = λ bytes x rest fits e.
      let made = λ (n : List ℕ) (k : ExportKind) (i : ℕ). let p : List ℕ × Export = (n, record { kind = k; index = i }) in p in
      let third = λ (n : List ℕ) (k : ExportKind) (i : ℕ × List ℕ). answered {X = List ℕ × Export} (made n k i.0) i.1 in
      let second = λ (n : List ℕ) (k : ExportKind × List ℕ). u32_at k.1 >>= third n k.0 in
      let first = λ (n : List ℕ × List ℕ). cond (is_some (export_at n.0 earlier)) (Err (stop DuplicateExport (length bytes))) (export_kind_at n.1 >>= second n.0) in
      let a = bound (name_at bytes) first (x, rest) e in
      let one = name_lawful.takes bytes a.0.0 a.0.1 fits a.1 in
      let fits1 = fits_behind bytes one.0 a.0.1 fits one.1 in
      let n = passed _ (is_some (export_at a.0.0 earlier)) (export_kind_at a.0.1 >>= second a.0.0) (x, rest) a.2 in
      let b = bound (export_kind_at a.0.1) (second a.0.0) (x, rest) n.1 in
      let two = kind_takes a.0.1 b.0.0 b.0.1 b.1 in
      let fits2 = fits_behind a.0.1 (export_kind b.0.0 ∷ []) b.0.1 fits1 two in
      let c = bound (u32_at b.0.1) (third a.0.0 b.0.0) (x, rest) b.2 in
      let three = unsigned_takes (2 ^ 32 - 1) b.0.1 c.0.0 c.0.1 fits2 c.1 in
      let is = pair_is {A = List ℕ × Export} (made a.0.0 b.0.0 c.0.0, c.0.1) (x, rest) c.2 in
      let text : List ℕ = one.0 ++ export_kind b.0.0 ∷ three.0 in
      let spelled : NewExport earlier text (made a.0.0 b.0.0 c.0.0) = record { spelled = record { first = one.0; second = three.0; parts = refl; name = one.2; index = three.2 }; new = is_none (export_at a.0.0 earlier) n.0 } in (
        text,
        one.1 ∙ ap (λ (l : List ℕ). one.0 ++ l) (two ∙ ap (λ (l : List ℕ). export_kind b.0.0 ∷ l) (three.1 ∙ ap (λ (l : List ℕ). three.0 ++ l) is.1)) ∙ sym (append_assoc one.0 (export_kind b.0.0 ∷ three.0) rest),
        subst (λ (y : List ℕ × Export). NewExport earlier text y) is.0 spelled,
      );
  again = λ text x rest n. let d = n.spelled in
      rw (d.parts, append_assoc, name_lawful.again d.first x.0 (export_kind x.1.kind ∷ (d.second ++ rest)) d.name, n.new, kind_again x.1.kind (d.second ++ rest), unsigned_again d.index rest) refl;
}

exports_take : (n : ℕ) (earlier : List (List ℕ × Export)) (bytes : List ℕ) (all : List (List ℕ × Export)) (rest : List ℕ) → IsBytes bytes → more_at export_step n earlier bytes ≡ Ok (all, rest)
    → (es : List (List ℕ × Export)) × (text : List ℕ) × (all ≡ earlier ++ es) × (bytes ≡ text ++ rest) × Exports earlier text es × (length es ≡ n)
unfolding more_at
exports_take zero earlier bytes all rest fits e =
    let is = pair_is {A = List (List ℕ × Export)} (earlier, bytes) (all, rest) e in
    ([], [], sym is.0 ∙ sym (append-nil earlier), is.1, no_export, refl)
exports_take (suc n) earlier bytes all rest fits e =
    let a = bound (export_step earlier bytes) (λ x. more_at export_step n x.0 x.1) (all, rest) e in
    let b = bound (export_entry_at earlier bytes) (λ (x : (List ℕ × Export) × List ℕ). answered {X = List (List ℕ × Export)} (earlier ++ x.0 ∷ []) x.1) a.0 a.1 in
    let is = pair_is {A = List (List ℕ × Export)} (earlier ++ b.0.0 ∷ [], b.0.1) a.0 b.2 in
    let t = (entry_lawful earlier).takes bytes b.0.0 b.0.1 fits b.1 in
    let step : more_at export_step n (earlier ++ b.0.0 ∷ []) b.0.1 ≡ Ok (all, rest) = rw (is.0, is.1) a.2 in
    let r = exports_take n (earlier ++ b.0.0 ∷ []) b.0.1 all rest (fits_behind bytes t.0 b.0.1 fits t.1) step in
    (b.0.0 ∷ r.0, t.0 ++ r.1, r.2 ∙ append_assoc earlier (b.0.0 ∷ []) r.0, t.1 ∙ ap (λ (l : List ℕ). t.0 ++ l) r.3 ∙ sym (append_assoc t.0 r.1 rest), export t.2.spelled t.2.new r.4, ap suc r.5)

exports_again : {earlier : List (List ℕ × Export)} {text : List ℕ} {es : List (List ℕ × Export)} → Exports earlier text es → (rest : List ℕ) → more_at export_step (length es) earlier (text ++ rest) ≡ Ok (earlier ++ es, rest)
unfolding more_at
exports_again (no_export {earlier = earlier}) rest = ap (λ (l : List (List ℕ × Export)). answered l rest) (sym (append-nil earlier))
exports_again (export {earlier = earlier} {es = es} {e = e} {text = t} {rest = r} d n more) rest =
    rw (append_assoc, (entry_lawful earlier).again t e (r ++ rest) (record { spelled = d; new = n }), exports_again more rest) (ap (λ (l : List (List ℕ × Export)). answered l rest) (append_assoc earlier (e ∷ []) es))

pub exports_lawful : Lawful ExportVector exports_at
unfolding exports_at
exports_lawful = record {
  takes = λ bytes es rest fits e.
      let a = bound (u32_at bytes) (λ count. more_at export_step count.0 [] count.1) (es, rest) e in
      let t = unsigned_takes (2 ^ 32 - 1) bytes a.0.0 a.0.1 fits a.1 in
      let r = exports_take a.0.0 [] a.0.1 es rest (fits_behind bytes t.0 a.0.1 fits t.1) a.2 in
      let spelled : ExportVector (t.0 ++ r.1) r.0 = record { count = t.0; items = r.1; parts = refl; counted = subst (λ (n : ℕ). U32 t.0 n) (sym r.5) t.2; each = r.4 } in
      (t.0 ++ r.1, t.1 ∙ ap (λ (l : List ℕ). t.0 ++ l) r.3 ∙ sym (append_assoc t.0 r.1 rest), subst (λ (x : List (List ℕ × Export)). ExportVector (t.0 ++ r.1) x) (sym r.2) spelled);
  again = λ text es rest d. rw (d.parts, append_assoc, unsigned_again d.counted (d.items ++ rest)) (exports_again d.each rest);
}
