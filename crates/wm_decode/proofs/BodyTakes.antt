-- What is read is spelled so.
use Rattle.std.proofs.Common.{◌≡◌, ℕ, zero, suc, ◌+◌, ◌-◌, ◌<◌, ◌^◌, false, cond, eqb, List, [], ◌∷◌, ◌++◌, length, Option, Some, None, Result, Ok, Err, refl, sym, ap, subst, ◌∙◌, arith, inl, inr, append_assoc, add-zero, length-append}
use Rattle.std.proofs.lemmas.Bool.{eqb-true, eqb-false}
use Rattle.wm_ast.specs.declared.access.AccessKind.{AccessKind}
use Rattle.wm_ast.specs.declared.instr.Instr.{Instr}
use Rattle.wm_ast.specs.declared.instr.Instr.TheVariants as instr
use Rattle.wm_ast.specs.declared.types.ValType.{ValType}
use Rattle.wm_ast.specs.declared.types.ValType.TheVariants.{I32, I64}
use Rattle.wm_ast.specs.declared.instr.Else.TheVariants.{Present, Absent}
use Rattle.wm_decode.specs.declared.fault.FaultKind.TheVariants.{UnknownOpcode}
use Rattle.wm_decode.specs.Faults.{block_type_fault, atomic_fault, opcode_fault}
use Rattle.wm_decode.specs.declared.opcode.Opcode.{Opcode}
use Rattle.wm_decode.specs.declared.opcode.Opcode.TheVariants as opcode
use Rattle.wm_decode.specs.Stop.{Stop, stop, map_stop, moved}
use Rattle.wm_decode.specs.Numbers.{U32, Signed, IsBytes}
use Rattle.wm_decode.specs.Opcodes.{opcode_at, atomic_at}
use Rattle.wm_decode.specs.Instructions.{block_type, indexed_instr, access_instr, Immediates, alone, indexed, br_table, access, memory_size, i32_const, i64_const, atomic, Plain, plain_instr, Spells, none, plain, block, loop, if_then, if_else}
use Rattle.wm_decode.specs.Reading.{◌>>=◌, signed_at}
use Rattle.wm_decode.specs.ReadingVectors.{u32_at, vector_at}
use Rattle.wm_decode.specs.ReadingInstructions.{block_type_at, opened_at, access_at, access_of, atomic_access_at, immediates_at, operands_of, plain_at, Body, One, then_one, else_one, Reader, closed_with, framed_with, if_with, instr_with, instrs_at}
use Rattle.wm_decode.proofs.Steps.{bound, passed, chosen, met, ok_is, pair_is, fits_behind, unmapped}
use Rattle.wm_decode.proofs.NumberLaws.{unsigned_takes, signed_takes}
use Rattle.wm_decode.proofs.Lawful.{number_lawful, vector_lawful}
use Rattle.wm_decode.proofs.BodyAgain.{IsCloser, ends, at_else, after, plain_long}

pub type_takes : (bytes : List ℕ) (ty : Option ValType) (rest : List ℕ) → block_type_at bytes ≡ Ok (ty, rest) → bytes ≡ block_type ty ∷ rest
unfolding block_type_at
type_takes [] ty rest e = absurd cc
type_takes (b ∷ bytes) ty rest e =
    elim (chosen (eqb b 0x40) (Ok (None, bytes)) (cond (eqb b 0x7F) (Ok (Some I32, bytes)) (cond (eqb b 0x7E) (Ok (Some I64, bytes)) (Err (stop (block_type_fault b) (length (b ∷ bytes)))))) (Ok (ty, rest)) e) [
      | inl h ↦ let is = pair_is (None, bytes) (ty, rest) h.1 in rw (eqb-true b 0x40 h.0, ← is.0, is.1) refl
      | inr g ↦ elim (chosen (eqb b 0x7F) (Ok (Some I32, bytes)) (cond (eqb b 0x7E) (Ok (Some I64, bytes)) (Err (stop (block_type_fault b) (length (b ∷ bytes))))) (Ok (ty, rest)) g.1) [
        | inl h ↦ let is = pair_is (Some I32, bytes) (ty, rest) h.1 in rw (eqb-true b 0x7F h.0, ← is.0, is.1) refl
        | inr f ↦
            let h = met _ (eqb b 0x7E) (Ok (Some I64, bytes)) (ty, rest) f.1 in
            let is = pair_is (Some I64, bytes) (ty, rest) h.1 in rw (eqb-true b 0x7E h.0, ← is.0, is.1) refl
      ]
    ]

-- an instruction that was read at the front
pub record Begins (depth_left next : ℕ) (bytes : List ℕ) (one : One) : Type 0 where
  pub text : List ℕ
  pub long : 0 < length text
  pub parts : bytes ≡ text ++ one.rest
  pub goes_on : (more : List ℕ) (is : List Instr) (cs : List (List Instr)) → Spells depth_left (next + length one.nested) more is cs → Spells depth_left next (text ++ more) (one.instr ∷ is) (one.nested ++ cs)

-- the instructions that were read at the front
pub record Took (depth_left next : ℕ) (bytes : List ℕ) (b : Body) : Type 0 where
  pub text : List ℕ
  pub parts : bytes ≡ text ++ b.closer ∷ b.rest
  pub spelled : Spells depth_left next text b.instrs b.nested
  pub closes : IsCloser b.closer

abbrev pub Sound : Reader → Type 0
Sound read = (depth_left next : ℕ) (bytes : List ℕ) (b : Body) → IsBytes bytes → read depth_left next bytes ≡ Ok b → Took depth_left next bytes b

has_room : (depth_left : ℕ) → eqb depth_left 0 ≡ false → 0 < depth_left
has_room zero e = absurd (eqb-false 0 0 e refl)
has_room (suc n) e = omega arith

-- a block that began
pub opened_takes : (depth_left : ℕ) (bytes : List ℕ) (ty : Option ValType) (rest : List ℕ) → opened_at depth_left bytes ≡ Ok (ty, rest) → (0 < depth_left) × (bytes ≡ block_type ty ∷ rest)
unfolding opened_at
opened_takes depth_left bytes ty rest e = let p = passed _ (eqb depth_left 0) (block_type_at bytes) (ty, rest) e in (has_room depth_left p.0, type_takes bytes ty rest p.1)

-- a block that only an end closed
pub closed_takes : (read : Reader) (depth_left next : ℕ) (bytes : List ℕ) (b : Body) → closed_with read depth_left next bytes ≡ Ok b → (read depth_left next bytes ≡ Ok b) × (b.closer ≡ 0x0B)
unfolding closed_with
closed_takes read depth_left next bytes b e =
    let q = bound (read depth_left next bytes) (λ (b : Body). let o : Result Body Stop = cond (eqb b.closer 0x0B) (Ok b) (Err (stop (UnknownOpcode b.closer) (length b.rest + 1))) in o) b e in
    let m = met _ (eqb q.0.closer 0x0B) (Ok q.0) b q.2 in
    let is : q.0 ≡ b = ok_is q.0 b m.1 in
    (subst (λ (x : Body). read depth_left next bytes ≡ Ok x) is q.1, subst (λ (x : Body). x.closer ≡ 0x0B) is (eqb-true q.0.closer 0x0B m.0))

framed_takes : (read : Reader) → Sound read → (depth_left next op : ℕ) (make : Option ValType → ℕ → Instr) (bytes : List ℕ) (one : One) → IsBytes bytes
    → ((ty : Option ValType) (inner more : List ℕ) (body is : List Instr) (bs cs : List (List Instr)) → 0 < depth_left → Spells (depth_left - 1) (next + 1) inner body bs → Spells depth_left (next + 1 + length bs) more is cs
    → Spells depth_left next (op ∷ block_type ty ∷ inner ++ 0x0B ∷ more) (make ty next ∷ is) (body ∷ bs ++ cs))
    → framed_with read depth_left next make bytes ≡ Ok one → Begins depth_left next (op ∷ bytes) one
unfolding framed_with
framed_takes read sound depth_left next op make bytes one fits build e =
    let made = λ (ty : Option ValType) (body : Body). let o : One = record { instr = make ty next; nested = body.instrs ∷ body.nested; rest = body.rest } in o in
    let second = λ (ty : Option ValType × List ℕ). closed_with read (depth_left - 1) (next + 1) ty.1 >>= λ body. Ok (made ty.0 body) in
    let q = bound (opened_at depth_left bytes) second one e in
    let opened = opened_takes depth_left bytes q.0.0 q.0.1 q.1 in
    let r = bound (closed_with read (depth_left - 1) (next + 1) q.0.1) (λ body. Ok (made q.0.0 body)) one q.2 in
    let c = closed_takes read (depth_left - 1) (next + 1) q.0.1 r.0 r.1 in
    let ty-is = opened.1 in
    let took = sound (depth_left - 1) (next + 1) q.0.1 r.0 (fits_behind bytes (block_type q.0.0 ∷ []) q.0.1 fits ty-is) c.0 in
    subst (λ (o : One). Begins depth_left next (op ∷ bytes) o) (ok_is (made q.0.0 r.0) one r.2) (record {
      text = op ∷ block_type q.0.0 ∷ took.text ++ 0x0B ∷ [];
      long = omega arith;
      parts = ap (λ (t : List ℕ). op ∷ t) (ty-is ∙ ap (λ (t : List ℕ). block_type q.0.0 ∷ t) (took.parts ∙ ap (λ (k : ℕ). took.text ++ k ∷ r.0.rest) c.1 ∙ sym (append_assoc took.text (0x0B ∷ []) r.0.rest)));
      goes_on = λ more is cs d.
          let k : next + length (r.0.instrs ∷ r.0.nested) ≡ next + 1 + length r.0.nested = omega arith in
          let d2 : Spells depth_left (next + 1 + length r.0.nested) more is cs = subst (λ (n : ℕ). Spells depth_left n more is cs) k d in
          subst (λ (t : List ℕ). Spells depth_left next (op ∷ block_type q.0.0 ∷ t) (make q.0.0 next ∷ is) (r.0.instrs ∷ r.0.nested ++ cs)) (sym (append_assoc took.text (0x0B ∷ []) more))
          (build q.0.0 took.text more r.0.instrs is r.0.nested cs opened.0 took.spelled d2);
    })

turned : (closer : ℕ) → IsCloser closer → eqb closer 0x0B ≡ false → closer ≡ 0x05
turned closer ends e = absurd cc
turned closer at_else e = refl

spell_else : {depth_left next : ℕ} {ty : Option ValType} {first second rest : List ℕ} {ys ns is : List Instr} {bs cs ds : List (List Instr)} →
    0 < depth_left → Spells (depth_left - 1) (next + 1) first ys bs → Spells (depth_left - 1) (next + 1 + length bs + 1) second ns cs →
    Spells depth_left (next + 1 + length bs + 1 + length cs) rest is ds →
    Spells depth_left next (0x04 ∷ block_type ty ∷ first ++ 0x05 ∷ (second ++ 0x0B ∷ rest)) (instr.If ty next (next + 1 + length bs) Present ∷ is) (ys ∷ bs ++ ns ∷ (cs ++ ds))
spell_else {depth_left = depth_left} {next = next} {ty = ty} {first = first} {second = second} {rest = rest} {ys = ys} {ns = ns} {is = is} {bs = bs} {cs = cs} {ds = ds} h d g e =
    let built : Spells depth_left next (0x04 ∷ block_type ty ∷ first ++ 0x05 ∷ second ++ 0x0B ∷ rest) (instr.If ty next (next + 1 + length bs) Present ∷ is) (ys ∷ bs ++ ns ∷ cs ++ ds) = if_else h d g e in
    simp append_assoc at built

then_begins : (depth_left next : ℕ) (ty : Option ValType) (bytes mid : List ℕ) (closer : ℕ) (rest : List ℕ) (ys : List Instr) (bs : List (List Instr)) (inner : List ℕ) → 0 < depth_left → bytes ≡ block_type ty ∷ mid
    → mid ≡ inner ++ closer ∷ rest → Spells (depth_left - 1) (next + 1) inner ys bs → closer ≡ 0x0B
    → Begins depth_left next (0x04 ∷ bytes) (record { instr = instr.If ty next (next + 1 + length bs) Absent; nested = ys ∷ bs ++ [] ∷ []; rest = rest })
then_begins depth_left next ty bytes mid closer rest ys bs inner h0 e1 e2 d closer-is = record {
  text = 0x04 ∷ block_type ty ∷ inner ++ 0x0B ∷ [];
  long = omega arith;
  parts = rw (e1, e2, closer-is) (simp append_assoc);
  goes_on = λ more is cs d2.
      let k : next + length (ys ∷ bs ++ [] ∷ []) ≡ next + 1 + length bs + 1 = omega (arith, length-append bs ([] ∷ [])) in
      let d3 : Spells depth_left (next + 1 + length bs + 1) more is cs = subst (λ (n : ℕ). Spells depth_left n more is cs) k d2 in
      let built : Spells depth_left next (0x04 ∷ block_type ty ∷ inner ++ 0x0B ∷ more) (instr.If ty next (next + 1 + length bs) Absent ∷ is) (ys ∷ bs ++ [] ∷ cs) = if_then h0 d d3 in
      simp append_assoc built;
}

else_begins : (depth_left next : ℕ) (ty : Option ValType) (bytes mid : List ℕ) (c1 : ℕ) (rest1 : List ℕ) (c2 : ℕ) (rest2 : List ℕ) (ys ns : List Instr) (bs cs : List (List Instr)) (first second : List ℕ) → 0 < depth_left → bytes ≡ block_type ty ∷ mid
    → mid ≡ first ++ c1 ∷ rest1 → c1 ≡ 0x05 → rest1 ≡ second ++ c2 ∷ rest2 → c2 ≡ 0x0B → Spells (depth_left - 1) (next + 1) first ys bs → Spells (depth_left - 1) (next + 1 + length bs + 1) second ns cs
    → Begins depth_left next (0x04 ∷ bytes) (record { instr = instr.If ty next (next + 1 + length bs) Present; nested = ys ∷ bs ++ ns ∷ cs; rest = rest2 })
else_begins depth_left next ty bytes mid c1 rest1 c2 rest2 ys ns bs cs first second h0 e1 e2 c1-is e3 c2-is d g = record {
  text = 0x04 ∷ block_type ty ∷ first ++ 0x05 ∷ (second ++ 0x0B ∷ []);
  long = omega arith;
  parts = rw (e1, e2, c1-is, e3, c2-is) (simp append_assoc);
  goes_on = λ more is ds d2.
      let k : next + length (ys ∷ bs ++ ns ∷ cs) ≡ next + 1 + length bs + 1 + length cs = omega (arith, length-append bs (ns ∷ cs)) in
      let d3 : Spells depth_left (next + 1 + length bs + 1 + length cs) more is ds = subst (λ (n : ℕ). Spells depth_left n more is ds) k d2 in
      simp append_assoc (spell_else h0 d g d3);
}

if_takes : (read : Reader) → Sound read → (depth_left next : ℕ) (bytes : List ℕ) (one : One) → IsBytes bytes → if_with read depth_left next bytes ≡ Ok one → Begins depth_left next (0x04 ∷ bytes) one
unfolding if_with
if_takes read sound depth_left next bytes one fits e =
    let other = λ (ty : Option ValType) (b : Body). closed_with read (depth_left - 1) (next + 1 + length b.nested + 1) b.rest >>= λ c. Ok (else_one ty next b c) in
    let second = λ (ty : Option ValType × List ℕ). read (depth_left - 1) (next + 1) ty.1 >>= λ b. cond (eqb b.closer 0x0B) (Ok (then_one ty.0 next b)) (other ty.0 b) in
    let q = bound (opened_at depth_left bytes) second one e in
    let opened = opened_takes depth_left bytes q.0.0 q.0.1 q.1 in
    let r = bound (read (depth_left - 1) (next + 1) q.0.1) (λ b. cond (eqb b.closer 0x0B) (Ok (then_one q.0.0 next b)) (other q.0.0 b)) one q.2 in
    let ty-is = opened.1 in
    let inner_fits = fits_behind bytes (block_type q.0.0 ∷ []) q.0.1 fits ty-is in
    let took = sound (depth_left - 1) (next + 1) q.0.1 r.0 inner_fits r.1 in
    elim (chosen (eqb r.0.closer 0x0B) (Ok (then_one q.0.0 next r.0)) (other q.0.0 r.0) (Ok one) r.2) [
      | inl h ↦
          subst (λ (o : One). Begins depth_left next (0x04 ∷ bytes) o) (ok_is (then_one q.0.0 next r.0) one h.1)
          (then_begins depth_left next q.0.0 bytes q.0.1 r.0.closer r.0.rest r.0.instrs r.0.nested took.text opened.0 ty-is took.parts took.spelled (eqb-true r.0.closer 0x0B h.0))
      | inr h ↦
          let s = bound (closed_with read (depth_left - 1) (next + 1 + length r.0.nested + 1) r.0.rest) (λ c. Ok (else_one q.0.0 next r.0 c)) one h.1 in
          let c = closed_takes read (depth_left - 1) (next + 1 + length r.0.nested + 1) r.0.rest s.0 s.1 in
          let rest_fits = fits_behind q.0.1 (took.text ++ r.0.closer ∷ []) r.0.rest inner_fits (took.parts ∙ sym (append_assoc took.text (r.0.closer ∷ []) r.0.rest)) in
          let more_took = sound (depth_left - 1) (next + 1 + length r.0.nested + 1) r.0.rest s.0 rest_fits c.0 in
          subst (λ (o : One). Begins depth_left next (0x04 ∷ bytes) o) (ok_is (else_one q.0.0 next r.0 s.0) one s.2)
          (else_begins depth_left next q.0.0 bytes q.0.1 r.0.closer r.0.rest s.0.closer s.0.rest r.0.instrs s.0.instrs r.0.nested s.0.nested took.text more_took.text opened.0 ty-is took.parts
          (turned r.0.closer took.closes h.0) more_took.parts c.1 took.spelled more_took.spelled)
    ]

-- the rest of an instruction that was read at the front
record OperandsTook (op : Opcode) (bytes : List ℕ) (i : Instr) (rest : List ℕ) : Type 0 where
  pub text : List ℕ
  pub parts : bytes ≡ text ++ rest
  pub spelled : Immediates op text i

abbrev found : Instr → List ℕ → Result (Instr × List ℕ) Stop
found i rest = Ok (i, rest)

abbrev with_number : (ℕ → Instr) → Result (ℕ × List ℕ) Stop → Result (Instr × List ℕ) Stop
with_number make read = read >>= λ x. found (make x.0) x.1

numbered : (Number : List ℕ → ℕ → Type 0) (read : List ℕ → Result (ℕ × List ℕ) Stop) (op : Opcode) (bytes : List ℕ) (make : ℕ → Instr) (i : Instr) (rest : List ℕ)
    → ((n : ℕ) (rest : List ℕ) → read bytes ≡ Ok (n, rest) → (text : List ℕ) × (bytes ≡ text ++ rest) × Number text n)
    → ((text : List ℕ) (n : ℕ) → Number text n → Immediates op text (make n))
    → with_number make (read bytes) ≡ found i rest → OperandsTook op bytes i rest
numbered Number read op bytes make i rest takes spell e =
    let q = bound (read bytes) (λ x. found (make x.0) x.1) (i, rest) e in
    let is = pair_is (make q.0.0, q.0.1) (i, rest) q.2 in
    let t = takes q.0.0 q.0.1 q.1 in
    subst (λ (k : Instr). OperandsTook op bytes k rest) is.0 (record { text = t.0; parts = t.1 ∙ ap (λ (l : List ℕ). t.0 ++ l) is.1; spelled = spell t.0 q.0.0 t.2 })

-- what comes after an access
record AccessTook (kind : AccessKind) (bytes : List ℕ) (i : Instr) (rest : List ℕ) : Type 0 where
  pub first : List ℕ
  pub second : List ℕ
  pub alignment : ℕ
  pub offset : ℕ
  pub parts : bytes ≡ (first ++ second) ++ rest
  pub aligned : U32 first alignment
  pub placed : U32 second offset
  pub is : access_instr kind alignment offset ≡ i

access_takes : (kind : AccessKind) (bytes : List ℕ) (i : Instr) (rest : List ℕ) → IsBytes bytes → access_at kind bytes ≡ Ok (i, rest) → AccessTook kind bytes i rest
unfolding access_at
access_takes kind bytes i rest fits e =
    let second = λ (a : ℕ × List ℕ). u32_at a.1 >>= λ o. found (access_instr kind a.0 o.0) o.1 in
    let p = bound (u32_at bytes) second (i, rest) e in
    let q = bound (u32_at p.0.1) (λ o. found (access_instr kind p.0.0 o.0) o.1) (i, rest) p.2 in
    let is = pair_is (access_instr kind p.0.0 q.0.0, q.0.1) (i, rest) q.2 in
    let t = unsigned_takes (2 ^ 32 - 1) bytes p.0.0 p.0.1 fits p.1 in
    let u = unsigned_takes (2 ^ 32 - 1) p.0.1 q.0.0 q.0.1 (fits_behind bytes t.0 p.0.1 fits t.1) q.1 in
    record {
      first = t.0;
      second = u.0;
      alignment = p.0.0;
      offset = q.0.0;
      parts = t.1 ∙ ap (λ (l : List ℕ). t.0 ++ l) (u.1 ∙ ap (λ (l : List ℕ). u.0 ++ l) is.1) ∙ sym (append_assoc t.0 u.0 rest);
      aligned = t.2;
      placed = u.2;
      is = is.0;
    }

zero_takes : (bytes : List ℕ) (i : Instr) (rest : List ℕ) → immediates_at opcode.MemorySize bytes ≡ Ok (i, rest) → OperandsTook opcode.MemorySize bytes i rest
unfolding immediates_at
zero_takes [] i rest e = absurd cc
zero_takes (b ∷ bytes) i rest e =
    let m = met _ (eqb b 0x00) (found instr.MemorySize bytes) (i, rest) e in
    let is = pair_is (instr.MemorySize, bytes) (i, rest) m.1 in
    subst (λ (k : Instr). OperandsTook opcode.MemorySize (b ∷ bytes) k rest) is.0 (record { text = 0x00 ∷ []; parts = rw (eqb-true b 0x00 m.0, is.1) refl; spelled = memory_size })

table_takes : (bytes : List ℕ) (i : Instr) (rest : List ℕ) → IsBytes bytes → immediates_at opcode.BrTable bytes ≡ Ok (i, rest) → OperandsTook opcode.BrTable bytes i rest
unfolding immediates_at
table_takes bytes i rest fits e =
    let second = λ (ls : List ℕ × List ℕ). u32_at ls.1 >>= λ o. found (instr.BrTable ls.0 o.0) o.1 in
    let p = bound (vector_at u32_at bytes) second (i, rest) e in
    let q = bound (u32_at p.0.1) (λ o. found (instr.BrTable p.0.0 o.0) o.1) (i, rest) p.2 in
    let is = pair_is (instr.BrTable p.0.0 q.0.0, q.0.1) (i, rest) q.2 in
    let t = (vector_lawful U32 u32_at (number_lawful (2 ^ 32 - 1))).takes bytes p.0.0 p.0.1 fits p.1 in
    let u = unsigned_takes (2 ^ 32 - 1) p.0.1 q.0.0 q.0.1 (fits_behind bytes t.0 p.0.1 fits t.1) q.1 in
    subst (λ (k : Instr). OperandsTook opcode.BrTable bytes k rest) is.0 (record {
      text = t.0 ++ u.0;
      parts = t.1 ∙ ap (λ (l : List ℕ). t.0 ++ l) (u.1 ∙ ap (λ (l : List ℕ). u.0 ++ l) is.1) ∙ sym (append_assoc t.0 u.0 rest);
      spelled = br_table t.2 u.2;
    })

of_access : (kind : AccessKind) (bytes : List ℕ) (i : Instr) (rest : List ℕ) → AccessTook kind bytes i rest → OperandsTook (opcode.Access kind) bytes i rest
of_access kind bytes i rest a = subst (λ (k : Instr). OperandsTook (opcode.Access kind) bytes k rest) a.is (record { text = a.first ++ a.second; parts = a.parts; spelled = access a.aligned a.placed })

of_atomic : (other : Stop) (code : ℕ) (k : Option AccessKind) (text mid : List ℕ) (i : Instr) (rest : List ℕ) → atomic_at code ≡ k → U32 text code → IsBytes mid → access_of other k mid ≡ Ok (i, rest) → OperandsTook opcode.Atomic (text ++ mid) i rest
of_atomic other code None text mid i rest h d fits e = absurd cc
of_atomic other code (Some kind) text mid i rest h d fits e =
    let a = access_takes kind mid i rest fits e in
    subst (λ (k : Instr). OperandsTook opcode.Atomic (text ++ mid) k rest) a.is (record {
      text = text ++ (a.first ++ a.second);
      parts = ap (λ (l : List ℕ). text ++ l) a.parts ∙ sym (append_assoc text (a.first ++ a.second) rest);
      spelled = atomic d h a.aligned a.placed;
    })

atomic_takes : (bytes : List ℕ) (i : Instr) (rest : List ℕ) → IsBytes bytes → immediates_at opcode.Atomic bytes ≡ Ok (i, rest) → OperandsTook opcode.Atomic bytes i rest
unfolding immediates_at atomic_access_at
atomic_takes bytes i rest fits e =
    let other = λ (code : ℕ). stop (atomic_fault code) (length bytes + 1) in
    let p = bound (map_stop (moved (length bytes + 1)) (u32_at bytes)) (λ code. access_of (other code.0) (atomic_at code.0) code.1) (i, rest) e in
    let t = unsigned_takes (2 ^ 32 - 1) bytes p.0.0 p.0.1 fits (unmapped (moved (length bytes + 1)) (u32_at bytes) p.0 p.1) in
    subst (λ (l : List ℕ). OperandsTook opcode.Atomic l i rest) (sym t.1) (of_atomic (other p.0.0) p.0.0 (atomic_at p.0.0) t.0 p.0.1 i rest refl t.2 (fits_behind bytes t.0 p.0.1 fits t.1) p.2)

operands_take : (op : Opcode) (bytes : List ℕ) (i : Instr) (rest : List ℕ) → IsBytes bytes → immediates_at op bytes ≡ Ok (i, rest) → OperandsTook op bytes i rest
unfolding immediates_at
operands_take (opcode.NoImmediates j) bytes i rest fits e =
    let is = pair_is (j, bytes) (i, rest) e in
    subst (λ (k : Instr). OperandsTook (opcode.NoImmediates j) bytes k rest) is.0 (record { text = []; parts = is.1; spelled = alone })
operands_take (opcode.Indexed kind) bytes i rest fits e =
    numbered U32 u32_at (opcode.Indexed kind) bytes (indexed_instr kind) i rest (λ n r h. unsigned_takes (2 ^ 32 - 1) bytes n r fits h) (λ t n d. indexed d) e
operands_take opcode.BrTable bytes i rest fits e = table_takes bytes i rest fits e
operands_take (opcode.Access kind) bytes i rest fits e = of_access kind bytes i rest (access_takes kind bytes i rest fits e)
operands_take opcode.MemorySize bytes i rest fits e = zero_takes bytes i rest e
operands_take opcode.I32Const bytes i rest fits e =
    numbered (Signed (2 ^ 32 - 1)) (signed_at (2 ^ 32 - 1)) opcode.I32Const bytes instr.I32Const i rest (λ n r h. signed_takes (2 ^ 32 - 1) bytes n r fits h) (λ t n d. i32_const d) e
operands_take opcode.I64Const bytes i rest fits e =
    numbered (Signed (2 ^ 64 - 1)) (signed_at (2 ^ 64 - 1)) opcode.I64Const bytes instr.I64Const i rest (λ n r h. signed_takes (2 ^ 64 - 1) bytes n r fits h) (λ t n d. i64_const d) e
operands_take opcode.Atomic bytes i rest fits e = atomic_takes bytes i rest fits e

-- an instruction without blocks that was read at the front
pub record Behind (op : ℕ) (bytes : List ℕ) (i : Instr) (rest : List ℕ) : Type 0 where
  pub text : List ℕ
  pub parts : op ∷ bytes ≡ text ++ rest
  pub spelled : Plain text i

of_opcode : (other : Stop) (code : ℕ) (o : Option Opcode) (bytes : List ℕ) (i : Instr) (rest : List ℕ) → opcode_at code ≡ o → IsBytes bytes → operands_of other o bytes ≡ Ok (i, rest) → Behind code bytes i rest
of_opcode other code None bytes i rest h fits e = absurd cc
of_opcode other code (Some op) bytes i rest h fits e =
    let t = operands_take op bytes i rest fits e in
    record { text = code ∷ t.text; parts = ap (λ (l : List ℕ). code ∷ l) t.parts; spelled = plain_instr h t.spelled }

plain_takes : (op : ℕ) (bytes : List ℕ) (i : Instr) (rest : List ℕ) → IsBytes bytes → plain_at op bytes ≡ Ok (i, rest) → Behind op bytes i rest
unfolding plain_at
plain_takes op bytes i rest fits e = of_opcode (stop (opcode_fault op) (length bytes + 1)) op (opcode_at op) bytes i rest refl fits e

pub instr_takes : (read : Reader) → Sound read → (depth_left next op : ℕ) (bytes : List ℕ) (one : One) → IsBytes bytes → instr_with read depth_left next op bytes ≡ Ok one → Begins depth_left next (op ∷ bytes) one
unfolding instr_with
instr_takes read sound depth_left next op bytes one fits e =
    let t4 = plain_at op bytes >>= λ x. Ok (let o : One = record { instr = x.0; nested = []; rest = x.1 } in o) in
    let t3 = cond (eqb op 0x04) (if_with read depth_left next bytes) t4 in
    let t2 = cond (eqb op 0x03) (framed_with read depth_left next instr.Loop bytes) t3 in
    elim (chosen (eqb op 0x02) (framed_with read depth_left next instr.Block bytes) t2 (Ok one) e) [
      | inl h ↦ rw (eqb-true op 0x02 h.0) (framed_takes read sound depth_left next 0x02 instr.Block bytes one fits (λ ty inner more body is bs cs h d g. block h d g) h.1)
      | inr h1 ↦ elim (chosen (eqb op 0x03) (framed_with read depth_left next instr.Loop bytes) t3 (Ok one) h1.1) [
        | inl h ↦ rw (eqb-true op 0x03 h.0) (framed_takes read sound depth_left next 0x03 instr.Loop bytes one fits (λ ty inner more body is bs cs h d g. loop h d g) h.1)
        | inr h2 ↦ elim (chosen (eqb op 0x04) (if_with read depth_left next bytes) t4 (Ok one) h2.1) [
          | inl h ↦ rw (eqb-true op 0x04 h.0) (if_takes read sound depth_left next bytes one fits h.1)
          | inr h3 ↦
              let q = bound (plain_at op bytes) (λ x. Ok (let o : One = record { instr = x.0; nested = []; rest = x.1 } in o)) one h3.1 in
              let b = plain_takes op bytes q.0.0 q.0.1 fits q.1 in
              subst (λ (o : One). Begins depth_left next (op ∷ bytes) o) (ok_is (record { instr = q.0.0; nested = []; rest = q.0.1 }) one q.2) (record {
                text = b.text;
                long = plain_long b.spelled;
                parts = b.parts;
                goes_on = λ more is cs d. plain b.spelled (rw add-zero at d);
              })
        ]
      ]
    ]

pub instrs_take : (fuel : ℕ) → Sound (instrs_at fuel)
unfolding instrs_at
instrs_take zero depth_left next bytes b fits e = absurd cc
instrs_take (suc fuel) depth_left next [] b fits e = absurd cc
instrs_take (suc fuel) depth_left next (op ∷ bytes) b fits e =
    let closed : Body = record { instrs = []; nested = []; closer = op; rest = bytes } in
    let t3 = instr_with (instrs_at fuel) depth_left next op bytes >>= λ one. after one (instrs_at fuel depth_left (next + length one.nested) one.rest) in
    elim (chosen (eqb op 0x0B) (Ok closed) (cond (eqb op 0x05) (Ok closed) t3) (Ok b) e) [
      | inl h ↦ subst (λ (x : Body). Took depth_left next (op ∷ bytes) x) (ok_is closed b h.1) (record { text = []; parts = refl; spelled = none; closes = rw (eqb-true op 0x0B h.0) ends })
      | inr h1 ↦ elim (chosen (eqb op 0x05) (Ok closed) t3 (Ok b) h1.1) [
        | inl h ↦ subst (λ (x : Body). Took depth_left next (op ∷ bytes) x) (ok_is closed b h.1) (record { text = []; parts = refl; spelled = none; closes = rw (eqb-true op 0x05 h.0) at_else })
        | inr h2 ↦
            let q = bound (instr_with (instrs_at fuel) depth_left next op bytes) (λ one. after one (instrs_at fuel depth_left (next + length one.nested) one.rest)) b h2.1 in
            let one : One = q.0 in
            let begin = instr_takes (instrs_at fuel) (instrs_take fuel) depth_left next op bytes one fits.1 q.1 in
            let r = bound (instrs_at fuel depth_left (next + length one.nested) one.rest) (λ m. let k : Result Body Stop = Ok (record { instrs = one.instr ∷ m.instrs; nested = one.nested ++ m.nested; closer = m.closer; rest = m.rest }) in k) b q.2 in
            let took = instrs_take fuel depth_left (next + length one.nested) one.rest r.0 (fits_behind (op ∷ bytes) begin.text one.rest fits begin.parts) r.1 in
            subst (λ (x : Body). Took depth_left next (op ∷ bytes) x) (ok_is (record { instrs = one.instr ∷ r.0.instrs; nested = one.nested ++ r.0.nested; closer = r.0.closer; rest = r.0.rest }) b r.2) (record {
              text = begin.text ++ took.text;
              parts = begin.parts ∙ ap (λ (t : List ℕ). begin.text ++ t) took.parts ∙ sym (append_assoc begin.text took.text (r.0.closer ∷ r.0.rest));
              spelled = begin.goes_on took.text r.0.instrs r.0.nested took.spelled;
              closes = took.closes;
            })
      ]
    ]
