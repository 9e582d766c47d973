-- How often reading may go round makes no difference, where it is as often as there are bytes.
use Rattle.std.proofs.Common.{◌≡◌, ℕ, zero, suc, ◌+◌, ◌-◌, ◌^◌, ◌<◌, ◌≤◌, Bool, true, false, subst, cond, eqb, List, [], ◌∷◌, length, get_or, Option, Some, None, Result, Ok, Err, refl, ap, ◌∙◌, arith, length-append}
use Rattle.wm_ast.specs.declared.instr.Instr.{Instr}
use Rattle.wm_ast.specs.declared.instr.Instr.TheVariants.{Block, Loop}
use Rattle.wm_ast.specs.declared.types.ValType.{ValType}
use Rattle.wm_decode.specs.declared.fault.FaultKind.TheVariants.{UnknownOpcode}
use Rattle.wm_decode.specs.Numbers.{IsBytes}
use Rattle.wm_decode.specs.Stop.{Stop, stop, map_stop, moved}
use Rattle.wm_decode.specs.Reading.{◌>>=◌, signed_at}
use Rattle.wm_ast.specs.declared.access.AccessKind.{AccessKind}
use Rattle.wm_decode.specs.declared.opcode.Opcode.{Opcode}
use Rattle.wm_decode.specs.declared.opcode.Opcode.TheVariants as opcode
use Rattle.wm_decode.specs.Faults.{atomic_fault, opcode_fault}
use Rattle.wm_decode.specs.Opcodes.{opcode_at, atomic_at}
use Rattle.wm_decode.specs.ReadingVectors.{u32_at}
use Rattle.wm_decode.specs.ReadingInstructions.{block_type_at, access_at, access_of, atomic_access_at, zero_at, immediates_at, operands_of, plain_at, opened_at, Body, One, then_one, else_one, Reader, closed_with, framed_with, if_with, instr_with, instrs_at, instrs_in, instr_in}
use Rattle.wm_decode.proofs.BodyAgain.{after}
use Rattle.wm_decode.proofs.Left.{Within, rest_of, ShortReader, closing, after_one, u32_short, signed_short, block_type_short, access_short, zero_short, table_short, closed_short, instrs_short}
use Rattle.wm_decode.proofs.Steps.{fits_behind, bind_same}
use Rattle.wm_decode.proofs.BodyTakes.{Sound, instrs_take, instr_takes, opened_takes}

pub are_bytes : (bytes : List ℕ) → ((i : ℕ) → get_or bytes i 0 < 256) → IsBytes bytes
are_bytes [] h = tt
are_bytes (b ∷ bytes) h = (h 0, are_bytes bytes (λ i. h (suc i)))

-- what an instruction leaves
module _ (read : Reader) (sound : Sound read) where
  pub shorter_with : (depth_left next op : ℕ) (bytes : List ℕ) (one : One) → IsBytes bytes → instr_with read depth_left next op bytes ≡ Ok one → length one.rest ≤ length bytes
  shorter_with depth_left next op bytes one fits e = let t = instr_takes read sound depth_left next op bytes one fits e in omega (arith, ap length t.parts, length-append t.text one.rest, t.long)

  pub fits_with : (depth_left next op : ℕ) (bytes : List ℕ) (one : One) → op < 256 → IsBytes bytes → instr_with read depth_left next op bytes ≡ Ok one → IsBytes one.rest
  fits_with depth_left next op bytes one small fits e = let t = instr_takes read sound depth_left next op bytes one fits e in fits_behind (op ∷ bytes) t.text one.rest (small, fits) t.parts

-- what a value leaves is no longer than this
abbrev Leaves : {A : Type 0} → (A → List ℕ) → ℕ → Result A Stop → Type 0
Leaves rest n (Ok x) = length (rest x) ≤ n
Leaves rest n (Err s) = Unit {0}

leaves : {A : Type 0} (rest : A → List ℕ) (m n : ℕ) (r : Result A Stop) → m ≤ n → Within rest m r → Leaves rest n r
leaves rest m n (Ok x) le h = omega arith
leaves rest m n (Err s) le h = tt

leaves_moved : {A : Type 0} (rest : A → List ℕ) (n k : ℕ) (r : Result A Stop) → Leaves rest n r → Leaves rest n (map_stop (moved k) r)
leaves_moved rest n k (Ok x) h = h
leaves_moved rest n k (Err s) h = tt

leaves_then : {A B : Type 0} (ra : A → List ℕ) (rb : B → List ℕ) (n : ℕ) (r : Result A Stop) (f : A → Result B Stop) → Leaves ra n r → ((x : A) → length (ra x) ≤ n → Leaves rb n (f x)) → Leaves rb n (r >>= f)
leaves_then ra rb n (Ok x) f h k = k x h
leaves_then ra rb n (Err s) f h k = tt

leaves_test : {A : Type 0} (rest : A → List ℕ) (n : ℕ) (b : Bool) (x y : Result A Stop) → Leaves rest n x → Leaves rest n y → Leaves rest n (cond b x y)
leaves_test rest n true x y h k = h
leaves_test rest n false x y h k = k

access_leaves : (other : Stop) (o : Option AccessKind) (n : ℕ) (bytes : List ℕ) → length bytes ≤ n → Leaves rest_of n (access_of other o bytes)
access_leaves other None n bytes le = tt
access_leaves other (Some kind) n bytes le = leaves rest_of (length bytes) n (access_at kind bytes) le (access_short kind bytes)

immediates_leave : (op : Opcode) (bytes : List ℕ) → Leaves rest_of (length bytes) (immediates_at op bytes)
unfolding immediates_at atomic_access_at
immediates_leave (opcode.NoImmediates i) bytes = omega arith
immediates_leave (opcode.Indexed kind) bytes = let n = length bytes in leaves_then rest_of rest_of n (u32_at bytes) _ (leaves rest_of n n (u32_at bytes) (omega arith) (u32_short bytes)) (λ x le. le)
immediates_leave opcode.BrTable bytes = let n = length bytes in leaves rest_of n n (immediates_at opcode.BrTable bytes) (omega arith) (table_short bytes)
immediates_leave (opcode.Access kind) bytes = let n = length bytes in leaves rest_of n n (access_at kind bytes) (omega arith) (access_short kind bytes)
immediates_leave opcode.MemorySize bytes = let n = length bytes in leaves rest_of n n (zero_at bytes) (omega arith) (zero_short bytes)
immediates_leave opcode.I32Const bytes = let n = length bytes in leaves_then rest_of rest_of n (signed_at (2 ^ 32 - 1) bytes) _ (leaves rest_of n n (signed_at (2 ^ 32 - 1) bytes) (omega arith) (signed_short (2 ^ 32 - 1) bytes)) (λ x le. le)
immediates_leave opcode.I64Const bytes = let n = length bytes in leaves_then rest_of rest_of n (signed_at (2 ^ 64 - 1) bytes) _ (leaves rest_of n n (signed_at (2 ^ 64 - 1) bytes) (omega arith) (signed_short (2 ^ 64 - 1) bytes)) (λ x le. le)
immediates_leave opcode.Atomic bytes =
    let n = length bytes in
    leaves_then rest_of rest_of n (map_stop (moved (n + 1)) (u32_at bytes)) _ (leaves_moved rest_of n (n + 1) (u32_at bytes) (leaves rest_of n n (u32_at bytes) (omega arith) (u32_short bytes))) (λ code le.
    access_leaves (stop (atomic_fault code.0) (n + 1)) (atomic_at code.0) n code.1 le)

operands_leave : (other : Stop) (o : Option Opcode) (bytes : List ℕ) → Leaves rest_of (length bytes) (operands_of other o bytes)
operands_leave other None bytes = tt
operands_leave other (Some op) bytes = immediates_leave op bytes

plain_leaves : (code : ℕ) (bytes : List ℕ) → Leaves rest_of (length bytes) (plain_at code bytes)
unfolding plain_at
plain_leaves code bytes = operands_leave (stop (opcode_fault code) (length bytes + 1)) (opcode_at code) bytes

opened_leaves : (depth_left : ℕ) (bytes : List ℕ) → Leaves rest_of (length bytes) (opened_at depth_left bytes)
unfolding opened_at
opened_leaves depth_left bytes = let n = length bytes in leaves_test rest_of n (eqb depth_left 0) _ _ tt (leaves rest_of n n (block_type_at bytes) (omega arith) (block_type_short bytes))

module _ (read : Reader) (short : ShortReader read) where
  closed_leaves : (n depth_left next : ℕ) (bytes : List ℕ) → length bytes ≤ n → Leaves closing n (closed_with read depth_left next bytes)
  closed_leaves n depth_left next bytes le = leaves closing (length bytes) n (closed_with read depth_left next bytes) le (closed_short read short depth_left next bytes)

  framed_leaves : (depth_left next : ℕ) (make : Option ValType → ℕ → Instr) (bytes : List ℕ) → Leaves after_one (length bytes) (framed_with read depth_left next make bytes)
  unfolding framed_with
  framed_leaves depth_left next make bytes =
      let n = length bytes in
      leaves_then rest_of after_one n _ _ (opened_leaves depth_left bytes) (λ ty le.
      leaves_then closing after_one n _ _ (closed_leaves n (depth_left - 1) (next + 1) ty.1 le) (λ b le2. omega arith))

  if_leaves : (depth_left next : ℕ) (bytes : List ℕ) → Leaves after_one (length bytes) (if_with read depth_left next bytes)
  unfolding if_with
  if_leaves depth_left next bytes =
      let n = length bytes in
      leaves_then rest_of after_one n _ _ (opened_leaves depth_left bytes) (λ ty le.
      leaves_then closing after_one n _ _ (leaves closing (length ty.1) n (read (depth_left - 1) (next + 1) ty.1) le (short (depth_left - 1) (next + 1) ty.1)) (λ b le2.
      leaves_test after_one n (eqb b.closer 0x0B) _ _ (omega arith) (
      leaves_then closing after_one n _ _ (closed_leaves n (depth_left - 1) (next + 1 + length b.nested + 1) b.rest (omega arith)) (λ c le3. omega arith))))

  instr_leaves : (depth_left next op : ℕ) (bytes : List ℕ) → Leaves after_one (length bytes) (instr_with read depth_left next op bytes)
  unfolding instr_with
  instr_leaves depth_left next op bytes =
      let n = length bytes in
      leaves_test after_one n (eqb op 0x02) _ _ (framed_leaves depth_left next Block bytes) (
      leaves_test after_one n (eqb op 0x03) _ _ (framed_leaves depth_left next Loop bytes) (
      leaves_test after_one n (eqb op 0x04) _ _ (if_leaves depth_left next bytes) (
      leaves_then rest_of after_one n _ _ (plain_leaves op bytes) (λ x le. le))))

abbrev Agree : ℕ → Reader → Reader → Type 0
Agree k r s = (depth_left next : ℕ) (bytes : List ℕ) → length bytes ≤ k → r depth_left next bytes ≡ s depth_left next bytes

closed_same : (r s : Reader) (depth_left next : ℕ) (bytes : List ℕ) → r depth_left next bytes ≡ s depth_left next bytes → closed_with r depth_left next bytes ≡ closed_with s depth_left next bytes
unfolding closed_with
closed_same r s depth_left next bytes e = ap (λ (o : Result Body Stop). o >>= λ b. let x : Result Body Stop = cond (eqb b.closer 0x0B) (Ok b) (Err (stop (UnknownOpcode b.closer) (length b.rest + 1))) in x) e

framed_same : (k : ℕ) (r s : Reader) → Agree k r s → (depth_left next : ℕ) (make : Option ValType → ℕ → Instr) (bytes : List ℕ) → length bytes ≤ k → framed_with r depth_left next make bytes ≡ framed_with s depth_left next make bytes
unfolding framed_with
framed_same k r s agree depth_left next make bytes le =
    let made = λ (ty : Option ValType) (body : Body). let o : Result One Stop = Ok (record { instr = make ty next; nested = body.instrs ∷ body.nested; rest = body.rest }) in o in
    bind_same (opened_at depth_left bytes) (λ ty. closed_with r (depth_left - 1) (next + 1) ty.1 >>= made ty.0) (λ ty. closed_with s (depth_left - 1) (next + 1) ty.1 >>= made ty.0) (λ ty e.
    let le2 : length ty.1 ≤ k = omega (arith, ap length (opened_takes depth_left bytes ty.0 ty.1 e).1) in
    ap (λ (o : Result Body Stop). o >>= made ty.0) (closed_same r s (depth_left - 1) (next + 1) ty.1 (agree (depth_left - 1) (next + 1) ty.1 le2)))

if_same : (k : ℕ) (r s : Reader) → ShortReader r → Agree k r s → (depth_left next : ℕ) (bytes : List ℕ) → length bytes ≤ k → if_with r depth_left next bytes ≡ if_with s depth_left next bytes
unfolding if_with
if_same k r s short agree depth_left next bytes le =
    let present = λ (ty : Option ValType) (b c : Body). let o : Result One Stop = Ok (else_one ty next b c) in o in
    let other = λ (read : Reader) (ty : Option ValType) (b : Body). closed_with read (depth_left - 1) (next + 1 + length b.nested + 1) b.rest >>= present ty b in
    let second = λ (read : Reader) (ty : Option ValType) (b : Body). cond (eqb b.closer 0x0B) (Ok (then_one ty next b)) (other read ty b) in
    bind_same (opened_at depth_left bytes) (λ ty. r (depth_left - 1) (next + 1) ty.1 >>= second r ty.0) (λ ty. s (depth_left - 1) (next + 1) ty.1 >>= second s ty.0) (λ ty e.
    let le2 : length ty.1 ≤ k = omega (arith, ap length (opened_takes depth_left bytes ty.0 ty.1 e).1) in
    bind_same (r (depth_left - 1) (next + 1) ty.1) (second r ty.0) (second s ty.0) (λ b h.
    let all : length (closing b) ≤ length ty.1 = subst (Within closing (length ty.1)) h (short (depth_left - 1) (next + 1) ty.1) in
    let le3 : length b.rest ≤ k = omega (arith, all) in
    ap (λ (o : Result Body Stop). cond (eqb b.closer 0x0B) (Ok (then_one ty.0 next b)) (o >>= present ty.0 b)) (closed_same r s (depth_left - 1) (next + 1 + length b.nested + 1) b.rest (agree (depth_left - 1) (next + 1 + length b.nested + 1) b.rest le3)))
    ∙ ap (λ (o : Result Body Stop). o >>= second s ty.0) (agree (depth_left - 1) (next + 1) ty.1 le2))

instr_same : (k : ℕ) (r s : Reader) → ShortReader r → Agree k r s → (depth_left next op : ℕ) (bytes : List ℕ) → length bytes ≤ k → instr_with r depth_left next op bytes ≡ instr_with s depth_left next op bytes
unfolding instr_with
instr_same k r s short agree depth_left next op bytes le =
    rw (framed_same k r s agree depth_left next Block bytes le, framed_same k r s agree depth_left next Loop bytes le, if_same k r s short agree depth_left next bytes le) refl

-- an instruction, and then more of them
abbrev with_more : Reader → ℕ → ℕ → Result One Stop → Result Body Stop
with_more read depth_left next o = o >>= λ one. after one (read depth_left (next + length one.nested) one.rest)

more_same : (k : ℕ) (r s : Reader) → ShortReader r → Agree k r s → (depth_left next op : ℕ) (bytes : List ℕ) → length bytes ≤ k
    → with_more r depth_left next (instr_with r depth_left next op bytes) ≡ with_more s depth_left next (instr_with s depth_left next op bytes)
more_same k r s short agree depth_left next op bytes le =
    bind_same (instr_with r depth_left next op bytes) (λ one. after one (r depth_left (next + length one.nested) one.rest)) (λ one. after one (s depth_left (next + length one.nested) one.rest)) (λ one e.
    let fewer : length one.rest ≤ length bytes = subst (Leaves after_one (length bytes)) e (instr_leaves r short depth_left next op bytes) in
    ap (after one) (agree depth_left (next + length one.nested) one.rest (omega (arith, fewer))))
    ∙ ap (with_more s depth_left next) (instr_same k r s short agree depth_left next op bytes le)

abbrev pub shut_or : ℕ → List ℕ → Result Body Stop → Result Body Stop
shut_or op bytes o = cond (eqb op 0x0B) (Ok (record { instrs = []; nested = []; closer = op; rest = bytes })) (cond (eqb op 0x05) (Ok (record { instrs = []; nested = []; closer = op; rest = bytes })) o)

pub same_turns : (f g depth_left next : ℕ) (bytes : List ℕ) → length bytes ≤ f → length bytes ≤ g → instrs_at f depth_left next bytes ≡ instrs_at g depth_left next bytes
unfolding instrs_at
same_turns zero zero depth_left next bytes a b = refl
same_turns zero (suc g) depth_left next [] a b = refl
same_turns zero (suc g) depth_left next (op ∷ bytes) a b = absurd (omega arith)
same_turns (suc f) zero depth_left next [] a b = refl
same_turns (suc f) zero depth_left next (op ∷ bytes) a b = absurd (omega arith)
same_turns (suc f) (suc g) depth_left next [] a b = refl
same_turns (suc f) (suc g) depth_left next (op ∷ bytes) a b =
    ap (shut_or op bytes) (more_same (length bytes) (instrs_at f) (instrs_at g) (instrs_short f) (λ r n bs le. same_turns f g r n bs (omega arith) (omega arith)) depth_left next op bytes (omega arith))

pub instrs_take_in : Sound instrs_in
instrs_take_in depth_left next bytes b fits e = instrs_take (length bytes) depth_left next bytes b fits e

pub one_shorter : (depth_left next op : ℕ) (bytes : List ℕ) (one : One) → op < 256 → IsBytes bytes → instr_in depth_left next op bytes ≡ Ok one → length one.rest ≤ length bytes
one_shorter depth_left next op bytes one small fits e = shorter_with instrs_in instrs_take_in depth_left next op bytes one fits e

pub one_fits : (depth_left next op : ℕ) (bytes : List ℕ) (one : One) → op < 256 → IsBytes bytes → instr_in depth_left next op bytes ≡ Ok one → IsBytes one.rest
one_fits depth_left next op bytes one small fits e = fits_with instrs_in instrs_take_in depth_left next op bytes one small fits e

pub instrs_cons : (depth_left next op : ℕ) (bytes : List ℕ) → instrs_in depth_left next (op ∷ bytes) ≡ shut_or op bytes (instr_in depth_left next op bytes >>= λ one. after one (instrs_in depth_left (next + length one.nested) one.rest))
unfolding instrs_at
instrs_cons depth_left next op bytes =
    let k = length bytes in
    ap (shut_or op bytes) (more_same k (instrs_at k) instrs_in (instrs_short k) (λ r n bs le. same_turns k (length bs) r n bs le (omega arith)) depth_left next op bytes (omega arith))
