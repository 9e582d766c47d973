-- Instructions: reading that stops does so whatever comes after the faulty item.
use Rattle.std.proofs.Common.{◌≡◌, ℕ, zero, suc, ◌+◌, ◌-◌, ◌^◌, ◌≤◌, Bool, true, cond, eqb, List, [], ◌∷◌, ◌++◌, length, Option, Some, None, Ok, Err, refl, sym, subst, ◌∙◌, arith, append_assoc, length-append}
use Rattle.std.proofs.lemmas.List.{append_cancel_right}
use Rattle.wm_ast.specs.declared.access.AccessKind.{AccessKind}
use Rattle.wm_ast.specs.declared.types.ValType.{ValType}
use Rattle.wm_ast.specs.declared.types.ValType.TheVariants.{I32, I64}
use Rattle.wm_ast.specs.declared.instr.Instr.{Instr}
use Rattle.wm_ast.specs.declared.instr.Instr.TheVariants as instr
use Rattle.wm_ast.specs.declared.instr.Else.TheVariants.{Present, Absent}
use Rattle.wm_decode.specs.declared.fault.FaultKind.TheVariants as kind
use Rattle.wm_decode.specs.declared.fault.Limit.TheVariants.{Nesting}
use Rattle.wm_decode.specs.declared.opcode.Opcode.{Opcode}
use Rattle.wm_decode.specs.declared.opcode.Opcode.TheVariants as opcode
use Rattle.wm_decode.specs.Faults.{value_type_fault, block_type_fault, atomic_fault, opcode_fault}
use Rattle.wm_decode.specs.Stop.{stop, ended, past, map_stop, moved}
use Rattle.wm_decode.specs.Instructions.{indexed_instr, access_instr}
use Rattle.wm_decode.specs.Opcodes.{opcode_at, atomic_at}
use Rattle.wm_decode.specs.Reading.{◌>>=◌, signed_at}
use Rattle.wm_decode.specs.ReadingVectors.{u32_at, vector_at}
use Rattle.wm_decode.specs.ReadingInstructions.{value_type_at, block_type_at, access_at, access_of, atomic_access_at, zero_at, immediates_at, operands_of, plain_at, Body, One, Reader, closed_with, opened_at, framed_with, if_with, instr_with, instrs_at, instrs_in, instr_in, closed_in, blocks_at}
use Rattle.wm_decode.proofs.BodyAgain.{after}
use Rattle.wm_decode.proofs.Fuel.{instrs_cons, instrs_take_in, shut_or}
use Rattle.wm_decode.proofs.Lasting.{Fits, Moves, Steady, Stops, anywhere, by_first, fault_of_last, given, later, passed_limit, test, then, then_from, then_known, too_early}
use Rattle.wm_decode.proofs.Steps.{unmapped}
use Rattle.wm_decode.proofs.LastingFaults.{atomic_fine, bad_byte, bad_number, block_type_fine, opcode_fine, value_type_fine}
use Rattle.wm_decode.proofs.LastingItems.{pair, u32_steady, u32_known, later_steady, i32_steady, i64_steady, vector_steady}

one_more : (l : List ℕ) → (b : ℕ) → length (b ∷ l) ≡ length l + 1
one_more l b = omega arith

pub value_type_steady : {k : ℕ} {inner : Bool} → Steady k inner pair [] value_type_at
unfolding value_type_at
value_type_steady {k = k} = by_first {m = k} (omega arith) value_type_at refl _ (λ b l. refl) (λ b.
    test (eqb b 0x7F) (λ l. Ok (pair I32 l)) _ (λ e. given I32) (λ e.
    test (eqb b 0x7E) (λ l. Ok (pair I64 l)) _ (λ e. given I64) (λ e. bad_byte b (value_type_fault b) (λ l. length (b ∷ l)) (λ l. one_more l b) (value_type_fine b))))

block_type_steady : {k : ℕ} {inner : Bool} → Steady k inner pair [] block_type_at
unfolding block_type_at
block_type_steady {k = k} = by_first {m = k} (omega arith) block_type_at refl _ (λ b l. refl) (λ b.
    test (eqb b 0x40) (λ l. Ok (pair None l)) _ (λ e. given None) (λ e.
    test (eqb b 0x7F) (λ l. Ok (pair (Some I32) l)) _ (λ e. given (Some I32)) (λ e.
    test (eqb b 0x7E) (λ l. Ok (pair (Some I64) l)) _ (λ e. given (Some I64)) (λ e. bad_byte b (block_type_fault b) (λ l. length (b ∷ l)) (λ l. one_more l b) (block_type_fine b)))))

access_steady : {k : ℕ} {inner : Bool} (kind : AccessKind) → Steady k inner pair [] (access_at kind)
unfolding access_at
access_steady kind = then u32_at _ u32_steady (λ alignment. then u32_at _ u32_steady (λ offset. given (access_instr kind alignment offset)))

zero_steady : {k : ℕ} {inner : Bool} → Steady k inner pair [] zero_at
zero_steady {k = k} = by_first {m = k} (omega arith) zero_at refl _ (λ b l. refl) (λ b.
    test (eqb b 0x00) (λ l. Ok (pair instr.MemorySize l)) _ (λ e. given instr.MemorySize) (λ e. bad_byte b kind.BadNumber (λ l. length (b ∷ l)) (λ l. one_more l b) (bad_number 1 (omega arith))))

-- a code after the prefix, and an access
atomic_steady : {k : ℕ} {inner : Bool} (op : ℕ) → Steady k inner pair (op ∷ []) atomic_access_at
unfolding atomic_access_at
atomic_steady {k = k} {inner = inner} op = then_from (op ∷ []) (λ l. map_stop (moved (length l + 1)) (u32_at l)) (λ bytes code. access_of (stop (atomic_fault code.0) (length bytes + 1)) (atomic_at code.0) code.1) (λ n text. length text ≤ 5)
    (λ bytes n text rest fits parts e. u32_known bytes n text rest fits parts (unmapped (moved (length bytes + 1)) (u32_at bytes) (n, rest) e)) (later_steady op) (λ code text short. by code text short (atomic_at code)) where
      by : (code : ℕ) (text : List ℕ) → length text ≤ 5 → (o : Option AccessKind) → Steady k inner pair (op ∷ text) (λ l. access_of (stop (atomic_fault code) (length (text ++ l) + 1)) o l)
      by code text short None = let fine = atomic_fine code in fault_of_last [] (op ∷ text) (atomic_fault code) (λ l. length (text ++ l) + 1) (λ l. omega (arith, length-append text l)) fine.no_limit (fine.is_item (op ∷ text) (omega arith))
      by code text short (Some kind) = anywhere (op ∷ text) (access_steady kind)

immediates_steady : {k : ℕ} {inner : Bool} (op : ℕ) (o : Opcode) → Steady k inner pair (op ∷ []) (immediates_at o)
unfolding immediates_at
immediates_steady op (opcode.NoImmediates i) = given i
immediates_steady op (opcode.Indexed kind) = anywhere (op ∷ []) (then u32_at _ u32_steady (λ n. given (indexed_instr kind n)))
immediates_steady op opcode.BrTable = anywhere (op ∷ []) (then (vector_at u32_at) _ (vector_steady u32_at u32_steady) (λ labels. then u32_at _ u32_steady (λ other. given (instr.BrTable labels other))))
immediates_steady op (opcode.Access kind) = anywhere (op ∷ []) (access_steady kind)
immediates_steady op opcode.MemorySize = anywhere (op ∷ []) zero_steady
immediates_steady op opcode.I32Const = anywhere (op ∷ []) (then (signed_at (2 ^ 32 - 1)) _ i32_steady (λ n. given (instr.I32Const n)))
immediates_steady op opcode.I64Const = anywhere (op ∷ []) (then (signed_at (2 ^ 64 - 1)) _ i64_steady (λ n. given (instr.I64Const n)))
immediates_steady op opcode.Atomic = atomic_steady op

plain_steady : {k : ℕ} {inner : Bool} (op : ℕ) → Steady k inner pair (op ∷ []) (plain_at op)
unfolding plain_at
plain_steady {k = k} {inner = inner} op = by (opcode_at op) where
  by : (o : Option Opcode) → Steady k inner pair (op ∷ []) (λ l. operands_of (stop (opcode_fault op) (length l + 1)) o l)
  by None = let fine = opcode_fine op in fault_of_last [] (op ∷ []) (opcode_fault op) (λ l. length l + 1) (λ l. omega arith) fine.no_limit (fine.is_item (op ∷ []) (omega arith))
  by (Some o) = immediates_steady op o

opened_steady : {k : ℕ} {inner : Bool} (op depth_left : ℕ) → Steady k inner pair (op ∷ []) (opened_at depth_left)
unfolding opened_at
opened_steady op depth_left = test (eqb depth_left 0) (λ l. Err (past Nesting (length l + 1))) block_type_at (λ e. passed_limit Nesting (λ l. length l + 1)) (λ e. anywhere (op ∷ []) block_type_steady)

abbrev body_of : List Instr × List (List Instr) × ℕ → List ℕ → Body
body_of v rest = record { instrs = v.0; nested = v.1; closer = v.2; rest = rest }

abbrev one_of : Instr × List (List Instr) → List ℕ → One
one_of v rest = record { instr = v.0; nested = v.1; rest = rest }

-- reading a block's instructions, the last byte of which closes it
pub record SteadyReader (k : ℕ) (read : Reader) : Type 0 where
  pub steady : (depth_left next : ℕ) → Steady k true body_of [] (read depth_left next)
  pub closes : (depth_left next : ℕ) (bytes : List ℕ) (v : List Instr × List (List Instr) × ℕ) (text rest : List ℕ) → Fits k bytes → bytes ≡ text ++ rest → read depth_left next bytes ≡ Ok (body_of v rest) → (t : List ℕ) × (text ≡ t ++ v.2 ∷ [])

module _ {k : ℕ} (read : Reader) (h : SteadyReader k read) where
  closed_steady : (depth_left next : ℕ) → Steady k true body_of [] (closed_with read depth_left next)
  unfolding closed_with
  closed_steady depth_left next =
      then_known (read depth_left next) (λ bytes body. cond (eqb body.closer 0x0B) (Ok body) (Err (stop (kind.UnknownOpcode body.closer) (length body.rest + 1)))) (λ v text. (t : List ℕ) × (text ≡ t ++ v.2 ∷ [])) (h.closes depth_left next) (h.steady depth_left next) (λ v text last.
      test (eqb v.2 0x0B) (λ l. Ok (body_of v l)) _ (λ e. given v) (λ e.
      subst (λ (q : List ℕ). Steady k true body_of q (λ l. Err (stop (kind.UnknownOpcode v.2) (length l + 1)))) (sym last.1) (fault_of_last last.0 (v.2 ∷ []) (kind.UnknownOpcode v.2) (λ l. length l + 1) (λ l. omega arith) tt (omega arith))))

  framed_steady : (op depth_left next : ℕ) (make : Option ValType → ℕ → Instr) → Steady k true one_of (op ∷ []) (framed_with read depth_left next make)
  unfolding framed_with
  framed_steady op depth_left next make = later (op ∷ []) (opened_at depth_left) _ (opened_steady op depth_left) (λ ty. then (closed_with read (depth_left - 1) (next + 1)) _ (closed_steady (depth_left - 1) (next + 1)) (λ body. given (make ty next, body.0 ∷ body.1)))

  if_steady : (op depth_left next : ℕ) → Steady k true one_of (op ∷ []) (if_with read depth_left next)
  unfolding if_with
  if_steady op depth_left next =
      later (op ∷ []) (opened_at depth_left) _ (opened_steady op depth_left) (λ ty.
      then (read (depth_left - 1) (next + 1)) _ (h.steady (depth_left - 1) (next + 1)) (λ one.
      test (eqb one.2 0x0B) _ _ (λ e. given (instr.If ty next (next + 1 + length one.1) Absent, one.0 ∷ one.1 ++ [] ∷ [])) (λ e.
      then (closed_with read (depth_left - 1) (next + 1 + length one.1 + 1)) _ (closed_steady (depth_left - 1) (next + 1 + length one.1 + 1)) (λ two.
      given (instr.If ty next (next + 1 + length one.1) Present, one.0 ∷ one.1 ++ two.0 ∷ two.1)))))

  instr_steady : (depth_left next op : ℕ) → Steady k true one_of (op ∷ []) (instr_with read depth_left next op)
  unfolding instr_with
  instr_steady depth_left next op =
      test (eqb op 0x02) _ _ (λ e. framed_steady op depth_left next instr.Block) (λ e.
      test (eqb op 0x03) _ _ (λ e. framed_steady op depth_left next instr.Loop) (λ e.
      test (eqb op 0x04) _ _ (λ e. if_steady op depth_left next) (λ e.
      later (op ∷ []) (plain_at op) _ (plain_steady op) (λ i. given (i, [])))))

instrs_close : (depth_left next : ℕ) (bytes : List ℕ) (v : List Instr × List (List Instr) × ℕ) (text rest : List ℕ) → Fits (length bytes) bytes → bytes ≡ text ++ rest → instrs_in depth_left next bytes ≡ Ok (body_of v rest) → (t : List ℕ) × (text ≡ t ++ v.2 ∷ [])
instrs_close depth_left next bytes v text rest fits parts e =
    let t = instrs_take_in depth_left next bytes (body_of v rest) fits.0 e in
    (t.text, append_cancel_right text (t.text ++ v.2 ∷ []) rest (sym parts ∙ t.parts ∙ sym (append_assoc t.text (v.2 ∷ []) rest)))

none_left : (depth_left next : ℕ) → instrs_in depth_left next [] ≡ Err ended
unfolding instrs_at
none_left depth_left next = refl

none_moves : (depth_left next : ℕ) (bytes : List ℕ) → length bytes ≤ 0 → Moves body_of (instrs_in depth_left next) bytes (instrs_in depth_left next bytes)
none_moves depth_left next [] le = subst (Moves body_of (instrs_in depth_left next) []) (sym (none_left depth_left next)) tt
none_moves depth_left next (b ∷ bytes) le = absurd (omega arith)

none_stops : (depth_left next : ℕ) (seen bytes : List ℕ) → length bytes ≤ 0 → Stops true (instrs_in depth_left next) seen bytes (instrs_in depth_left next bytes)
none_stops depth_left next seen [] le = subst (Stops true (instrs_in depth_left next) seen []) (sym (none_left depth_left next)) (too_early true (instrs_in depth_left next) seen [] (none_left depth_left next))
none_stops depth_left next seen (b ∷ bytes) le = absurd (omega arith)

instrs_steady : (k depth_left next : ℕ) → Steady k true body_of [] (instrs_in depth_left next)
instrs_steady zero depth_left next = record { moves = λ bytes fits. none_moves depth_left next bytes fits.1; stops = λ seen earlier bytes e fits. none_stops depth_left next seen bytes fits.1 }
instrs_steady (suc k) depth_left next =
    by_first {m = k} (omega arith) (instrs_in depth_left next) (none_left depth_left next) (λ op l. shut_or op l (instr_in depth_left next op l >>= λ one. after one (instrs_in depth_left (next + length one.nested) one.rest))) (instrs_cons depth_left next) (λ op.
    let read : SteadyReader k instrs_in = record { steady = instrs_steady k; closes = λ d n bytes v text rest fits parts e. instrs_close d n bytes v text rest (fits.0, omega arith) parts e } in
    test (eqb op 0x0B) _ _ (λ e. given ([], [], op)) (λ e.
    test (eqb op 0x05) _ _ (λ e. given ([], [], op)) (λ e.
    later (op ∷ []) (instr_in depth_left next op) _ (instr_steady instrs_in read depth_left next op) (λ one.
    then (instrs_in depth_left (next + length one.1)) _ (instrs_steady k depth_left (next + length one.1)) (λ more.
    given (one.0 ∷ more.0, one.1 ++ more.1, more.2))))))

pub blocks_steady : {k : ℕ} (depth_left : ℕ) → Steady k true pair [] (blocks_at depth_left)
unfolding blocks_at
blocks_steady {k = k} depth_left =
    let read : SteadyReader k instrs_in = record { steady = instrs_steady k; closes = λ d n bytes v text rest fits parts e. instrs_close d n bytes v text rest (fits.0, omega arith) parts e } in
    then (closed_in depth_left 1) _ (closed_steady instrs_in read depth_left 1) (λ b. given (b.0 ∷ b.1))
