-- What is spelled so is read, whatever follows.
use Rattle.std.proofs.Common.{◌≡◌, ℕ, zero, suc, ◌+◌, ◌-◌, ◌<◌, ◌≤◌, ◌^◌, false, eqb, List, [], ◌∷◌, ◌++◌, length, Option, Some, None, Result, Ok, refl, ap, subst, ◌∙◌, arith, append_assoc, add-zero, length-append}
use Rattle.std.proofs.lemmas.Bool.{ne_eqb}
use Rattle.wm_ast.specs.declared.access.AccessKind.{AccessKind}
use Rattle.wm_ast.specs.declared.instr.Instr.{Instr}
use Rattle.wm_ast.specs.declared.instr.Instr.TheVariants.{Block, Loop, If}
use Rattle.wm_ast.specs.declared.types.ValType.{ValType}
use Rattle.wm_ast.specs.declared.types.ValType.TheVariants.{I32, I64}
use Rattle.wm_ast.specs.declared.instr.Else.TheVariants.{Present, Absent}
use Rattle.wm_decode.specs.declared.opcode.Opcode.{Opcode}
use Rattle.wm_decode.specs.Stop.{Stop}
use Rattle.wm_decode.specs.Numbers.{U32}
use Rattle.wm_decode.specs.Opcodes.{opcode_at}
use Rattle.wm_decode.specs.Instructions.{block_type, access_instr, Immediates, alone, indexed, br_table, access, memory_size, i32_const, i64_const, atomic, Plain, plain_instr, Spells, none, plain, block, loop, if_then, if_else}
use Rattle.wm_decode.specs.Reading.{◌>>=◌}
use Rattle.wm_decode.specs.ReadingVectors.{u32_at}
use Rattle.wm_decode.specs.ReadingInstructions.{block_type_at, opened_at, access_at, atomic_access_at, immediates_at, plain_at, Body, One, Reader, closed_with, framed_with, if_with, instr_with, instrs_at}
use Rattle.wm_decode.proofs.NumberLaws.{unsigned_again, signed_again}
use Rattle.wm_decode.proofs.Lawful.{number_lawful, vector_lawful}

pub type_again : (ty : Option ValType) (rest : List ℕ) → block_type_at (block_type ty ∷ rest) ≡ Ok (ty, rest)
unfolding block_type_at
type_again None rest = refl
type_again (Some I32) rest = refl
type_again (Some I64) rest = refl

access_again : {first second : List ℕ} {alignment offset : ℕ} → (kind : AccessKind) → U32 first alignment → U32 second offset → (rest : List ℕ) → access_at kind ((first ++ second) ++ rest) ≡ Ok (access_instr kind alignment offset, rest)
unfolding access_at
access_again {second = s} kind d e rest = rw (append_assoc, unsigned_again d (s ++ rest), unsigned_again e rest) refl

pub operands_again : {op : Opcode} {text : List ℕ} {i : Instr} → Immediates op text i → (rest : List ℕ) → immediates_at op (text ++ rest) ≡ Ok (i, rest)
unfolding immediates_at atomic_access_at
operands_again alone rest = refl
operands_again (indexed d) rest = rw (unsigned_again d rest) refl
operands_again (br_table {first = first} {second = second} {labels = labels} v d) rest =
    rw (append_assoc, (vector_lawful U32 u32_at (number_lawful (2 ^ 32 - 1))).again first labels (second ++ rest) v, unsigned_again d rest) refl
operands_again (access {kind = kind} d e) rest = access_again kind d e rest
operands_again memory_size rest = refl
operands_again (i32_const d) rest = rw (signed_again d rest) refl
operands_again (i64_const d) rest = rw (signed_again d rest) refl
operands_again (atomic {kind = kind} {text = text} {first = first} {second = second} c found d e) rest =
    rw (append_assoc, unsigned_again c ((first ++ second) ++ rest), found) (access_again kind d e rest)

positive_room : (depth_left : ℕ) → 0 < depth_left → eqb depth_left 0 ≡ false
positive_room depth_left h = ne_eqb depth_left 0 (omega arith)

opened_again : (depth_left : ℕ) (ty : Option ValType) (bytes : List ℕ) → 0 < depth_left → opened_at depth_left (block_type ty ∷ bytes) ≡ Ok (ty, bytes)
unfolding opened_at
opened_again depth_left ty bytes h = rw (positive_room depth_left h) (type_again ty bytes)

pub closed_again : (read : Reader) (depth_left next : ℕ) (bytes : List ℕ) (is : List Instr) (bs : List (List Instr)) (rest : List ℕ)
    → read depth_left next bytes ≡ Ok (record { instrs = is; nested = bs; closer = 0x0B; rest = rest }) → closed_with read depth_left next bytes ≡ Ok (record { instrs = is; nested = bs; closer = 0x0B; rest = rest })
unfolding closed_with
closed_again read depth_left next bytes is bs rest e = rw e refl

framed_again : (read : Reader) (depth_left next : ℕ) (make : Option ValType → ℕ → Instr) (ty : Option ValType) (bytes : List ℕ) (is : List Instr) (bs : List (List Instr)) (rest : List ℕ) → 0 < depth_left
    → read (depth_left - 1) (next + 1) bytes ≡ Ok (record { instrs = is; nested = bs; closer = 0x0B; rest = rest })
    → framed_with read depth_left next make (block_type ty ∷ bytes) ≡ Ok (record { instr = make ty next; nested = is ∷ bs; rest = rest })
unfolding framed_with
framed_again read depth_left next make ty bytes is bs rest h e = rw (opened_again depth_left ty bytes h, closed_again read (depth_left - 1) (next + 1) bytes is bs rest e) refl

then_again : (read : Reader) (depth_left next : ℕ) (ty : Option ValType) (bytes : List ℕ) (is : List Instr) (bs : List (List Instr)) (rest : List ℕ) → 0 < depth_left
    → read (depth_left - 1) (next + 1) bytes ≡ Ok (record { instrs = is; nested = bs; closer = 0x0B; rest = rest })
    → if_with read depth_left next (block_type ty ∷ bytes) ≡ Ok (record { instr = If ty next (next + 1 + length bs) Absent; nested = is ∷ bs ++ [] ∷ []; rest = rest })
unfolding if_with
then_again read depth_left next ty bytes is bs rest h e = rw (opened_again depth_left ty bytes h, e) refl

else_again : (read : Reader) (depth_left next : ℕ) (ty : Option ValType) (bytes : List ℕ) (is : List Instr) (bs : List (List Instr)) (mid : List ℕ) (js : List Instr) (cs : List (List Instr)) (rest : List ℕ) → 0 < depth_left
    → read (depth_left - 1) (next + 1) bytes ≡ Ok (record { instrs = is; nested = bs; closer = 0x05; rest = mid })
    → read (depth_left - 1) (next + 1 + length bs + 1) mid ≡ Ok (record { instrs = js; nested = cs; closer = 0x0B; rest = rest })
    → if_with read depth_left next (block_type ty ∷ bytes) ≡ Ok (record { instr = If ty next (next + 1 + length bs) Present; nested = is ∷ bs ++ js ∷ cs; rest = rest })
unfolding if_with
else_again read depth_left next ty bytes is bs mid js cs rest h e f = rw (opened_again depth_left ty bytes h, e, closed_again read (depth_left - 1) (next + 1 + length bs + 1) mid js cs rest f) refl

pub data IsCloser : ℕ → Type 0 where
  ends : IsCloser 0x0B
  at_else : IsCloser 0x05

-- what is read after an instruction
abbrev pub after : One → Result Body Stop → Result Body Stop
after one more = more >>= λ more. Ok (record { instrs = one.instr ∷ more.instrs; nested = one.nested ++ more.nested; closer = more.closer; rest = more.rest })

-- an opcode is not one of the bytes that start or close a block
other_than : (code c : ℕ) (op : Opcode) → opcode_at code ≡ Some op → opcode_at c ≡ None → eqb code c ≡ false
other_than code c op e n = ne_eqb code c (λ h. let k : opcode_at code ≡ None = ap opcode_at h ∙ n in absurd (cc (e, k)))

is_end : opcode_at 0x0B ≡ None
unfolding opcode_at
is_end = refl

is_else : opcode_at 0x05 ≡ None
unfolding opcode_at
is_else = refl

is_block : opcode_at 0x02 ≡ None
unfolding opcode_at
is_block = refl

is_loop : opcode_at 0x03 ≡ None
unfolding opcode_at
is_loop = refl

is_if : opcode_at 0x04 ≡ None
unfolding opcode_at
is_if = refl

plain_again : {text : List ℕ} {i : Instr} → Plain text i → (fuel depth_left next : ℕ) (rest : List ℕ)
    → instrs_at (suc fuel) depth_left next (text ++ rest) ≡ after (record { instr = i; nested = []; rest = rest }) (instrs_at fuel depth_left next rest)
unfolding instrs_at instr_with plain_at
plain_again (plain_instr {code = code} {op = op} e d) fuel depth_left next rest =
    rw (other_than code 0x0B op e is_end, other_than code 0x05 op e is_else, other_than code 0x02 op e is_block, other_than code 0x03 op e is_loop, other_than code 0x04 op e is_if, e, operands_again d rest, add-zero) refl

closer_again : {closer : ℕ} → IsCloser closer → (fuel depth_left next : ℕ) (rest : List ℕ) → instrs_at (suc fuel) depth_left next (closer ∷ rest) ≡ Ok (record { instrs = []; nested = []; closer = closer; rest = rest })
unfolding instrs_at
closer_again ends fuel depth_left next rest = refl
closer_again at_else fuel depth_left next rest = refl

pub plain_long : {text : List ℕ} {i : Instr} → Plain text i → 0 < length text
plain_long (plain_instr e d) = omega arith

pub from_suc : (fuel : ℕ) → 0 < fuel → (P : ℕ → Type 0) → ((f : ℕ) → fuel ≡ suc f → P (suc f)) → P fuel
from_suc zero h P k = absurd (omega arith)
from_suc (suc f) h P k = k f refl

-- Reading gives this.
abbrev pub Read : ℕ → ℕ → ℕ → List ℕ → List Instr → List (List Instr) → ℕ → List ℕ → Type 0
Read fuel depth_left next bytes is bs closer rest = instrs_at fuel depth_left next bytes ≡ Ok (record { instrs = is; nested = bs; closer = closer; rest = rest })

block_read : (f depth_left next op : ℕ) (make : Option ValType → ℕ → Instr) (ty : Option ValType) (inner more : List ℕ) (body is : List Instr) (bs cs : List (List Instr)) (closer : ℕ) (rest : List ℕ) → 0 < depth_left
    → ((bytes : List ℕ) → instrs_at (suc f) depth_left next (op ∷ bytes) ≡ (framed_with (instrs_at f) depth_left next make bytes >>= λ one. after one (instrs_at f depth_left (next + length one.nested) one.rest)))
    → Read f (depth_left - 1) (next + 1) (inner ++ 0x0B ∷ more) body bs 0x0B more → Read f depth_left (next + 1 + length bs) more is cs closer rest
    → Read (suc f) depth_left next (op ∷ block_type ty ∷ inner ++ 0x0B ∷ more) (make ty next ∷ is) (body ∷ bs ++ cs) closer rest
block_read f depth_left next op make ty inner more body is bs cs closer rest h unfolds d e =
    let k : next + length (body ∷ bs) ≡ next + 1 + length bs = omega arith in
    unfolds (block_type ty ∷ inner ++ 0x0B ∷ more)
    ∙ ap (λ (o : Result One Stop). o >>= λ one. after one (instrs_at f depth_left (next + length one.nested) one.rest)) (framed_again (instrs_at f) depth_left next make ty (inner ++ 0x0B ∷ more) body bs more h d)
    ∙ rw (k, e) refl

block_unfolds : (f depth_left next : ℕ) (bytes : List ℕ) → instrs_at (suc f) depth_left next (0x02 ∷ bytes) ≡ (framed_with (instrs_at f) depth_left next Block bytes >>= λ one. after one (instrs_at f depth_left (next + length one.nested) one.rest))
unfolding instrs_at instr_with
block_unfolds f depth_left next bytes = refl

loop_unfolds : (f depth_left next : ℕ) (bytes : List ℕ) → instrs_at (suc f) depth_left next (0x03 ∷ bytes) ≡ (framed_with (instrs_at f) depth_left next Loop bytes >>= λ one. after one (instrs_at f depth_left (next + length one.nested) one.rest))
unfolding instrs_at instr_with
loop_unfolds f depth_left next bytes = refl

if_unfolds : (f depth_left next : ℕ) (bytes : List ℕ) → instrs_at (suc f) depth_left next (0x04 ∷ bytes) ≡ (if_with (instrs_at f) depth_left next bytes >>= λ one. after one (instrs_at f depth_left (next + length one.nested) one.rest))
unfolding instrs_at instr_with
if_unfolds f depth_left next bytes = refl

pub spelled_again : {depth_left next : ℕ} {text : List ℕ} {is : List Instr} {bs : List (List Instr)} → Spells depth_left next text is bs → (closer : ℕ) → IsCloser closer → (rest : List ℕ) (fuel : ℕ)
    → length (text ++ closer ∷ rest) ≤ fuel → Read fuel depth_left next (text ++ closer ∷ rest) is bs closer rest
spelled_again (none {depth_left = depth_left} {next = next}) closer c rest fuel h =
    from_suc fuel (omega arith) (λ f. Read f depth_left next (closer ∷ rest) [] [] closer rest) (λ f e. closer_again c f depth_left next rest)
spelled_again (plain {depth_left = depth_left} {next = next} {text = t} {rest = r} {i = i} {is = is} {bs = bs} p d) closer c rest fuel h =
    let long = plain_long p in
    from_suc fuel (omega (arith, length-append {A = ℕ})) (λ f. Read f depth_left next ((t ++ r) ++ closer ∷ rest) (i ∷ is) bs closer rest)
    (λ f e.
    let ih = spelled_again d closer c rest f (omega (arith, length-append {A = ℕ})) in
    rw append_assoc (plain_again p f depth_left next (r ++ closer ∷ rest) ∙ ap (after (record { instr = i; nested = []; rest = r ++ closer ∷ rest })) ih))
spelled_again (block {depth_left = depth_left} {next = next} {ty = ty} {inner = inner} {rest = r} {body = body} {is = is} {bs = bs} {cs = cs} h0 d e) closer c rest fuel h =
    from_suc fuel (omega arith) (λ f. Read f depth_left next ((0x02 ∷ block_type ty ∷ inner ++ 0x0B ∷ r) ++ closer ∷ rest) (Block ty next ∷ is) (body ∷ bs ++ cs) closer rest)
    (λ f k.
    let flat : (0x02 ∷ block_type ty ∷ inner ++ 0x0B ∷ r) ++ closer ∷ rest ≡ 0x02 ∷ block_type ty ∷ inner ++ 0x0B ∷ (r ++ closer ∷ rest) = simp append_assoc in
    let whole : length (0x02 ∷ block_type ty ∷ inner ++ 0x0B ∷ (r ++ closer ∷ rest)) ≤ fuel = subst (λ (t : List ℕ). length t ≤ fuel) flat h in
    let parts = length-append inner (0x0B ∷ (r ++ closer ∷ rest)) in
    let one = spelled_again d 0x0B ends (r ++ closer ∷ rest) f (omega arith) in
    let two = spelled_again e closer c rest f (omega arith) in
    rw flat (block_read f depth_left next 0x02 Block ty inner (r ++ closer ∷ rest) body is bs cs closer rest h0 (block_unfolds f depth_left next) one two))
spelled_again (loop {depth_left = depth_left} {next = next} {ty = ty} {inner = inner} {rest = r} {body = body} {is = is} {bs = bs} {cs = cs} h0 d e) closer c rest fuel h =
    from_suc fuel (omega arith) (λ f. Read f depth_left next ((0x03 ∷ block_type ty ∷ inner ++ 0x0B ∷ r) ++ closer ∷ rest) (Loop ty next ∷ is) (body ∷ bs ++ cs) closer rest)
    (λ f k.
    let flat : (0x03 ∷ block_type ty ∷ inner ++ 0x0B ∷ r) ++ closer ∷ rest ≡ 0x03 ∷ block_type ty ∷ inner ++ 0x0B ∷ (r ++ closer ∷ rest) = simp append_assoc in
    let whole : length (0x03 ∷ block_type ty ∷ inner ++ 0x0B ∷ (r ++ closer ∷ rest)) ≤ fuel = subst (λ (t : List ℕ). length t ≤ fuel) flat h in
    let parts = length-append inner (0x0B ∷ (r ++ closer ∷ rest)) in
    let one = spelled_again d 0x0B ends (r ++ closer ∷ rest) f (omega arith) in
    let two = spelled_again e closer c rest f (omega arith) in
    rw flat (block_read f depth_left next 0x03 Loop ty inner (r ++ closer ∷ rest) body is bs cs closer rest h0 (loop_unfolds f depth_left next) one two))
spelled_again (if_then {depth_left = depth_left} {next = next} {ty = ty} {inner = inner} {rest = r} {yes = ys} {is = is} {bs = bs} {cs = cs} h0 d e) closer c rest fuel h =
    from_suc fuel (omega arith) (λ f. Read f depth_left next ((0x04 ∷ block_type ty ∷ inner ++ 0x0B ∷ r) ++ closer ∷ rest) (If ty next (next + 1 + length bs) Absent ∷ is) (ys ∷ bs ++ [] ∷ cs) closer rest)
    (λ f k.
    let flat : (0x04 ∷ block_type ty ∷ inner ++ 0x0B ∷ r) ++ closer ∷ rest ≡ 0x04 ∷ block_type ty ∷ inner ++ 0x0B ∷ (r ++ closer ∷ rest) = simp append_assoc in
    let whole : length (0x04 ∷ block_type ty ∷ inner ++ 0x0B ∷ (r ++ closer ∷ rest)) ≤ fuel = subst (λ (t : List ℕ). length t ≤ fuel) flat h in
    let parts = length-append inner (0x0B ∷ (r ++ closer ∷ rest)) in
    let one = spelled_again d 0x0B ends (r ++ closer ∷ rest) f (omega arith) in
    let two = spelled_again e closer c rest f (omega arith) in
    let n : next + length (ys ∷ bs ++ [] ∷ []) ≡ next + 1 + length bs + 1 = omega (arith, length-append bs ([] ∷ [])) in
    rw flat (if_unfolds f depth_left next (block_type ty ∷ inner ++ 0x0B ∷ (r ++ closer ∷ rest))
    ∙ ap (λ (o : Result One Stop). o >>= λ one. after one (instrs_at f depth_left (next + length one.nested) one.rest)) (then_again (instrs_at f) depth_left next ty (inner ++ 0x0B ∷ (r ++ closer ∷ rest)) ys bs (r ++ closer ∷ rest) h0 one)
    ∙ rw (n, two) (simp append_assoc)))
spelled_again (if_else {depth_left = depth_left} {next = next} {ty = ty} {first = first} {second = second} {rest = r} {yes = ys} {no = ns} {is = is} {bs = bs} {cs = cs} {ds = ds} h0 d g e) closer c rest fuel h =
    from_suc fuel (omega arith) (λ f. Read f depth_left next ((0x04 ∷ block_type ty ∷ first ++ 0x05 ∷ second ++ 0x0B ∷ r) ++ closer ∷ rest) (If ty next (next + 1 + length bs) Present ∷ is) (ys ∷ bs ++ ns ∷ cs ++ ds) closer rest)
    (λ f k.
    let X : List ℕ = r ++ closer ∷ rest in
    let flat : (0x04 ∷ block_type ty ∷ first ++ 0x05 ∷ second ++ 0x0B ∷ r) ++ closer ∷ rest ≡ 0x04 ∷ block_type ty ∷ first ++ 0x05 ∷ (second ++ 0x0B ∷ X) = simp append_assoc in
    let whole : length (0x04 ∷ block_type ty ∷ first ++ 0x05 ∷ (second ++ 0x0B ∷ X)) ≤ fuel = subst (λ (t : List ℕ). length t ≤ fuel) flat h in
    let parts = length-append first (0x05 ∷ (second ++ 0x0B ∷ X)) in
    let parts2 = length-append second (0x0B ∷ X) in
    let one = spelled_again d 0x05 at_else (second ++ 0x0B ∷ X) f (omega arith) in
    let other = spelled_again g 0x0B ends X f (omega arith) in
    let two = spelled_again e closer c rest f (omega arith) in
    let n : next + length (ys ∷ bs ++ ns ∷ cs) ≡ next + 1 + length bs + 1 + length cs = omega (arith, length-append bs (ns ∷ cs)) in
    rw flat (if_unfolds f depth_left next (block_type ty ∷ first ++ 0x05 ∷ (second ++ 0x0B ∷ X))
    ∙ ap (λ (o : Result One Stop). o >>= λ one. after one (instrs_at f depth_left (next + length one.nested) one.rest)) (else_again (instrs_at f) depth_left next ty (first ++ 0x05 ∷ (second ++ 0x0B ∷ X)) ys bs (second ++ 0x0B ∷ X) ns cs X h0 one other)
    ∙ rw (n, two) (simp append_assoc)))
