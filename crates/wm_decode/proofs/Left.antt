-- The bytes left when reading stops are no more than there were, and so are the bytes after a value.
use Rattle.std.proofs.Common.{◌≡◌, ℕ, zero, suc, ◌+◌, ◌-◌, ◌/◌, ◌^◌, ◌<◌, ◌≤◌, Bool, true, false, cond, ltb, eqb, List, [], ◌∷◌, ◌++◌, length, take, drop, Option, Some, None, Result, Ok, Err, refl, subst, arith, length-append, length-take, length-drop}
use Rattle.std.specs.Prelude.{is_some, IfErr}
use Rattle.std.proofs.lemmas.Bool.{le-ltb}
use Rattle.std.specs.Str.{is_utf8}
use Rattle.wm_ast.specs.Exports.{export_at}
use Rattle.wm_ast.specs.declared.access.AccessKind.{AccessKind}
use Rattle.wm_ast.specs.declared.types.FuncType.{FuncType}
use Rattle.wm_ast.specs.declared.types.ValType.{ValType}
use Rattle.wm_ast.specs.declared.exports.Export.{Export}
use Rattle.wm_ast.specs.declared.instr.Instr.{Instr}
use Rattle.wm_ast.specs.declared.instr.Instr.TheVariants as instr
use Rattle.wm_ast.specs.declared.module.ConstExpr.TheVariants.{I32, I64}
use Rattle.wm_ast.specs.declared.module.Func.{Func}
use Rattle.wm_decode.specs.declared.fault.FaultKind.{FaultKind}
use Rattle.wm_decode.specs.declared.fault.FaultKind.TheVariants.{BadNumber, SectionSize}
use Rattle.wm_decode.specs.declared.opcode.Opcode.{Opcode}
use Rattle.wm_decode.specs.declared.opcode.Opcode.TheVariants as opcode
use Rattle.wm_decode.specs.declared.fault.ItemFault.{ItemFault}
use Rattle.wm_decode.specs.declared.fault.ItemFault.TheVariants.{OutOfMemory, WithLeft}
use Rattle.wm_decode.specs.Bounds.{Bounds, profile}
use Rattle.wm_decode.specs.Implements.{Fails, HasRoom, Implements, LeftWithin, map_fault}
use Rattle.wm_decode.specs.Stop.{Stop, stop, ended, before, moved, map_stop}
use Rattle.wm_decode.specs.Faults.{atomic_fault, opcode_fault, limits_fault, import_kind_fault, segment_flag_fault}
use Rattle.wm_decode.specs.Opcodes.{opcode_at, atomic_at}
use Rattle.wm_decode.specs.Module.{params_of}
use Rattle.wm_decode.specs.Reading.{◌>>=◌, unsigned_at, signed_at}
use Rattle.wm_decode.specs.ReadingVectors.{u32_at, own_bytes_at, byte_vector_at, name_at, items_at, vector_at, filled_at, sized_at, more_at}
use Rattle.wm_decode.specs.ReadingInstructions.{value_type_at, block_type_at, access_at, access_of, atomic_access_at, zero_at, immediates_at, operands_of, plain_at, Body, One, Reader, closed_with, opened_at, framed_with, if_with, instr_with, instrs_at, instrs_in, blocks_at}
use Rattle.wm_decode.specs.ReadingParts.{byte_at, end_at, result_at, func_type_at, limits_at, import_at, second_import_at, imports_at, memories_at, indices_at, no_items_at, initial_at, mutability_at, global_at, export_kind_at, export_entry_at, export_step, exports_at, local_entry_at, local_step, locals_at, function_at, sized_function_at, more_functions_at, code_at, segment_at, agrees, segments_at}
use Rattle.wm_decode.specs.ReadingModule.{custom_at}

-- the bytes after a value, and the bytes left when reading stops, are at most this long
abbrev pub Within : {A : Type 0} → (A → List ℕ) → ℕ → Result A Stop → Type 0
Within rest n (Ok x) = length (rest x) ≤ n
Within rest n (Err s) = s.left ≤ n

abbrev pub rest_of : {X : Type 0} → X × List ℕ → List ℕ
rest_of x = x.1

abbrev pub self : List ℕ → List ℕ
self bytes = bytes

abbrev pub Short : {X : Type 0} → (List ℕ → Result (X × List ℕ) Stop) → Type 0
Short read = (bytes : List ℕ) → Within rest_of (length bytes) (read bytes)

pub more : {A : Type 0} (rest : A → List ℕ) (m n : ℕ) (r : Result A Stop) → m ≤ n → Within rest m r → Within rest n r
more rest m n (Ok x) le h = omega arith
more rest m n (Err s) le h = omega arith

pub step : {A B : Type 0} (ra : A → List ℕ) (rb : B → List ℕ) (n : ℕ) (r : Result A Stop) (f : A → Result B Stop) → Within ra n r → ((x : A) → length (ra x) ≤ n → Within rb n (f x)) → Within rb n (r >>= f)
step ra rb n (Ok x) f h k = k x h
step ra rb n (Err s) f h k = h

pub test : {A : Type 0} (rest : A → List ℕ) (n : ℕ) (b : Bool) (x y : Result A Stop) → Within rest n x → Within rest n y → Within rest n (cond b x y)
test rest n true x y h k = h
test rest n false x y h k = k

at : {A : Type 0} (rest : A → List ℕ) (n : ℕ) (r : Result A Stop) → Within rest n r → Within rest n (map_stop (moved n) r)
at rest n (Ok x) h = h
at rest n (Err s) h = omega arith

-- the common cases: a reading, and another that may stop at its first byte; a reading, and another of the bytes after
-- it
pub go : {X Y : Type 0} (n : ℕ) (r : Result (X × List ℕ) Stop) (f : X × List ℕ → Result (Y × List ℕ) Stop) → Within rest_of n r → ((x : X × List ℕ) → length x.1 ≤ n → Within rest_of n (f x)) → Within rest_of n (r >>= f)
go n r f h k = step rest_of rest_of n r f h k

pub then : {X Y : Type 0} (bytes : List ℕ) (r : Result (X × List ℕ) Stop) (f : X × List ℕ → Result (Y × List ℕ) Stop) → Within rest_of (length bytes) r → ((x : X × List ℕ) → Within rest_of (length x.1) (f x)) → Within rest_of (length bytes) (r >>= f)
then bytes r f h k = step rest_of rest_of (length bytes) r f h (λ x le. more rest_of (length x.1) (length bytes) (f x) le (k x))

-- numbers
unsigned_short : (most : ℕ) → Short (unsigned_at most)
unfolding unsigned_at
unsigned_short most [] = omega arith
unsigned_short most (b ∷ bytes) =
    let n = length (b ∷ bytes) in
    test rest_of n (ltb b 128) _ _ (test rest_of n (ltb most b) _ _ (omega arith) (omega arith)) (
    test rest_of n (ltb most 128) _ _ (omega arith) (
    go n _ _ (at rest_of n (unsigned_at (most / 128) bytes) (more rest_of (length bytes) n (unsigned_at (most / 128) bytes) (omega arith) (unsigned_short (most / 128) bytes))) (λ x le. le)))

pub signed_short : (most : ℕ) → Short (signed_at most)
unfolding signed_at
signed_short most [] = omega arith
signed_short most (b ∷ bytes) =
    let n = length (b ∷ bytes) in
    test rest_of n (ltb b 64) _ _ (test rest_of n (ltb (most / 2) b) _ _ (omega arith) (omega arith)) (
    test rest_of n (ltb b 128) _ _ (test rest_of n (ltb (most / 2) (127 - b)) _ _ (omega arith) (omega arith)) (
    test rest_of n (ltb most 128) _ _ (omega arith) (
    go n _ _ (at rest_of n (signed_at (most / 128) bytes) (more rest_of (length bytes) n (signed_at (most / 128) bytes) (omega arith) (signed_short (most / 128) bytes))) (λ x le. le))))

pub u32_short : Short u32_at
u32_short bytes = unsigned_short (2 ^ 32 - 1) bytes

-- vectors
abbrev both : List ℕ × List ℕ → List ℕ
both x = x.0 ++ x.1

split_length : (n : ℕ) (bytes : List ℕ) → length (take n bytes ++ drop n bytes) ≤ length bytes
split_length n bytes = omega (arith, length-append (take n bytes) (drop n bytes), length-take n bytes, length-drop n bytes)

own_bytes_short : (short : Stop) (bytes : List ℕ) → short.left ≤ length bytes → Within both (length bytes) (own_bytes_at short bytes)
unfolding own_bytes_at
own_bytes_short short bytes small = step rest_of both (length bytes) _ _ (u32_short bytes) (λ count le.
    test both (length bytes) (ltb (length count.1) count.0) _ _ small (omega (arith, le, split_length count.0 count.1)))

byte_vector_short : Short byte_vector_at
byte_vector_short bytes = forget (length bytes) (byte_vector_at bytes) (own_bytes_short ended bytes (omega arith)) where
  forget : (n : ℕ) (r : Result (List ℕ × List ℕ) Stop) → Within both n r → Within rest_of n r
  forget n (Ok x) h = omega (arith, h, length-append x.0 x.1)
  forget n (Err s) h = h

pub name_short : Short name_at
unfolding name_at
name_short bytes = go (length bytes) _ _ (at rest_of (length bytes) (byte_vector_at bytes) (byte_vector_short bytes)) (λ text le. test rest_of (length bytes) (is_utf8 text.0) _ _ le (omega arith))

module _ {X : Type 0} (item_at : List ℕ → Result (X × List ℕ) Stop) (h : Short item_at) where
  items_short : (n : ℕ) → Short (items_at item_at n)
  unfolding items_at
  items_short zero bytes = omega arith
  items_short (suc n) bytes = then bytes _ _ (h bytes) (λ first. go (length first.1) _ _ (items_short n first.1) (λ others le. le))

  pub vector_short : Short (vector_at item_at)
  unfolding vector_at
  vector_short bytes = then bytes _ _ (u32_short bytes) (λ count. items_short count.0 count.1)

  -- in a section or body
  pub enclosed : (content after : List ℕ) → Within (λ y. y.1 ++ after) (length content + length after) (map_stop (before (length after)) (item_at content))
  enclosed content after = enclosed_by (item_at content) (h content) where
    enclosed_by : (r : Result (X × List ℕ) Stop) → Within rest_of (length content) r → Within (λ y. y.1 ++ after) (length content + length after) (map_stop (before (length after)) r)
    enclosed_by (Ok y) k = omega (arith, k, length-append y.1 after)
    enclosed_by (Err s) k = omega arith

  pub filled_short : (content : List ℕ × List ℕ) → Within rest_of (length (both content)) (filled_at item_at content)
  unfolding filled_at
  filled_short content =
      let n = length content.0 + length content.1 in
      more rest_of n (length (both content)) (filled_at item_at content) (omega (arith, length-append content.0 content.1)) (
      step (λ (y : X × List ℕ). y.1 ++ content.1) rest_of n _ _ (enclosed content.0 content.1) (λ y le.
      test rest_of n (eqb (length y.1) 0) _ _ (omega arith) (omega (arith, le, length-append y.1 content.1))))

more_short : {S : Type 0} (step_at : S → List ℕ → Result (S × List ℕ) Stop) → ((s : S) → Short (step_at s)) → (n : ℕ) (s : S) → Short (more_at step_at n s)
unfolding more_at
more_short step_at h zero s bytes = omega arith
more_short step_at h (suc n) s bytes = then bytes _ _ (h s bytes) (λ x. more_short step_at h n x.0 x.1)

-- instructions
value_type_short : Short value_type_at
unfolding value_type_at
value_type_short [] = omega arith
value_type_short (b ∷ bytes) = let n = length (b ∷ bytes) in test rest_of n (eqb b 0x7F) _ _ (omega arith) (test rest_of n (eqb b 0x7E) _ _ (omega arith) (omega arith))

pub block_type_short : Short block_type_at
unfolding block_type_at
block_type_short [] = omega arith
block_type_short (b ∷ bytes) =
    let n = length (b ∷ bytes) in
    test rest_of n (eqb b 0x40) _ _ (omega arith) (test rest_of n (eqb b 0x7F) _ _ (omega arith) (test rest_of n (eqb b 0x7E) _ _ (omega arith) (omega arith)))

pub access_short : (kind : AccessKind) → Short (access_at kind)
unfolding access_at
access_short kind bytes = then bytes _ _ (u32_short bytes) (λ a. go (length a.1) _ _ (u32_short a.1) (λ o le. le))

access_of_short : (other : Stop) (k : Option AccessKind) (n : ℕ) (bytes : List ℕ) → other.left ≤ n → length bytes ≤ n → Within rest_of n (access_of other k bytes)
access_of_short other None n bytes small le = small
access_of_short other (Some kind) n bytes small le = more rest_of (length bytes) n (access_at kind bytes) le (access_short kind bytes)

-- after a byte, at which reading may stop
abbrev Follows : {X : Type 0} → (List ℕ → Result (X × List ℕ) Stop) → Type 0
Follows read = (bytes : List ℕ) → Within rest_of (length bytes + 1) (read bytes)

follows : {X : Type 0} (read : List ℕ → Result (X × List ℕ) Stop) → Short read → Follows read
follows read h bytes = more rest_of (length bytes) (length bytes + 1) (read bytes) (omega arith) (h bytes)

atomic_follows : Follows atomic_access_at
unfolding atomic_access_at
atomic_follows bytes =
    let n = length bytes + 1 in
    go n _ _ (at rest_of n (u32_at bytes) (follows u32_at u32_short bytes)) (λ code le. access_of_short (stop (atomic_fault code.0) n) (atomic_at code.0) n code.1 (omega arith) le)

pub zero_short : Short zero_at
zero_short [] = omega arith
zero_short (b ∷ bytes) = test rest_of (length (b ∷ bytes)) (eqb b 0x00) _ _ (omega arith) (omega arith)

pub table_short : Short (immediates_at opcode.BrTable)
unfolding immediates_at
table_short bytes = then bytes _ _ (vector_short u32_at u32_short bytes) (λ labels. go (length labels.1) _ _ (u32_short labels.1) (λ o le. le))

immediates_follow : (op : Opcode) → Follows (immediates_at op)
unfolding immediates_at
immediates_follow (opcode.NoImmediates i) bytes = omega arith
immediates_follow (opcode.Indexed kind) bytes = let n = length bytes + 1 in go n _ _ (follows u32_at u32_short bytes) (λ x le. le)
immediates_follow opcode.BrTable bytes = follows (immediates_at opcode.BrTable) table_short bytes
immediates_follow (opcode.Access kind) bytes = follows (access_at kind) (access_short kind) bytes
immediates_follow opcode.MemorySize bytes = follows zero_at zero_short bytes
immediates_follow opcode.I32Const bytes = let n = length bytes + 1 in go n _ _ (follows (signed_at (2 ^ 32 - 1)) (signed_short (2 ^ 32 - 1)) bytes) (λ x le. le)
immediates_follow opcode.I64Const bytes = let n = length bytes + 1 in go n _ _ (follows (signed_at (2 ^ 64 - 1)) (signed_short (2 ^ 64 - 1)) bytes) (λ x le. le)
immediates_follow opcode.Atomic bytes = atomic_follows bytes

operands_follow : (other : Stop) (o : Option Opcode) (bytes : List ℕ) → other.left ≤ length bytes + 1 → Within rest_of (length bytes + 1) (operands_of other o bytes)
operands_follow other None bytes small = small
operands_follow other (Some op) bytes small = immediates_follow op bytes

plain_follows : (code : ℕ) → Follows (plain_at code)
unfolding plain_at
plain_follows code bytes = operands_follow (stop (opcode_fault code) (length bytes + 1)) (opcode_at code) bytes (omega arith)

opened_follows : (depth_left : ℕ) → Follows (opened_at depth_left)
unfolding opened_at
opened_follows depth_left bytes = test rest_of (length bytes + 1) (eqb depth_left 0) _ _ (omega arith) (follows block_type_at block_type_short bytes)

-- the byte that closes a block, and the bytes after it
abbrev pub closing : Body → List ℕ
closing b = b.closer ∷ b.rest

abbrev pub after_one : One → List ℕ
after_one one = one.rest

abbrev pub ShortReader : Reader → Type 0
ShortReader read = (depth_left next : ℕ) (bytes : List ℕ) → Within closing (length bytes) (read depth_left next bytes)

module _ (read : Reader) (h : ShortReader read) where
  pub closed_short : ShortReader (closed_with read)
  unfolding closed_with
  closed_short depth_left next bytes = step closing closing (length bytes) _ _ (h depth_left next bytes) (λ b le. test closing (length bytes) (eqb b.closer 0x0B) _ _ le (omega arith))

  within_closed : (n depth_left next : ℕ) (bytes : List ℕ) → length bytes ≤ n → Within closing n (closed_with read depth_left next bytes)
  within_closed n depth_left next bytes le = more closing (length bytes) n (closed_with read depth_left next bytes) le (closed_short depth_left next bytes)

  framed_follows : (depth_left next : ℕ) (make : Option ValType → ℕ → Instr) (bytes : List ℕ) → Within after_one (length bytes + 1) (framed_with read depth_left next make bytes)
  unfolding framed_with
  framed_follows depth_left next make bytes =
      let n = length bytes + 1 in
      step rest_of after_one n _ _ (opened_follows depth_left bytes) (λ ty le.
      step closing after_one n _ _ (within_closed n (depth_left - 1) (next + 1) ty.1 le) (λ b le2. omega arith))

  if_follows : (depth_left next : ℕ) (bytes : List ℕ) → Within after_one (length bytes + 1) (if_with read depth_left next bytes)
  unfolding if_with
  if_follows depth_left next bytes =
      let n = length bytes + 1 in
      step rest_of after_one n _ _ (opened_follows depth_left bytes) (λ ty le.
      step closing after_one n _ _ (more closing (length ty.1) n (read (depth_left - 1) (next + 1) ty.1) le (h (depth_left - 1) (next + 1) ty.1)) (λ b le2.
      test after_one n (eqb b.closer 0x0B) _ _ (omega arith) (
      step closing after_one n _ _ (within_closed n (depth_left - 1) (next + 1 + length b.nested + 1) b.rest (omega arith)) (λ c le3. omega arith))))

  instr_follows : (depth_left next op : ℕ) (bytes : List ℕ) → Within after_one (length bytes + 1) (instr_with read depth_left next op bytes)
  unfolding instr_with
  instr_follows depth_left next op bytes =
      let n = length bytes + 1 in
      test after_one n (eqb op 0x02) _ _ (framed_follows depth_left next instr.Block bytes) (
      test after_one n (eqb op 0x03) _ _ (framed_follows depth_left next instr.Loop bytes) (
      test after_one n (eqb op 0x04) _ _ (if_follows depth_left next bytes) (
      step rest_of after_one n _ _ (plain_follows op bytes) (λ x le. le))))

pub instrs_short : (fuel : ℕ) → ShortReader (instrs_at fuel)
unfolding instrs_at
instrs_short zero depth_left next bytes = omega arith
instrs_short (suc fuel) depth_left next [] = omega arith
instrs_short (suc fuel) depth_left next (op ∷ bytes) =
    let n = length (op ∷ bytes) in
    test closing n (eqb op 0x0B) _ _ (omega arith) (
    test closing n (eqb op 0x05) _ _ (omega arith) (
    step after_one closing n _ _ (more after_one (length bytes + 1) n (instr_with (instrs_at fuel) depth_left next op bytes) (omega arith) (instr_follows (instrs_at fuel) (instrs_short fuel) depth_left next op bytes)) (λ one le.
    step closing closing n _ _ (more closing (length one.rest) n (instrs_at fuel depth_left (next + length one.nested) one.rest) le (instrs_short fuel depth_left (next + length one.nested) one.rest)) (λ b le2. le2))))

blocks_short : (depth_left : ℕ) → Short (blocks_at depth_left)
unfolding blocks_at
blocks_short depth_left bytes = step closing rest_of (length bytes) _ _ (closed_short instrs_in (λ k next rest. instrs_short (length rest) k next rest) depth_left 1 bytes) (λ b le. omega arith)

-- what is in sections
byte_short : (wrong : ℕ → FaultKind) (code : ℕ) (bytes : List ℕ) → Within self (length bytes) (byte_at wrong code bytes)
byte_short wrong code [] = omega arith
byte_short wrong code (b ∷ bytes) = test self (length (b ∷ bytes)) (eqb b code) _ _ (omega arith) (omega arith)

byte_then : {X : Type 0} (wrong : ℕ → FaultKind) (code : ℕ) (bytes : List ℕ) (f : List ℕ → Result (X × List ℕ) Stop) → ((rest : List ℕ) → Within rest_of (length rest) (f rest)) → Within rest_of (length bytes) (byte_at wrong code bytes >>= f)
byte_then wrong code bytes f k = step self rest_of (length bytes) (byte_at wrong code bytes) f (byte_short wrong code bytes) (λ rest le. more rest_of (length rest) (length bytes) (f rest) le (k rest))

result_short : Short result_at
unfolding result_at
result_short bytes =
    let n = length bytes in
    go n _ _ (u32_short bytes) (λ count le.
    test rest_of n (eqb count.0 0) _ _ le (test rest_of n (eqb count.0 1) _ _ (go n _ _ (more rest_of (length count.1) n (value_type_at count.1) le (value_type_short count.1)) (λ ty le2. le2)) (omega arith)))

func_type_short : Short func_type_at
unfolding func_type_at
func_type_short bytes = byte_then (λ b. BadNumber) 0x60 bytes _ (λ rest. then rest _ _ (vector_short value_type_at value_type_short rest) (λ params. go (length params.1) _ _ (result_short params.1) (λ r le. le)))

limits_short : (bounds : Bounds) → Short (limits_at bounds)
unfolding limits_at
limits_short bounds bytes = byte_then limits_fault 0x03 bytes _ (λ rest.
    let n = length rest in
    go n _ _ (u32_short rest) (λ least le. test rest_of n (ltb bounds.pages least.0) _ _ (omega arith) (go n _ _ (more rest_of (length least.1) n (u32_at least.1) le (u32_short least.1)) (λ most le2. le2))))

import_short : (bounds : Bounds) → Short (import_at bounds)
unfolding import_at
import_short bounds bytes = then bytes _ _ (name_short bytes) (λ from. then from.1 _ _ (name_short from.1) (λ name.
    byte_then import_kind_fault 0x02 name.1 _ (λ rest. go (length rest) _ _ (limits_short bounds rest) (λ l le. le))))

second_import_short : Short second_import_at
unfolding second_import_at
second_import_short bytes = then bytes _ _ (name_short bytes) (λ from. then from.1 _ _ (name_short from.1) (λ name.
    step self rest_of (length name.1) _ _ (byte_short import_kind_fault 0x02 name.1) (λ rest le. omega arith)))

pub imports_short : (bounds : Bounds) → Short (imports_at bounds)
unfolding imports_at
imports_short bounds bytes = then bytes _ _ (u32_short bytes) (λ count.
    let n = length count.1 in
    test rest_of n (eqb count.0 0) _ _ (omega arith) (go n _ _ (import_short bounds count.1) (λ m le.
    test rest_of n (eqb count.0 1) _ _ le (more rest_of (length m.1) n (second_import_at m.1) le (second_import_short m.1)))))

pub memories_short : (bounds : Bounds) (imported : Bool) → Short (memories_at bounds imported)
unfolding memories_at
memories_short bounds imported bytes =
    let n = length bytes in
    go n _ _ (u32_short bytes) (λ count le.
    test rest_of n (eqb count.0 0) _ _ le (test rest_of n imported _ _ (omega arith) (
    test rest_of n (eqb count.0 1) _ _ (go n _ _ (more rest_of (length count.1) n (limits_at bounds count.1) le (limits_short bounds count.1)) (λ l le2. le2)) (omega arith))))

pub indices_short : (bounds : Bounds) → Short (indices_at bounds)
unfolding indices_at
indices_short bounds bytes =
    let n = length bytes in
    go n _ _ (u32_short bytes) (λ count le. test rest_of n (ltb bounds.functions count.0) _ _ (omega arith) (more rest_of (length count.1) n (items_at u32_at count.0 count.1) le (items_short u32_at u32_short count.0 count.1)))

pub no_items_short : Short no_items_at
unfolding no_items_at
no_items_short bytes = let n = length bytes in go n _ _ (u32_short bytes) (λ count le. test rest_of n (eqb count.0 0) _ _ le (omega arith))

constant_short : {X : Type 0} (read : List ℕ → Result (ℕ × List ℕ) Stop) (make : ℕ → X) (bytes : List ℕ) → Short read → Within rest_of (length bytes) (read bytes >>= λ n. end_at n.1 >>= λ rest. let k : Result (X × List ℕ) Stop = Ok (make n.0, rest) in k)
constant_short read make bytes h = then bytes (read bytes) _ (h bytes) (λ n. step self rest_of (length n.1) (end_at n.1) _ (byte_short _ 0x0B n.1) (λ rest le. le))

initial_short : Short initial_at
unfolding initial_at
initial_short [] = omega arith
initial_short (b ∷ bytes) =
    let n = length (b ∷ bytes) in
    test rest_of n (eqb b 0x41) _ _ (more rest_of (length bytes) n _ (omega arith) (constant_short (signed_at (2 ^ 32 - 1)) I32 bytes (signed_short (2 ^ 32 - 1)))) (
    test rest_of n (eqb b 0x42) _ _ (more rest_of (length bytes) n _ (omega arith) (constant_short (signed_at (2 ^ 64 - 1)) I64 bytes (signed_short (2 ^ 64 - 1)))) (omega arith))

mutability_short : Short mutability_at
unfolding mutability_at
mutability_short [] = omega arith
mutability_short (b ∷ bytes) = let n = length (b ∷ bytes) in test rest_of n (eqb b 0x00) _ _ (omega arith) (test rest_of n (eqb b 0x01) _ _ (omega arith) (omega arith))

pub global_short : Short global_at
unfolding global_at
global_short bytes = then bytes _ _ (value_type_short bytes) (λ ty. then ty.1 _ _ (mutability_short ty.1) (λ m. go (length m.1) _ _ (initial_short m.1) (λ i le. le)))

export_kind_short : Short export_kind_at
unfolding export_kind_at
export_kind_short [] = omega arith
export_kind_short (b ∷ bytes) =
    let n = length (b ∷ bytes) in
    test rest_of n (eqb b 0x00) _ _ (omega arith) (test rest_of n (eqb b 0x02) _ _ (omega arith) (test rest_of n (eqb b 0x03) _ _ (omega arith) (omega arith)))

entry_short : (earlier : List (List ℕ × Export)) → Short (export_entry_at earlier)
unfolding export_entry_at
entry_short earlier bytes =
    let n = length bytes in
    go n _ _ (name_short bytes) (λ name le. test rest_of n (is_some (export_at name.0 earlier)) _ _ (omega arith) (
    go n _ _ (more rest_of (length name.1) n (export_kind_at name.1) le (export_kind_short name.1)) (λ k le2.
    go n _ _ (more rest_of (length k.1) n (u32_at k.1) le2 (u32_short k.1)) (λ i le3. le3))))

pub exports_short : Short exports_at
unfolding exports_at
exports_short bytes = then bytes _ _ (u32_short bytes) (λ count.
    more_short export_step (λ earlier rest. go (length rest) _ _ (entry_short earlier rest) (λ e le. le)) count.0 [] count.1)

local_entry_short : (locals_left : ℕ) → Short (local_entry_at locals_left)
unfolding local_entry_at
local_entry_short locals_left bytes =
    let n = length bytes in
    go n _ _ (u32_short bytes) (λ count le. test rest_of n (ltb locals_left count.0) _ _ (omega arith) (go n _ _ (more rest_of (length count.1) n (value_type_at count.1) le (value_type_short count.1)) (λ ty le2. le2)))

locals_short : (most : ℕ) → Short (locals_at most)
unfolding locals_at
locals_short most bytes = then bytes _ _ (u32_short bytes) (λ entries.
    more_short (local_step most) (λ earlier rest. go (length rest) _ _ (local_entry_short (most - length earlier) rest) (λ e le. le)) entries.0 [] entries.1)

pub function_short : (bounds : Bounds) (most index : ℕ) → Short (function_at bounds most index)
unfolding function_at
function_short bounds most index bytes = then bytes _ _ (locals_short most bytes) (λ locals. go (length locals.1) _ _ (blocks_short bounds.nesting locals.1) (λ b le. le))

module _ (bounds : Bounds) (types : List FuncType) where
  sized_function_short : (index : ℕ) → Short (sized_function_at bounds types index)
  unfolding sized_function_at
  sized_function_short index bytes =
      let n = length bytes in
      step both rest_of n _ _ (own_bytes_short (stop SectionSize (length bytes)) bytes (omega arith)) (λ content le.
      test rest_of n (ltb bounds.locals (params_of types index)) _ _ (omega arith) (
      more rest_of (length (both content)) n _ le (filled_short (function_at bounds (bounds.locals - params_of types index) index) (function_short bounds (bounds.locals - params_of types index) index) content)))

  more_functions_short : (indices : List ℕ) (earlier : List Func) → Short (more_functions_at bounds types indices earlier)
  unfolding more_functions_at
  more_functions_short [] earlier bytes = omega arith
  more_functions_short (index ∷ indices) earlier bytes = then bytes _ _ (sized_function_short index bytes) (λ first. more_functions_short indices (earlier ++ first.0 ∷ []) first.1)

  pub code_short : (indices : List ℕ) → Short (code_at bounds types indices)
  unfolding code_at
  code_short indices bytes =
      let n = length bytes in
      go n _ _ (u32_short bytes) (λ count le.
      test rest_of n (eqb count.0 (length indices)) _ _ (more rest_of (length count.1) n (more_functions_at bounds types indices [] count.1) le (more_functions_short indices [] count.1)) (omega arith))

segment_short : Short segment_at
unfolding segment_at
segment_short bytes = byte_then segment_flag_fault 0x00 bytes _ (λ rest. then rest _ _ (initial_short rest) (λ offset. go (length offset.1) _ _ (byte_vector_short offset.1) (λ content le. le)))

pub segments_short : (declared : Option ℕ) → Short (segments_at declared)
unfolding segments_at
segments_short declared bytes =
    let n = length bytes in
    go n _ _ (u32_short bytes) (λ count le.
    test rest_of n (agrees declared count.0) _ _ (more rest_of (length count.1) n (items_at segment_at count.0 count.1) le (items_short segment_at segment_short count.0 count.1)) (omega arith))

pub types_short : Short (vector_at func_type_at)
types_short bytes = vector_short func_type_at func_type_short bytes

pub globals_short : Short (vector_at global_at)
globals_short bytes = vector_short global_at global_short bytes

pub custom_short : Short custom_at
unfolding custom_at
custom_short bytes = go (length bytes) _ _ (name_short bytes) (λ name le. omega arith)

pub sized_short : {X : Type 0} (item_at : List ℕ → Result (X × List ℕ) Stop) → Short item_at → Short (sized_at item_at)
unfolding sized_at
sized_short item_at h bytes = step both rest_of (length bytes) _ _ (own_bytes_short ended bytes (omega arith)) (λ content le. more rest_of (length (both content)) (length bytes) _ le (filled_short item_at h content))

-- a fault of what is read
pub left_within : {X Y : Type 0} (view : X → Y × List ℕ) (n : ℕ) (r : Result X ItemFault) (read : Result (Y × List ℕ) Stop) → Within rest_of n read → Implements view r read → IfErr r (LeftWithin n)
left_within view n (Ok x) read h e = tt
left_within view n (Err OutOfMemory) read h e = tt
left_within {Y = Y} view n (Err (WithLeft kind left)) read h e = subst (λ (k : Result (Y × List ℕ) Stop). Within rest_of n k) e h

room : (n after : ℕ) (e : ItemFault) → LeftWithin n e → n < 2 ^ 63 → after < 2 ^ 63 → HasRoom after e
room n after OutOfMemory h a b = tt
room n after (WithLeft kind left) h a b = omega arith

-- a fault in a section or body
fails_before : {A : Type 0} (e r : ItemFault) (after : ℕ) (read : Result A Stop) → Fails e read → r ≡ map_fault (before after) e → Fails r (map_stop (before after) read)
fails_before OutOfMemory r after read h k = rw k tt
fails_before (WithLeft kind left) r after read h k = rw (k, h) refl

fails_then : {A B : Type 0} (r : ItemFault) (read : Result A Stop) (f : A → Result B Stop) → Fails r read → Fails r (read >>= f)
fails_then OutOfMemory read f h = tt
fails_then (WithLeft kind left) read f h = rw h refl

filled_fails : {X : Type 0} (item_at : List ℕ → Result (X × List ℕ) Stop) (content after : List ℕ) (e r : ItemFault) → Fails e (item_at content) → (HasRoom (length after) e → r ≡ map_fault (before (length after)) e)
    → LeftWithin (length content) e → length content < 2 ^ 63 → length after < 2 ^ 63 → Fails r (filled_at item_at (content, after))
unfolding filled_at
filled_fails item_at content after e r failed is left short short_after =
    fails_then r (map_stop (before (length after)) (item_at content)) _ (fails_before e r (length after) (item_at content) failed (is (room (length content) (length after) e left short short_after)))

-- a fault in a function
fault_within : {X : Type 0} (n : ℕ) (read : Result (X × List ℕ) Stop) (e : ItemFault) → Within rest_of n read → Fails e read → LeftWithin n e
fault_within n read OutOfMemory h k = tt
fault_within {X} n read (WithLeft kind left) h k = subst (λ (r : Result (X × List ℕ) Stop). Within rest_of n r) k h

own_lengths : (short : Stop) (bytes content after : List ℕ) → short.left ≤ length bytes → own_bytes_at short bytes ≡ Ok (content, after) → length content + length after ≤ length bytes
own_lengths short bytes content after small own =
    let h : length (content ++ after) ≤ length bytes = subst (λ (r : Result (List ℕ × List ℕ) Stop). Within both (length bytes) r) own (own_bytes_short short bytes small) in
    omega (arith, h, length-append content after)

pub function_fails : (types : List FuncType) (index : ℕ) (bytes content after : List ℕ) (e r : ItemFault) → own_bytes_at (stop SectionSize (length bytes)) bytes ≡ Ok (content, after) → params_of types index ≤ profile.locals
    → Fails e (function_at profile (profile.locals - params_of types index) index content) → (HasRoom (length after) e → r ≡ map_fault (before (length after)) e) → length bytes < 2 ^ 63 → Fails r (sized_function_at profile types index bytes)
unfolding sized_function_at
function_fails types index bytes content after e r own few failed is short =
    let most = profile.locals - params_of types index in
    let left : LeftWithin (length content) e = fault_within (length content) (function_at profile most index content) e (function_short profile most index content) failed in
    let parts : length content + length after ≤ length bytes = own_lengths (stop SectionSize (length bytes)) bytes content after (omega arith) own in
    rw (own, le-ltb profile.locals (params_of types index) few) (filled_fails (function_at profile most index) content after e r failed is left (omega arith) (omega arith))
