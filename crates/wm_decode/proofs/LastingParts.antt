-- The contents of sections: reading that stops does so whatever comes after the faulty item.
use Rattle.std.proofs.Common.{◌≡◌, ℕ, ◌+◌, ◌-◌, ◌^◌, ◌≤◌, Bool, true, false, cond, ltb, eqb, List, [], ◌∷◌, ◌++◌, length, Option, Some, None, Result, Ok, Err, refl, sym, ap, subst, ◌∙◌, arith, length-append}
use Rattle.std.specs.Prelude.{is_some}
use Rattle.std.proofs.lemmas.List.{append-nil, append_cancel_right}
use Rattle.wm_ast.specs.Exports.{export_at}
use Rattle.wm_ast.specs.declared.types.FuncType.{FuncType}
use Rattle.wm_ast.specs.declared.types.Mutability.TheVariants.{Constant, Variable}
use Rattle.wm_ast.specs.declared.exports.Export.{Export}
use Rattle.wm_ast.specs.declared.exports.ExportKind.TheVariants as export_kind
use Rattle.wm_ast.specs.declared.module.ConstExpr.{ConstExpr}
use Rattle.wm_ast.specs.declared.module.ConstExpr.TheVariants.{I32, I64}
use Rattle.wm_ast.specs.declared.module.Func.{Func}
use Rattle.wm_decode.specs.declared.fault.Feature.TheVariants as feature
use Rattle.wm_decode.specs.declared.fault.FaultKind.{FaultKind}
use Rattle.wm_decode.specs.declared.fault.FaultKind.TheVariants as kind
use Rattle.wm_decode.specs.declared.fault.Limit.TheVariants.{Pages, Functions, Locals}
use Rattle.wm_decode.specs.Bounds.{Bounds}
use Rattle.wm_decode.specs.Begins.{IsItem}
use Rattle.wm_decode.specs.Faults.{limits_fault, import_kind_fault, export_kind_fault, segment_flag_fault}
use Rattle.wm_decode.specs.Module.{params_of}
use Rattle.wm_decode.specs.Numbers.{IsBytes}
use Rattle.wm_decode.specs.Parts.{locals_of}
use Rattle.wm_decode.specs.Vectors.{Name}
use Rattle.wm_decode.specs.Stop.{Stop, stop, past}
use Rattle.wm_decode.specs.Reading.{◌>>=◌, signed_at}
use Rattle.wm_decode.specs.ReadingVectors.{u32_at, own_bytes_at, byte_vector_at, name_at, vector_at, filled_at}
use Rattle.wm_decode.specs.ReadingInstructions.{value_type_at, blocks_at}
use Rattle.wm_decode.specs.ReadingParts.{byte_at, unsupported, result_at, func_type_at, limits_at, import_at, second_import_at, imports_at, memories_at, indices_at, no_items_at, end_at, initial_at, mutability_at, global_at, export_kind_at, export_entry_at, export_step, exports_at, local_entry_at, local_step, locals_at, function_at, sized_function_at, more_functions_at, code_at, segment_at, agrees, segments_at}
use Rattle.wm_decode.proofs.TypeLaws.{byte_takes, name_lawful}
use Rattle.wm_decode.proofs.Lasting.{Fits, IsNoLimit, Moved, Moves, Steady, Stops, anywhere, by_first, fault_of_last, given, passed_limit, test, then, then_known}
use Rattle.wm_decode.proofs.LastingFaults as fine
use Rattle.wm_decode.proofs.LastingFaults.{Fine, bad_byte}
use Rattle.wm_decode.proofs.LastingItems.{pair, u32_steady, u32_known, law_known, i32_steady, i64_steady, byte_vector_steady, own_steady, name_steady, items_steady, vector_steady, more_steady}
use Rattle.wm_decode.proofs.LastingSized.{whole_steady}
use Rattle.wm_decode.proofs.LastingBody.{value_type_steady, blocks_steady}

one_more : (l : List ℕ) (b : ℕ) → length (b ∷ l) ≡ length l + 1
one_more l b = omega arith

-- after a byte there is only what comes after it
abbrev pub only : Unit {0} → List ℕ → List ℕ
only u rest = rest

byte_steady : {k : ℕ} {inner : Bool} (wrong : ℕ → FaultKind) (code : ℕ) → ((b : ℕ) → Fine 1 (wrong b)) → Steady k inner only [] (byte_at wrong code)
byte_steady {k = k} wrong code fines = by_first {m = k} (omega arith) (byte_at wrong code) refl _ (λ b l. refl) (λ b.
    test (eqb b code) (λ l. Ok (only tt l)) _ (λ e. given tt) (λ e. bad_byte b (wrong b) (λ l. length (b ∷ l)) (λ l. one_more l b) (fines b)))

-- a count, and then a reading that may stop at it
counted : {W B : Type 0} {k : ℕ} {inner : Bool} {at2 : W → List ℕ → B} (g : List ℕ → ℕ × List ℕ → Result B Stop) → ((n : ℕ) (text : List ℕ) → length text ≤ 5 → Steady k inner at2 text (λ l. g (text ++ l) (n, l))) → Steady k inner at2 [] (λ l. u32_at l >>= g l)
counted g next = then_known u32_at g (λ n text. length text ≤ 5) u32_known u32_steady next

bad_count : {V A : Type 0} {k : ℕ} {inner : Bool} {at : V → List ℕ → A} (text : List ℕ) (fault : FaultKind) → IsNoLimit fault → IsItem fault text → Steady k inner at text (λ l. Err (stop fault (length (text ++ l))))
bad_count text fault limit is_item = fault_of_last [] text fault (λ l. length (text ++ l)) (λ l. length-append text l) limit is_item

result_steady : {k : ℕ} {inner : Bool} → Steady k inner pair [] result_at
unfolding result_at
result_steady = counted _ (λ n text short.
    test (eqb n 0) (λ l. Ok (pair None l)) _ (λ e. given None) (λ e.
    test (eqb n 1) _ _ (λ e. anywhere text (then value_type_at _ value_type_steady (λ ty. given (Some ty)))) (λ e. bad_count text (kind.Unsupported feature.MultiValue) tt (omega arith))))

func_type_steady : {k : ℕ} {inner : Bool} → Steady k inner pair [] func_type_at
unfolding func_type_at
func_type_steady = then (byte_at (λ b. kind.BadNumber) 0x60) _ (byte_steady (λ b. kind.BadNumber) 0x60 (λ b. fine.bad_number 1 (omega arith))) (λ u.
    then (vector_at value_type_at) _ (vector_steady value_type_at value_type_steady) (λ params. then result_at _ result_steady (λ r. given (record { params = params; result = r }))))

limits_steady : {k : ℕ} {inner : Bool} (bounds : Bounds) → Steady k inner pair [] (limits_at bounds)
unfolding limits_at
limits_steady bounds = then (byte_at limits_fault 0x03) _ (byte_steady limits_fault 0x03 fine.limits_fine) (λ u. counted _ (λ least text short.
    test (ltb bounds.pages least) _ _ (λ e. passed_limit Pages (λ l. length (text ++ l))) (λ e. anywhere text (then u32_at _ u32_steady (λ most. given (record { minimum = least; maximum = most }))))))

import_steady : {k : ℕ} (bounds : Bounds) → Steady k true pair [] (import_at bounds)
unfolding import_at
import_steady bounds = then name_at _ name_steady (λ from. then name_at _ name_steady (λ name.
    then (byte_at import_kind_fault 0x02) _ (byte_steady import_kind_fault 0x02 fine.import_kind_fine) (λ u.
    then (limits_at bounds) _ (limits_steady bounds) (λ limits. given (record { limits = limits; import = Some (record { «module» = from; name = name }) })))))

byte_known : {k : ℕ} (wrong : ℕ → FaultKind) (code : ℕ) (bytes : List ℕ) (v : Unit {0}) (text rest : List ℕ) → Fits k bytes → bytes ≡ text ++ rest → byte_at wrong code bytes ≡ Ok rest → length text ≤ 1
byte_known wrong code bytes v text rest fits parts e = omega (arith, ap length (append_cancel_right text (code ∷ []) rest (sym parts ∙ byte_takes wrong code bytes rest e)))

second_import_steady : {k : ℕ} → Steady k true pair [] second_import_at
unfolding second_import_at
second_import_steady = then name_at _ name_steady (λ from. then name_at _ name_steady (λ name.
    then_known (byte_at import_kind_fault 0x02) (λ bytes rest. Err (unsupported feature.SeveralMemories bytes)) (λ v text. length text ≤ 1) (byte_known import_kind_fault 0x02) (byte_steady import_kind_fault 0x02 fine.import_kind_fine) (λ v text short.
    bad_count text (kind.Unsupported feature.SeveralMemories) tt (omega arith))))

pub imports_steady : {k : ℕ} (bounds : Bounds) → Steady k true pair [] (imports_at bounds)
unfolding imports_at
imports_steady bounds = then u32_at _ u32_steady (λ count.
    test (eqb count 0) _ _ (λ e. given None) (λ e.
    then (import_at bounds) _ (import_steady bounds) (λ memory.
    test (eqb count 1) _ _ (λ e. given (Some memory)) (λ e. second_import_steady))))

pub memories_steady : {k : ℕ} {inner : Bool} (bounds : Bounds) (imported : Bool) → Steady k inner pair [] (memories_at bounds imported)
unfolding memories_at
memories_steady bounds imported = counted _ (λ count text short.
    test (eqb count 0) _ _ (λ e. given None) (λ e.
    test imported _ _ (λ e. bad_count text (kind.Unsupported feature.SeveralMemories) tt (omega arith)) (λ e.
    test (eqb count 1) _ _ (λ e. anywhere text (then (limits_at bounds) _ (limits_steady bounds) (λ limits. given (Some limits)))) (λ e.
    bad_count text (kind.Unsupported feature.SeveralMemories) tt (omega arith)))))

pub indices_steady : {k : ℕ} {inner : Bool} (bounds : Bounds) → Steady k inner pair [] (indices_at bounds)
unfolding indices_at
indices_steady bounds = counted _ (λ count text short.
    test (ltb bounds.functions count) _ _ (λ e. passed_limit Functions (λ l. length (text ++ l))) (λ e. anywhere text (items_steady u32_at u32_steady count)))

pub no_items_steady : {k : ℕ} {inner : Bool} → Steady k inner pair [] no_items_at
unfolding no_items_at
no_items_steady = counted _ (λ count text short. test (eqb count 0) _ _ (λ e. given count) (λ e. bad_count text (kind.Unsupported feature.Table) tt (omega arith)))

constant_steady : {k : ℕ} {inner : Bool} (f : List ℕ → Result (ℕ × List ℕ) Stop) (make : ℕ → ConstExpr) → Steady k inner pair [] f → Steady k inner pair [] (λ l. f l >>= λ n. end_at n.1 >>= λ rest. Ok (make n.0, rest))
constant_steady f make h = then f _ h (λ n. then end_at _ (byte_steady (λ b. kind.Unsupported feature.ConstExpression) 0x0B (λ b. fine.unsupported 1 feature.ConstExpression (omega arith))) (λ u. given (make n)))

initial_steady : {k : ℕ} {inner : Bool} → Steady k inner pair [] initial_at
unfolding initial_at
initial_steady {k = k} = by_first {m = k} (omega arith) initial_at refl _ (λ b l. refl) (λ b.
    test (eqb b 0x41) _ _ (λ e. anywhere (b ∷ []) (constant_steady (signed_at (2 ^ 32 - 1)) I32 i32_steady)) (λ e.
    test (eqb b 0x42) _ _ (λ e. anywhere (b ∷ []) (constant_steady (signed_at (2 ^ 64 - 1)) I64 i64_steady)) (λ e.
    bad_byte b (kind.Unsupported feature.ConstExpression) (λ l. length (b ∷ l)) (λ l. one_more l b) (fine.unsupported 1 feature.ConstExpression (omega arith)))))

mutability_steady : {k : ℕ} {inner : Bool} → Steady k inner pair [] mutability_at
unfolding mutability_at
mutability_steady {k = k} = by_first {m = k} (omega arith) mutability_at refl _ (λ b l. refl) (λ b.
    test (eqb b 0x00) _ _ (λ e. given Constant) (λ e. test (eqb b 0x01) _ _ (λ e. given Variable) (λ e. bad_byte b kind.BadNumber (λ l. length (b ∷ l)) (λ l. one_more l b) (fine.bad_number 1 (omega arith)))))

global_steady : {k : ℕ} {inner : Bool} → Steady k inner pair [] global_at
unfolding global_at
global_steady = then value_type_at _ value_type_steady (λ ty. then mutability_at _ mutability_steady (λ m. then initial_at _ initial_steady (λ init. given (record { ty = ty; mutability = m; init = init }))))

export_kind_steady : {k : ℕ} {inner : Bool} → Steady k inner pair [] export_kind_at
unfolding export_kind_at
export_kind_steady {k = k} = by_first {m = k} (omega arith) export_kind_at refl _ (λ b l. refl) (λ b.
    test (eqb b 0x00) _ _ (λ e. given export_kind.Func) (λ e. test (eqb b 0x02) _ _ (λ e. given export_kind.Memory) (λ e. test (eqb b 0x03) _ _ (λ e. given export_kind.Global) (λ e.
    bad_byte b (export_kind_fault b) (λ l. length (b ∷ l)) (λ l. one_more l b) (fine.export_kind_fine b)))))

export_entry_steady : {k : ℕ} (earlier : List (List ℕ × Export)) → Steady k true pair [] (export_entry_at earlier)
unfolding export_entry_at
export_entry_steady earlier = then_known name_at _ (λ name text. Name text name) (law_known name_lawful) name_steady (λ name text spelled.
    test (is_some (export_at name earlier)) _ _ (λ e. bad_count text kind.DuplicateExport tt (name, spelled)) (λ e.
    anywhere text (then export_kind_at _ export_kind_steady (λ kind. then u32_at _ u32_steady (λ index. given (name, record { kind = kind; index = index }))))))

pub exports_steady : {k : ℕ} → Steady k true pair [] exports_at
unfolding exports_at
exports_steady = then u32_at _ u32_steady (λ count. more_steady export_step (λ earlier. then (export_entry_at earlier) _ (export_entry_steady earlier) (λ e. given (earlier ++ e ∷ []))) count [])

local_entry_steady : {k : ℕ} {inner : Bool} (locals_left : ℕ) → Steady k inner pair [] (local_entry_at locals_left)
unfolding local_entry_at
local_entry_steady locals_left = counted _ (λ count text short.
    test (ltb locals_left count) _ _ (λ e. passed_limit Locals (λ l. length (text ++ l))) (λ e. anywhere text (then value_type_at _ value_type_steady (λ ty. given (count, ty)))))

locals_steady : {k : ℕ} {inner : Bool} (most : ℕ) → Steady k inner pair [] (locals_at most)
unfolding locals_at
locals_steady most = then u32_at _ u32_steady (λ entries.
    more_steady (local_step most) (λ earlier. then (local_entry_at (most - length earlier)) _ (local_entry_steady (most - length earlier)) (λ e. given (earlier ++ locals_of e.0 e.1))) entries [])

function_steady : (bounds : Bounds) (most index k : ℕ) → Steady k true pair [] (function_at bounds most index)
unfolding function_at
function_steady bounds most index k = then (locals_at most) _ (locals_steady most) (λ locals. then (blocks_at bounds.nesting) _ (blocks_steady bounds.nesting) (λ blocks. given (record { type_index = index; locals = locals; blocks = blocks })))

-- what reads steadily can be put into a section or body
module _ {X : Type 0} (item_at : List ℕ → Result (X × List ℕ) Stop) (h : (k : ℕ) → Steady k true pair [] item_at) where
  pub inside : (seen bytes : List ℕ) → IsBytes bytes → Stops true item_at seen bytes (item_at bytes)
  inside seen bytes fits = (h (length bytes)).stops seen seen bytes (sym (append-nil seen)) (fits, omega arith)

  pub surplus : (bytes : List ℕ) (x : X) (b : ℕ) (rest : List ℕ) → IsBytes bytes → item_at bytes ≡ Ok (x, b ∷ rest) → Moved pair item_at bytes (x, b ∷ rest)
  surplus bytes x b rest fits e = subst (Moves pair item_at bytes) e ((h (length bytes)).moves bytes (fits, omega arith))

abbrev short_body : List ℕ → Stop
short_body l = stop kind.SectionSize (length l)

body_own : {k : ℕ} → Steady k true pair [] (λ l. own_bytes_at (short_body l) l)
body_own = own_steady kind.SectionSize tt refl (λ item short. omega arith)

own_stops : (seen bytes : List ℕ) → IsBytes bytes → Stops true (λ l. own_bytes_at (short_body l) l) seen bytes (own_bytes_at (short_body bytes) bytes)
own_stops seen bytes fits = (body_own {k = length bytes}).stops seen seen bytes (sym (append-nil seen)) (fits, omega arith)

module _ (bounds : Bounds) (types : List FuncType) where
  sized_function_steady : {k : ℕ} (index : ℕ) → Steady k true pair [] (sized_function_at bounds types index)
  unfolding sized_function_at
  sized_function_steady {k = k} index = by (ltb bounds.locals (params_of types index)) where
    item_at : List ℕ → Result (Func × List ℕ) Stop
    item_at = function_at bounds (bounds.locals - params_of types index) index

    steady : (j : ℕ) → Steady j true pair [] item_at
    steady j = function_steady bounds (bounds.locals - params_of types index) index j

    by : (t : Bool) → Steady k true pair [] (λ l. own_bytes_at (short_body l) l >>= λ content. cond t (Err (past Locals (length l))) (filled_at item_at content))
    by true = then_known (λ l. own_bytes_at (short_body l) l) (λ bytes content. Err (past Locals (length bytes))) (λ v text. Unit {0}) (λ bytes v text rest fits parts e. tt) body_own (λ v text known. passed_limit Locals (λ l. length (text ++ l)))
    by false = whole_steady item_at true short_body (λ l. tt) own_stops (inside item_at steady) (surplus item_at steady)

  more_functions_steady : {k : ℕ} (indices : List ℕ) (earlier : List Func) → Steady k true pair [] (more_functions_at bounds types indices earlier)
  unfolding more_functions_at
  more_functions_steady [] earlier = given earlier
  more_functions_steady (index ∷ indices) earlier = then (sized_function_at bounds types index) _ (sized_function_steady index) (λ first. more_functions_steady indices (earlier ++ first ∷ []))

  pub code_steady : {k : ℕ} (indices : List ℕ) → Steady k true pair [] (code_at bounds types indices)
  unfolding code_at
  code_steady indices = counted _ (λ count text short.
      test (eqb count (length indices)) _ _ (λ e. anywhere text (more_functions_steady indices [])) (λ e. bad_count text kind.CountMismatch tt (omega arith)))

segment_steady : {k : ℕ} {inner : Bool} → Steady k inner pair [] segment_at
unfolding segment_at
segment_steady = then (byte_at segment_flag_fault 0x00) _ (byte_steady segment_flag_fault 0x00 fine.segment_flag_fine) (λ u.
    then initial_at _ initial_steady (λ offset. then byte_vector_at _ byte_vector_steady (λ content. given (record { offset = offset; bytes = content }))))

pub segments_steady : {k : ℕ} {inner : Bool} (declared : Option ℕ) → Steady k inner pair [] (segments_at declared)
unfolding segments_at
segments_steady declared = counted _ (λ count text short.
    test (agrees declared count) _ _ (λ e. anywhere text (items_steady segment_at segment_steady count)) (λ e. bad_count text kind.CountMismatch tt (omega arith)))

pub types_steady : {k : ℕ} {inner : Bool} → Steady k inner pair [] (vector_at func_type_at)
types_steady = vector_steady func_type_at func_type_steady

pub globals_steady : {k : ℕ} {inner : Bool} → Steady k inner pair [] (vector_at global_at)
globals_steady = vector_steady global_at global_steady
