-- Bytes that cannot be read have one fault.
use Rattle.std.proofs.Common.{◌≡◌, ℕ, List, Some, Result, Err, length, refl, sym, ap, ◌∙◌}
use Rattle.std.proofs.lemmas.Option.{same_Some}
use Rattle.serde_json.specs.Data.{Data}
use Rattle.serde_json.specs.Read.{read}
use Rattle.wm_ast.specs.declared.module.Module.{Module}
use Rattle.wm_decode.specs.declared.fault.DecodeFault.{DecodeFault}
use Rattle.wm_decode.specs.declared.fault.DecodeFault.TheVariants as decode
use Rattle.wm_decode.specs.ReadingModule.{whole_at}
use Rattle.wm_decode.specs.Stop.{Stop, offset_in, stop}
use Rattle.wm_logfile.specs.declared.fault.DocFault.{DocFault}
use Rattle.wm_logfile.specs.declared.fault.DocFault.TheVariants.{NotJson, BadShape, BadVersion, NumberRange, TooLarge, OutOfMemory, Misplaced}
use Rattle.wm_logfile.specs.Causes.{IsTextWith}
use Rattle.wm_logfile.specs.DocumentBytes.{IsNoDocument}
use Rattle.wm_logfile.specs.FirstFault.{document_fault}
use Rattle.wm_check.specs.Verdicts.{IsNoModule}

-- ---- of a module

one_stop : (read : Result Module Stop) (s t : Stop) → read ≡ Err s → read ≡ Err t → s ≡ t
one_stop read s t first second = let same : ◌≡◌ {A = Result Module Stop} (Err s) (Err t) = sym first ∙ second in cc

pub same_decode : (bytes : List ℕ) (f g : DecodeFault) → IsNoModule bytes f → IsNoModule bytes g → f ≡ g
same_decode bytes decode.OutOfMemory g first second = absurd (first.no_want refl)
same_decode bytes (decode.At k o) decode.OutOfMemory first second = absurd (second.no_want refl)
same_decode bytes (decode.At k o) (decode.At l p) first second =
    let a = first.stops in
    let b = second.stops in
    let same : stop k a.0 ≡ stop l b.0 = one_stop (whole_at bytes) (stop k a.0) (stop l b.0) a.1 b.1 in
    let kind : k ≡ l = ap (λ (s : Stop). s.kind) same in
    let offset : o ≡ p = a.3 ∙ ap (λ (s : Stop). offset_in (length bytes) s.kind s.left) same ∙ sym b.3 in
    λ i. decode.At (kind i) (offset i)

-- ---- of a document

-- the bytes are text of a value whose first fault this is
record HasFirst (bytes : List ℕ) (f : DocFault) : Type 0 where
  value : Data
  text : read bytes ≡ Some value
  first : document_fault value ≡ Some f

one_first : (bytes : List ℕ) (f g : DocFault) → HasFirst bytes f → HasFirst bytes g → f ≡ g
one_first bytes f g first second =
    let value : first.value ≡ second.value = same_Some first.value second.value (sym first.text ∙ second.text) in
    same_Some f g (sym first.first ∙ ap document_fault value ∙ second.first)

has_first : (bytes : List ℕ) (f : DocFault) → IsTextWith (λ d. document_fault d ≡ Some f) bytes → HasFirst bytes f
has_first bytes f is = record { value = is.value; text = is.text.text; first = is.holds }

pub same_document : (bytes : List ℕ) (f g : DocFault) → IsNoDocument bytes f → IsNoDocument bytes g → f ≡ g
same_document bytes NotJson g first second = sym (second.no_json first.cause)
same_document bytes BadVersion g first second = sym (second.other_version first.cause)
same_document bytes TooLarge g first second = sym (second.too_large first.cause)
same_document bytes OutOfMemory g first second = absurd (first.no_want refl)
same_document bytes Misplaced g first second = absurd first.cause
same_document bytes (BadShape p) NotJson first second = first.no_json second.cause
same_document bytes (BadShape p) BadVersion first second = first.other_version second.cause
same_document bytes (BadShape p) TooLarge first second = first.too_large second.cause
same_document bytes (BadShape p) OutOfMemory first second = absurd (second.no_want refl)
same_document bytes (BadShape p) Misplaced first second = absurd second.cause
same_document bytes (BadShape p) (BadShape q) first second = one_first bytes (BadShape p) (BadShape q) (has_first bytes (BadShape p) first.cause) (has_first bytes (BadShape q) second.cause)
same_document bytes (BadShape p) (NumberRange q) first second = one_first bytes (BadShape p) (NumberRange q) (has_first bytes (BadShape p) first.cause) (has_first bytes (NumberRange q) second.cause)
same_document bytes (NumberRange p) NotJson first second = first.no_json second.cause
same_document bytes (NumberRange p) BadVersion first second = first.other_version second.cause
same_document bytes (NumberRange p) TooLarge first second = first.too_large second.cause
same_document bytes (NumberRange p) OutOfMemory first second = absurd (second.no_want refl)
same_document bytes (NumberRange p) Misplaced first second = absurd second.cause
same_document bytes (NumberRange p) (BadShape q) first second = one_first bytes (NumberRange p) (BadShape q) (has_first bytes (NumberRange p) first.cause) (has_first bytes (BadShape q) second.cause)
same_document bytes (NumberRange p) (NumberRange q) first second =
    one_first bytes (NumberRange p) (NumberRange q) (has_first bytes (NumberRange p) first.cause) (has_first bytes (NumberRange q) second.cause)
