-- What two verdicts on the same bytes have in common.
use Rattle.std.specs.Prelude.{◌≡◌, ℕ, List}
use Rattle.wm_check.specs.declared.verdict.Refusal.{Refusal}
use Rattle.wm_check.specs.declared.verdict.Refusal.TheVariants.{Decode, Valid, Document, Shape}
use Rattle.wm_check.specs.declared.verdict.Verdict.{Verdict}
use Rattle.wm_check.specs.declared.verdict.Verdict.TheVariants.{Allowed, Refused, Broken}
use Rattle.wm_check.specs.Verdicts.{IsRefusedFor, Says}

-- whether a run is allowed, refused or broken
pub data Status : Type 0 where
  allows : Status
  refuses : Status
  breaks : Status

abbrev pub status_of : Verdict → Status
status_of (Allowed certificate) = allows
status_of (Refused reason) = refuses
status_of (Broken reason) = breaks

-- which part of the bytes is refused
pub data Part : Type 0 where
  module_bytes : Part
  module_rules : Part
  document_bytes : Part
  document_shape : Part

abbrev pub part_of : Refusal → Part
part_of (Decode fault) = module_bytes
part_of (Valid fault) = module_rules
part_of (Document fault) = document_bytes
part_of (Shape fault) = document_shape

-- the verdict leaves no kind of fault and no place open
abbrev pub IsExact : Verdict → Type 0
IsExact (Allowed certificate) = Unit {0}
IsExact (Refused (Decode fault)) = Unit {0}
IsExact (Refused (Valid fault)) = ⊥
IsExact (Refused (Document fault)) = Unit {0}
IsExact (Refused (Shape fault)) = Unit {0}
IsExact (Broken reason) = Unit {0}

-- ---- the laws

abbrev pub OneStatus : Type 0
OneStatus = (mb db : List ℕ) (verdict other : Verdict) → Says mb db verdict → Says mb db other → status_of verdict ≡ status_of other

abbrev pub OneExactVerdict : Type 0
OneExactVerdict = (mb db : List ℕ) (verdict other : Verdict) → IsExact verdict → Says mb db verdict → Says mb db other → verdict ≡ other

abbrev pub OnePart : Type 0
OnePart = (mb db : List ℕ) (reason other : Refusal) → IsRefusedFor mb db reason → IsRefusedFor mb db other → part_of reason ≡ part_of other
