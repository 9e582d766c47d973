-- What is wrong with a byte that isn't allowed at its place.
use Rattle.std.specs.Prelude.{ℕ, List, [], ◌∷◌, Bool, true, false, nat_lt, if◌then◌else◌}
use Rattle.wm_decode.specs.declared.fault.Feature.{Feature}
use Rattle.wm_decode.specs.declared.fault.Feature.TheVariants as feature
use Rattle.wm_decode.specs.declared.fault.FaultKind.{FaultKind}
use Rattle.wm_decode.specs.declared.fault.FaultKind.TheVariants.{BadNumber, SectionOrder, UnknownOpcode, Unsupported}

-- the codes from the first to the last, which belong to an unsupported part of WebAssembly
pub record LeftOut : Type 0 where
  pub first : ℕ
  pub last : ℕ
  pub feature : Feature

abbrev codes : ℕ → ℕ → Feature → LeftOut
codes first last feature = record { first = first; last = last; feature = feature }

abbrev code : ℕ → Feature → LeftOut
code first feature = codes first first feature

abbrev pub is_among : ℕ → LeftOut → Bool
is_among n r = if nat_lt n r.first then false else (if nat_lt r.last n then false else true)

-- the part that a code belongs to is unsupported; for other codes, this is wrong
abbrev pub left_out_or : FaultKind → ℕ → List LeftOut → FaultKind
left_out_or other n [] = other
left_out_or other n (r ∷ rs) = if is_among n r then Unsupported r.feature else left_out_or other n rs

abbrev pub left_out_value_types : List LeftOut
left_out_value_types = codes 0x7C 0x7D feature.Floats ∷ code 0x7B feature.Simd ∷ codes 0x6F 0x70 feature.References ∷ []

abbrev pub value_type_fault : ℕ → FaultKind
value_type_fault byte = left_out_or BadNumber byte left_out_value_types

-- the bytes from 0x40 to 0x7F are those of value types; any other byte begins a type index, for a block with several
-- values
abbrev pub block_type_fault : ℕ → FaultKind
block_type_fault byte = if nat_lt byte 0x40 then Unsupported feature.MultiValue else (if nat_lt byte 0x80 then value_type_fault byte else Unsupported feature.MultiValue)

abbrev pub left_out_limits : List LeftOut
left_out_limits = codes 0x00 0x01 feature.UnsharedMemory ∷ []

abbrev pub limits_fault : ℕ → FaultKind
limits_fault byte = left_out_or BadNumber byte left_out_limits

abbrev pub left_out_imports : List LeftOut
left_out_imports = codes 0x00 0x01 feature.Import ∷ code 0x03 feature.Import ∷ []

abbrev pub import_kind_fault : ℕ → FaultKind
import_kind_fault byte = left_out_or BadNumber byte left_out_imports

abbrev pub left_out_exports : List LeftOut
left_out_exports = code 0x01 feature.Table ∷ []

abbrev pub export_kind_fault : ℕ → FaultKind
export_kind_fault byte = left_out_or BadNumber byte left_out_exports

abbrev pub left_out_segments : List LeftOut
left_out_segments = code 0x01 feature.PassiveData ∷ code 0x02 feature.DataMemoryIndex ∷ []

abbrev pub segment_flag_fault : ℕ → FaultKind
segment_flag_fault byte = left_out_or BadNumber byte left_out_segments

abbrev pub left_out_sections : List LeftOut
left_out_sections = code 0x08 feature.Start ∷ code 0x0D feature.Reserved ∷ []

-- a known section comes too late
abbrev pub section_fault : ℕ → FaultKind
section_fault id = if nat_lt id 0x0E then left_out_or SectionOrder id left_out_sections else BadNumber

abbrev pub left_out_atomics : List LeftOut
left_out_atomics = code 0x00 feature.Notify ∷ codes 0x01 0x02 feature.Wait ∷ code 0x03 feature.Fence ∷ codes 0x4A 0x4E feature.NarrowCmpxchg ∷ []

-- a code after the prefix FE, which is the opcode
abbrev pub atomic_fault : ℕ → FaultKind
atomic_fault n = left_out_or (UnknownOpcode 0xFE) n left_out_atomics

abbrev pub left_out_opcodes : List LeftOut
left_out_opcodes =
    codes 0x06 0x0A feature.Reserved ∷ code 0x11 feature.Table ∷ codes 0x12 0x13 feature.Reserved ∷ codes 0x18 0x19 feature.Reserved ∷ code 0x1C feature.References ∷ code 0x1F feature.Reserved ∷
    codes 0x25 0x26 feature.References ∷ codes 0x2A 0x2B feature.Floats ∷ codes 0x38 0x39 feature.Floats ∷ code 0x40 feature.Growth ∷ codes 0x43 0x44 feature.Floats ∷ codes 0x5B 0x66 feature.Floats ∷
    codes 0x8B 0xA6 feature.Floats ∷ codes 0xA8 0xAB feature.Floats ∷ codes 0xAE 0xBF feature.Floats ∷ codes 0xC0 0xC4 feature.SignExtension ∷ codes 0xD0 0xD2 feature.References ∷
    code 0xFC feature.PrefixFC ∷ code 0xFD feature.Simd ∷ []

abbrev pub opcode_fault : ℕ → FaultKind
opcode_fault n = left_out_or (UnknownOpcode n) n left_out_opcodes
