-- What reading meets first in a few texts, and where.
use Rattle.std.proofs.Common.{ℕ, List, [], ◌∷◌, ◌++◌, length, refl, arith}
use Rattle.wm_decode.specs.declared.fault.Feature.TheVariants.{Growth, Start}
use Rattle.wm_decode.specs.declared.fault.FaultKind.{FaultKind}
use Rattle.wm_decode.specs.declared.fault.FaultKind.TheVariants.{Magic, Version, Truncated, BadNumber, SectionOrder, SectionSize, UnknownOpcode, Unsupported}
use Rattle.wm_decode.specs.declared.fault.DecodeFault.TheVariants.{At}
use Rattle.wm_decode.specs.Implements.{IsFaultOf}
use Rattle.wm_decode.specs.Module.{header, magic}
use Rattle.wm_decode.specs.Opcodes.{opcode_at}
use Rattle.wm_decode.specs.Reading.{unsigned_at}
use Rattle.wm_decode.specs.ReadingVectors.{items_at, vector_at, own_bytes_at, filled_at, sized_at, more_at}
use Rattle.wm_decode.specs.ReadingInstructions.{blocks_at, closed_with, instrs_at, instr_with, plain_at}
use Rattle.wm_decode.specs.ReadingParts.{func_type_at, result_at, indices_at, code_at, more_functions_at, sized_function_at, function_at, locals_at}
use Rattle.wm_decode.specs.ReadingModule.{customs_at, section_at, one_at, header_at, front_at, definitions_at, declared_at, bodies_at, module_at, whole_at}

-- reading these bytes stops with this fault at this offset
abbrev Meets : List ℕ → FaultKind → ℕ → Type 0
Meets bytes kind offset = IsFaultOf (length bytes) (whole_at bytes) (At kind offset)

-- the bytes end after the first four
only_magic : Meets magic Truncated 4
unfolding whole_at module_at bodies_at declared_at definitions_at front_at header_at one_at
only_magic = (0, refl, omega arith, refl)

-- the fourth byte is another
other_magic : Meets (0x00 ∷ 0x61 ∷ 0x73 ∷ 0x6E ∷ []) Magic 0
unfolding whole_at module_at bodies_at declared_at definitions_at front_at header_at one_at
other_magic = (4, refl, omega arith, refl)

-- version 2
other_version : Meets (magic ++ 0x02 ∷ 0x00 ∷ 0x00 ∷ 0x00 ∷ []) Version 4
unfolding whole_at module_at bodies_at declared_at definitions_at front_at header_at one_at
other_version = (4, refl, omega arith, refl)

-- an empty section of types, after one of functions, and after another of types
types_too_late : Meets (header ++ 0x03 ∷ 0x01 ∷ 0x00 ∷ 0x01 ∷ 0x01 ∷ 0x00 ∷ []) SectionOrder 11
unfolding whole_at module_at bodies_at declared_at definitions_at front_at header_at one_at customs_at section_at sized_at own_bytes_at filled_at unsigned_at vector_at items_at indices_at
types_too_late = (3, refl, omega arith, refl)

types_twice : Meets (header ++ 0x01 ∷ 0x01 ∷ 0x00 ∷ 0x01 ∷ 0x01 ∷ 0x00 ∷ []) SectionOrder 11
unfolding whole_at module_at bodies_at declared_at definitions_at front_at header_at one_at customs_at section_at sized_at own_bytes_at filled_at unsigned_at vector_at items_at
types_twice = (3, refl, omega arith, refl)

-- a section that is left out, and one that isn't there
start : Meets (header ++ 0x08 ∷ 0x01 ∷ 0x00 ∷ []) (Unsupported Start) 8
unfolding whole_at module_at bodies_at declared_at definitions_at front_at header_at one_at customs_at section_at
start = (3, refl, omega arith, refl)

no_section : Meets (header ++ 0x0E ∷ []) BadNumber 8
unfolding whole_at module_at bodies_at declared_at definitions_at front_at header_at one_at customs_at section_at
no_section = (1, refl, omega arith, refl)

-- a section of one type that ends before it, with another section after it
short_types : Meets (header ++ 0x01 ∷ 0x01 ∷ 0x01 ∷ 0x03 ∷ 0x01 ∷ 0x00 ∷ []) SectionSize 11
unfolding whole_at module_at bodies_at declared_at definitions_at front_at header_at one_at customs_at section_at sized_at own_bytes_at filled_at unsigned_at vector_at items_at func_type_at
short_types = (3, refl, omega arith, refl)

-- a function of one type whose body is this byte
abbrev one_function : ℕ → List ℕ
one_function op = header ++ 0x01 ∷ 0x04 ∷ 0x01 ∷ 0x60 ∷ 0x00 ∷ 0x00 ∷ 0x03 ∷ 0x02 ∷ 0x01 ∷ 0x00 ∷ 0x0A ∷ 0x05 ∷ 0x01 ∷ 0x03 ∷ 0x00 ∷ op ∷ 0x0B ∷ []

unknown_opcode : Meets (one_function 0x27) (UnknownOpcode 0x27) 23
unfolding whole_at module_at bodies_at declared_at definitions_at front_at header_at one_at customs_at section_at sized_at own_bytes_at filled_at unsigned_at vector_at items_at func_type_at result_at indices_at code_at more_functions_at sized_function_at function_at locals_at more_at blocks_at closed_with instrs_at instr_with plain_at opcode_at
unknown_opcode = (2, refl, omega arith, refl)

growth : Meets (one_function 0x40) (Unsupported Growth) 23
unfolding whole_at module_at bodies_at declared_at definitions_at front_at header_at one_at customs_at section_at sized_at own_bytes_at filled_at unsigned_at vector_at items_at func_type_at result_at indices_at code_at more_functions_at sized_function_at function_at locals_at more_at blocks_at closed_with instrs_at instr_with plain_at opcode_at
growth = (2, refl, omega arith, refl)
