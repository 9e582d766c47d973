-- The byte at the start of each section (Core 1.0, section 5.5.2; the data count section has 12).
use Rattle.std.specs.Prelude.{ℕ}
use Rattle.wm_decode.specs.declared.section.SectionId.{SectionId}
use Rattle.wm_decode.specs.declared.section.SectionId.TheVariants.{Custom, Types, Imports, Functions, Tables, Memories, Globals, Exports, Elements, Code, Data, DataCount}

abbrev pub id_byte : SectionId → ℕ
id_byte Custom = 0
id_byte Types = 1
id_byte Imports = 2
id_byte Functions = 3
id_byte Tables = 4
id_byte Memories = 5
id_byte Globals = 6
id_byte Exports = 7
id_byte Elements = 9
id_byte Code = 10
id_byte Data = 11
id_byte DataCount = 12
