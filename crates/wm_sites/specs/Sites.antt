-- Which instruction a site names.
use Rattle.std.specs.Option.{option_flatten}
use Rattle.std.specs.Prelude.{◌≡◌, ◌⊎◌, ◌-◌, ◌^◌, ◌<◌, ℕ, min, List, Option, Some, None, length, option_and_then, slice_get}
use Rattle.wm_ast.specs.declared.module.Func.{Func}
use Rattle.wm_ast.specs.declared.module.Module.{Module}
use Rattle.wm_event.specs.declared.event.Event.{Event}
use Rattle.wm_event.specs.declared.event.EventKey.{EventKey}
use Rattle.wm_event.specs.declared.log.ThreadLog.{ThreadLog}
use Rattle.wm_event.specs.Event.{key_of}
use Rattle.wm_event.specs.Log.{event_in}
use Rattle.wm_decode.specs.Bounds.{max_module_bytes}
use Rattle.wm_machine.specs.declared.thread.CodePosition.{CodePosition}
use Rattle.wm_races.specs.declared.site.Site.{Site}
use Rattle.wm_races.specs.Report.{site_in}
use Rattle.wm_replay.specs.Positions.{AreLogPositions}
use Rattle.wm_sites.specs.declared.code_map.FunctionMap.{FunctionMap}
use Rattle.wm_sites.specs.declared.code_map.FunctionReader.{FunctionReader}
use Rattle.wm_sites.specs.declared.module_code.ModuleCode.{ModuleCode}
use Rattle.wm_sites.specs.declared.opcode_numbers.BlockPosition.{BlockPosition}
use Rattle.wm_sites.specs.Bodies.{AreBodies}
use Rattle.wm_sites.specs.Numbering.{AreNumbers, IsNumbered, number_at}
use Rattle.wm_sites.specs.Offsets.{OpcodeBegins}

-- a module, and bytes that are taken to spell it
pub record Code : Type 0 where
  pub «module» : Module
  pub bytes : List ℕ

abbrev pub code_in : ModuleCode → Code
code_in c = record { «module» = c.module.now; bytes = c.bytes.now }

abbrev pub code_of : FunctionReader → Code
code_of reader = record { «module» = reader.module.now; bytes = reader.bytes.now }

-- ---- the opcode at a position

abbrev pub in_function : CodePosition → BlockPosition
in_function p = record { block = p.block; at = p.at }

-- opcode n of the position's function is at the position
pub record IsOpcodeAt (m : Module) (p : CodePosition) (n : ℕ) : Type 0 where
  pub func : Func
  pub is_func : slice_get m.funcs p.func ≡ Some func
  pub numbered : IsNumbered func.blocks (in_function p) n

-- a number in 32 bits: 2 to the power 32 minus 1 if it is greater
abbrev pub in_32_bits : ℕ → ℕ
in_32_bits n = min n (2 ^ 32 - 1)

-- the site names the position's function, by its number in the function the opcode there, and where this opcode begins in the bytes
pub record IsSiteOf (c : Code) (p : CodePosition) (site : Site) : Type 0 where
  pub number : ℕ
  pub opcode : IsOpcodeAt c.module p number
  pub function : site.function ≡ in_32_bits p.func
  pub instruction : site.instruction ≡ in_32_bits number
  pub offset : (at : ℕ) → OpcodeBegins c.bytes p.func number at → site.offset ≡ in_32_bits at

-- none of the first 1,048,576 opcodes of the position's function is there
abbrev pub IsNoOpcode : Module → CodePosition → Type 0
IsNoOpcode m p = (n : ℕ) → IsOpcodeAt m p n → n < max_module_bytes → ⊥

-- the first instruction of function 0
abbrev pub first_site : Site
first_site = record { function = 0; instruction = 0; offset = 0 }

abbrev pub IsSiteOrFirst : Code → CodePosition → Site → Type 0
IsSiteOrFirst c p site = IsSiteOf c p site ⊎ ((site ≡ first_site) × IsNoOpcode c.module p)

-- a site for each position
abbrev pub AreSitesOf : Code → List CodePosition → List Site → Type 0
AreSitesOf c positions sites = (i : ℕ) (site : Site) → slice_get sites i ≡ Some site → (p : CodePosition) → slice_get positions i ≡ Some p → IsSiteOrFirst c p site

-- ---- the functions that were read

-- each opcode of function f that begins in the bytes begins at the offset of its number, below this count
abbrev pub AreOffsets : List ℕ → ℕ → ℕ → List ℕ → Type 0
AreOffsets bytes f count offsets = (n at : ℕ) → OpcodeBegins bytes f n at → n < count → slice_get offsets n ≡ Some at

-- the numbers and the offsets are those of a function
pub record IsFunctionMap (c : Code) (f : ℕ) (map : FunctionMap) : Type 0 where
  pub func : Func
  pub is_func : slice_get c.module.funcs f ≡ Some func
  pub numbers : AreNumbers func.blocks map.numbers
  pub offsets : AreOffsets c.bytes f map.numbers.count map.offsets.items

-- there is a place for each function, and the maps are of these functions
pub record AreFunctionMaps (c : Code) (maps : List (Option FunctionMap)) : Type 0 where
  pub count : length maps ≡ length c.module.funcs
  pub each : (f : ℕ) (map : FunctionMap) → slice_get maps f ≡ Some (Some map) → IsFunctionMap c f map

-- the reader has the offsets of the bodies, and these maps are of functions of its module
pub record AreReadBy (reader : FunctionReader) (maps : List (Option FunctionMap)) : Type 0 where
  pub bodies : AreBodies reader.bytes.now reader.bodies.items
  pub functions : AreFunctionMaps (code_of reader) maps

-- there is a place for each function, and none was read
pub record AreUnread (m : Module) (maps : List (Option FunctionMap)) : Type 0 where
  pub count : length maps ≡ length m.funcs
  pub none : (f : ℕ) (map : FunctionMap) → slice_get maps f ≡ Some (Some map) → ⊥

-- if the module has function f, it was read
abbrev pub IsRead : Module → List (Option FunctionMap) → ℕ → Type 0
IsRead m maps f = (func : Func) → slice_get m.funcs f ≡ Some func → (map : FunctionMap) × (slice_get maps f ≡ Some (Some map))

-- the number of the opcode at a position, if its function was read
abbrev pub opcode_in : List (Option FunctionMap) → CodePosition → Option ℕ
opcode_in maps p = option_and_then (λ (map : FunctionMap). number_at map.numbers (in_function p)) (option_flatten (slice_get maps p.func))

-- where opcode n of the position's function begins, if its function was read
abbrev pub offset_in : List (Option FunctionMap) → CodePosition → ℕ → Option ℕ
offset_in maps p n = option_and_then (λ (map : FunctionMap). slice_get map.offsets.items n) (option_flatten (slice_get maps p.func))

-- what function f is read as is put down, and nothing else
pub record PutsMap (old new : List (Option FunctionMap)) (f : ℕ) (read : Option FunctionMap) : Type 0 where
  pub from : (g : ℕ) (map : Option FunctionMap) → slice_get new g ≡ Some map → (slice_get old g ≡ Some map) ⊎ ((g ≡ f) × (map ≡ read))
  pub count : length new ≡ length old
  pub puts : f < length old → slice_get new f ≡ Some read

-- ---- the positions of a log's events

-- the position at which an event is made, by its thread and its number
abbrev pub position_in : List (List CodePosition) → EventKey → Option CodePosition
position_in table key = option_and_then (λ thread. slice_get thread key.number) (slice_get table key.thread)

-- the site of an event that is made at this position, or isn't made
abbrev pub IsSiteAt : Code → Option CodePosition → Site → Type 0
IsSiteAt c None site = site ≡ first_site
IsSiteAt c (Some p) site = IsSiteOrFirst c p site

-- the site is the one at the position where the event is made
abbrev pub IsSiteMade : Code → List (List CodePosition) → EventKey → Site → Type 0
IsSiteMade c table key site = (p : CodePosition) × (position_in table key ≡ Some p) × IsSiteOf c p site

-- no opcode is at the position where the event is made
abbrev pub IsMadeNowhere : Module → List (List CodePosition) → EventKey → Type 0
IsMadeNowhere m table key = (p : CodePosition) → position_in table key ≡ Some p → IsNoOpcode m p

-- a site for each of a thread's events
abbrev pub AreThreadSites : Code → List (List CodePosition) → List Event → List Site → Type 0
AreThreadSites c table events sites = (i : ℕ) (site : Site) → slice_get sites i ≡ Some site → (e : Event) → slice_get events i ≡ Some e → IsSiteAt c (position_in table (key_of e)) site

-- the threads make the events of the log at these positions, and each site is the one at its event's position
pub record AreEventSites (c : Code) (log : List ThreadLog) (sites : List (List Site)) : Type 0 where
  pub table : List (List CodePosition)
  pub positions : AreLogPositions c.module log table
  pub each : (key : EventKey) (e : Event) (site : Site) → event_in log key ≡ Some e → site_in sites key ≡ Some site → IsSiteAt c (position_in table key) site
