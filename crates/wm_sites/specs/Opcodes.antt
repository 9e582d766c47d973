-- The opcode at a position of the code, among the bytes of the module.
use Rattle.std.specs.Prelude.{◌≡◌, ℕ, ◌<◌, List, Some}
use Rattle.wm_ast.specs.declared.module.Module.{Module}
use Rattle.wm_decode.specs.Bounds.{max_module_bytes}
use Rattle.wm_event.specs.declared.event.Event.{Event}
use Rattle.wm_event.specs.declared.event.EventKey.{EventKey}
use Rattle.wm_event.specs.declared.log.ThreadLog.{ThreadLog}
use Rattle.wm_event.specs.Log.{event_in}
use Rattle.wm_machine.specs.declared.thread.CodePosition.{CodePosition}
use Rattle.wm_races.specs.declared.site.Site.{Site}
use Rattle.wm_races.specs.Report.{site_in}
use Rattle.wm_replay.specs.Positions.{AreLogPositions}
use Rattle.wm_sites.specs.Offsets.{OpcodeBegins}
use Rattle.wm_sites.specs.Sites.{Code, IsOpcodeAt, IsSiteOf, position_in}

-- an opcode is at the position: it has a number below 1,048,576, and begins at a byte offset
pub record HasOpcode (bytes : List ℕ) (m : Module) (p : CodePosition) : Type 0 where
  pub number : ℕ
  pub opcode : IsOpcodeAt m p number
  pub below : number < max_module_bytes
  pub offset : ℕ
  pub begins : OpcodeBegins bytes p.func number offset

-- each event that its thread makes has the site of the opcode at which it is made
pub record HaveOpcodes (c : Code) (log : List ThreadLog) (sites : List (List Site)) : Type 0 where
  pub table : List (List CodePosition)
  pub positions : AreLogPositions c.module log table
  pub each : (key : EventKey) (e : Event) (site : Site) (p : CodePosition) → event_in log key ≡ Some e → site_in sites key ≡ Some site
      → position_in table key ≡ Some p → HasOpcode c.bytes c.module p × IsSiteOf c p site
