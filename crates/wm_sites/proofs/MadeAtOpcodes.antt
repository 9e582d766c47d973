-- Each event of a thread is made at an opcode.
use Rattle.std.proofs.Common.{◌≡◌, ◌∙◌, ℕ, inl, inr, List, Option, Some, ap, subst, sym}
use Rattle.std.specs.Prelude.{slice_get}
use Rattle.std.proofs.lemmas.Option.{none-some, option_and_then_some}
use Rattle.wm_ast.specs.declared.module.Module.{Module}
use Rattle.wm_decode.specs.Module.{SpellsWithin}
use Rattle.wm_event.specs.declared.event.Event.{Event}
use Rattle.wm_event.specs.declared.event.EventKey.{EventKey}
use Rattle.wm_event.specs.declared.log.ThreadLog.{ThreadLog}
use Rattle.wm_event.specs.Log.{event_in}
use Rattle.wm_machine.specs.declared.thread.CodePosition.{CodePosition}
use Rattle.wm_machine.specs.Step.{access_of}
use Rattle.wm_races.specs.declared.site.Site.{Site}
use Rattle.wm_replay.specs.Positions.{AreLogPositions, ArePositionsOf, IsMadeAt, unstarted, ran}
use Rattle.wm_sites.specs.Opcodes.{HasOpcode, HaveOpcodes}
use Rattle.wm_sites.specs.Sites.{AreEventSites, Code, IsSiteAt, IsSiteOf, IsSiteOrFirst, position_in}
use Rattle.wm_sites.proofs.AccessingStep.{HasInstr, accesses_at, stands_at}
use Rattle.wm_sites.proofs.NumberedPositions.{opcode_there}

pub made_there : (bytes : List ℕ) (m : Module) (k : ℕ) (t : ThreadLog) (n : ℕ) (p : CodePosition) → SpellsWithin bytes m → IsMadeAt m k t n p → HasOpcode bytes m p
made_there bytes m k t n p spelled made =
    let accessing = accesses_at m made.state made.makes.event.read made.makes.op (ap access_of made.makes.steps_to) in
    let stands = sym (stands_at m made.state made.makes.event.read made.makes.op (ap access_of made.makes.steps_to)) ∙ made.is_position in
    let at_position = subst (λ (q : CodePosition). HasInstr made.state.module q.func q.block q.at) stands accessing in
    opcode_there bytes m p spelled (subst (λ (x : Module). HasInstr x p.func p.block p.at) made.runs_module at_position)

-- an event that is made at a position of these
made_in : (m : Module) (log : List ThreadLog) (table : List (List CodePosition)) (key : EventKey) (e : Event) (p : CodePosition) → AreLogPositions m log table → event_in log key ≡ Some e → position_in table key ≡ Some p
    → (t : ThreadLog) × IsMadeAt m key.thread t key.number p
made_in m log table key e p are at_e at_p =
    option_and_then_some (λ (t : ThreadLog). slice_get t.events key.number) (slice_get log key.thread) e at_e λ t is_t _.
    option_and_then_some (λ (own : List CodePosition). slice_get own key.number) (slice_get table key.thread) p at_p λ own is_own there.
    (t, made_of (are.each key.thread own is_own t is_t) there)
  where
    made_of : {t : ThreadLog} {own : List CodePosition} → ArePositionsOf m key.thread t own → slice_get own key.number ≡ Some p → IsMadeAt m key.thread t key.number p
    made_of (unstarted refused) there = absurd (none-some p there)
    made_of (ran runs positions) there = positions.each key.number p there

site_at : (c : Code) (o : Option CodePosition) (site : Site) (p : CodePosition) → o ≡ Some p → IsSiteAt c o site → HasOpcode c.bytes c.module p → IsSiteOf c p site
site_at c o site p is at opcode = of_either (subst (λ (q : Option CodePosition). IsSiteAt c q site) is at)
  where
    of_either : IsSiteOrFirst c p site → IsSiteOf c p site
    of_either (inl of_opcode) = of_opcode
    of_either (inr first) = absurd (first.1 opcode.number opcode.opcode opcode.below)

pub sites_made : (c : Code) (log : List ThreadLog) (sites : List (List Site)) → SpellsWithin c.bytes c.module → AreEventSites c log sites → HaveOpcodes c log sites
sites_made c log sites spelled are = record {
  table = are.table;
  positions = are.positions;
  each = λ key e site p at_e at_site at_p.
      let made = made_in c.module log are.table key e p are.positions at_e at_p in
      let opcode = made_there c.bytes c.module key.thread made.0 key.number p spelled made.1 in
      (opcode, site_at c (position_in are.table key) site p at_p (are.each key e site at_e at_site) opcode);
}
