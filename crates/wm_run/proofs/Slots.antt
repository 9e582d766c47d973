-- The slots of a crew's board.
use Rattle.std.proofs.Common.{◌≡◌, ◌∙◌, ◌<◌, Bool, List, length, map, Option, Some, sym, subst, arith}
use Rattle.std.proofs.lemmas.List.{get_or-map, length-map}
use Rattle.wm_ast.specs.declared.module.Module.{Module}
use Rattle.wm_run.specs.declared.rounds.ended.ThreadEnd.{ThreadEnd}
use Rattle.wm_run.specs.declared.plan.Plan.{Plan}
use Rattle.wm_run.specs.Crew.{AreSlotsOf, IsSlotOf}
use Rattle.wm_run.specs.RoundPlans.{AreEndsOf}

-- if all slots are full, they have the ends of the plan's threads
pub full_are : (is_open : Bool) (m : Module) (plan : Plan) (slots : List (Option ThreadEnd)) (ends : List ThreadEnd) → slots ≡ map Some ends → AreSlotsOf is_open m plan slots
    → AreEndsOf is_open m plan.starts plan.steps ends
full_are is_open m plan slots ends full are =
    let all = subst (AreSlotsOf is_open m plan) full are in (
      sym (length-map ends Some) ∙ all.0,
      λ t start e lt.
          let count : length (map Some ends) ≡ length ends = length-map ends Some in
          let within : t < length ends = omega (arith, lt, all.0, count) in
          subst (IsSlotOf is_open m plan t) (get_or-map Some ends t e (Some e) within) (all.1 t (Some e) lt) start,
    )
