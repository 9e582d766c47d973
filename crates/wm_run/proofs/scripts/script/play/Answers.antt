use Rattle.std.proofs.Common.{arith, get_or, refl, subst, sym}
use Rattle.std.proofs.lemmas.Grind.{common_steps}
use Rattle.std.proofs.lemmas.List.{drop_all}
use Rattle.std.proofs.lemmas.Option.{slice_get-get_or}
use Rattle.wm_run.specs.declared.turn.Turn.TheVariants.{Step}
use Rattle.wm_run.specs.Runner.{script_state, setting_of}
use Rattle.wm_run.specs.Script.{TurnsLead}
use Rattle.wm_run.proofs.scripts.script.play.Goals as goal

pub take-requires-clause-there : goal.take-requires-clause-there
take-requires-clause-there c =
    let turns = c.args.turns.now in
    let at = slice_get-get_or turns c.loop-turn.turn-index (Step 0) c.loop-turn-test.true in
    let there = c.requires.there c.loop-turn.turn-index (get_or turns c.loop-turn.turn-index (Step 0)) at in
    omega (arith, there, c.loop-turn.invariant.count)

pub loop-turn-preserved : goal.loop-turn-preserved
loop-turn-preserved c = record {
  set = grind (arith, common_steps);
  count = grind (arith, common_steps);
  initial = grind (arith, common_steps);
  plays = grind (arith, common_steps);
}

pub returns : goal.returns
returns c =
    let g = setting_of c.args.module.now c.args.recorder.now c.args.limit in
    let now = script_state c.loop-turn.runners.items c.loop-turn.recorder in
    let none = drop_all c.loop-turn.turn-index c.args.turns.now c.loop-turn-test.false in
    let is = c.loop-turn.invariant in
    record {
      plays = is.plays now (subst (λ turns. TurnsLead g now turns now) (sym none) refl);
      set = is.set;
      count = is.count;
      initial = is.initial;
    }
