use Rattle.std.proofs.Common.{◌≡◌, ◌∙◌, ◌+◌, ℕ, List, [], ◌∷◌, ◌++◌, map, arith, drop, get_or, refl, subst, sym}
use Rattle.std.proofs.lemmas.List.{drop_all, drop_more}
use Rattle.std.proofs.lemmas.Option.{slice_get-get_or}
use Rattle.wm_machine.specs.State.{position_of}
use Rattle.wm_run.specs.declared.runner.Runner.{Runner}
use Rattle.wm_run.specs.declared.scripts.traced.TracedTurn.{TracedTurn}
use Rattle.wm_run.specs.declared.turn.Turn.{Turn}
use Rattle.wm_run.specs.declared.turn.Turn.TheVariants.{Step}
use Rattle.wm_run.specs.Runner.{script_state, setting_of}
use Rattle.wm_run.specs.Traced.{IsTracedTurn}
use Rattle.wm_run.specs.Tracing.{PlaysTraced, machines_of}
use Rattle.wm_run.proofs.TracedPositions.{first_positions, many_positions}
use Rattle.wm_run.proofs.TracedTurns.{Continues, HasTraced, all_traced, one_more, turns_of_trace}
use Rattle.wm_run.proofs.scripts.tracing.play_traced.Goals as goal

pub take_traced-requires-clause-there : goal.take_traced-requires-clause-there
take_traced-requires-clause-there c =
    let turns = c.args.turns.now in
    let at = slice_get-get_or turns c.loop-turn.turn-index (Step 0) c.loop-turn-test.true in
    let there = c.requires.there c.loop-turn.turn-index (get_or turns c.loop-turn.turn-index (Step 0)) at in
    omega (arith, there, c.loop-turn.invariant.count)

pub take_traced-requires-clause-positions : goal.take_traced-requires-clause-positions
take_traced-requires-clause-positions c =
    let has = c.loop-turn.invariant.traces in many_positions c.loop-turn.runners.items has.moved c.loop-turn.positions.items has.are

pub loop-turn-init : goal.loop-turn-init
loop-turn-init c =
    let xs = c.args.runners.now.items in
    let turns = c.args.turns.now in
    let r = c.args.recorder.now in
    let g = setting_of c.args.module.now r c.args.limit in
    let first = script_state xs r in
    let machines = machines_of xs in
    let ps = c.in_ok-positions.positions.items in
    let are = first_positions xs ps (subst (λ (ys : List Runner). ps ≡ map (λ (x : Runner). position_of x.thread) ys) c.as_slice.ensures.value c.in_ok-positions.ensures) in
    let none : HasTraced g first machines turns [] xs r ps turns = record { moved = machines; are = are; continues = λ more last traces. traces } in
    record {
      set = c.requires.set;
      count = refl;
      initial = refl;
      traces = subst (λ (es : List TracedTurn). HasTraced g first machines turns es xs r ps turns) (sym c.new-entries.ensures.items) none;
    }

pub loop-turn-preserved : goal.loop-turn-preserved
loop-turn-preserved c =
    let m = c.args.module.now in
    let limit = c.args.limit in
    let turns = c.args.turns.now in
    let i = c.loop-turn.turn-index in
    let t = get_or turns i (Step 0) in
    let left = drop (i + 1) turns in
    let xs = c.args.runners.now.items in
    let g = setting_of m c.args.recorder.now limit in
    let first = script_state xs c.args.recorder.now in
    let machines = machines_of xs in
    let now = script_state c.loop-turn.runners.items c.loop-turn.recorder in
    let ys = c.take_traced.new.runners.items in
    let r' = c.take_traced.new.recorder in
    let ps' = c.take_traced.new.positions.items in
    let entries = c.loop-turn.entries.items in
    let entry = c.in_ok-entry.entry in
    let is = c.in_ok-entry.ensures.takes in
    let has = c.loop-turn.invariant.traces in
    let one = c.in_ok-entry.ensures.traces has.moved has.are in
    let traced = subst (λ (init : List ℕ). IsTracedTurn (record { program = m; initial = init; limit = limit }) now has.moved t entry (script_state ys r') one.moved) c.loop-turn.invariant.initial one.traced in
    let continues = subst (λ (ts : List Turn). Continues g first machines turns entries now has.moved ts) (drop_more turns i (Step 0) c.loop-turn-test.true) has.continues in
    let more : HasTraced g first machines turns (entries ++ entry ∷ []) ys r' ps' left = record {
      moved = one.moved;
      are = one.are_positions;
      continues = one_more g first machines turns entries now (script_state ys r') has.moved one.moved t left entry continues traced;
    } in
    record {
      set = is.set;
      count = is.count ∙ c.loop-turn.invariant.count;
      initial = is.initial ∙ c.loop-turn.invariant.initial;
      traces = subst (λ (es : List TracedTurn). HasTraced g first machines turns es ys r' ps' left) (sym c.in_ok-push.ensures.items) more;
    }

pub returns : goal.returns
returns c =
    let m = c.args.module.now in
    let limit = c.args.limit in
    let turns = c.args.turns.now in
    let xs = c.args.runners.now.items in
    let g = setting_of m c.args.recorder.now limit in
    let first = script_state xs c.args.recorder.now in
    let ys = c.loop-turn.runners.items in
    let r' = c.loop-turn.recorder in
    let entries = c.loop-turn.entries.items in
    let left = drop c.loop-turn.turn-index turns in
    let traces = all_traced g first (machines_of xs) turns entries ys r' c.loop-turn.positions.items left (drop_all c.loop-turn.turn-index turns c.loop-turn-test.false) c.loop-turn.invariant.traces in
    subst (λ (es : List TracedTurn). PlaysTraced m limit turns xs c.args.recorder.now es ys r') (sym c.from_vec.ensures) (record {
      plays = record {
        plays = turns_of_trace g first (machines_of xs) turns entries (script_state ys r') traces;
        set = c.loop-turn.invariant.set;
        count = c.loop-turn.invariant.count;
        initial = c.loop-turn.invariant.initial;
      };
      traces = traces;
    })
