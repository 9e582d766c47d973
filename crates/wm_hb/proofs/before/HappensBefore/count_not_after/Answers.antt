use Rattle.wm_event.specs.HappensBefore.{HappensBefore}
use Rattle.wm_event.specs.LoggedRun.{execution}
use Rattle.wm_hb.proofs.SequenceLemmas.{before_join, holds_from, turns}
use Rattle.wm_hb.proofs.before.HappensBefore.count_not_after.Goals as goal

pub turn_of-requires-clause-turns : goal.turn_of-requires-clause-turns
turn_of-requires-clause-turns c =
    let x = execution c.args.self.now in
    turns x (HappensBefore x c.args.id) (λ u v h b. before_join x c.args.id u v b h) c.args.events.now c.requires

pub returns-clause-turn : goal.returns-clause-turn
returns-clause-turn c = holds_from (HappensBefore (execution c.args.self.now) c.args.id) c.args.events.now c.turn_of.result c.turn_of.ensures
