use Rattle.std.proofs.Common.{◌≡◌, ℕ, length, subst, sym}
use Rattle.std.proofs.lemmas.List.{length-map}
use Rattle.wm_event.specs.declared.event.EventId.{EventId}
use Rattle.wm_event.specs.LoggedRun.{execution}
use Rattle.wm_event.specs.Writes.{id_in, thread_keys}
use Rattle.wm_hb.specs.Sequence.{HasInRow, NoneInRow}
use Rattle.wm_hb.specs.Turn.{IsTurn, TurnsOnce}
use Rattle.wm_hb.proofs.SequenceLemmas.{holds_from, turns}
use Rattle.wm_rules.specs.Overtaking.{IsPast, ids_in_thread}
use Rattle.wm_rules.proofs.SequentialConsistencyLemmas.{past_onward}
use Rattle.wm_rules.proofs.overtaking.count_not_past.Goals as goal

pub turn_of-requires-clause-turns : goal.turn_of-requires-clause-turns
turn_of-requires-clause-turns c =
    let run = c.args.relation.now in
    let ids = ids_in_thread run.log c.args.thread c.args.writes.now in
    let past : EventId → Type 0 = IsPast (execution run) c.args.writer c.args.case in
    let long : length ids ≡ length c.args.writes.now = length-map c.args.writes.now (id_in (thread_keys run.log c.args.thread)) in
    subst (λ (n : ℕ). TurnsOnce (NoneInRow past ids) (HasInRow past ids) n) long
    (turns (execution run) past (past_onward run c.candidate-candidate.ensures.agrees c.args.writer c.args.case) ids c.requires.sequence)

pub returns-clause-turn : goal.returns-clause-turn
returns-clause-turn c =
    let run = c.args.relation.now in
    let ids = ids_in_thread run.log c.args.thread c.args.writes.now in
    let past : EventId → Type 0 = IsPast (execution run) c.args.writer c.args.case in
    let long : length ids ≡ length c.args.writes.now = length-map c.args.writes.now (id_in (thread_keys run.log c.args.thread)) in
    holds_from past ids c.turn_of.result (subst (λ (n : ℕ). IsTurn (NoneInRow past ids) (HasInRow past ids) n c.turn_of.result) (sym long) c.turn_of.ensures)
