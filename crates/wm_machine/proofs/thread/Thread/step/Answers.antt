use Rattle.std.proofs.Common.{◌≡◌, ◌∙◌, ap, sym, None}
use Rattle.wm_machine.specs.Inside.{waits}
use Rattle.wm_machine.specs.State.{State, need_of}
use Rattle.wm_machine.proofs.Local.{waits_for_access}
use Rattle.wm_machine.proofs.NeverStuck.{steps_on}
use Rattle.wm_machine.proofs.thread.Thread.step.Goals as goal

pub returns-in-Err-clause-never_stuck : goal.returns-in-Err-clause-never_stuck
returns-in-Err-clause-never_stuck c = steps_on _ c.args.self.now c.self.invariant c.self.view_is

pub returns-in-Ok-Made-clause-never_stuck : goal.returns-in-Ok-Made-clause-never_stuck
returns-in-Ok-Made-clause-never_stuck c = steps_on _ c.args.self.now c.self.invariant c.self.view_is

pub returns-in-Ok-Last-clause-never_stuck : goal.returns-in-Ok-Last-clause-never_stuck
returns-in-Ok-Last-clause-never_stuck c = steps_on _ c.args.self.now c.self.invariant c.self.view_is

pub unreachable-requires : goal.unreachable-requires
unreachable-requires c =
    let old = c.args.self.now in
    let asks = ap waits c.in-Ok-NeedsReply.field-0-is in
    let same = c.in-Ok-NeedsReply.ensures.kept asks in
    let runs : old.ended ≡ None = sym (ap (λ (x : State). x.ended) c.self.view_is) ∙ c.in_default.is in
    waits_for_access old runs (sym asks ∙ c.in-Ok-NeedsReply.ensures.asks 0) c.next.result (c.next.ensures 0 ∙ ap (need_of 0) same) c.in-Local.is

pub returns-in-Ok-Made-clause-moves : goal.returns-in-Ok-Made-clause-moves
returns-in-Ok-Made-clause-moves c _ = c.in-Ok-Made.ensures.moves (ap waits c.in-Ok-Made.field-0-is)

pub returns-in-Ok-Last-clause-moves : goal.returns-in-Ok-Last-clause-moves
returns-in-Ok-Last-clause-moves c _ = c.in-Ok-Last.ensures.moves (ap waits c.in-Ok-Last.field-0-is)
