use Rattle.std.proofs.Common.{rules}
use Rattle.wm_event.specs.LoggedRun.{execution}
use Rattle.wm_hb.proofs.FaultLemmas.{value_fault_none, value_fault_some}
use Rattle.wm_rules.specs.Cases.{value_number}
use Rattle.wm_rules.proofs.written_values.value_fault_at.Goals as goal

pub returns-in_default : goal.returns-in_default
returns-in_default c = value_fault_none (execution c.args.candidate.now) c.args.event.now c.args.byte c.args.writer c.requires.listed c.requires.writer (search rules)

pub returns : goal.returns
returns c = rw (c.key.ensures, c.number.ensures) (value_fault_some (execution c.args.candidate.now) c.args.event.now c.args.byte c.args.writer (value_number c.in-Some.case) c.requires.listed c.requires.writer c.in-Some.ensures)
