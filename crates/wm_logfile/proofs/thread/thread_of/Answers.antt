use Rattle.std.proofs.Common.{arith}
use Rattle.std.proofs.lemmas.Grind.{common_steps}
use Rattle.std.proofs.lemmas.Result.{err_from_is_err_and}
use Rattle.serde_json.specs.View.{view}
use Rattle.wm_logfile.specs.Grammar.{thread, event}
use Rattle.wm_logfile.proofs.FirstFaults.{events_fault, events_none}
use Rattle.wm_logfile.proofs.thread.thread_of.Goals as goal

pub returns-in_err-events-clause-fault : goal.returns-in_err-events-clause-fault
unfolding thread
returns-in_err-events-clause-fault c =
    let p = err_from_is_err_and c.from_residual-in_err-events.result c.from_residual-in_err-events.ensures.1 in
    rw (p.1, p.2) (events_fault event c.args.path.now (view c.args.value.now) c.in_ok-head.head (view c.in_ok-head.events.now) c.child.result c.in_err-events.field-0.0 c.in_ok-head.ensures.given c.in_ok-head.ensures.fault c.child.ensures.is c.in_err-events.ensures.fault)

pub returns-clause-fault : goal.returns-clause-fault
unfolding thread
returns-clause-fault c =
    events_none event c.args.path.now (view c.args.value.now) c.in_ok-head.head (view c.in_ok-head.events.now) c.child.result c.in_ok-head.ensures.given c.in_ok-head.ensures.fault c.child.ensures.is c.in_ok-events.ensures.fault

pub returns-in_err-head-clause-given : goal.returns-in_err-head-clause-given
unfolding thread
returns-in_err-head-clause-given c = grind (arith, common_steps)

pub returns-in_err-head-clause-fault : goal.returns-in_err-head-clause-fault
unfolding thread
returns-in_err-head-clause-fault c = grind (arith, common_steps)

pub returns-in_err-events-clause-given : goal.returns-in_err-events-clause-given
unfolding thread
returns-in_err-events-clause-given c = grind (arith, common_steps)

pub returns-clause-given : goal.returns-clause-given
unfolding thread
returns-clause-given c = grind (arith, common_steps)
