use Rattle.std.proofs.lemmas.Result.{err_from_is_err_and}
use Rattle.serde_json.specs.View.{view}
use Rattle.wm_logfile.specs.Grammar.{thread_by}
use Rattle.wm_logfile.proofs.Causes.{at_threads}
use Rattle.wm_logfile.proofs.Whole.{is_log_by}
use Rattle.wm_logfile.proofs.document.pair_of_second.Goals as goal

pub new-requires : goal.new-requires
new-requires c = rw c.in_ok-logs.ensures.first (is_log_by (view c.args.threads.now) c.in_ok-threads.threads c.in_ok-threads.ensures.given)

pub returns-in_err-threads-clause-fault : goal.returns-in_err-threads-clause-fault
returns-in_err-threads-clause-fault c =
    let p = err_from_is_err_and c.from_residual.result c.from_residual.ensures.1 in
    rw (p.1, p.2) (at_threads thread_by c.args.path.now c.child.result (view c.args.threads.now) _ c.in_err-threads.field-0.0 c.child.ensures.is c.in_err-threads.ensures.fault)
