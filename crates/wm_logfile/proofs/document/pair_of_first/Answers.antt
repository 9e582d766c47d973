use Rattle.std.proofs.lemmas.Result.{err_from_is_err_and}
use Rattle.serde_json.specs.View.{view}
use Rattle.wm_logfile.specs.Grammar.{thread}
use Rattle.wm_logfile.proofs.Causes.{at_threads}
use Rattle.wm_logfile.proofs.Whole.{is_log}
use Rattle.wm_logfile.proofs.document.pair_of_first.Goals as goal

pub new-requires : goal.new-requires
new-requires c = is_log (view c.args.threads.now) c.in_ok-logs.logs c.in_ok-logs.ensures.given

pub returns-in_err-logs-clause-fault : goal.returns-in_err-logs-clause-fault
returns-in_err-logs-clause-fault c =
    let p = err_from_is_err_and c.from_residual.result c.from_residual.ensures.1 in
    rw (p.1, p.2) (at_threads thread c.args.path.now c.child.result (view c.args.threads.now) _ c.in_err-logs.field-0.0 c.child.ensures.is c.in_err-logs.ensures.fault)
