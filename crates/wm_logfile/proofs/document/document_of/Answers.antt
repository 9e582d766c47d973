use Rattle.std.proofs.Common.{map}
use Rattle.std.proofs.lemmas.Result.{err_from_is_err_and}
use Rattle.serde_json.specs.View.{view}
use Rattle.wm_logfile.specs.declared.document.Version.TheVariants.{First, Second}
use Rattle.wm_logfile.proofs.Causes.{front_fault, no_list, pair_document}
use Rattle.wm_logfile.proofs.document.document_of.Goals as goal

pub returns-in_err-fields-clause-fault : goal.returns-in_err-fields-clause-fault
returns-in_err-fields-clause-fault c =
    let p = err_from_is_err_and c.from_residual.result c.from_residual.ensures.1 in
    rw (p.1, p.2) (no_list (view c.args.value.now) c.in_err-fields.field-0.0 c.whole-path.result c.in_err-fields.ensures.none c.in_err-fields.ensures.fault c.whole-path.ensures)

pub returns-in_err-version-clause-fault : goal.returns-in_err-version-clause-fault
returns-in_err-version-clause-fault c =
    let p = err_from_is_err_and c.from_residual-in_err-version.result c.from_residual-in_err-version.ensures.1 in
    rw (p.1, p.2) (front_fault (view c.args.value.now) (map view c.in_ok-fields.fields.now) c.whole-path.result c.in_err-version.field-0.0 c.in_ok-fields.ensures.given c.whole-path.ensures c.in_err-version.ensures.fault c.in_err-version.ensures.no_want)

pub returns-in-First-clause-fault : goal.returns-in-First-clause-fault
returns-in-First-clause-fault c =
    let parts = c.in_ok-version in
    pair_document (view c.args.value.now) (map view c.in_ok-fields.fields.now) parts.version First (view parts.threads.now) (view parts.last.now) c.whole-path.result c.pair_of_first.result
    c.in_ok-fields.ensures.given parts.ensures.given c.in-First.is c.whole-path.ensures c.pair_of_first.ensures.fault

pub returns-in-Second-clause-fault : goal.returns-in-Second-clause-fault
returns-in-Second-clause-fault c =
    let parts = c.in_ok-version in
    pair_document (view c.args.value.now) (map view c.in_ok-fields.fields.now) parts.version Second (view parts.threads.now) (view parts.last.now) c.whole-path.result c.pair_of_second.result
    c.in_ok-fields.ensures.given parts.ensures.given c.in-Second.is c.whole-path.ensures c.pair_of_second.ensures.fault
