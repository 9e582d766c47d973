use Rattle.std.proofs.lemmas.Result.{err_from_is_err_and}
use Rattle.wm_logfile.proofs.Loop.{goes_on, ends, is_done, fault_goes_on, fault_ends, no_fault}
use Rattle.wm_logfile.proofs.items.each_of.Goals as goal

pub returns-in_err-item-clause-given : goal.returns-in_err-item-clause-given
returns-in_err-item-clause-given g c =
    let p = err_from_is_err_and c.from_residual-in_err-item.result c.from_residual-in_err-item.ensures.1 in
    rw (p.1, p.2) (ends c.in_err-item.field-0.0 (g.R.ItemReader.reads c.args.reader.now) c.loop-index.found.items c.loop-index.index c.args.values.now c.index-values-index.result _ c.loop-index-test.true c.index-values-index.is c.in_err-item.ensures.given c.loop-index.invariant.given)

pub returns-in_err-item-clause-fault : goal.returns-in_err-item-clause-fault
returns-in_err-item-clause-fault g c =
    let p = err_from_is_err_and c.from_residual-in_err-item.result c.from_residual-in_err-item.ensures.1 in
    rw (p.1, p.2) (fault_ends (g.R.ItemReader.faults c.args.reader.now) c.args.path.now c.loop-index.index c.args.values.now c.in_err-item.field-0.0 c.index-values-index.result _ _ c.loop-index-test.true c.index-values-index.is c.child.ensures.is c.in_err-item.ensures.fault c.loop-index.invariant.fault)

pub loop-index-preserved : goal.loop-index-preserved
loop-index-preserved g c = record {
  given = rw c.in_ok-push.ensures.items (goes_on (g.R.ItemReader.reads c.args.reader.now) c.loop-index.found.items c.loop-index.index c.args.values.now c.index-values-index.result c.in_ok-item.item _ c.loop-index-test.true c.index-values-index.is c.in_ok-item.ensures.given c.loop-index.invariant.given);
  fault = fault_goes_on (g.R.ItemReader.faults c.args.reader.now) c.args.path.now c.loop-index.index c.args.values.now c.index-values-index.result _ _ c.loop-index-test.true c.index-values-index.is c.child.ensures.is c.in_ok-item.ensures.fault c.loop-index.invariant.fault;
}

pub returns-clause-given : goal.returns-clause-given
returns-clause-given g c = rw c.from_vec.ensures (is_done (g.R.ItemReader.reads c.args.reader.now) c.loop-index.found.items c.loop-index.index c.args.values.now _ c.loop-index-test.false c.loop-index.invariant.given)

pub returns-clause-fault : goal.returns-clause-fault
returns-clause-fault g c = no_fault (g.R.ItemReader.faults c.args.reader.now) c.args.path.now c.loop-index.index c.args.values.now _ c.loop-index-test.false c.loop-index.invariant.fault
