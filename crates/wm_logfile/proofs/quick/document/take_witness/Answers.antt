use Rattle.wm_logfile.proofs.TakingDocuments.{witness_taken}
use Rattle.wm_logfile.proofs.quick.document.take_witness.Goals as goal

pub returns : goal.returns
returns c =
    witness_taken c.args.reader.now c.open_list.new.reader c.in_ok-writers.writers c.take_list.new.reader c.in_ok-order.order c.take_order_keys.new.reader c.close_list.new.reader
    c.in_ok-open_list.ensures c.in_ok-writers.ensures c.in_ok-order.ensures c.in_ok-close_list.ensures
