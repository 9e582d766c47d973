use Rattle.wm_logfile.proofs.Whole.{is_log_by}
use Rattle.wm_logfile.proofs.TakingDocuments.{pair_2_taken}
use Rattle.wm_logfile.proofs.quick.document.take_second.Goals as goal

pub new-requires : goal.new-requires
new-requires c = rw c.in_ok-logs.ensures.first (is_log_by c.in_ok-threads.ensures.value c.in_ok-threads.threads c.in_ok-threads.ensures.read)

pub returns : goal.returns
returns c =
    rw c.new.ensures (pair_2_taken c.args.reader.now c.in_ok-threads.threads c.take_threads.new.reader c.in_ok-order.order c.take_order_keys.new.reader c.in_ok-logs.logs c.in_ok-logs.writers c.in_ok-threads.ensures c.in_ok-order.ensures c.in_ok-logs.ensures.first c.in_ok-logs.ensures.second)
