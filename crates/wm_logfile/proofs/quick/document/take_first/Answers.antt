use Rattle.wm_logfile.proofs.Whole.{is_log}
use Rattle.wm_logfile.proofs.TakingDocuments.{pair_1_taken}
use Rattle.wm_logfile.proofs.quick.document.take_first.Goals as goal

pub new-requires : goal.new-requires
new-requires c = is_log c.in_ok-threads.ensures.value c.in_ok-threads.threads c.in_ok-threads.ensures.read

pub returns : goal.returns
returns c =
    rw c.new.ensures (pair_1_taken c.args.reader.now c.in_ok-threads.threads c.take_threads.new.reader c.in_ok-witness.witness c.take_witness.new.reader c.in_ok-threads.ensures c.in_ok-witness.ensures)
