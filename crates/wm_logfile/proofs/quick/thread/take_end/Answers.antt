use Rattle.wm_logfile.proofs.TakingThreads.{cut_taken, done_taken, trapped_taken}
use Rattle.wm_logfile.proofs.quick.thread.take_end.Goals as goal

pub returns-in_ok-close_list-in-cut : goal.returns-in_ok-close_list-in-cut
returns-in_ok-close_list-in-cut c =
    cut_taken c.args.reader.now c.open_list.new.reader c.in_ok-take_text.field-0.now c.take_text.new.reader c.close_list.new.reader c.in_ok-open_list.ensures c.in_ok-take_text.ensures c.in-cut.is c.in_ok-close_list-in-cut.ensures

pub returns-in_ok-close_list-in-done : goal.returns-in_ok-close_list-in-done
returns-in_ok-close_list-in-done c =
    done_taken c.args.reader.now c.open_list.new.reader c.in_ok-take_text.field-0.now c.take_text.new.reader c.in_ok-value-in-done.value c.take_result.new.reader c.close_list-in-done.new.reader c.in_ok-open_list.ensures c.in_ok-take_text.ensures c.in-done.is c.in_ok-value-in-done.ensures c.in_ok-close_list-in-done.ensures

pub returns-in_ok-close_list-in-trap : goal.returns-in_ok-close_list-in-trap
returns-in_ok-close_list-in-trap c =
    trapped_taken c.args.reader.now c.open_list.new.reader c.in_ok-take_text.field-0.now c.take_text.new.reader c.in_ok-kind-in-trap.kind c.take_trap.new.reader c.close_list-in-trap.new.reader c.in_ok-open_list.ensures c.in_ok-take_text.ensures c.in-trap.is c.in_ok-kind-in-trap.ensures c.in_ok-close_list-in-trap.ensures
