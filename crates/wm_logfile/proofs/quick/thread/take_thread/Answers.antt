use Rattle.wm_logfile.proofs.TakingThreads.{thread_taken}
use Rattle.wm_logfile.proofs.quick.thread.take_thread.Goals as goal

pub returns : goal.returns
returns c =
    rw c.with_events.ensures (thread_taken c.args.thread c.args.reader.now c.open_list.new.reader c.take_head.new.reader c.take_list_with_room.new.reader c.close_list.new.reader c.in_ok-head.head c.in_ok-events.events
    c.in_ok-open_list.ensures c.in_ok-head.ensures c.in_ok-events.ensures c.in_ok-close_list.ensures)
