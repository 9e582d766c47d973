use Rattle.std.proofs.Common.{ap, sym}
use Rattle.wm_machine.specs.Run.{end_of as config_end}
use Rattle.wm_replay.proofs.Needs.{ended_of_need, cut_of_need, is_not_ended}
use Rattle.wm_replay.proofs.by_log.end_of.Goals as goal

pub returns-in-Ended : goal.returns-in-Ended
returns-in-Ended c = sym (ap config_end (ended_of_need c.args.thread.now 0 c.in-Ended.end (sym (c.in-Ended.ensures 0))))

pub returns-in-Local : goal.returns-in-Local
returns-in-Local c = sym (cut_of_need c.args.thread.now 0 c.next.result (sym (c.next.ensures 0)) (is_not_ended c.next.result c.in-Local.is))
