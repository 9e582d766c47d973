use Rattle.std.proofs.Common.{arith, rules, length-set}
use Rattle.wm_recorder.proofs.Records.{same_events, same_writers, room_there}
use Rattle.wm_recorder.proofs.transcript.Transcript.reserve.Goals as goal

pub returns-in_err-reserve-3-clause-same : goal.returns-in_err-reserve-3-clause-same
returns-in_err-reserve-3-clause-same c = record {
  history = search rules;
  events = same_events c.args.self.now.threads.items c.args.thread c.index_mut.result.now c.reserve-3.new.self c.index_mut.ensures.value c.reserve-3.ensures.same;
  writers = same_writers c.args.self.now.threads.items c.args.thread c.index_mut.result.now c.reserve-3.new.self c.index_mut.ensures.value c.reserve-3.ensures.same;
  order = search rules;
}

pub returns-clause-same : goal.returns-clause-same
returns-clause-same c = record {
  history = search rules;
  events = same_events c.args.self.now.threads.items c.args.thread c.index_mut.result.now c.reserve-3.new.self c.index_mut.ensures.value c.reserve-3.ensures.same;
  writers = same_writers c.args.self.now.threads.items c.args.thread c.index_mut.result.now c.reserve-3.new.self c.index_mut.ensures.value c.reserve-3.ensures.same;
  order = search rules;
}

pub returns-clause-room : goal.returns-clause-room
returns-clause-room c = record {
  history = c.in_ok-reserve.ensures.room;
  order = omega (arith, c.in_ok-reserve-2.ensures.room);
  there = omega (arith, length-set c.args.self.now.threads.items c.args.thread c.reserve-3.new.self, c.requires);
  thread = room_there c.args.self.now.threads.items c.args.thread c.reserve-3.new.self c.requires c.in_ok-reserve-3.ensures.room;
}
