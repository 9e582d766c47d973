use Rattle.std.proofs.Common.{rules}
use Rattle.wm_recorder.proofs.Records.{read_at, set_events, set_writers}
use Rattle.wm_recorder.proofs.transcript.Transcript.add_access.Goals as goal

pub returns : goal.returns
returns c = (
  c.index_mut.result.now,
  record {
    was = read_at c.args.self.now.threads.items c.args.thread c.index_mut.result.now c.requires.there c.index_mut.ensures.value;
    history = c.add_steps.ensures;
    events = set_events c.args.self.now.threads.items c.args.thread c.add.new.self _ c.add.ensures.events;
    writers = set_writers c.args.self.now.threads.items c.args.thread c.add.new.self _ c.add.ensures.writers;
    order = search rules;
  },
)
