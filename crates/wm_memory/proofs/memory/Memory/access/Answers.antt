use Rattle.wm_memory.proofs.Accesses.{answers}
use Rattle.wm_memory.proofs.memory.Memory.access.Goals as goal

pub returns-in-Ok-clause-ok : goal.returns-in-Ok-clause-ok
returns-in-Ok-clause-ok c = answers c.args.thread c.args.op c.args.self.now c.in-Ok.made.event c.in-Ok.made.writers c.reply.result c.make.new.self c.reply.ensures c.in-Ok.ensures.ok
