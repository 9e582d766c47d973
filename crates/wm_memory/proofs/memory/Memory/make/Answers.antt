use Rattle.std.proofs.Common.{ap, sym, ◌∙◌}
use Rattle.wm_event.specs.declared.op.OpFields.{OpFields as Op}
use Rattle.wm_memory.proofs.Accesses.{atomic_read, access_load}
use Rattle.wm_memory.proofs.memory.Memory.make.Goals as goal

pub returns-in-Read-clause-ok : goal.returns-in-Read-clause-ok
returns-in-Read-clause-ok c = atomic_read c.args.self.now c.atomic.new.self c.args.thread c.args.op c.atomic.result.event c.atomic.result.writers (sym (ap (λ (o : Op). o.order) c.fields-fields.ensures.value) ∙ c.in-SeqCst.is) (sym (ap (λ (o : Op). o.kind) c.fields-fields.ensures.value) ∙ c.in-Read.is) c.atomic.ensures.event

pub returns-in-Read-kind-clause-ok : goal.returns-in-Read-kind-clause-ok
returns-in-Read-kind-clause-ok c = access_load c.args.self.now c.load.new.self c.args.thread c.args.op c.load.result.event c.load.result.writers (sym (ap (λ (o : Op). o.order) c.fields-fields.ensures.value) ∙ c.in-Unordered.is) (sym (ap (λ (o : Op). o.kind) c.fields-fields.ensures.value) ∙ c.in-Read-kind.is) c.load.ensures.event
