use Rattle.std.proofs.Common.{ap, ◌≡◌, suc, length, sym, ◌∙◌, None}
use Rattle.wm_machine.specs.State.{as_need}
use Rattle.wm_machine.proofs.Made.{made_step}
use Rattle.wm_machine.proofs.thread.Thread.next.Goals as goal

pub returns-in-Some-next_op : goal.returns-in-Some-next_op
returns-in-Some-next_op c = λ read.
    let s = c.self.inside in
    let cs = s.call_stack in
    let e : s.end ≡ None = c.in-None.is in
    let g = c.in-Some-next_op.ensures (suc (length cs)) read s.globals in
    let t = made_step s.module.now read s.globals cs s.running.value ∙ rw c.deref.ensures at g in
    rw (← c.self.view_is, e) (sym (ap as_need t))

pub returns-in-None-next_op : goal.returns-in-None-next_op
returns-in-None-next_op c = λ read.
    let s = c.self.inside in
    let cs = s.call_stack in
    let e : s.end ≡ None = c.in-None.is in
    let g = c.in-None-next_op.ensures (suc (length cs)) read s.globals in
    let t = made_step s.module.now read s.globals cs s.running.value ∙ rw c.deref.ensures at g in
    rw (← c.self.view_is, e) (sym (ap as_need t))
