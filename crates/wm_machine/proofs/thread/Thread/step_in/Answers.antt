use Rattle.std.specs.Prelude.{Ok, map}
use Rattle.std.proofs.Common.{arith, ap, sym, ◌≡◌, ◌+◌, suc, length, ℕ, None, ◌∙◌, true, false, refl}
use Rattle.wm_machine.specs.Code.{FunctionCode}
use Rattle.wm_ast.specs.declared.module.Module.{Module}
use Rattle.wm_machine.specs.State.{State, Sound, value_or_zero}
use Rattle.wm_machine.specs.Functions.{callable, continuation}
use Rattle.wm_machine.specs.Step.{invoke}
use Rattle.wm_machine.specs.Inside.{back, call_step, vars_of}
use Rattle.wm_machine.proofs.NeverStuck.{has_step, sound_after}
use Rattle.wm_machine.proofs.Made.{waits_as}
use Rattle.wm_machine.proofs.Calls.{thread_within, thread_trapped, thread_stuck, thread_done, thread_back, refuses_same, thread_called, thread_exhausted, thread_uncalled, called_same}
use Rattle.wm_event.specs.declared.log.End.TheVariants.{Done, Trap}
use Rattle.wm_event.specs.declared.log.TrapKind.TheVariants.{Exhausted}
use Rattle.wm_machine.specs.Paths.{call_places, calls, ends}
use Rattle.wm_machine.proofs.Leading.{returned_to}
use Rattle.wm_machine.proofs.thread.Thread.step_in.Goals as goal

pub returns-in-Within-clause-made : goal.returns-in-Within-clause-made
returns-in-Within-clause-made c =
    let s = c.self.inside in
    let q : c.args.code.now.module ≡ s.module.now = ap (λ (x : FunctionCode). x.module) c.requires.here ∙ sym (ap (λ (x : State). x.module) c.self.view_is) in
    let cs = s.call_stack in
    let e : s.end ≡ None = ap (λ (x : State). x.ended) c.self.view_is ∙ c.requires.runs in
    let h = rw (c.in-Within.is, q, c.deref_mut.ensures.value) at (c.in-Ok.ensures.stepped (suc (length cs))) in
    let t = thread_within s.module.now (value_or_zero c.args.given) s.globals cs s.running.value c.step_in_frame.new.running c.step_in_frame.new.globals h in
    rw (← c.self.view_is, e) (λ _. t)

pub returns-in-Trapped-clause-made : goal.returns-in-Trapped-clause-made
returns-in-Trapped-clause-made c =
    let s = c.self.inside in
    let q : c.args.code.now.module ≡ s.module.now = ap (λ (x : FunctionCode). x.module) c.requires.here ∙ sym (ap (λ (x : State). x.module) c.self.view_is) in
    let cs = s.call_stack in
    let e : s.end ≡ None = ap (λ (x : State). x.ended) c.self.view_is ∙ c.requires.runs in
    let h = rw (c.in-Trapped.is, q, c.deref_mut.ensures.value) at (c.in-Ok.ensures.stepped (suc (length cs))) in
    let t = thread_trapped s.module.now (value_or_zero c.args.given) s.globals cs s.running.value c.in-Trapped.kind c.step_in_frame.new.running c.step_in_frame.new.globals h in
    rw (← c.self.view_is, e) (λ _. t)

pub returns-in-Ok-Caller-clause-made : goal.returns-in-Ok-Caller-clause-made
returns-in-Ok-Caller-clause-made c =
    let s = c.self.inside in
    let q : c.args.code.now.module ≡ s.module.now = ap (λ (x : FunctionCode). x.module) c.requires.here ∙ sym (ap (λ (x : State). x.module) c.self.view_is) in
    let cs = s.call_stack in
    let e : s.end ≡ None = ap (λ (x : State). x.ended) c.self.view_is ∙ c.requires.runs in
    let h = rw (c.in-Left.is, q, c.deref_mut.ensures.value) at (c.in-Ok.ensures.stepped (suc (length cs))) in
    let g = c.in-Ok-Caller.ensures.ok c.in-Ok-Caller.field-0-is in
    let ret = h.0 ∙ ap back (sym (rw (c.module.ensures, q, c.deref.ensures, h.1.0) at c.in-Some.ensures)) in
    let t = thread_back s.module.now (value_or_zero c.args.given) s.globals s.running.value c.in-Some.value cs c.leave.new.running.value c.leave.new.self g ret in
    rw (← c.self.view_is, e, h.1.1) (λ _. t)

pub returns-in-Ok-Outside-clause-made : goal.returns-in-Ok-Outside-clause-made
returns-in-Ok-Outside-clause-made c =
    let s = c.self.inside in
    let q : c.args.code.now.module ≡ s.module.now = ap (λ (x : FunctionCode). x.module) c.requires.here ∙ sym (ap (λ (x : State). x.module) c.self.view_is) in
    let cs = s.call_stack in
    let e : s.end ≡ None = ap (λ (x : State). x.ended) c.self.view_is ∙ c.requires.runs in
    let h = rw (c.in-Left.is, q, c.deref_mut.ensures.value) at (c.in-Ok.ensures.stepped (suc (length cs))) in
    let n = c.in-Ok-Outside.ensures.none c.in-Ok-Outside.field-0-is in
    let ret = h.0 ∙ ap back (sym (rw (c.module.ensures, q, c.deref.ensures, h.1.0) at c.in-Some.ensures)) in
    let t = thread_done s.module.now (value_or_zero c.args.given) s.globals s.running.value c.in-Some.value cs n.0 ret in
    rw (← c.self.view_is, e, c.bits.ensures) (λ _. t)

pub call-requires : goal.call-requires
call-requires c =
    let h = rw (c.in-Calling.is, c.deref_mut.ensures.value) at (c.in-Ok.ensures.stepped 0) in
    rw h.1.0 h.2

pub returns-in-Ok-Entered-clause-made : goal.returns-in-Ok-Entered-clause-made
returns-in-Ok-Entered-clause-made c =
    let s = c.self.inside in
    let q : c.args.code.now.module ≡ s.module.now = ap (λ (x : FunctionCode). x.module) c.requires.here ∙ sym (ap (λ (x : State). x.module) c.self.view_is) in
    let cs = s.call_stack in
    let e : s.end ≡ None = ap (λ (x : State). x.ended) c.self.view_is ∙ c.requires.runs in
    let d = 1 + length s.call_stack in
    let dq : d ≡ suc (length cs) = omega arith in
    let k = c.in-Calling.callee in
    let h = rw (c.in-Calling.is, q, c.deref_mut.ensures.value) at (c.in-Ok.ensures.stepped d) in
    let g = rw (c.in-Ok-Entered.field-0-is, h.1.0) at (c.in-Ok-Entered.ensures.calls s.globals) in
    let t = thread_called s.module.now (value_or_zero c.args.given) s.globals cs s.running.value d k dq (invoke (callable s.module.now k) d k (vars_of s.running.value s.globals) s.running.value.control_stack.operands (continuation s.module.now s.running.value.func s.running.value.control_stack.block (s.running.value.control_stack.at + 1))) c.call.new.running.value c.call.new.call_stack h.0 g in
    rw (← c.self.view_is, e, h.1.1) (λ _. t)

pub returns-in-Ok-TooDeep-clause-made : goal.returns-in-Ok-TooDeep-clause-made
returns-in-Ok-TooDeep-clause-made c =
    let s = c.self.inside in
    let q : c.args.code.now.module ≡ s.module.now = ap (λ (x : FunctionCode). x.module) c.requires.here ∙ sym (ap (λ (x : State). x.module) c.self.view_is) in
    let cs = s.call_stack in
    let e : s.end ≡ None = ap (λ (x : State). x.ended) c.self.view_is ∙ c.requires.runs in
    let d = 1 + length s.call_stack in
    let dq : d ≡ suc (length cs) = omega arith in
    let k = c.in-Calling.callee in
    let h = rw (c.in-Calling.is, q, c.deref_mut.ensures.value) at (c.in-Ok.ensures.stepped d) in
    let g = rw (c.in-Ok-TooDeep.field-0-is, h.1.0) at (c.in-Ok-TooDeep.ensures.calls s.globals) in
    let t = thread_exhausted s.module.now (value_or_zero c.args.given) s.globals cs s.running.value d k dq (invoke (callable s.module.now k) d k (vars_of s.running.value s.globals) s.running.value.control_stack.operands (continuation s.module.now s.running.value.func s.running.value.control_stack.block (s.running.value.control_stack.at + 1))) c.call.new.running.value c.call.new.call_stack h.0 g in
    rw (← c.self.view_is, e) (λ _. t)

pub unreachable-requires : goal.unreachable-requires
unreachable-requires c =
    let s = c.self.inside in
    let q : c.args.code.now.module ≡ s.module.now = ap (λ (x : FunctionCode). x.module) c.requires.here ∙ sym (ap (λ (x : State). x.module) c.self.view_is) in
    let cs = s.call_stack in
    let e : s.end ≡ None = ap (λ (x : State). x.ended) c.self.view_is ∙ c.requires.runs in
    let h = rw (c.in-Err-Stuck.field-0-is, q, c.deref_mut.ensures.value) at (c.in-Err-Stuck.ensures.stepped (suc (length cs))) in
    has_step s.module.now (value_or_zero c.args.given) s.running.value cs s.globals s.end e c.self.invariant (thread_stuck s.module.now (value_or_zero c.args.given) s.globals cs s.running.value c.step_in_frame.new.running c.step_in_frame.new.globals h)

pub unreachable-requires-in-Err-Stuck-call : goal.unreachable-requires-in-Err-Stuck-call
unreachable-requires-in-Err-Stuck-call c =
    let s = c.self.inside in
    let q : c.args.code.now.module ≡ s.module.now = ap (λ (x : FunctionCode). x.module) c.requires.here ∙ sym (ap (λ (x : State). x.module) c.self.view_is) in
    let cs = s.call_stack in
    let e : s.end ≡ None = ap (λ (x : State). x.ended) c.self.view_is ∙ c.requires.runs in
    let d = 1 + length s.call_stack in
    let dq : d ≡ suc (length cs) = omega arith in
    let k = c.in-Calling.callee in
    let h = rw (c.in-Calling.is, q, c.deref_mut.ensures.value) at (c.in-Ok.ensures.stepped d) in
    let g = rw (c.in-Err-Stuck-call.field-0-is, h.1.0) at (c.in-Err-Stuck-call.ensures.calls s.globals) in
    has_step s.module.now (value_or_zero c.args.given) s.running.value cs s.globals s.end e c.self.invariant
    (thread_uncalled s.module.now (value_or_zero c.args.given) s.globals cs s.running.value d k dq (invoke (callable s.module.now k) d k (vars_of s.running.value s.globals) s.running.value.control_stack.operands (continuation s.module.now s.running.value.func s.running.value.control_stack.block (s.running.value.control_stack.at + 1))) c.call.new.running.value c.call.new.call_stack h.0 g)

within : (c : goal.In-Within) → c.self.inside.end ≡ None → Sound record { «module» = c.self.inside.module.now; ended = c.self.inside.end; running = c.step_in_frame.new.running; call_stack = c.self.inside.call_stack; globals = c.step_in_frame.new.globals }
within c e =
    let s = c.self.inside in
    let q : c.args.code.now.module ≡ s.module.now = ap (λ (x : FunctionCode). x.module) c.requires.here ∙ sym (ap (λ (x : State). x.module) c.self.view_is) in
    let cs = s.call_stack in
    let h = rw (c.in-Within.is, q, c.deref_mut.ensures.value) at (c.in-Ok.ensures.stepped (suc (length cs))) in
    let t = thread_within s.module.now (value_or_zero c.args.given) s.globals cs s.running.value c.step_in_frame.new.running c.step_in_frame.new.globals h in
    sound_after s.module.now (value_or_zero c.args.given) s.running.value cs s.globals s.end c.step_in_frame.new.running cs c.step_in_frame.new.globals e c.self.invariant t

pub invariant_of-self-in-Within : goal.invariant_of-self-in-Within
invariant_of-self-in-Within c = within c (ap (λ (x : State). x.ended) c.self.view_is ∙ c.requires.runs)

pub invariant_of-self : goal.invariant_of-self
invariant_of-self c =
    let s = c.self.inside in
    let q : c.args.code.now.module ≡ s.module.now = ap (λ (x : FunctionCode). x.module) c.requires.here ∙ sym (ap (λ (x : State). x.module) c.self.view_is) in
    let h = refuses_same s.module.now (call_step s.module.now (value_or_zero c.args.given) 0 s.running.value s.globals) s.running.value s.globals c.step_in_frame.new.running c.step_in_frame.new.globals c.in-Err-OutOfMemory.field-0 (rw (q, c.deref_mut.ensures.value) at (c.in-Err-OutOfMemory.ensures.stepped 0)) in
    rw (h.0, h.1) c.self.invariant

pub returns-in-Err-OutOfMemory-clause-err : goal.returns-in-Err-OutOfMemory-clause-err
returns-in-Err-OutOfMemory-clause-err c =
    let s = c.self.inside in
    let q : c.args.code.now.module ≡ s.module.now = ap (λ (x : FunctionCode). x.module) c.requires.here ∙ sym (ap (λ (x : State). x.module) c.self.view_is) in
    let h = refuses_same s.module.now (call_step s.module.now (value_or_zero c.args.given) 0 s.running.value s.globals) s.running.value s.globals c.step_in_frame.new.running c.step_in_frame.new.globals c.in-Err-OutOfMemory.field-0 (rw (q, c.deref_mut.ensures.value) at (c.in-Err-OutOfMemory.ensures.stepped 0)) in
    rw (h.0, h.1) c.self.view_is

pub invariant_of-self-in-Err : goal.invariant_of-self-in-Err
invariant_of-self-in-Err c =
    let h = rw (c.in-Left.is, c.deref_mut.ensures.value) at (c.in-Ok.ensures.stepped 0) in
    let n = c.in-Err.ensures.err in
    rw (n.0, h.1.0, h.1.1, n.1) c.self.invariant

pub returns-in-Err-clause-err : goal.returns-in-Err-clause-err
returns-in-Err-clause-err c =
    let h = rw (c.in-Left.is, c.deref_mut.ensures.value) at (c.in-Ok.ensures.stepped 0) in
    let n = c.in-Err.ensures.err in
    rw (n.0, h.1.0, h.1.1, n.1) c.self.view_is

pub invariant_of-self-in-Ok-Caller : goal.invariant_of-self-in-Ok-Caller
invariant_of-self-in-Ok-Caller c =
    let s = c.self.inside in
    let q : c.args.code.now.module ≡ s.module.now = ap (λ (x : FunctionCode). x.module) c.requires.here ∙ sym (ap (λ (x : State). x.module) c.self.view_is) in
    let cs = s.call_stack in
    let e : s.end ≡ None = ap (λ (x : State). x.ended) c.self.view_is ∙ c.requires.runs in
    let h = rw (c.in-Left.is, q, c.deref_mut.ensures.value) at (c.in-Ok.ensures.stepped (suc (length cs))) in
    let g = c.in-Ok-Caller.ensures.ok c.in-Ok-Caller.field-0-is in
    let ret = h.0 ∙ ap back (sym (rw (c.module.ensures, q, c.deref.ensures, h.1.0) at c.in-Some.ensures)) in
    let t = thread_back s.module.now (value_or_zero c.args.given) s.globals s.running.value c.in-Some.value cs c.leave.new.running.value c.leave.new.self g ret in
    rw h.1.1 (sound_after s.module.now (value_or_zero c.args.given) s.running.value cs s.globals s.end c.leave.new.running.value c.leave.new.self s.globals e c.self.invariant t)

pub invariant_of-self-in-Err-OutOfMemory-call : goal.invariant_of-self-in-Err-OutOfMemory-call
invariant_of-self-in-Err-OutOfMemory-call c =
    let s = c.self.inside in
    let q : c.args.code.now.module ≡ s.module.now = ap (λ (x : FunctionCode). x.module) c.requires.here ∙ sym (ap (λ (x : State). x.module) c.self.view_is) in
    let m = s.module.now in
    let k = c.in-Calling.callee in
    let b = c.step_in_frame.new.running in
    let h = rw (c.in-Calling.is, q, c.deref_mut.ensures.value) at (c.in-Ok.ensures.stepped 0) in
    let n = called_same m k (invoke (callable m k) (1 + length s.call_stack) k (vars_of b s.globals) b.control_stack.operands (continuation m b.func b.control_stack.block (b.control_stack.at + 1))) b s.globals c.call.new.running.value s.call_stack c.call.new.call_stack c.in-Err-OutOfMemory-call.field-0 (c.in-Err-OutOfMemory-call.ensures.calls s.globals) in
    rw (n.0, h.1.0, h.1.1, n.1) c.self.invariant

pub returns-in-Err-OutOfMemory-call-clause-err : goal.returns-in-Err-OutOfMemory-call-clause-err
returns-in-Err-OutOfMemory-call-clause-err c =
    let s = c.self.inside in
    let q : c.args.code.now.module ≡ s.module.now = ap (λ (x : FunctionCode). x.module) c.requires.here ∙ sym (ap (λ (x : State). x.module) c.self.view_is) in
    let m = s.module.now in
    let k = c.in-Calling.callee in
    let b = c.step_in_frame.new.running in
    let h = rw (c.in-Calling.is, q, c.deref_mut.ensures.value) at (c.in-Ok.ensures.stepped 0) in
    let n = called_same m k (invoke (callable m k) (1 + length s.call_stack) k (vars_of b s.globals) b.control_stack.operands (continuation m b.func b.control_stack.block (b.control_stack.at + 1))) b s.globals c.call.new.running.value s.call_stack c.call.new.call_stack c.in-Err-OutOfMemory-call.field-0 (c.in-Err-OutOfMemory-call.ensures.calls s.globals) in
    rw (n.0, h.1.0, h.1.1, n.1) c.self.view_is

pub invariant_of-self-in-Ok-Entered : goal.invariant_of-self-in-Ok-Entered
invariant_of-self-in-Ok-Entered c =
    let s = c.self.inside in
    let q : c.args.code.now.module ≡ s.module.now = ap (λ (x : FunctionCode). x.module) c.requires.here ∙ sym (ap (λ (x : State). x.module) c.self.view_is) in
    let cs = s.call_stack in
    let e : s.end ≡ None = ap (λ (x : State). x.ended) c.self.view_is ∙ c.requires.runs in
    let d = 1 + length s.call_stack in
    let dq : d ≡ suc (length cs) = omega arith in
    let k = c.in-Calling.callee in
    let h = rw (c.in-Calling.is, q, c.deref_mut.ensures.value) at (c.in-Ok.ensures.stepped d) in
    let g = rw (c.in-Ok-Entered.field-0-is, h.1.0) at (c.in-Ok-Entered.ensures.calls s.globals) in
    let t = thread_called s.module.now (value_or_zero c.args.given) s.globals cs s.running.value d k dq (invoke (callable s.module.now k) d k (vars_of s.running.value s.globals) s.running.value.control_stack.operands (continuation s.module.now s.running.value.func s.running.value.control_stack.block (s.running.value.control_stack.at + 1))) c.call.new.running.value c.call.new.call_stack h.0 g in
    rw h.1.1 (sound_after s.module.now (value_or_zero c.args.given) s.running.value cs s.globals s.end c.call.new.running.value c.call.new.call_stack s.globals e c.self.invariant t)

pub returns-in-Within-clause-asks : goal.returns-in-Within-clause-asks
returns-in-Within-clause-asks c = λ read.
    let s = c.self.inside in
    let q : c.args.code.now.module ≡ s.module.now = ap (λ (x : FunctionCode). x.module) c.requires.here ∙ sym (ap (λ (x : State). x.module) c.self.view_is) in
    let cs = s.call_stack in
    let e : s.end ≡ None = ap (λ (x : State). x.ended) c.self.view_is ∙ c.requires.runs in
    let h = rw (c.in-Within.is, q, c.deref_mut.ensures.value) at (c.in-Ok.ensures.asks (suc (length cs)) read) in
    let t = waits_as s.module.now read s.globals cs s.running.value c.args.given false h in
    rw (← c.self.view_is, e) t

pub returns-in-Trapped-clause-asks : goal.returns-in-Trapped-clause-asks
returns-in-Trapped-clause-asks c = λ read.
    let s = c.self.inside in
    let q : c.args.code.now.module ≡ s.module.now = ap (λ (x : FunctionCode). x.module) c.requires.here ∙ sym (ap (λ (x : State). x.module) c.self.view_is) in
    let cs = s.call_stack in
    let e : s.end ≡ None = ap (λ (x : State). x.ended) c.self.view_is ∙ c.requires.runs in
    let h = rw (c.in-Trapped.is, q, c.deref_mut.ensures.value) at (c.in-Ok.ensures.asks (suc (length cs)) read) in
    let t = waits_as s.module.now read s.globals cs s.running.value c.args.given false h in
    rw (← c.self.view_is, e) t

pub returns-in-Ok-Caller-clause-asks : goal.returns-in-Ok-Caller-clause-asks
returns-in-Ok-Caller-clause-asks c = λ read.
    let s = c.self.inside in
    let q : c.args.code.now.module ≡ s.module.now = ap (λ (x : FunctionCode). x.module) c.requires.here ∙ sym (ap (λ (x : State). x.module) c.self.view_is) in
    let cs = s.call_stack in
    let e : s.end ≡ None = ap (λ (x : State). x.ended) c.self.view_is ∙ c.requires.runs in
    let h = rw (c.in-Left.is, q, c.deref_mut.ensures.value) at (c.in-Ok.ensures.asks (suc (length cs)) read) in
    let t = waits_as s.module.now read s.globals cs s.running.value c.args.given false h in
    rw (← c.self.view_is, e) t

pub returns-in-Ok-Outside-clause-asks : goal.returns-in-Ok-Outside-clause-asks
returns-in-Ok-Outside-clause-asks c = λ read.
    let s = c.self.inside in
    let q : c.args.code.now.module ≡ s.module.now = ap (λ (x : FunctionCode). x.module) c.requires.here ∙ sym (ap (λ (x : State). x.module) c.self.view_is) in
    let cs = s.call_stack in
    let e : s.end ≡ None = ap (λ (x : State). x.ended) c.self.view_is ∙ c.requires.runs in
    let h = rw (c.in-Left.is, q, c.deref_mut.ensures.value) at (c.in-Ok.ensures.asks (suc (length cs)) read) in
    let t = waits_as s.module.now read s.globals cs s.running.value c.args.given false h in
    rw (← c.self.view_is, e) t

pub returns-in-Ok-Entered-clause-asks : goal.returns-in-Ok-Entered-clause-asks
returns-in-Ok-Entered-clause-asks c = λ read.
    let s = c.self.inside in
    let q : c.args.code.now.module ≡ s.module.now = ap (λ (x : FunctionCode). x.module) c.requires.here ∙ sym (ap (λ (x : State). x.module) c.self.view_is) in
    let cs = s.call_stack in
    let e : s.end ≡ None = ap (λ (x : State). x.ended) c.self.view_is ∙ c.requires.runs in
    let h = rw (c.in-Calling.is, q, c.deref_mut.ensures.value) at (c.in-Ok.ensures.asks (suc (length cs)) read) in
    let t = waits_as s.module.now read s.globals cs s.running.value c.args.given false h in
    rw (← c.self.view_is, e) t

pub returns-in-Ok-TooDeep-clause-asks : goal.returns-in-Ok-TooDeep-clause-asks
returns-in-Ok-TooDeep-clause-asks c = λ read.
    let s = c.self.inside in
    let q : c.args.code.now.module ≡ s.module.now = ap (λ (x : FunctionCode). x.module) c.requires.here ∙ sym (ap (λ (x : State). x.module) c.self.view_is) in
    let cs = s.call_stack in
    let e : s.end ≡ None = ap (λ (x : State). x.ended) c.self.view_is ∙ c.requires.runs in
    let h = rw (c.in-Calling.is, q, c.deref_mut.ensures.value) at (c.in-Ok.ensures.asks (suc (length cs)) read) in
    let t = waits_as s.module.now read s.globals cs s.running.value c.args.given false h in
    rw (← c.self.view_is, e) t

pub returns-in-Asking-clause-asks : goal.returns-in-Asking-clause-asks
returns-in-Asking-clause-asks c = λ read.
    let s = c.self.inside in
    let q : c.args.code.now.module ≡ s.module.now = ap (λ (x : FunctionCode). x.module) c.requires.here ∙ sym (ap (λ (x : State). x.module) c.self.view_is) in
    let cs = s.call_stack in
    let e : s.end ≡ None = ap (λ (x : State). x.ended) c.self.view_is ∙ c.requires.runs in
    let h = rw (c.in-Asking.is, q, c.deref_mut.ensures.value) at (c.in-Ok.ensures.asks (suc (length cs)) read) in
    let t = waits_as s.module.now read s.globals cs s.running.value c.args.given true h in
    rw (← c.self.view_is, e) t

pub invariant_of-self-in-Asking : goal.invariant_of-self-in-Asking
invariant_of-self-in-Asking c =
    let h = rw (c.in-Asking.is, c.deref_mut.ensures.value) at (c.in-Ok.ensures.stepped 0) in
    rw (h.0, h.1) c.self.invariant

pub returns-in-Asking-clause-kept : goal.returns-in-Asking-clause-kept
returns-in-Asking-clause-kept c = λ _.
    let h = rw (c.in-Asking.is, c.deref_mut.ensures.value) at (c.in-Ok.ensures.stepped 0) in
    rw (h.0, h.1) c.self.view_is

abbrev code_of : Module → ℕ → FunctionCode
code_of m func = record { «module» = m; func = func }

pub returns-in-Within-clause-runs_on : goal.returns-in-Within-clause-runs_on
returns-in-Within-clause-runs_on c = λ _.
    let s = c.self.inside in
    let e : s.end ≡ None = ap (λ (x : State). x.ended) c.self.view_is ∙ c.requires.runs in
    let h = rw (c.in-Within.is, c.deref_mut.ensures.value) at (c.in-Ok.ensures.stepped 0) in
    let here = c.requires.here ∙ ap (λ (x : State). code_of x.module x.running.func) (sym c.self.view_is) in
    (e, here ∙ ap (code_of s.module.now) (sym h.1))

pub unreachable-requires-in_default : goal.unreachable-requires-in_default
unreachable-requires-in_default c =
    let s = c.self.inside in
    let q : c.args.code.now.module ≡ s.module.now = ap (λ (x : FunctionCode). x.module) c.requires.here ∙ sym (ap (λ (x : State). x.module) c.self.view_is) in
    let cs = s.call_stack in
    let e : s.end ≡ None = ap (λ (x : State). x.ended) c.self.view_is ∙ c.requires.runs in
    let h = rw (c.in-Left.is, q, c.deref_mut.ensures.value) at (c.in-Ok.ensures.stepped (suc (length cs))) in
    let stuck = h.0 ∙ ap back (sym (rw (c.module.ensures, q, c.deref.ensures, h.1.0) at c.in_default.ensures)) in
    has_step s.module.now (value_or_zero c.args.given) s.running.value cs s.globals s.end e c.self.invariant (thread_stuck s.module.now (value_or_zero c.args.given) s.globals cs s.running.value c.step_in_frame.new.running c.step_in_frame.new.globals (stuck, h.1))

pub returns-in-Trapped-clause-moves : goal.returns-in-Trapped-clause-moves
returns-in-Trapped-clause-moves c _ = ends (Trap c.in-Trapped.kind) refl

pub returns-in-Ok-Outside-clause-moves : goal.returns-in-Ok-Outside-clause-moves
returns-in-Ok-Outside-clause-moves c _ = ends (Done c.bits.result) refl

pub returns-in-Ok-TooDeep-clause-moves : goal.returns-in-Ok-TooDeep-clause-moves
returns-in-Ok-TooDeep-clause-moves c _ = ends (Trap Exhausted) refl

pub returns-in-Ok-Caller-clause-moves : goal.returns-in-Ok-Caller-clause-moves
returns-in-Ok-Caller-clause-moves c _ =
    returned_to _ c.in-Some.value c.self.inside.call_stack c.args.self.now _ (sym (ap (λ (x : State). x.call_stack) c.self.view_is)) (c.in-Ok-Caller.ensures.ok c.in-Ok-Caller.field-0-is)

pub returns-in-Ok-Entered-clause-moves : goal.returns-in-Ok-Entered-clause-moves
returns-in-Ok-Entered-clause-moves c _ =
    let s = c.self.inside in
    let q : c.args.code.now.module ≡ s.module.now = ap (λ (x : FunctionCode). x.module) c.requires.here ∙ sym (ap (λ (x : State). x.module) c.self.view_is) in
    let h = rw (c.in-Calling.is, q, c.deref_mut.ensures.value) at (c.in-Ok.ensures.stepped 0) in
    let g = rw (c.in-Ok-Entered.field-0-is, h.1.0) at (c.in-Ok-Entered.ensures.calls s.globals) in
    rw (← c.self.view_is) (calls (c.in-Ok-Entered.ensures.at_start (ap Ok c.in-Ok-Entered.field-0-is)) (ap (map call_places) g.0))
