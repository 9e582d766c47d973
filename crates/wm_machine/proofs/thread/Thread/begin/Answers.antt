use Rattle.std.proofs.Common.{rules, ◌≡◌, Ok, None}
use Rattle.wm_machine.specs.State.{State, config_of}
use Rattle.wm_machine.specs.Start.{started_in}
use Rattle.wm_machine.specs.Functions.{callable}
use Rattle.wm_machine.proofs.NeverStuck.{started_fits}
use Rattle.wm_machine.proofs.thread.Thread.begin.Goals as goal

pub invariant_of-result : goal.invariant_of-result
invariant_of-result c =
    let m = c.args.module.now in
    let s : State = record { «module» = m; ended = None; running = record { func = c.args.func; locals = c.in_ok-locals.locals; control_stack = c.new.result }; call_stack = c.new-2.result; globals = c.in_ok-globals.globals } in
    let e : started_in m c.args.func (callable m c.args.func) c.args.args.now ≡ Ok (config_of s) = search rules in
    rw c.in_ok-running.ensures (record { valid = c.requires; fits = started_fits m c.requires c.args.func c.args.args.now (config_of s) e })
