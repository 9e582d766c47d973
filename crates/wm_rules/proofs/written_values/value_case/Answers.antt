use Rattle.std.proofs.Common.{◌≡◌, ◌≢◌, ◌+◌, Some, rules, arith}
use Rattle.wm_event.specs.declared.event.EventId.TheVariants.{At}
use Rattle.wm_event.specs.Byte.{byte_of}
use Rattle.wm_event.specs.Execution.{byte_by}
use Rattle.wm_event.specs.Event.{key_of}
use Rattle.wm_event.specs.LoggedRun.{execution}
use Rattle.wm_hb.proofs.FaultLemmas.{third_case}
use Rattle.wm_rules.proofs.written_values.value_case.Goals as goal

pub returns-in-Some : goal.returns-in-Some
returns-in-Some c =
    let event = c.args.event.now in
    let other : c.args.writer ≢ At (key_of event) = search rules in
    let written : byte_by (execution c.args.candidate.now) c.args.writer (event.address + c.args.byte) ≡ Some c.in-Some.written = grind arith in
    let differs : c.in-Some.written ≢ byte_of event.read c.args.byte = λ e. c.if-written-byte_of.true (cc) in
    third_case (execution c.args.candidate.now) (key_of event) event c.args.byte c.args.writer c.in-Some.written other written differs
