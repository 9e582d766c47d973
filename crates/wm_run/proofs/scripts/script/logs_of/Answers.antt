use Rattle.std.proofs.Common.{◌≡◌, ◌<◌, Some, length, refl, rules, slice_get, subst, arith}
use Rattle.std.proofs.lemmas.Option.{slice_get_read}
use Rattle.wm_event.specs.declared.log.Start.{Start}
use Rattle.wm_event.specs.declared.log.ThreadLog.{ThreadLog}
use Rattle.wm_logfile.specs.Document.{EndFits}
use Rattle.wm_machine.specs.Run.{end_of}
use Rattle.wm_machine.specs.State.{config_of}
use Rattle.wm_run.specs.declared.runner.Runner.{Runner}
use Rattle.wm_run.specs.Finish.{log_of}
use Rattle.wm_run.proofs.Logging.{all_logs, logs_more, one_more_end}
use Rattle.wm_run.proofs.scripts.script.logs_of.Goals as goal

pub loop-number-preserved : goal.loop-number-preserved
loop-number-preserved c =
    let starts = c.args.starts.now in
    let runners = c.args.runners.now in
    let n = c.loop-number.number in
    let start : Start = c.index-starts-number.result in
    let runner : Runner = c.index-runners-number.result in
    let at : slice_get starts n ≡ Some start = slice_get_read starts (length starts) n start refl c.loop-number-test.true c.index-starts-number.is in
    let there : n < length runners = omega (arith, c.requires.runners, c.loop-number-test.true) in
    let at' : slice_get runners n ≡ Some runner = slice_get_read runners (length runners) n runner refl there c.index-runners-number.is in
    let log : ThreadLog = record { start = c.in_ok-start.start; end = c.end_of.result; steps = runner.made; events = c.from_vec.result } in
    let copied : c.in_ok-events.events.items ≡ c.events.result.now = search rules in
    let is : log ≡ log_of c.args.recorder.now n start runner = cc (copied, c.events.ensures.value, c.from_vec.ensures, c.end_of.ensures.end, c.in_ok-start.ensures) in
    let fits : EndFits (end_of (config_of runner.thread)) = subst EndFits c.end_of.ensures.end c.end_of.ensures.fits in
    record {
      room = search rules;
      count = search rules;
      each = rw c.push_reserved.ensures.items (logs_more starts runners c.args.recorder.now c.loop-number.logs.items n start runner log c.loop-number.invariant.count at at' is c.loop-number.invariant.each);
      ends = one_more_end runners n runner at' fits c.loop-number.invariant.ends;
    }

pub returns : goal.returns
returns c =
    rw c.from_vec-2.ensures
    (all_logs c.args.starts.now c.args.runners.now c.args.recorder.now c.loop-number.logs.items c.loop-number.number c.loop-number.invariant.count c.loop-number-test.false c.loop-number.auto.number-end c.requires.runners c.loop-number.invariant.each c.loop-number.invariant.ends)
