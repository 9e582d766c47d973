use Rattle.std.proofs.Common.{◌≡◌, inl, inr, Err, Ok, Some, length, refl, rules, slice_get}
use Rattle.std.specs.Prelude.{◌≢◌}
use Rattle.std.proofs.lemmas.Option.{slice_get_read}
use Rattle.wm_event.specs.declared.log.Start.{Start}
use Rattle.wm_machine.specs.declared.fault.StartFault.TheVariants.{OutOfMemory}
use Rattle.wm_machine.specs.Start.{started}
use Rattle.wm_machine.specs.State.{config_of}
use Rattle.wm_run.specs.declared.runner.Runner.{Runner}
use Rattle.wm_run.specs.Launch.{IsLaunched}
use Rattle.wm_run.proofs.Launching.{all_launched, first_refused, launched_more}
use Rattle.wm_run.proofs.launch.launch.Goals as goal

pub returns-in-Err : goal.returns-in-Err
returns-in-Err c =
    let m = c.args.module.now in
    let starts = c.args.starts.now in
    let n = c.loop-number.number in
    let start : Start = c.index-starts-number.result in
    let at : slice_get starts n ≡ Some start = slice_get_read starts (length starts) n start refl c.loop-number-test.true c.index-starts-number.is in
    let other : c.in-Err.fault ≢ OutOfMemory = search rules in
    let refused : started m c.as_str.result.now c.as_slice.result.now ≡ Err c.in-Err.fault = elim c.in-Err.ensures.fault [ inl e ↦ absurd (other e) | inr e ↦ e ] in
    let refused' : started m start.name start.args ≡ Err c.in-Err.fault = cc in
    record { launched = tt; refused = first_refused m starts c.loop-number.runners.items n start c.in-Err.fault c.loop-number.invariant.count c.loop-number.invariant.each at refused' }

pub loop-number-preserved : goal.loop-number-preserved
loop-number-preserved c =
    let m = c.args.module.now in
    let starts = c.args.starts.now in
    let n = c.loop-number.number in
    let start : Start = c.index-starts-number.result in
    let at : slice_get starts n ≡ Some start = slice_get_read starts (length starts) n start refl c.loop-number-test.true c.index-starts-number.is in
    let new : Runner = record { thread = c.in-Ok.thread; made = 0 } in
    let begins : started m start.name start.args ≡ Ok (config_of c.in-Ok.thread) = let ok = c.in-Ok.ensures.ok.0 in cc in
    let is : IsLaunched m start new = record { program = c.in-Ok.ensures.ok.1; begins = record { config = begins; made = refl }; at_start = c.in-Ok.ensures.at_start } in
    record {
      room = search rules;
      count = search rules;
      each = rw c.push_reserved.ensures.items (launched_more m starts c.loop-number.runners.items n start new c.loop-number.invariant.count at c.loop-number.invariant.each is);
    }

pub returns-clause-launched : goal.returns-clause-launched
returns-clause-launched c =
    all_launched c.args.module.now c.args.starts.now c.loop-number.runners.items c.loop-number.number c.loop-number.invariant.count c.loop-number-test.false c.loop-number.auto.number-end c.loop-number.invariant.each
