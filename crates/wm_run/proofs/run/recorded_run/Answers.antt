use Rattle.std.proofs.Common.{refl}
use Rattle.wm_event.specs.LoggedRun.{LoggedRun}
use Rattle.wm_event.proofs.FittingLemmas.{fits_log}
use Rattle.wm_recorder.specs.Recorder.{initial_of}
use Rattle.wm_run.proofs.run.recorded_run.Goals as goal

pub new-requires : goal.new-requires
new-requires c = c.in_ok-parts.ensures.valid.log c.args.logs c.requires

pub new-requires-2 : goal.new-requires-2
new-requires-2 c =
    let parts = c.in_ok-parts.parts in
    let run : LoggedRun = record { log = c.args.logs; witness = record { writers = parts.writers; order = parts.order }; initial = initial_of c.args.recorder } in
    rw c.new.ensures
    (fits_log run (c.in_ok-parts.ensures.valid.shape run (record { events = c.requires; writers = c.in_ok-parts.ensures.parts.writers; order = c.in_ok-parts.ensures.parts.order; memory = refl })))
