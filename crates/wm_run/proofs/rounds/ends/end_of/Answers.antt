use Rattle.std.proofs.Common.{length, refl}
use Rattle.std.proofs.lemmas.Option.{slice_get_read}
use Rattle.wm_run.proofs.rounds.ends.end_of.Goals as goal

pub returns-then-end-thread : goal.returns-then-end-thread
returns-then-end-thread c =
    let ends = c.args.ends.now in
    let at = slice_get_read ends (length ends) c.loop-end.end-index c.end-item.result refl c.loop-end-test.true c.end-item.is in
    ((c.loop-end.end-index, at), c.if-end-thread.true)
