use Rattle.std.proofs.lemmas.Result.{IfOk-weaker}
use Rattle.wm_replay.proofs.Comparisons.{replayed_at_once}
use Rattle.wm_replay.proofs.parallel.replay_threads.Goals as goal

pub returns : goal.returns
returns g c =
    replayed_at_once c.args.module.now c.args.log.now c.threads-threads.result.now c.map_indices.result c.threads-threads.ensures.value c.map_indices.ensures.len
    (IfOk-weaker c.map_indices.result _ _ (λ answers each i d within. (each i d within).1.met) c.map_indices.ensures.each)
