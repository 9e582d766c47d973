use Rattle.std.proofs.Common.{◌≡◌, Some, refl, subst, sym, ◌∙◌}
use Rattle.std.specs.Prelude.{slice_get}
use Rattle.std.proofs.lemmas.Option.{same_Some}
use Rattle.std.proofs.lemmas.Result.{IfOk-weaker}
use Rattle.wm_event.specs.declared.log.ThreadLog.{ThreadLog}
use Rattle.wm_replay.specs.Comparison.{ReplaysAt, ReplaysThread}
use Rattle.wm_replay.proofs.Logs.{item_at, places_in}
use Rattle.wm_replay.proofs.parallel.fn.replay_threads.map_indices.Goals as goal

pub replay_thread-requires : goal.replay_thread-requires
replay_thread-requires g c =
    let log = c.captures.threads.now in
    let stated = c.index-threads-number.result in
    places_in log c.args.number stated c.requires.keys (item_at log log c.args.number stated refl c.requires.there c.index-threads-number.is)

pub returns : goal.returns
returns g c =
    let log = c.captures.threads.now in
    let stated = c.index-threads-number.result in
    let there : slice_get log c.args.number ≡ Some stated = item_at log log c.args.number stated refl c.requires.there c.index-threads-number.is in
    let m = c.captures.module.now in
    IfOk-weaker c.replay_thread.result (ReplaysThread m c.args.number stated) (ReplaysAt m log c.args.number)
    (λ replay replays t is. subst (λ (u : ThreadLog). ReplaysThread m c.args.number u replay) (same_Some stated t (sym there ∙ is)) replays) c.replay_thread.ensures
