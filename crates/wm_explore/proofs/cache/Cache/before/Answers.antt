use Rattle.std.proofs.Common.{◌≡◌, ◌-◌, length, take, refl, sym, ap, subst, ◌∙◌, arith}
use Rattle.wm_event.specs.Limits.{max_steps}
use Rattle.wm_event.specs.declared.log.ThreadLog.{ThreadLog}
use Rattle.wm_explore.specs.declared.cache.Entry.{Entry}
use Rattle.wm_replay.specs.declared.by_log.Followed.{Followed}
use Rattle.wm_replay.specs.Positions.{HasFollowed}
use Rattle.wm_explore.proofs.Recalling.{entry_right, front_of, on_from}
use Rattle.wm_explore.proofs.cache.Cache.before.Goals as goal

pub returns-in_ok-copy-in-Some : goal.returns-in_ok-copy-in-Some
returns-in_ok-copy-in-Some c m recalls =
    let k = c.args.number in
    let t = c.args.stated.now in
    let entry = c.in-Some.entry.now in
    let events = c.as_slice-events.result.now in
    let first : ThreadLog = record { start = t.start; end = t.end; steps = t.steps; events = take (length events - 1) events } in
    let is = entry_right m k first c.args.self.now entry recalls c.in-Some.ensures in
    let front = subst (λ es. first.events ≡ take (length first.events) es) c.as_slice-events.ensures (front_of events first.events (length events - 1) (omega arith) refl) in
    let copied = c.in_ok-copy-in-Some.ensures ∙ ap (λ (e : Entry). e.followed) c.deref.ensures in
    subst (λ (f : Followed). HasFollowed m k t max_steps f) (sym copied) (on_from m k t first.events entry.value.followed front is.run)
