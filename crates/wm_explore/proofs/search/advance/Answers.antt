use Rattle.std.proofs.Common.{◌≡◌, length, refl, sym, ap, subst, ◌∙◌, append-nil, arith}
use Rattle.wm_explore.specs.Cache.{Recalls}
use Rattle.wm_explore.specs.Turns.{AreNexts}
use Rattle.wm_explore.specs.declared.search.Progress.{Progress}
use Rattle.wm_explore.proofs.Beside.{advances_dropped, advances_extended, advances_none, advances_same}
use Rattle.wm_explore.proofs.Exploring.{rest_progress, starts_length, taken_is_state, taken_noted}
use Rattle.wm_explore.proofs.Moving.{idle_turn}
use Rattle.wm_explore.proofs.search.advance.Goals as goal

pub loop-graphs-init : goal.loop-graphs-init
loop-graphs-init c = record {
  so_far = advances_none c.args.module.now c.args.starts.now c.args.limits.events c.args.progress.now c.requires.progress;
  recalls = c.in_ok-cache.ensures c.args.module.now c.args.starts.now;
}

pub extend-requires : goal.extend-requires
extend-requires c =
    let p = c.loop-graphs.progress in
    let s = c.in-Some.state in
    let rest : Progress = record { work = c.pop.new.self; finished = p.finished; met = p.met } in
    let before = c.loop-graphs.invariant.so_far.progress in
    let fine = taken_is_state c.args.module.now c.args.starts.now c.args.limits.events p before s rest c.in-Some.ensures.items refl refl in record {
      few =
          let count : length s.log ≡ length c.args.starts.now = sym (starts_length s.log) ∙ ap length fine.started in
          let few = c.requires.few in
          omega (arith, count, few);
      noted = taken_noted c.args.module.now c.args.starts.now c.args.limits.events p before s rest c.in-Some.ensures.items refl refl;
      nexts = subst (AreNexts c.args.module.now s.log) (sym c.as_slice.ensures) c.in_ok-nexts-in-Some.ensures;
    }

pub nexts-requires-clause-known : goal.nexts-requires-clause-known
nexts-requires-clause-known c =
    let p = c.loop-graphs.progress in
    (taken_noted c.args.module.now c.args.starts.now c.args.limits.events p c.loop-graphs.invariant.so_far.progress c.in-Some.state
    (record { work = c.pop.new.self; finished = p.finished; met = p.met }) c.in-Some.ensures.items refl refl).nexts

pub last_moved-requires : goal.last_moved-requires
last_moved-requires c =
    let p = c.loop-graphs.progress in
    let fine = taken_is_state c.args.module.now c.args.starts.now c.args.limits.events p c.loop-graphs.invariant.so_far.progress c.in-Some.state
    (record { work = c.pop.new.self; finished = p.finished; met = p.met }) c.in-Some.ensures.items refl refl in
    record { recalls = subst (λ ss. Recalls c.args.module.now ss c.loop-graphs.cache) (sym fine.started) c.loop-graphs.invariant.recalls }

pub loop-graphs-preserved : goal.loop-graphs-preserved
loop-graphs-preserved c =
    let m = c.args.module.now in
    let starts = c.args.starts.now in
    let events = c.args.limits.events in
    let p = c.loop-graphs.progress in
    let q : Progress = record { work = c.pop.new.self; finished = p.finished; met = p.met } in
    let s = c.in-Some.state in
    let so_far = c.loop-graphs.invariant.so_far in
    let fine = taken_is_state m starts events p so_far.progress s q c.in-Some.ensures.items refl refl in
    let step = c.in_ok-extend-in-Some.ensures starts fine (rest_progress m starts events p so_far.progress s q c.in-Some.ensures.items refl refl) in
    record {
      so_far = advances_extended m starts events c.args.progress.now p so_far s q c.in-Some.ensures.items refl refl c.extend.new.progress step;
      recalls = subst (λ ss. Recalls m ss c.last_moved.new.cache) fine.started c.in_ok-moved-in-Some.ensures.recalls;
    }

pub loop-graphs-preserved-then-is_idle : goal.loop-graphs-preserved-then-is_idle
loop-graphs-preserved-then-is_idle c =
    let m = c.args.module.now in
    let starts = c.args.starts.now in
    let events = c.args.limits.events in
    let p = c.loop-graphs.progress in
    let q : Progress = record { work = c.pop.new.self; finished = p.finished; met = p.met } in
    let s = c.in-Some.state in
    let so_far = c.loop-graphs.invariant.so_far in
    let fine = taken_is_state m starts events p so_far.progress s q c.in-Some.ensures.items refl refl in
    record {
      so_far = advances_dropped m starts events c.args.progress.now p so_far s q c.in-Some.ensures.items refl refl (idle_turn m s c.in_ok-moved-in-Some.moved c.in_ok-moved-in-Some.ensures.moved (c.is_idle.ensures c.if-is_idle.true));
      recalls = subst (λ ss. Recalls m ss c.last_moved.new.cache) fine.started c.in_ok-moved-in-Some.ensures.recalls;
    }

pub returns-in-None : goal.returns-in-None
returns-in-None c =
    advances_same c.args.module.now c.args.starts.now c.args.limits.events c.args.progress.now c.loop-graphs.progress c.loop-graphs.invariant.so_far
    (record { work = c.pop.new.self; finished = c.loop-graphs.progress.finished; met = c.loop-graphs.progress.met })
    (sym (append-nil c.pop.new.self.items) ∙ sym c.in-None.ensures.items) refl refl
