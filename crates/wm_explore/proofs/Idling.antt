-- Where a thread is after events of its log.
use Rattle.std.proofs.Common.{◌≡◌, ℕ, suc, zero, ◌≤◌, List, [], ◌∷◌, length, take, drop, take_all, Some, refl, sym, ap, subst, ◌∙◌, arith}
use Rattle.wm_ast.specs.declared.module.Module.{Module}
use Rattle.wm_event.specs.declared.log.Start.{Start}
use Rattle.wm_event.specs.declared.log.ThreadLog.{ThreadLog}
use Rattle.wm_machine.specs.Run.{steps}
use Rattle.wm_machine.specs.Term.{Config}
use Rattle.wm_replay.specs.Following.{RunsByLog}
use Rattle.wm_replay.specs.Replay.{reads_of, start_of}
use Rattle.wm_explore.specs.Idle.{IsAfter}

nothing_left : {X : Type 0} (n : ℕ) (xs : List X) → length xs ≤ n → drop n xs ≡ []
nothing_left zero [] le = refl
nothing_left (suc n) [] le = refl
nothing_left zero (x ∷ xs) le = absurd (omega (arith, le))
nothing_left (suc n) (x ∷ xs) le = nothing_left n xs (omega (arith, le))

-- a thread that has run by its log has made all its events
pub after_all : (m : Module) (k : ℕ) (t : ThreadLog) (limit : ℕ) (config : Config) (j n : ℕ) → RunsByLog m k t limit config j n → length t.events ≤ n → IsAfter m k t config j
after_all m k t limit config j n f le =
    let made : take n t.events ≡ t.events = take_all n t.events le in
    record {
      start = f.start;
      is_start = f.is_start;
      ran =
          f.ran_so
          ∙ ap (λ es. Some (record { events = es; config = config; reads = reads_of (drop n t.events) })) made
          ∙ ap (λ es. Some (record { events = t.events; config = config; reads = reads_of es })) (nothing_left n t.events le);
    }

-- a thread with the same start and events is there too
pub after_same : (m : Module) (k : ℕ) (t b : ThreadLog) (config : Config) (count : ℕ) → b.start ≡ t.start → b.events ≡ t.events → IsAfter m k b config count → IsAfter m k t config count
after_same m k t b config count same_start same at = record {
  start = at.start;
  is_start = ap (λ (s : Start). start_of m record { start = s; end = b.end; steps = b.steps; events = b.events }) (sym same_start) ∙ at.is_start;
  ran = subst (λ es. steps m k at.start (reads_of es) count ≡ Some (record { events = es; config = config; reads = [] })) same at.ran;
}
