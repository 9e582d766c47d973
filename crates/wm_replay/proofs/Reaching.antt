-- The states that a thread reaches by its log.
use Rattle.std.proofs.Common.{◌≡◌, ℕ, suc, ◌+◌, Some, refl, ap, subst, ◌∙◌, arith}
use Rattle.std.specs.Prelude.{Ok}
use Rattle.wm_ast.specs.declared.module.Module.{Module}
use Rattle.wm_event.specs.declared.log.ThreadLog.{ThreadLog}
use Rattle.wm_machine.specs.Local.{after_local}
use Rattle.wm_machine.specs.Paths.{LocalPath, Moves, here, on}
use Rattle.wm_machine.specs.Run.{and_run_on, steps}
use Rattle.wm_machine.specs.State.{State, config_of}
use Rattle.wm_machine.specs.Step.{step}
use Rattle.wm_machine.specs.Term.{Config}
use Rattle.wm_replay.specs.Positions.{IsAfter, IsReached, goes_on}
use Rattle.wm_replay.specs.Replay.{reads_of, start_of}
use Rattle.wm_replay.proofs.Following.{after_is, local_step, so_far}

module _ (m : Module) (k : ℕ) (t : ThreadLog) (start : Config) (is_start : start_of m t ≡ Ok start) where
  -- the configuration after steps that have made the log's events below n
  pub after_steps : (count n : ℕ) (config : Config) → steps m k start (reads_of t.events) count ≡ Some (so_far config t.events n) → IsAfter m k t count config
  after_steps count n config so = record { start = start; is_start = is_start; ran = so_far config t.events n; ran_so = so; is_config = refl }

  -- a state that is reached by steps without an access, and its configuration
  by_path : (n j : ℕ) (from s : State) (count : ℕ) → from.module ≡ m → steps m k start (reads_of t.events) j ≡ Some (so_far (config_of from) t.events n) → IsReached m k t j from → LocalPath from count s
      → IsReached m k t (j + count) s × (steps m k start (reads_of t.events) (j + count) ≡ Some (so_far (config_of s) t.events n))
  by_path n j from s _ same so reached here =
      let none : j ≡ j + 0 = omega arith in
      (subst (λ (i : ℕ). IsReached m k t i from) none reached, subst (λ (i : ℕ). steps m k start (reads_of t.events) i ≡ Some (so_far (config_of from) t.events n)) none so)
  by_path n j from u _ same so reached (on {count = count} {s = s} path local moves) =
      let before = by_path n j from s count same so reached path in
      let stepped = after_is (step m 0 (config_of s)) (config_of u) (subst (λ (x : Module). after_local (step x 0 (config_of s)) ≡ Some (config_of u)) same local) in
      let next : j + count + 1 ≡ suc (j + count) = omega arith in
      let sum : j + count + 1 ≡ j + (count + 1) = omega arith in
      let ran : steps m k start (reads_of t.events) (j + count + 1) ≡ Some (so_far (config_of u) t.events n) =
      ap (steps m k start (reads_of t.events)) next ∙ ap (and_run_on m k) before.1 ∙ local_step m k (so_far (config_of s) t.events n) (config_of u) stepped in
      let further = goes_on before.0 (after_steps (j + count + 1) n (config_of u) ran) (subst (λ (x : Module). Moves x s u) same moves) in
      (subst (λ (i : ℕ). IsReached m k t i u) sum further, subst (λ (i : ℕ). steps m k start (reads_of t.events) i ≡ Some (so_far (config_of u) t.events n)) sum ran)

  pub reached_locally : (n j : ℕ) (from s : State) (count : ℕ) → from.module ≡ m → steps m k start (reads_of t.events) j ≡ Some (so_far (config_of from) t.events n) → IsReached m k t j from → LocalPath from count s
      → IsReached m k t (j + count) s
  reached_locally n j from s count same so reached path = (by_path n j from s count same so reached path).0
