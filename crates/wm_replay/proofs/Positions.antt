-- The positions of the events that a thread makes.
use Rattle.std.proofs.Common.{◌≡◌, ℕ, ◌+◌, List, [], ◌∷◌, ◌++◌, Some, refl, sym, ap, subst, ◌∙◌, length-append}
use Rattle.std.specs.Prelude.{Ok}
use Rattle.std.proofs.lemmas.Option.{none-some}
use Rattle.wm_ast.specs.declared.module.Module.{Module}
use Rattle.wm_event.specs.declared.log.ThreadLog.{ThreadLog}
use Rattle.wm_event.proofs.WritesLemmas.{each_more}
use Rattle.wm_machine.specs.declared.thread.CodePosition.{CodePosition}
use Rattle.wm_machine.specs.Run.{steps}
use Rattle.wm_machine.specs.State.{State, config_of, position_of}
use Rattle.wm_machine.specs.Term.{Config}
use Rattle.wm_replay.specs.Following.{Accesses}
use Rattle.wm_replay.specs.Positions.{ArePositions, IsMadeAt, IsReached}
use Rattle.wm_replay.specs.Replay.{reads_of, start_of}
use Rattle.wm_replay.proofs.Following.{so_far}

pub no_positions : (m : Module) (k : ℕ) (t : ThreadLog) → ArePositions m k t 0 []
no_positions m k t = record { count = refl; each = λ i p is. absurd (none-some p is) }

module _ (m : Module) (k : ℕ) (t : ThreadLog) (start : Config) (is_start : start_of m t ≡ Ok start) where
  -- the positions after one event more
  pub positions_on : (s : State) (new : Config) (j n : ℕ) (old ps : List CodePosition)
      → steps m k start (reads_of t.events) j ≡ Some (so_far (config_of s) t.events n)
      → Accesses m (config_of s) new t.events n
      → ps ≡ old ++ position_of s ∷ []
      → s.module ≡ m
      → IsReached m k t j s
      → ArePositions m k t n old → ArePositions m k t (n + 1) ps
  positions_on s new j n old ps so made noted of_module reached are =
      subst (ArePositions m k t (n + 1)) (sym noted) record {
        count = length-append old (position_of s ∷ []) ∙ ap (λ i. i + 1) are.count;
        each = each_more (IsMadeAt m k t) old (position_of s) are.each
            (subst (λ i. IsMadeAt m k t i (position_of s)) (sym are.count) record {
              start = start;
              is_start = is_start;
              state = s;
              runs_module = of_module;
              count = j;
              reached = reached;
              ran_so = so;
              next = new;
              makes = made;
              is_position = refl;
            });
      }
