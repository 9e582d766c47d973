-- The positions of a log's events, thread by thread.
use Rattle.std.proofs.Common.{◌≡◌, ℕ, ◌+◌, ◌≤◌, List, [], ◌∷◌, ◌++◌, length, Some, sym, ap, subst, ◌∙◌, length-append, arith}
use Rattle.std.specs.Prelude.{slice_get}
use Rattle.std.proofs.lemmas.Option.{same_Some}
use Rattle.wm_ast.specs.declared.module.Module.{Module}
use Rattle.wm_event.specs.declared.log.ThreadLog.{ThreadLog}
use Rattle.wm_event.proofs.WritesLemmas.{each_more}
use Rattle.wm_machine.specs.declared.thread.CodePosition.{CodePosition}
use Rattle.wm_replay.specs.declared.answer.ReplayAnswer.{ReplayAnswer}
use Rattle.wm_replay.specs.declared.answer.ReplayAnswer.TheVariants.{Same, StartRefused, Differs}
use Rattle.wm_replay.specs.Comparison.{IsOther}
use Rattle.wm_replay.specs.Positions.{ArePositionsOf, ArePositionsIn, HasLogPositions}

pub one_more : {X : Type 0} (n : ℕ) (xs new : List X) (x : X) → length xs ≡ n → new ≡ xs ++ x ∷ [] → length new ≡ n + 1
one_more n xs new x count is = ap length is ∙ length-append xs (x ∷ []) ∙ ap (λ (k : ℕ). k + 1) count

pub positions_more : (m : Module) (log : List ThreadLog) (table new : List (List CodePosition)) (n : ℕ) (t : ThreadLog) (positions : List CodePosition) → length table ≡ n → ArePositionsIn m log table
    → slice_get log n ≡ Some t → ArePositionsOf m n t positions → new ≡ table ++ positions ∷ [] → (length new ≡ n + 1) × ArePositionsIn m log new
positions_more m log table new n t positions count each is one more = (
  one_more n table new positions count more,
  subst (ArePositionsIn m log) (sym more)
      (each_more (λ k found. (u : ThreadLog) → slice_get log k ≡ Some u → ArePositionsOf m k u found) table positions each
      (λ u at.
      let at_n : slice_get log n ≡ Some u = ap (slice_get log) (sym count) ∙ at in
      subst (λ k. ArePositionsOf m k u positions) (sym count) (subst (λ v. ArePositionsOf m n v positions) (same_Some t u (sym is ∙ at_n)) one))),
)

pub all_counted : {X : Type 0} (log items : List ThreadLog) (table : List X) (n : ℕ) → items ≡ log → length items ≤ n → n ≤ length items → length table ≡ n → length table ≡ length log
all_counted log items table n is past within count = let same : length items ≡ length log = ap length is in omega (arith, same)

-- a thread that isn't its run leaves nothing to state of the others
pub other_has_positions : (m : Module) (log : List ThreadLog) (k : ℕ) (t : ThreadLog) (answer : ReplayAnswer) (table : List (List CodePosition)) → IsOther m k t answer → HasLogPositions m log answer table
other_has_positions m log k t Same table other = absurd other
other_has_positions m log k t (StartRefused i fault) table other = tt
other_has_positions m log k t (Differs i place) table other = tt
