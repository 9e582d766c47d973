-- The replays of all threads, one after the other.
use Rattle.std.proofs.Common.{◌≡◌, ℕ, zero, suc, ◌<◌, ◌≤◌, ◌+◌, List, [], ◌∷◌, ◌++◌, Result, Ok, Err, Some, None, length, get_or, refl, sym, subst, ◌∙◌, arith}
use Rattle.std.specs.Prelude.{IfOk, Vec, slice_get, vec_len}
use Rattle.std.specs.declared.alloc.Global.{Global}
use Rattle.std.proofs.lemmas.Result.{IfOk-at_ok}
use Rattle.std.proofs.lemmas.Option.{same_Some, slice_get-get_or, slice_get_within}
use Rattle.wm_ast.specs.declared.module.Module.{Module}
use Rattle.wm_event.specs.declared.log.ThreadLog.{ThreadLog}
use Rattle.wm_machine.specs.declared.thread.CodePosition.{CodePosition}
use Rattle.wm_replay.specs.declared.answer.ReplayAnswer.{ReplayAnswer}
use Rattle.wm_replay.specs.declared.compare.ThreadReplay.{ThreadReplay}
use Rattle.wm_replay.specs.Comparison.{ComparesThread, ReplaysAt, ReplaysEach, ReplaysThread, Replays}
use Rattle.wm_replay.specs.Positions.{ArePositionsIn, HasLogPositions}
use Rattle.wm_replay.specs.Replay.{AreRuns}
use Rattle.wm_replay.proofs.Logs.{RunsBelow, first_other, runs_more}
use Rattle.wm_replay.proofs.LogPositions.{other_has_positions, positions_more}

pub item_there : {X : Type 0} (xs : List X) (k : ℕ) → k < length xs → (x : X) × (slice_get xs k ≡ Some x)
item_there [] k within = absurd (omega arith)
item_there (x ∷ xs) zero within = (x, refl)
item_there (x ∷ xs) (suc k) within = item_there xs k (omega arith)

module _ {E : Type 0} (m : Module) (log : List ThreadLog) (answers : List (Result ThreadReplay E)) (each : ReplaysEach m log answers) (k : ℕ) (replay : ThreadReplay) (at : slice_get answers k ≡ Some (Ok replay)) where
  thread : (t : ThreadLog) × (slice_get log k ≡ Some t)
  thread =
      let count = each.size in
      let within = slice_get_within answers k (Ok replay) at in
      item_there log k (omega (arith, within, count))

  replays : ReplaysThread m k thread.0 replay
  replays = each.each k replay at thread.0 thread.1

  pub differs : (other : ReplayAnswer) → replay.difference ≡ Some other → RunsBelow m log k → Replays m log other
  differs other some below =
      let there = subst (ComparesThread m k thread.0) some replays.compares in
      first_other m log k thread.0 other thread.1 below there.0 there.1

  pub positions_kept : (other : ReplayAnswer) (table : List (List CodePosition)) → replay.difference ≡ Some other → HasLogPositions m log other table
  positions_kept other table some =
      let there = subst (ComparesThread m k thread.0) some replays.compares in
      other_has_positions m log k thread.0 other table there.0

  pub runs : replay.difference ≡ None → RunsBelow m log k → RunsBelow m log (k + 1)
  runs none below = runs_more m log k thread.0 below thread.1 (subst (ComparesThread m k thread.0) none replays.compares)

  pub more : (table new : List (List CodePosition)) → length table ≡ k → ArePositionsIn m log table → new ≡ table ++ replay.positions ∷ [] → (length new ≡ k + 1) × ArePositionsIn m log new
  more table new count there is = positions_more m log table new k thread.0 replay.positions count there thread.1 replays.positions is

-- where all are runs
pub all_run : {E : Type 0} (m : Module) (log : List ThreadLog) (answers : List (Result ThreadReplay E)) (n : ℕ) → ReplaysEach m log answers → length answers ≤ n → RunsBelow m log n → AreRuns m log
all_run m log answers n each all below k t at =
    let lt = slice_get_within log k t at in
    let count = each.size in
    below k t (let before : k < n = omega (arith, lt, count, all) in before) at

from_both : {X E : Type 0} (r : Result X E) (A B C : X → Type 0) → ((x : X) → A x → B x → C x) → IfOk r A → IfOk r B → IfOk r C
from_both (Ok x) A B C both a b = both x a b
from_both (Err e) A B C both a b = tt

-- each thread's replay, from what each call ensures
each_replayed : {E : Type 0} (m : Module) (log threads : List ThreadLog) (answers : List (Result ThreadReplay E)) → threads ≡ log → length answers ≡ length threads
    → ((i : ℕ) (d : Result ThreadReplay E) → i < length threads → IfOk (get_or answers i d) (ReplaysAt m threads i)) → ReplaysEach m log answers
each_replayed m log threads answers is size each = subst (λ (l : List ThreadLog). ReplaysEach m l answers) is record {
  size = size;
  each = λ k replay at.
      let within = slice_get_within answers k (Ok replay) at in
      let same : get_or answers k (Ok replay) ≡ Ok replay = same_Some _ _ (sym (slice_get-get_or answers k (Ok replay) within) ∙ at) in
      IfOk-at_ok (ReplaysAt m threads k) same (each k (Ok replay) (omega (arith, within, size)));
}

pub replayed_at_once : {E F : Type 0} (m : Module) (log threads : List ThreadLog) (r : Result (Vec (Result ThreadReplay E) Global) F) → threads ≡ log → IfOk r (λ v. vec_len v ≡ length threads)
    → IfOk r (λ v. (i : ℕ) (d : Result ThreadReplay E) → i < length threads → IfOk (get_or v.items i d) (ReplaysAt m threads i)) → IfOk r (λ v. ReplaysEach m log v.items)
replayed_at_once m log threads r is len each = from_both r _ _ _ (λ v size found. each_replayed m log threads v.items is (sym v.ok.0 ∙ size) found) len each
