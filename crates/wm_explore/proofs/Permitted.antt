-- The rules permit what a state has, if an execution goes on from it.
use Rattle.std.proofs.Common.{◌≡◌, ℕ, suc, ◌+◌, ◌<◌, List, [], ◌∷◌, length, take, Some, IsSome, IsTrue, refl, sym, ap, subst, ◌∙◌, arith}
use Rattle.std.specs.Prelude.{slice_get}
use Rattle.std.proofs.lemmas.Bool.{ltb-true}
use Rattle.wm_ast.specs.declared.module.Module.{Module}
use Rattle.wm_event.specs.declared.event.Event.{Event}
use Rattle.wm_event.specs.declared.log.Start.{Start}
use Rattle.wm_event.specs.declared.log.ThreadLog.{ThreadLog}
use Rattle.wm_event.specs.declared.witness.Witness.{Witness}
use Rattle.wm_event.specs.Execution.{ReadsFrom}
use Rattle.wm_event.specs.Log.{event_in}
use Rattle.wm_event.specs.LoggedRun.{LoggedRun, execution}
use Rattle.wm_event.specs.declared.event.EventId.TheVariants.{At}
use Rattle.wm_event.specs.declared.event.EventKey.{EventKey}
use Rattle.wm_part.specs.Cut.{cut, cut_threads, is_kept}
use Rattle.wm_part.proofs.CutLaw.{cut-is-valid, writers-kept}
use Rattle.wm_explore.specs.Executions.{IsExecutionOf}
use Rattle.wm_explore.specs.Judging.{IsAllowedWith, LooksBack, run_with}
use Rattle.wm_explore.specs.States.{GoesOn, IsState, count_in}
use Rattle.wm_explore.specs.declared.state.State.{State}
use Rattle.wm_explore.proofs.Alike.{allowed_too, events_of}
use Rattle.wm_explore.proofs.Beginnings.{count_at, same_event, there_kept}

-- threads that are cut have the events of those that they begin with
cut_alike : (n : ℕ → ℕ) (o : ℕ) (xs ss : List ThreadLog) → length ss ≡ length xs
    → ((j k : ℕ) (t u : ThreadLog) → j ≡ o + k → slice_get ss k ≡ Some t → slice_get xs k ≡ Some u → t.events ≡ take (n j) u.events) → events_of (cut_threads n o xs) ≡ events_of ss
cut_alike n o [] [] count each = refl
cut_alike n o [] (t ∷ ss) count each = absurd (omega (arith, count))
cut_alike n o (u ∷ xs) [] count each = absurd (omega (arith, count))
cut_alike n o (u ∷ xs) (t ∷ ss) count each =
    ap (λ (es : List Event). es ∷ events_of (cut_threads n (suc o) xs)) (sym (each o 0 t u (omega arith) refl refl))
    ∙ ap (λ (ess : List (List Event)). t.events ∷ ess) (cut_alike n (suc o) xs ss (omega (arith, count)) (λ j k v w e. each j (suc k) v w (omega (arith, e))))

-- some witness that looks back makes the state's events valid
pub permitted : (m : Module) (starts : List Start) (x : LoggedRun) (s : State) → IsExecutionOf m starts x → IsState starts s → GoesOn x s
    → (w : Witness) × IsAllowedWith s.log x.initial w × LooksBack (execution (run_with s.log x.initial w)) s.arrived
permitted m starts x s is fine on =
    let n = count_in s.log in
    let valid = cut-is-valid x n is.shaped on.writers is.valid in
    let alike : events_of (cut x n).log ≡ events_of s.log =
    cut_alike n 0 x.log s.log on.beginning.count (λ j k t u e at_t at_u.
    let number : k ≡ j = omega (arith, e) in
    on.beginning.events k t u at_t at_u ∙ ap (λ c. take c u.events) (sym (count_at s.log k t at_t) ∙ ap n number)) in
    ((cut x n).witness, allowed_too (cut x n).log s.log alike x.initial (cut x n).witness valid, looks_back)
  where
    there_too : (r : EventKey) → IsTrue (is_kept (count_in s.log) r) → IsSome (event_in s.log r) → IsSome (event_in x.log r)
    there_too r kept there = subst (λ o. IsSome o) (same_event s.log x.log on.beginning r kept) there

    looks_back : LooksBack (execution (run_with s.log x.initial (cut x (count_in s.log)).witness)) s.arrived
    looks_back r w k i j there from at_r at_w =
        let kept : IsTrue (is_kept (count_in s.log) r) = there_kept s.log r there in
        let lt : r.number < count_in s.log r.thread = ltb-true r.number (count_in s.log r.thread) kept in
        let whole : ReadsFrom (execution x) r k (At w) = ap (λ ws. slice_get ws k) (sym (writers-kept x (count_in s.log) r lt)) ∙ from in
        on.back r w k i j (there_too r kept there) whole at_r at_w
