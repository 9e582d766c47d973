-- The threads of a log, completed one after the other.
use Rattle.std.proofs.Common.{◌≡◌, ℕ, zero, suc, ◌<◌, ◌≤◌, inl, inr, List, [], ◌∷◌, ◌++◌, length, get_or, Some, refl, sym, ap, subst, ◌∙◌, arith}
use Rattle.std.specs.Prelude.{◌⊎◌, slice_get}
use Rattle.std.proofs.lemmas.Option.{none-some, same_Some, slice_get-get_or, slice_get_within}
use Rattle.wm_ast.specs.declared.module.Module.{Module}
use Rattle.wm_event.specs.declared.log.ThreadLog.{ThreadLog}
use Rattle.wm_event.specs.Log.{AreEvents, AreThreads, IsLog}
use Rattle.wm_replay.specs.declared.answer.ReplayAnswer.{ReplayAnswer}
use Rattle.wm_replay.specs.declared.answer.ReplayAnswer.TheVariants.{Same, StartRefused, Differs}
use Rattle.wm_replay.specs.Comparison.{IsOther}
use Rattle.wm_replay.specs.Complete.{IsCompletion, IsFirstWithoutRun, IsLongestRun, IsWithoutRun, MakesEvents, ending}
use Rattle.wm_replay.specs.Replay.{IsRun}

-- the item at a place of a list with one more
get_more : {X : Type 0} (xs : List X) (x y : X) (k : ℕ) → slice_get (xs ++ x ∷ []) k ≡ Some y → (slice_get xs k ≡ Some y) ⊎ ((k ≡ length xs) × (x ≡ y))
get_more [] x y zero e = inr (refl, same_Some x y e)
get_more [] x y (suc k) e = absurd (none-some y e)
get_more (z ∷ xs) x y zero e = inl e
get_more (z ∷ xs) x y (suc k) e = next (get_more xs x y k e)
  where
    next : (slice_get xs k ≡ Some y) ⊎ ((k ≡ length xs) × (x ≡ y)) → (slice_get xs k ≡ Some y) ⊎ ((suc k ≡ suc (length xs)) × (x ≡ y))
    next (inl is) = inl is
    next (inr is) = inr (ap suc is.0, is.1)

-- the threads that are completed so far
abbrev pub AreCompleted : Module → List ThreadLog → List ThreadLog → Type 0
AreCompleted m log completed = (k : ℕ) (t c : ThreadLog) → slice_get log k ≡ Some t → slice_get completed k ≡ Some c → IsLongestRun m k t c

pub completed_more : (m : Module) (log completed : List ThreadLog) (n : ℕ) (t c : ThreadLog) → length completed ≡ n → slice_get log n ≡ Some t
    → AreCompleted m log completed → IsLongestRun m n t c → AreCompleted m log (completed ++ c ∷ [])
completed_more m log completed n t c count is are longest k u d at there = either (get_more completed c d k there)
  where
    either : (slice_get completed k ≡ Some d) ⊎ ((k ≡ length completed) × (c ≡ d)) → IsLongestRun m k u d
    either (inl before) = are k u d at before
    either (inr last) =
        let here : k ≡ n = last.0 ∙ count in
        let thread : t ≡ u = same_Some t u (sym is ∙ ap (slice_get log) (sym here) ∙ at) in
        subst (IsLongestRun m k u) last.1 (subst (λ x. IsLongestRun m k x c) thread (subst (λ i. IsLongestRun m i t c) (sym here) longest))

-- a thread that is completed has steps that make its events
makes : (m : Module) (k : ℕ) (t c : ThreadLog) → IsLongestRun m k t c → (n : ℕ) × (n ≤ 1000000) × MakesEvents m k t n
makes m k t c l =
    let started : IsRun m k record { start = t.start; end = c.end; steps = c.steps; events = c.events } =
    subst (λ s. IsRun m k record { start = s; end = c.end; steps = c.steps; events = c.events }) l.start l.is_run in
    (c.steps, l.within, (c.end, subst (λ es. IsRun m k record { start = t.start; end = c.end; steps = c.steps; events = es }) l.events started))

-- so has each thread before the one that a loop is at
all_make : (m : Module) (log completed : List ThreadLog) (n : ℕ) → length completed ≡ n → AreCompleted m log completed
    → (i : ℕ) (t : ThreadLog) → i < n → slice_get log i ≡ Some t → (j : ℕ) × (j ≤ 1000000) × MakesEvents m i t j
all_make m log completed n count are i t lt at =
    let within : i < length completed = omega (arith, lt, count) in
    makes m i t (get_or completed i t) (are i t (get_or completed i t) at (slice_get-get_or completed i t within))

without_at : (m : Module) (log completed : List ThreadLog) (n i : ℕ) (t : ThreadLog) (answer : ReplayAnswer) → i ≡ n → length completed ≡ n → AreCompleted m log completed
    → slice_get log n ≡ Some t → ((j : ℕ) → j ≤ 1000000 → ¬ MakesEvents m n t j) → IsOther m n (ending t 1000000 t.end) answer → IsFirstWithoutRun m log i answer
without_at m log completed n i t answer same count are is none other =
    subst (λ x. IsFirstWithoutRun m log x answer) (sym same)
    (record { thread = t; is_thread = is; others = all_make m log completed n count are; none = none; other = other })

-- the first thread whose events no number of steps makes
pub first_without : (m : Module) (log completed : List ThreadLog) (n : ℕ) (t : ThreadLog) (answer : ReplayAnswer) → length completed ≡ n → AreCompleted m log completed
    → slice_get log n ≡ Some t → ((j : ℕ) → j ≤ 1000000 → ¬ MakesEvents m n t j) → IsOther m n (ending t 1000000 t.end) answer → IsWithoutRun m log answer
first_without m log completed n t Same count are is none other = absurd other
first_without m log completed n t (StartRefused i fault) count are is none other = without_at m log completed n i t (StartRefused i fault) other.0 count are is none other
first_without m log completed n t (Differs i place) count are is none other = without_at m log completed n i t (Differs i place) other.0 count are is none other

-- ---- the whole log

-- threads with the same events are a log where the others are
threads_as : (i : ℕ) (log completed : List ThreadLog) → length completed ≡ length log
    → ((k : ℕ) (t c : ThreadLog) → slice_get log k ≡ Some t → slice_get completed k ≡ Some c → c.events ≡ t.events) → AreThreads i log → AreThreads i completed
threads_as i log [] e same are = tt
threads_as i [] (c ∷ completed) e same are = absurd (omega (arith, e))
threads_as i (t ∷ log) (c ∷ completed) e same are =
    (subst (AreEvents i 0) (sym (same 0 t c refl refl)) are.0, threads_as (suc i) log completed (omega (arith, e)) (λ k. same (suc k)) are.1)

pub is_log : (m : Module) (log completed : List ThreadLog) → IsLog log → length completed ≡ length log → AreCompleted m log completed → IsLog completed
is_log m log completed is count are = threads_as 0 log completed count (λ k t c at there. (are k t c at there).events) is

pub is_completion : (m : Module) (log completed : List ThreadLog) → length completed ≡ length log → AreCompleted m log completed → IsCompletion m log completed
is_completion m log completed count are = record {
  count = count;
  threads = are;
  are_runs = λ k c there.
      let lt : k < length log = (let within = slice_get_within completed k c there in omega (arith, within, count)) in
      (are k (get_or log k c) c (slice_get-get_or log k c lt) there).is_run;
}
