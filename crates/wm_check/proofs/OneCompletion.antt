-- A log has one completion.
use Rattle.std.proofs.Common.{◌≡◌, ℕ, suc, ◌<◌, ◌≤◌, ◌⊎◌, inl, inr, List, [], ◌∷◌, length, get_or, Some, refl, sym, ap, ap₂, subst, ◌∙◌, arith}
use Rattle.std.specs.Prelude.{slice_get}
use Rattle.std.proofs.lemmas.Bool.{cases_lt}
use Rattle.std.proofs.lemmas.Option.{same_Some, slice_get-get_or, slice_get_within}
use Rattle.wm_ast.specs.declared.module.Module.{Module}
use Rattle.wm_event.specs.declared.log.End.{End}
use Rattle.wm_event.specs.declared.log.ThreadLog.{ThreadLog}
use Rattle.wm_machine.specs.Run.{Outcome}
use Rattle.wm_replay.specs.declared.answer.ReplayAnswer.{ReplayAnswer}
use Rattle.wm_replay.specs.declared.answer.ReplayAnswer.TheVariants.{Same, StartRefused, Differs}
use Rattle.wm_replay.specs.Complete.{IsCompletion, IsFirstWithoutRun, IsLongestRun, IsWithoutRun, MakesEvents, ending}
use Rattle.wm_replay.specs.Replay.{IsRun}

-- a completed thread is the thread with other steps and another end
as_ending : (t c : ThreadLog) → c.start ≡ t.start → c.events ≡ t.events → c ≡ ending t c.steps c.end
as_ending t c start events = λ i. record { start = start i; end = c.end; steps = c.steps; events = events i }

makes_events : (m : Module) (k : ℕ) (t c : ThreadLog) → IsLongestRun m k t c → MakesEvents m k t c.steps
makes_events m k t c is = (c.end, subst (IsRun m k) (as_ending t c is.start is.events) is.is_run)

not_longer : (m : Module) (k : ℕ) (t c d : ThreadLog) → IsLongestRun m k t c → IsLongestRun m k t d → c.steps < d.steps → ⊥
not_longer m k t c d first second longer = first.longest d.steps longer second.within (makes_events m k t d second)

same_steps : (m : Module) (k : ℕ) (t c d : ThreadLog) → IsLongestRun m k t c → IsLongestRun m k t d → (c.steps < d.steps) ⊎ (d.steps ≤ c.steps)
    → (d.steps < c.steps) ⊎ (c.steps ≤ d.steps) → c.steps ≡ d.steps
same_steps m k t c d first second (inl longer) other = absurd (not_longer m k t c d first second longer)
same_steps m k t c d first second (inr below) (inl longer) = absurd (not_longer m k t d c second first longer)
same_steps m k t c d first second (inr below) (inr above) = omega (arith, below, above)

-- a run of this number of steps has one end
same_end : (m : Module) (k : ℕ) (t : ThreadLog) (n o : ℕ) (end other : End) → n ≡ o → IsRun m k (ending t n end) → IsRun m k (ending t o other) → end ≡ other
same_end m k t n o end other same first second =
    let is_run = subst (λ i. IsRun m k (ending t i end)) same first in
    ap (λ (made : Outcome). made.end) (same_Some _ _ (sym is_run ∙ second))

one_longest : (m : Module) (k : ℕ) (t c d : ThreadLog) → IsLongestRun m k t c → IsLongestRun m k t d → c ≡ d
unfolding makes_events
one_longest m k t c d first second =
    let steps : c.steps ≡ d.steps = same_steps m k t c d first second (cases_lt c.steps d.steps) (cases_lt d.steps c.steps) in
    let end : c.end ≡ d.end = same_end m k t c.steps d.steps c.end d.end steps (makes_events m k t c first).1 (makes_events m k t d second).1 in
    as_ending t c first.start first.events ∙ ap₂ (ending t) steps end ∙ sym (as_ending t d second.start second.events)

-- lists of which each item has a relation to that of a third list, which determines it
same_lists : (R : ℕ → ThreadLog → ThreadLog → Type 0) → ((k : ℕ) (t c d : ThreadLog) → R k t c → R k t d → c ≡ d) → (ts cs ds : List ThreadLog)
    → length cs ≡ length ts → length ds ≡ length ts → ((k : ℕ) (t c : ThreadLog) → slice_get ts k ≡ Some t → slice_get cs k ≡ Some c → R k t c)
    → ((k : ℕ) (t d : ThreadLog) → slice_get ts k ≡ Some t → slice_get ds k ≡ Some d → R k t d) → cs ≡ ds
same_lists R one [] [] [] first second cs ds = refl
same_lists R one [] (c ∷ _) es first second cs ds = absurd (omega (arith, first))
same_lists R one [] [] (d ∷ _) first second cs ds = absurd (omega (arith, second))
same_lists R one (t ∷ ts) [] es first second cs ds = absurd (omega (arith, first))
same_lists R one (t ∷ ts) (c ∷ _) [] first second cs ds = absurd (omega (arith, second))
same_lists R one (t ∷ ts) (c ∷ rest) (d ∷ others) first second cs ds =
    ap₂ (λ (x : ThreadLog) (xs : List ThreadLog). x ∷ xs) (one 0 t c d (cs 0 t c refl refl) (ds 0 t d refl refl))
    (same_lists (λ k. R (suc k)) (λ k. one (suc k)) ts rest others (omega (arith, first)) (omega (arith, second)) (λ k. cs (suc k)) (λ k. ds (suc k)))

pub one_completion : (m : Module) (log first second : List ThreadLog) → IsCompletion m log first → IsCompletion m log second → first ≡ second
one_completion m log first second one other =
    same_lists (λ k. IsLongestRun m k) (one_longest m) log first second one.count other.count one.threads other.threads

item_there : (log completed : List ThreadLog) (k : ℕ) (t : ThreadLog) → length completed ≡ length log → slice_get log k ≡ Some t
    → (c : ThreadLog) × (slice_get completed k ≡ Some c)
item_there log completed k t count at =
    let within : k < length completed = rw count (slice_get_within log k t at) in
    (get_or completed k t, slice_get-get_or completed k t within)

-- a log that has a completion has a run of each thread
none_without_run : (m : Module) (log completed : List ThreadLog) (k : ℕ) (answer : ReplayAnswer) → IsCompletion m log completed → IsFirstWithoutRun m log k answer → ⊥
none_without_run m log completed k answer is first =
    let there : (c : ThreadLog) × (slice_get completed k ≡ Some c) = item_there log completed k first.thread is.count first.is_thread in
    let longest : IsLongestRun m k first.thread there.0 = is.threads k first.thread there.0 first.is_thread there.1 in
    first.none there.0.steps longest.within (makes_events m k first.thread there.0 longest)

pub has_run : (m : Module) (log completed : List ThreadLog) (answer : ReplayAnswer) → IsCompletion m log completed → IsWithoutRun m log answer → ⊥
has_run m log completed Same is without = without
has_run m log completed (StartRefused k fault) is without = none_without_run m log completed k (StartRefused k fault) is without
has_run m log completed (Differs k place) is without = none_without_run m log completed k (Differs k place) is without
