-- The threads of a log, one after the other.
use Rattle.std.proofs.Common.{◌≡◌, ℕ, ◌+◌, ◌<◌, ◌≤◌, inl, inr, List, length, get_or, Some, Err, refl, sym, ap, subst, ◌∙◌, arith}
use Rattle.std.specs.Prelude.{◌⊎◌, option_and_then, slice_get}
use Rattle.std.proofs.Math.Nat.{eq-or-lt_of_le}
use Rattle.std.proofs.lemmas.Option.{none-some, same_Some, slice_get_read, slice_get_within}
use Rattle.wm_ast.specs.declared.module.Module.{Module}
use Rattle.wm_event.specs.declared.log.ThreadLog.{ThreadLog}
use Rattle.wm_event.specs.Log.{HasKeys}
use Rattle.wm_replay.specs.declared.answer.ReplayAnswer.{ReplayAnswer}
use Rattle.wm_replay.specs.declared.answer.ReplayAnswer.TheVariants.{Same, StartRefused, Differs}
use Rattle.wm_machine.specs.declared.fault.StartFault.{StartFault}
use Rattle.wm_machine.specs.Run.{run_from}
use Rattle.wm_replay.specs.Comparison.{ComparesThread, IsFirstOther, IsOther, Replays}
use Rattle.wm_replay.specs.Following.{FollowsLog, HasPlaces}
use Rattle.wm_replay.specs.Replay.{AreRuns, IsRun, reads_of}

-- the events of a log's thread are there
pub places_in : (log : List ThreadLog) (k : ℕ) (t : ThreadLog) → HasKeys log → slice_get log k ≡ Some t → HasPlaces k t.events
places_in log k t keys is i e at =
    keys record { thread = k; number = i } e (ap (option_and_then (λ (u : ThreadLog). slice_get u.events i)) is ∙ at)

-- the threads below a number are their runs
abbrev pub RunsBelow : Module → List ThreadLog → ℕ → Type 0
RunsBelow m log n = (k : ℕ) (t : ThreadLog) → k < n → slice_get log k ≡ Some t → IsRun m k t

pub runs_more : (m : Module) (log : List ThreadLog) (n : ℕ) (t : ThreadLog) → RunsBelow m log n → slice_get log n ≡ Some t → IsRun m n t → RunsBelow m log (n + 1)
runs_more m log n t below is run k u lt at = either (eq-or-lt_of_le (let le : k ≤ n = omega (arith, lt) in le))
  where
    either : (k ≡ n) ⊎ (k < n) → IsRun m k u
    either (inr before) = below k u before at
    either (inl same) =
        let same_thread : t ≡ u = same_Some t u (sym is ∙ ap (slice_get log) (sym same) ∙ at) in
        subst (λ x. IsRun m k x) same_thread (subst (λ x. IsRun m x t) (sym same) run)

first_at : (m : Module) (log : List ThreadLog) (k i : ℕ) (t : ThreadLog) (answer : ReplayAnswer) → i ≡ k → slice_get log k ≡ Some t → RunsBelow m log k
    → IsOther m k t answer → ¬ IsRun m k t → IsFirstOther m log i answer
first_at m log k i t answer same is below other no_run =
    subst (λ x. IsFirstOther m log x answer) (sym same)
    (record { thread = t; is_thread = is; others = below; no_run = no_run; other = other })

-- the first thread that isn't its run
pub first_other : (m : Module) (log : List ThreadLog) (k : ℕ) (t : ThreadLog) (answer : ReplayAnswer) → slice_get log k ≡ Some t → RunsBelow m log k
    → IsOther m k t answer → ¬ IsRun m k t → Replays m log answer
first_other m log k t Same is below other no_run = absurd other
first_other m log k t (StartRefused i fault) is below other no_run = first_at m log k i t (StartRefused i fault) other.0 is below other no_run
first_other m log k t (Differs i place) is below other no_run = first_at m log k i t (Differs i place) other.0 is below other no_run

-- the thread that a loop over the log is at
pub item_at : (log items : List ThreadLog) (n : ℕ) (t : ThreadLog) → items ≡ log → n < length items → t ≡ get_or items n t → slice_get log n ≡ Some t
item_at log items n t same lt is = subst (λ xs. slice_get xs n ≡ Some t) same (slice_get_read items (length items) n t refl lt is)

-- where the threads of the whole log are their runs
pub all_below : (m : Module) (log items : List ThreadLog) (n : ℕ) → items ≡ log → length items ≤ n → RunsBelow m log n → AreRuns m log
all_below m log items n same all below k t at =
    let lt = slice_get_within log k t at in
    let count : length items ≡ length log = ap length same in
    below k t (let before : k < n = omega (arith, lt, count, all) in before) at

-- a thread that doesn't start isn't its run
pub unstarted_other : (m : Module) (k : ℕ) (t : ThreadLog) (fault : StartFault) → FollowsLog m k t t.steps (Err fault) → ComparesThread m k t (Some (StartRefused k fault))
unstarted_other m k t fault refused = (
  (refl, refused.0, refused.1),
  λ runs.
      none-some record { events = t.events; end = t.end } (subst (λ r. run_from m k r (reads_of t.events) t.steps ≡ Some record { events = t.events; end = t.end }) refused.0 runs),
)
