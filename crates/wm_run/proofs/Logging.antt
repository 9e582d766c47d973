-- The logs of the threads, one after the other, and what they hold of the recorder.
use Rattle.std.proofs.Common.{◌≡◌, ℕ, ◌+◌, ◌<◌, ◌≤◌, List, [], ◌∷◌, ◌++◌, inl, inr, sym, ap, subst, ◌∙◌, arith, length, slice_get, Some, get_or, map}
use Rattle.std.specs.Prelude.{option_map, unwrap_or}
use Rattle.std.proofs.Math.Nat.{eq-or-lt_of_le}
use Rattle.std.proofs.lemmas.List.{length-map, same_lists}
use Rattle.std.proofs.lemmas.Option.{get_or_from_slice_get, same_Some, slice_get-get_or, slice_get-map, slice_get_within}
use Rattle.wm_event.specs.declared.event.Event.{Event}
use Rattle.wm_event.specs.declared.log.Start.{Start}
use Rattle.wm_event.specs.declared.log.ThreadLog.{ThreadLog}
use Rattle.wm_logfile.specs.Document.{EndFits}
use Rattle.wm_machine.specs.Run.{end_of}
use Rattle.wm_machine.specs.State.{config_of}
use Rattle.wm_memory.proofs.Listed.{get-end, get-front}
use Rattle.wm_recorder.specs.Recorder.{Recording}
use Rattle.wm_replay.proofs.Comparisons.{item_there}
use Rattle.wm_run.specs.declared.runner.Runner.{Runner}
use Rattle.wm_run.specs.Finish.{AreLogs, log_of}

abbrev pub LogsBelow : List Start → List Runner → Recording → List ThreadLog → ℕ → Type 0
LogsBelow starts runners r logs n = (t : ℕ) (start : Start) (runner : Runner) → t < n → slice_get starts t ≡ Some start → slice_get runners t ≡ Some runner
    → slice_get logs t ≡ Some (log_of r t start runner)

pub logs_more : (starts : List Start) (runners : List Runner) (r : Recording) (logs : List ThreadLog) (n : ℕ) (start : Start) (runner : Runner) (new : ThreadLog) → length logs ≡ n
    → slice_get starts n ≡ Some start → slice_get runners n ≡ Some runner → new ≡ log_of r n start runner → LogsBelow starts runners r logs n → LogsBelow starts runners r (logs ++ new ∷ []) (n + 1)
logs_more starts runners r logs n start runner new count at at' is below t other runner' lt of_start of_runner =
    let within : t ≤ n = omega (arith, lt) in
    elim (eq-or-lt_of_le within) [
      | inl same ↦
          let start' : start ≡ other = same_Some start other (sym at ∙ ap (slice_get starts) (sym same) ∙ of_start) in
          let runner'' : runner ≡ runner' = same_Some runner runner' (sym at' ∙ ap (slice_get runners) (sym same) ∙ of_runner) in
          ap (slice_get (logs ++ new ∷ [])) (same ∙ sym count) ∙ get-end logs new
          ∙ ap Some (is ∙ ap (λ k. log_of r k start runner) (sym same) ∙ ap (λ s. log_of r t s runner) start' ∙ ap (log_of r t other) runner'')
      | inr less ↦ get-front logs new t (λ e. omega (arith, e, count, less)) ∙ below t other runner' less of_start of_runner
    ]

-- the ends of the threads below n are of 64 bits
abbrev pub EndsBelow : List Runner → ℕ → Type 0
EndsBelow runners n = (t : ℕ) (runner : Runner) → t < n → slice_get runners t ≡ Some runner → EndFits (end_of (config_of runner.thread))

pub one_more_end : (runners : List Runner) (n : ℕ) (runner : Runner) → slice_get runners n ≡ Some runner → EndFits (end_of (config_of runner.thread)) → EndsBelow runners n → EndsBelow runners (n + 1)
one_more_end runners n runner at fits below t other lt of_other =
    let within : t ≤ n = omega (arith, lt) in
    elim (eq-or-lt_of_le within) [
      | inl same ↦
          let is : runner ≡ other = same_Some runner other (sym at ∙ ap (slice_get runners) (sym same) ∙ of_other) in
          subst (λ (x : Runner). EndFits (end_of (config_of x.thread))) is fits
      | inr less ↦ below t other less of_other
    ]

pub all_logs : (starts : List Start) (runners : List Runner) (r : Recording) (logs : List ThreadLog) (n : ℕ) → length logs ≡ n → length starts ≤ n → n ≤ length starts → length runners ≡ length starts → LogsBelow starts runners r logs n → EndsBelow runners n → AreLogs starts runners r logs
all_logs starts runners r logs n count all few same below ends = record {
  ends = λ t runner of_runner. ends t runner (let lt : t < n = omega (arith, all, same, slice_get_within runners t runner of_runner) in lt) of_runner;
  count = omega (arith, count, all, few);
  each = λ t start runner of_start of_runner. below t start runner (let lt : t < n = omega (arith, all, slice_get_within starts t start of_start) in lt) of_start of_runner;
}

-- the events of the logs are those of the recorder
pub logged_events : (starts : List Start) (runners : List Runner) (r : Recording) (logs : List ThreadLog) → length runners ≡ length starts → length r.events ≡ length starts → AreLogs starts runners r logs
    → map (λ (log : ThreadLog). log.events) logs ≡ r.events
logged_events starts runners r logs same count are = same_lists (map (λ (log : ThreadLog). log.events) logs) r.events lengths items
  where
    lengths : length (map (λ (log : ThreadLog). log.events) logs) ≡ length r.events
    lengths = length-map logs (λ (log : ThreadLog). log.events) ∙ are.count ∙ sym count

    item : (k : ℕ) (d : List Event) (start : Start) (runner : Runner) → slice_get starts k ≡ Some start → slice_get runners k ≡ Some runner → k < length r.events
        → get_or (map (λ (log : ThreadLog). log.events) logs) k d ≡ get_or r.events k d
    item k d start runner of_start of_runner lt =
        let here : slice_get (map (λ (log : ThreadLog). log.events) logs) k ≡ Some (unwrap_or (slice_get r.events k) []) =
        slice_get-map (λ (log : ThreadLog). log.events) logs k ∙ ap (option_map (λ (log : ThreadLog). log.events)) (are.each k start runner of_start of_runner) in
        let there : slice_get r.events k ≡ Some (get_or r.events k d) = slice_get-get_or r.events k d lt in
        get_or_from_slice_get (map (λ (log : ThreadLog). log.events) logs) k _ d here ∙ ap (λ o. unwrap_or o []) there

    items : (k : ℕ) (d : List Event) → k < length (map (λ (log : ThreadLog). log.events) logs) → get_or (map (λ (log : ThreadLog). log.events) logs) k d ≡ get_or r.events k d
    items k d lt =
        let in_events : k < length r.events = omega (arith, lt, lengths) in
        let in_starts : k < length starts = omega (arith, in_events, count) in
        let in_runners : k < length runners = omega (arith, in_starts, same) in
        some_at k d in_events (item_there starts k in_starts) (item_there runners k in_runners)
      where
        some_at : (k : ℕ) (d : List Event) → k < length r.events → (start : Start) × (slice_get starts k ≡ Some start) → (runner : Runner) × (slice_get runners k ≡ Some runner)
            → get_or (map (λ (log : ThreadLog). log.events) logs) k d ≡ get_or r.events k d
        some_at k d lt s x = item k d s.0 x.0 s.1 x.1 lt
