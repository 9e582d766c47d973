-- Threads that are started one after the other.
use Rattle.std.proofs.Common.{◌≡◌, ℕ, ◌+◌, ◌<◌, ◌≤◌, List, [], ◌∷◌, ◌++◌, inl, inr, sym, ap, subst, ◌∙◌, arith, length, slice_get, Some, Ok, Err, get_or}
use Rattle.std.proofs.lemmas.Option.{same_Some, slice_get-get_or, slice_get_within}
use Rattle.wm_ast.specs.declared.module.Module.{Module}
use Rattle.wm_event.specs.declared.log.Start.{Start}
use Rattle.wm_machine.specs.declared.fault.StartFault.{StartFault}
use Rattle.wm_machine.specs.Start.{started}
use Rattle.wm_machine.specs.Term.{Config}
use Rattle.wm_memory.proofs.Known.{get-last}
use Rattle.wm_run.specs.declared.runner.Runner.{Runner}
use Rattle.wm_run.specs.Launch.{AreLaunched, IsLaunched}
use Rattle.wm_run.specs.Refusal.{IsFirstRefused}

-- the same of the first n threads
abbrev pub LaunchedBelow : Module → List Start → List Runner → ℕ → Type 0
LaunchedBelow m starts runners n = (t : ℕ) (start : Start) (runner : Runner) → t < n → slice_get starts t ≡ Some start → slice_get runners t ≡ Some runner → IsLaunched m start runner

pub launched_more : (m : Module) (starts : List Start) (runners : List Runner) (n : ℕ) (start : Start) (new : Runner) → length runners ≡ n → slice_get starts n ≡ Some start
    → LaunchedBelow m starts runners n → IsLaunched m start new → LaunchedBelow m starts (runners ++ new ∷ []) (n + 1)
launched_more m starts runners n start new count at below is t other runner lt of_start of_runner =
    elim (get-last runners new t runner of_runner) [
      | inl old ↦ let within : t < n = omega (arith, count, slice_get_within runners t runner old) in below t other runner within of_start old
      | inr last ↦
          let same : t ≡ n = last.0 ∙ count in
          let start' : start ≡ other = same_Some start other (sym at ∙ ap (slice_get starts) (sym same) ∙ of_start) in
          subst (IsLaunched m other) last.1 (subst (λ s. IsLaunched m s new) start' is)
    ]

-- the others that are started before
pub others_start : (m : Module) (starts : List Start) (runners : List Runner) (n : ℕ) → length runners ≡ n → LaunchedBelow m starts runners n
    → (k : ℕ) (other : Start) → k < n → slice_get starts k ≡ Some other → (c : Config) × (started m other.name other.args ≡ Ok c)
others_start m starts [] n count below k other lt at = absurd (let none : 0 ≡ n = count in omega (arith, none, lt))
others_start m starts (x ∷ xs) n count below k other lt at =
    let within : k < length (x ∷ xs) = omega (arith, count, lt) in
    let is = below k other (get_or (x ∷ xs) k x) lt at (slice_get-get_or (x ∷ xs) k x within) in
    (_, is.begins.config)

pub first_refused : (m : Module) (starts : List Start) (runners : List Runner) (n : ℕ) (start : Start) (fault : StartFault) → length runners ≡ n → LaunchedBelow m starts runners n
    → slice_get starts n ≡ Some start → started m start.name start.args ≡ Err fault → IsFirstRefused m starts n fault
first_refused m starts runners n start fault count below at refused =
    record { start = start; listed = at; refused = refused; others = others_start m starts runners n count below }

pub all_launched : (m : Module) (starts : List Start) (runners : List Runner) (n : ℕ) → length runners ≡ n → length starts ≤ n → n ≤ length starts → LaunchedBelow m starts runners n → AreLaunched m starts runners
all_launched m starts runners n count all few below = record {
  count = omega (arith, count, all, few);
  each = λ t start runner of_start of_runner. below t start runner (let lt : t < n = omega (arith, count, slice_get_within runners t runner of_runner) in lt) of_start of_runner;
}
