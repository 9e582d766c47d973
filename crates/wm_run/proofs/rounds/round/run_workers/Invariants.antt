use Rattle.std.proofs.Common.{◌≡◌, ◌<◌, ◌≤◌, ℕ, get_or, length}
use Rattle.wm_event.specs.declared.log.Start.{Start}
use Rattle.wm_run.proofs.rounds.round.run_workers.Given as goal

abbrev pub invariant-loop-number : goal.invariant-loop-number
invariant-loop-number g l = record {
  room : length l.starts ≤ l.workers.cap;
  starts : l.starts ≡ l.plan.starts;
  count : length l.workers.items ≡ l.number;
  programs : (k : ℕ) (d : _) → k < l.number → (get_or l.workers.items k d).promise.program.value ≡ l.module;
  threads : (k : ℕ) (d : _) → k < l.number → (get_or l.workers.items k d).promise.thread ≡ k;
  given : (k : ℕ) (d : _) (s : Start) → k < l.number → (get_or l.workers.items k d).promise.start.value ≡ get_or l.starts k s;
  steps : (k : ℕ) (d : _) → k < l.number → (get_or l.workers.items k d).promise.steps ≡ l.plan.steps;
  gates : (k : ℕ) (d : _) → k < l.number → (get_or l.workers.items k d).promise.gate.value ≡ l.gate;
}
