-- The least absent thread among the first turns.
use Rattle.std.proofs.Common.{◌≡◌, ◌∙◌, ◌⊎◌, ℕ, ◌+◌, ◌<◌, ◌≤◌, List, Option, None, Some, IfSome, slice_get, inl, inr, arith, below_more, subst, sym}
use Rattle.wm_run.specs.declared.turn.Turn.{Turn}
use Rattle.wm_run.specs.Plan.{thread_of}

-- the same as of all turns, among the first n
pub record IsLeastBelow (threads : ℕ) (turns : List Turn) (n t : ℕ) : Type 0 where
  pub absent : threads ≤ t
  pub listed : (k : ℕ) × ((turn : Turn) × (slice_get turns k ≡ Some turn) × (thread_of turn ≡ t))
  pub least : (k : ℕ) (turn : Turn) → k < n → slice_get turns k ≡ Some turn → threads ≤ thread_of turn → t ≤ thread_of turn

abbrev pub AbsentBelow : ℕ → List Turn → ℕ → Option ℕ → Type 0
AbsentBelow threads turns n None = (k : ℕ) (turn : Turn) → k < n → slice_get turns k ≡ Some turn → thread_of turn < threads
AbsentBelow threads turns n (Some t) = IsLeastBelow threads turns n t

-- no absent thread of the first n turns is below t
abbrev IsBound : ℕ → List Turn → ℕ → ℕ → Type 0
IsBound threads turns n t = (k : ℕ) (turn : Turn) → k < n → slice_get turns k ≡ Some turn → threads ≤ thread_of turn → t ≤ thread_of turn

-- nor is that of one more turn
bound_more : (threads : ℕ) (turns : List Turn) (n t : ℕ) (turn : Turn) → IsBound threads turns n t → slice_get turns n ≡ Some turn → t ≤ thread_of turn → IsBound threads turns (n + 1) t
bound_more threads turns n t turn bound at le k other lt is absent =
    below_more (λ (k : ℕ). (other : Turn) → slice_get turns k ≡ Some other → threads ≤ thread_of other → t ≤ thread_of other)
    n
    (λ k lt other is absent. bound k other lt is absent)
    (λ other is absent. let same : turn ≡ other = cc in subst (λ (turn : Turn). t ≤ thread_of turn) same le)
    k lt other is absent

-- the lesser of the least absent thread of the first n turns and of the next turn's absent thread is the least of both
pub least_with : (threads : ℕ) (turns : List Turn) (n : ℕ) (first : Option ℕ) (thread t : ℕ) (turn : Turn) → AbsentBelow threads turns n first → slice_get turns n ≡ Some turn
    → thread ≡ thread_of turn → threads ≤ thread → t ≤ thread → IfSome first (λ other. t ≤ other) → (t ≡ thread) ⊎ (first ≡ Some t) → IsLeastBelow threads turns (n + 1) t
least_with threads turns n None thread t turn below at is absent le le_first (inl e) = record {
  absent = omega arith;
  listed = (n, (turn, at, sym is ∙ sym e));
  least = bound_more threads turns n t turn (λ k other lt there out. omega (arith, below k other lt there)) at (omega arith);
}
least_with threads turns n None thread t turn below at is absent le le_first (inr e) = absurd (cc)
least_with threads turns n (Some first) thread t turn below at is absent le le_first (inl e) = record {
  absent = omega arith;
  listed = (n, (turn, at, sym is ∙ sym e));
  least = bound_more threads turns n t turn (λ k other lt there out. omega (arith, below.least k other lt there out, le_first)) at (omega arith);
}
least_with threads turns n (Some first) thread t turn below at is absent le le_first (inr e) =
    let same : first ≡ t = cc in
    record {
      absent = subst (λ t. threads ≤ t) same below.absent;
      listed = subst (λ t. (k : ℕ) × ((turn : Turn) × (slice_get turns k ≡ Some turn) × (thread_of turn ≡ t))) same below.listed;
      least = bound_more threads turns n t turn (subst (IsBound threads turns n) same below.least) at (omega arith);
    }
