use Rattle.std.proofs.Common.{ℕ, ◌<◌, ◌≤◌}
use Rattle.wm_access.specs.AccessWidth.{bytes_of}
use Rattle.wm_rules.specs.Between.{IfListedAt}
use Rattle.wm_rules.specs.Others.{WritesBetween}
use Rattle.wm_rules.proofs.near.is_any_between.Given as goal

-- none of the events so far is between
abbrev pub invariant-loop-place : goal.invariant-loop-place
invariant-loop-place l =
    (n : ℕ) → l.first ≤ n → n < l.place → IfListedAt l.relation.witness.order n (λ v. (k : ℕ) → k < bytes_of l.event.width → WritesBetween l.relation l.event k l.writer v → ⊥)
