use Rattle.std.proofs.Common.{◌≡◌, ◌∙◌, ℕ, ◌+◌, ◌<◌, ◌≤◌, List, [], ◌∷◌, ◌++◌, ap, arith, get_or, inl, inr, length, rules, slice_index_or, subst, sym, vec_len}
use Rattle.std.proofs.Math.Nat.{eq-or-lt_of_le}
use Rattle.std.proofs.lemmas.Grind.{common_steps}
use Rattle.std.proofs.lemmas.List.{get_or_push}
use Rattle.wm_run.specs.Worker.{IsWorkOf}
use Rattle.wm_run.proofs.rounds.round.run_workers.Goals as goal

get_or_before : {T : Type 0} (xs : List T) (x d : T) (k : ℕ) → k < length xs → get_or (xs ++ x ∷ []) k d ≡ get_or xs k d
get_or_before xs x d k below = grind (arith, common_steps)

-- what holds of the first n items and of the next one, at their places, holds of n + 1 items
one_more : {T : Type 0} (P : ℕ → T → Type 0) (xs : List T) (n : ℕ) (x : T) → length xs ≡ n → ((k : ℕ) (d : T) → k < n → P k (get_or xs k d)) → P n x
    → (k : ℕ) (d : T) → k < n + 1 → P k (get_or (xs ++ x ∷ []) k d)
one_more P xs n x count before next k d below =
    let within : k ≤ n = omega (arith, below) in
    elim (eq-or-lt_of_le within) [
      | inl same ↦
          let last : length xs ≡ k = omega (arith, count, same) in
          subst (P k) (sym (get_or_push xs x d k last)) (subst (λ j. P j x) (sym same) next)
      | inr less ↦
          let there : k < length xs = omega (arith, count, less) in
          subst (P k) (sym (get_or_before xs x d k there)) (before k d less)
    ]

pub loop-number-preserved : goal.loop-number-preserved
loop-number-preserved g c =
    let is = c.loop-number.invariant in
    let xs = c.loop-number.workers.items in
    let n = c.loop-number.number in
    let worker = c.in-Ok.worker in
    let new = c.in-Ok.ensures in
    let m = c.args.module.now in
    let gate = c.args.gate.now in
    let steps = c.args.plan.now.steps in
    record {
      room = search rules;
      starts = is.starts;
      count = search rules;
      programs = rw c.push_reserved.ensures.items (one_more (λ _ x. x.promise.program.value ≡ m) xs n worker is.count is.programs new.program);
      threads = rw c.push_reserved.ensures.items (one_more (λ k x. x.promise.thread ≡ k) xs n worker is.count is.threads new.thread);
      given = grind (arith, common_steps);
      steps = rw c.push_reserved.ensures.items (one_more (λ _ x. x.promise.steps ≡ steps) xs n worker is.count is.steps new.steps);
      gates = rw c.push_reserved.ensures.items (one_more (λ _ x. x.promise.gate.value ≡ gate) xs n worker is.count is.gates new.gate);
    }

pub returns-in-Ok-join_promised : goal.returns-in-Ok-join_promised
returns-in-Ok-join_promised g c = (
  grind (arith, common_steps),
  λ i d e below.
      let is = c.loop-number.invariant in
      let started : i < c.loop-number.number = omega (arith, below, ap length is.starts, c.loop-number-test.false) in
      let joined : i < vec_len c.loop-number.workers = grind (arith, common_steps) in
      let keeps = (c.in-Ok-join_promised.ensures.each i e joined).1 in
      let h = keeps.handle in
      let work : IsWorkOf (g.G.Gate.is_open h.promise.gate.value) h.promise.program.value h.promise.thread h.promise.start.value h.promise.steps (slice_index_or c.in-Ok-join_promised.results.items i e) = keeps.kept in
      let program = ap (λ (x : _). x.promise.program.value) keeps.handle_is ∙ is.programs i h started in
      let thread = ap (λ (x : _). x.promise.thread) keeps.handle_is ∙ is.threads i h started in
      let start = ap (λ (x : _). x.promise.start.value) keeps.handle_is ∙ is.given i h d started ∙ ap (λ (xs : _). slice_index_or xs i d) is.starts in
      let steps = ap (λ (x : _). x.promise.steps) keeps.handle_is ∙ is.steps i h started in
      let gate = ap (λ (x : _). x.promise.gate.value) keeps.handle_is ∙ is.gates i h started in
      rw (program, thread, start, steps, gate) at work,
)
