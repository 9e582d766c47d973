-- Rounds that were made, one after the other.
use Rattle.std.proofs.Common.{◌≡◌, ◌+◌, ◌<◌, ◌≤◌, ◌^◌, ℕ, List, [], ◌∷◌, ◌++◌, get_or, take, length, refl, sym, ap, ◌∙◌, subst, arith}
use Rattle.std.specs.BTreeMap.{BTreeMap}
use Rattle.std.specs.Prelude.{String}
use Rattle.std.specs.declared.alloc.Global.{Global}
use Rattle.std.proofs.lemmas.List.{length-append, length-map, length-take-le, map-append, take_all, take_more}
use Rattle.std.proofs.lemmas.List.Elements.{All-push}
use Rattle.wm_ast.specs.declared.module.Module.{Module}
use Rattle.wm_run.specs.declared.plan.Plan.{Plan}
use Rattle.wm_run.specs.Run.{Record}
use Rattle.wm_litmus.specs.Counts.{Counts}
use Rattle.wm_litmus.specs.Outcomes.{outcome_text}
use Rattle.wm_litmus.specs.Rounds.{CountsRun, HasMade, IsAllowedRound, outcomes}

pub none_made : («module» : Module) (plan : Plan) (counts : BTreeMap (String Global) ℕ) → Counts [] counts
    → HasMade «module» plan 0 counts
none_made «module» plan counts h = record { runs = []; many = refl; allowed = λ k d inside. absurd (omega arith); counted = h }

pub made_more : («module» : Module) (plan : Plan) (number : ℕ) (old new : BTreeMap (String Global) ℕ) (run : Record) → number + 1 < 2 ^ 64
    → HasMade «module» plan number old → IsAllowedRound «module» plan run → CountsRun run old new → HasMade «module» plan (number + 1) new
made_more «module» plan number old new run small h allowed counted = record {
  runs = h.runs ++ run ∷ [];
  many = length-append h.runs (run ∷ []) ∙ ap (λ n. n + 1) h.many;
  allowed = All-push (IsAllowedRound «module» plan) h.runs run h.allowed allowed;
  counted =
      let many : length (outcomes h.runs) ≡ number = length-map h.runs (λ (r : Record). outcome_text r.log) ∙ h.many in
      let few : length (outcomes h.runs) + 1 < 2 ^ 64 = subst (λ (n : ℕ). n + 1 < 2 ^ 64) (sym many) small in
      subst (λ came. Counts came new) (sym (map-append (λ (r : Record). outcome_text r.log) h.runs (run ∷ []))) (counted (outcomes h.runs) h.counted few);
}

-- ---- runs that are there

pub reported_next : (runs : List Record) (i : ℕ) (run : Record) (old new : BTreeMap (String Global) ℕ) → i < length runs → length runs < 2 ^ 64 → run ≡ get_or runs i run
    → Counts (outcomes (take i runs)) old
    → ((came : List (List ℕ)) → Counts came old → length came + 1 < 2 ^ 64 → Counts (came ++ outcome_text run.log ∷ []) new)
    → Counts (outcomes (take (i + 1) runs)) new
reported_next runs i run old new inside small at h counted =
    let one : take (i + 1) runs ≡ take i runs ++ run ∷ [] = take_more runs i run inside ∙ ap (λ y. take i runs ++ y ∷ []) (sym at) in
    let grown : outcomes (take (i + 1) runs) ≡ outcomes (take i runs) ++ outcome_text run.log ∷ [] = ap outcomes one ∙ map-append (λ (r : Record). outcome_text r.log) (take i runs) (run ∷ []) in
    let many : length (outcomes (take i runs)) ≡ i = length-map (take i runs) (λ (r : Record). outcome_text r.log) ∙ length-take-le i runs (omega (arith, inside)) in
    let few : length (outcomes (take i runs)) + 1 < 2 ^ 64 = subst (λ (n : ℕ). n + 1 < 2 ^ 64) (sym many) (omega (arith, inside, small)) in
    subst (λ came. Counts came new) (sym grown) (counted (outcomes (take i runs)) h few)

pub all_reported : (runs : List Record) (i : ℕ) (counts : BTreeMap (String Global) ℕ) → length runs ≤ i → Counts (outcomes (take i runs)) counts → Counts (outcomes runs) counts
all_reported runs i counts all h = subst (λ (rs : List Record). Counts (outcomes rs) counts) (take_all i runs all) h
