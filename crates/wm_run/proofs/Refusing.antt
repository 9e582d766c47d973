-- Which faults a round can have.
use Rattle.std.proofs.Common.{◌≡◌, ℕ, suc, ◌+◌, ◌<◌, ◌≤◌, Bool, false, List, [], ◌∷◌, length, Some, slice_get, refl, subst, ◌∙◌, inl, inr, arith}
use Rattle.std.specs.Prelude.{◌==◌}
use Rattle.std.proofs.Math.Nat.{eq-or-lt_of_le}
use Rattle.std.proofs.lemmas.Bool.{cases_Bool, eq-eqb, eqb-true}
use Rattle.std.proofs.lemmas.Option.{slice_get-get_or, slice_get_within}
use Rattle.wm_ast.specs.declared.module.Module.{Module}
use Rattle.wm_event.specs.declared.log.Start.{Start}
use Rattle.wm_recorder.specs.Recorder.{Recording, initial_of, threads_of}
use Rattle.wm_replay.proofs.Comparisons.{item_there}
use Rattle.wm_run.specs.declared.rounds.ended.ThreadEnd.{ThreadEnd}
use Rattle.wm_run.specs.declared.fault.RunFault.{RunFault}
use Rattle.wm_run.specs.declared.fault.RunFault.TheVariants as run
use Rattle.wm_run.specs.declared.plan.Plan.{Plan}
use Rattle.wm_run.specs.declared.runner.Runner.{Runner}
use Rattle.wm_run.specs.Ends.{HasOneEach, IsEndsFault, ends_of}
use Rattle.wm_run.specs.Gathered.{IsGatherFault}
use Rattle.wm_run.specs.Launch.{AreLaunched, IsLaunchFault}
use Rattle.wm_run.specs.Refusal.{AllStart}
use Rattle.wm_run.specs.RoundPlans.{AreEndsOf, IsReady, IsRoundFault, IsRoundPlan}
use Rattle.wm_run.proofs.OneEach.{counted, uncounted, one_later}
use Rattle.wm_run.proofs.RoundLaws.{own_place}
use Rattle.wm_valid.specs.Valid.{IsInit}

-- ---- the ends of a round's workers are one for each thread

-- each end is at its thread's number, after n others
abbrev pub StandBehind : ℕ → List ThreadEnd → Type 0
StandBehind n ends = (k : ℕ) (e : ThreadEnd) → slice_get ends k ≡ Some e → e.thread ≡ n + k

others_behind : (n : ℕ) (e : ThreadEnd) (es : List ThreadEnd) → StandBehind n (e ∷ es) → StandBehind (suc n) es
others_behind n e es at k x is = let place = at (suc k) x (one_later e es k x is) in omega (arith, place)

first_behind : (n : ℕ) (e : ThreadEnd) (es : List ThreadEnd) → StandBehind n (e ∷ es) → e.thread ≡ n
first_behind n e es at = let place = at 0 e (slice_get-get_or (e ∷ es) 0 e (omega arith)) in omega (arith, place)

is_other : (x y : ℕ) → x < y → (y == x) ≡ false
is_other x y lt = elim (cases_Bool (y == x)) [ inl is ↦ absurd (let same = eqb-true y x is in omega (arith, same, lt)) | inr not ↦ not ]

is_other' : (x y : ℕ) → x < y → (x == y) ≡ false
is_other' x y lt = elim (cases_Bool (x == y)) [ inl is ↦ absurd (let same = eqb-true x y is in omega (arith, same, lt)) | inr not ↦ not ]

none_before : (ends : List ThreadEnd) (n t : ℕ) → StandBehind n ends → t < n → ends_of ends t ≡ 0
none_before [] n t at lt = refl
none_before (e ∷ es) n t at lt =
    let here = first_behind n e es at in
    let other : (e.thread == t) ≡ false = is_other t e.thread (omega (arith, here, lt)) in
    uncounted (λ (x : ThreadEnd). x.thread == t) e es other ∙ none_before es (suc n) t (others_behind n e es at) (omega (arith, lt))

one_behind : (ends : List ThreadEnd) (n t : ℕ) → StandBehind n ends → n ≤ t → t < n + length ends → ends_of ends t ≡ 1
one_behind [] n t at le lt = absurd (omega (arith, le, lt))
one_behind (e ∷ es) n t at le lt =
    let here = first_behind n e es at in
    elim (eq-or-lt_of_le le) [
      | inl same ↦
          let first = counted (λ (x : ThreadEnd). x.thread == t) e es (eq-eqb e.thread t (here ∙ same)) in
          let no_more = none_before es (suc n) t (others_behind n e es at) (omega (arith, same)) in
          omega (arith, first, no_more)
      | inr less ↦
          let other : (e.thread == t) ≡ false = is_other' e.thread t (omega (arith, here, less)) in
          uncounted (λ (x : ThreadEnd). x.thread == t) e es other ∙ one_behind es (suc n) t (others_behind n e es at) (omega (arith, less)) (omega (arith, lt))
    ]

pub ends_one_each : (is_open : Bool) (m : Module) (starts : List Start) (limit : ℕ) (ends : List ThreadEnd) → AreEndsOf is_open m starts limit ends → HasOneEach (length starts) ends
ends_one_each is_open m starts limit ends are = record {
  each = λ t lt. one_behind ends 0 t (λ k e is. (let place = own_place is_open m starts limit ends k e are is in omega (arith, place))) (omega arith) (omega (arith, lt, are.0));
  others = λ k e is.
      let place = own_place is_open m starts limit ends k e are is in
      let within : k < length ends = slice_get_within ends k e is in
      omega (arith, place, within, are.0);
}

no_ends_fault : (threads : ℕ) (ends : List ThreadEnd) (t : ℕ) → HasOneEach threads ends → IsEndsFault threads ends t → ⊥
no_ends_fault threads ends t one_each is = elim is.fault [
  | inl wrong ↦ wrong.1 (one_each.each t wrong.0)
  | inr stray ↦
      let e = stray.listed in
      let below : e.0.thread < threads = one_each.others e.1.0.0 e.0 e.1.0.1 in
      let past = stray.stray in
      let place = e.1.1 in
      omega (arith, below, past, place)
]

-- ---- the faults of a round

-- what was launched starts
pub all_start : (m : Module) (starts : List Start) (runners : List Runner) → AreLaunched m starts runners → AllStart m starts
all_start m starts runners are t start at =
    let within : t < length starts = slice_get_within starts t start at in
    let runner = item_there runners t (omega (arith, within, are.count)) in
    (_, (are.each t start runner.0 at runner.1).begins.config)

pub launch_fault : (m : Module) (plan : Plan) (fault : RunFault) → IsRoundPlan plan → IsLaunchFault m plan.starts fault → IsRoundFault m plan fault
launch_fault m plan (run.Start t fault) planned is = (planned, is)
launch_fault m plan run.OutOfMemory planned is = tt
launch_fault m plan (run.Plan fault) planned is = absurd is
launch_fault m plan (run.Split t) planned is = absurd is
launch_fault m plan (run.Ends t) planned is = absurd is
launch_fault m plan run.Foreign planned is = absurd is

pub gather_fault : (is_open : Bool) (m : Module) (plan : Plan) (ends : List ThreadEnd) (r : Recording) (fault : RunFault) → IsReady m plan → IsInit m (initial_of r) → threads_of r ≡ length plan.starts
    → AreEndsOf is_open m plan.starts plan.steps ends → IsGatherFault m r ends fault → IsRoundFault m plan fault
gather_fault is_open m plan ends r (run.Start t fault) ready init many are is = absurd is
gather_fault is_open m plan ends r (run.Plan fault) ready init many are is = absurd is
gather_fault is_open m plan ends r run.OutOfMemory ready init many are is = tt
gather_fault is_open m plan ends r (run.Split t) ready init many are is = (ready, subst (λ n. t < n) many is.2.there)
gather_fault is_open m plan ends r (run.Ends t) ready init many are is =
    no_ends_fault (length plan.starts) ends t (ends_one_each is_open m plan.starts plan.steps ends are) (subst (λ n. IsEndsFault n ends t) many is.1)
gather_fault is_open m plan ends r run.Foreign ready init many are is = is init
