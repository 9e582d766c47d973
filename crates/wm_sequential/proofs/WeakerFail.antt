-- Weaker premises are not enough.
use Rattle.std.proofs.Common.{◌≡◌, ◌≢◌, ℕ, ◌<◌, ◌≤◌, [], IsSome, refl, sym, ap, ◌∙◌, arith, inl, inr, ⊎_elim}
use Rattle.std.proofs.lemmas.Bool.{cases_lt}
use Rattle.wm_access.specs.declared.MemoryOrder.TheVariants.{Unordered}
use Rattle.wm_event.specs.declared.event.EventKey.{EventKey}
use Rattle.wm_event.specs.declared.event.EventId.TheVariants.{At}
use Rattle.wm_event.specs.Execution.{Execution}
use Rattle.wm_event.specs.HappensBefore.{HappensBefore}
use Rattle.wm_event.specs.LoggedRun.{execution}
use Rattle.wm_standard.specs.Agreement.{ValuesEnd}
use Rattle.wm_standard.specs.Agreement.Ends.{ends}
use Rattle.wm_standard.proofs.Agreement.{to-standard}
use Rattle.wm_standard.proofs.OrderMatters as order
use Rattle.wm_standard.proofs.RecordedLaw.{has-operations}
use Rattle.wm_standard.proofs.Unsynchronized.{before-earlier}
use Rattle.wm_sequential.specs.Programs.{StandardRace}
use Rattle.wm_sequential.specs.Sequential.{HasNoRace, IsEnough}
use Rattle.wm_sequential.specs.Weaker.{AreEnoughCases, AreSequentialInAnyOrder, IsNotEnough, PlainRace, RacesShowAtOnce, StandardExecutionsAreSequential}
use Rattle.wm_sequential.proofs.Steps.{some_of}
use Rattle.wm_sequential.proofs.OverlappingUpdates.{plain-races-are-not-enough}
use Rattle.wm_sequential.proofs.StoreBuffering.{key, no-standard-race, not-event, not-sequential, plain-is-valid, read, run, shaped, standard-races-are-not-enough, third-case-is-needed, unsynchronized, write}

not-enough : (Races : Execution → EventKey → EventKey → Type 0) → IsNotEnough Races → IsEnough Races → ⊥
not-enough Races n enough = n.not_sequential n.run.witness.order n.shaped (enough n.run n.shaped n.valid n.race_free)

pub plain-races-fail : IsEnough PlainRace → ⊥
plain-races-fail enough = not-enough PlainRace plain-races-are-not-enough enough

pub standard-races-fail : IsEnough StandardRace → ⊥
standard-races-fail enough = not-enough StandardRace standard-races-are-not-enough enough

pub two-cases-fail : AreEnoughCases 3 → ⊥
two-cases-fail enough = let n = third-case-is-needed in n.not_sequential n.run.witness.order n.shaped (enough n.run n.shaped n.valid n.race_free)

-- ---- store buffering with plain accesses

abbrev x : Execution
x = execution (run Unordered)

ends-at-once : ValuesEnd x
ends-at-once r there = ends (λ k u f from. absurd (not-event Unordered r u k from))

pub standard-executions-fail : StandardExecutionsAreSequential → ⊥
standard-executions-fail all =
    let ops = has-operations (run Unordered) in
    let std = to-standard (run Unordered) ops.0 (shaped Unordered) ops.1 (omega arith) plain-is-valid ends-at-once in
    not-sequential Unordered (run Unordered).witness.order (shaped Unordered) (all (run Unordered) ops.0 (shaped Unordered) ops.1 (omega arith) std)

threads-apart : (m n : ℕ) (s t : ℕ) → s ≢ t → HappensBefore x (At (key s m)) (At (key t n)) → ⊥
threads-apart m n s t apart h = apart (before-earlier x (unsynchronized Unordered) (At (key s m)) (At (key t n)) h).same_thread

pub races-at-once-fail : RacesShowAtOnce → ⊥
races-at-once-fail all = no-standard-race Unordered (key 0 1) (key 1 0) (all x (key 0 1) (key 1 0) plain-is-valid record {
  first = read Unordered 0 1;
  second = write Unordered 1;
  is_first = refl;
  is_second = refl;
  apart = λ s. let t : 0 ≡ 1 = ap (λ (k : EventKey). k.thread) s in omega (arith, t);
  overlap = (1, (omega arith, omega arith), (omega arith, omega arith));
  one_writes = inr refl;
  weak = inl refl;
  unordered = (threads-apart 1 0 0 1 (λ t. omega (arith, t)), threads-apart 0 1 1 0 (λ t. omega (arith, t)));
})

-- ---- two writes of one thread

one-thread : HasNoRace (execution order.straight)
one-thread a b race =
    let p = order.small a.thread a.number first in
    let q = order.small b.thread b.number second in
    let t : a.thread ≡ b.thread = p.0 ∙ sym q.0 in
    ⊎_elim
    (λ (l : a.number < b.number). race.unordered.0 ([], inl (record { first = first; second = second; same_thread = t; earlier = l })))
    (λ (l : b.number ≤ a.number). ⊎_elim
    (λ (m : b.number < a.number). race.unordered.1 ([], inl (record { first = second; second = first; same_thread = sym t; earlier = m })))
    (λ (m : a.number ≤ b.number). let n : a.number ≡ b.number = omega (arith, l, m) in race.apart (λ i. record { thread = t i; number = n i }))
    (cases_lt b.number a.number))
    (cases_lt a.number b.number)
  where
    first : IsSome ((execution order.straight).event_of a)
    first = some_of ((execution order.straight).event_of a) race.first race.is_first

    second : IsSome ((execution order.straight).event_of b)
    second = some_of ((execution order.straight).event_of b) race.second race.is_second

pub any-order-fails : AreSequentialInAnyOrder → ⊥
any-order-fails all =
    let s = all order.straight order.turned.witness.order (order.shaped order.straight.witness.order order.straight-lists) (order.shaped order.turned.witness.order order.turned-lists) order.valid-straight one-thread in
    let l = s.in_threads (order.key 0) (order.key 1) (record { first = refl; second = refl; same_thread = refl; earlier = omega arith }) in
    omega (arith, l)
