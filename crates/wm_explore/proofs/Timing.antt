-- The place at which an event arrived is its time.
use Rattle.std.proofs.Common.{◌≡◌, ◌≢◌, ℕ, ◌<◌, List, Some, IsSome, refl, sym, ap, subst, ◌∙◌, arith}
use Rattle.std.specs.Prelude.{slice_get}
use Rattle.std.specs.List.{position_or_len}
use Rattle.std.proofs.lemmas.Option.{get_or_from_slice_get, same_Some, slice_get_within}
use Rattle.wm_event.specs.Event.{same_key}
use Rattle.wm_event.specs.Execution.{ReadsFrom}
use Rattle.wm_event.specs.HappensBefore.{SequencedBefore}
use Rattle.wm_event.specs.Log.{event_in}
use Rattle.wm_event.specs.LoggedRun.{LoggedRun, execution}
use Rattle.wm_event.specs.Shape.{IsThere, IsWellShaped, ListsEachOnce}
use Rattle.wm_event.specs.declared.event.EventId.TheVariants.{At}
use Rattle.wm_event.specs.declared.event.EventKey.{EventKey}
use Rattle.wm_event.specs.declared.log.Start.{Start}
use Rattle.wm_event.proofs.PlaceLemmas.{position_listed}
use Rattle.wm_explore.specs.Executions.{IsCausal}
use Rattle.wm_explore.specs.Judging.{LooksBack}
use Rattle.wm_explore.specs.States.{IsState}
use Rattle.wm_explore.specs.declared.state.State.{State}
use Rattle.wm_explore.proofs.Beginnings.{some_of}

module _ (starts : List Start) (s : State) (fine : IsState starts s) (x : LoggedRun) (same : (key : EventKey) → event_in x.log key ≡ event_in s.log key) (shaped : IsWellShaped x) (back : LooksBack (execution x) s.arrived) where
  once : (i j : ℕ) (key : EventKey) → slice_get s.arrived i ≡ Some key → slice_get s.arrived j ≡ Some key → i ≡ j
  once i j key at_i at_j =
      let a = fine.in_order i j key key at_i at_j refl (omega arith) in
      let b = fine.in_order j i key key at_j at_i refl (omega arith) in
      omega (arith, a, b)

  lists : ListsEachOnce s.log s.arrived
  lists = record { listed = fine.listed; events = fine.events; once = once }

  time : EventKey → ℕ
  time key = position_or_len (same_key key) s.arrived

  time_at : (i : ℕ) (key : EventKey) → slice_get s.arrived i ≡ Some key → time key ≡ i
  unfolding time
  time_at i key at = position_listed s.log s.arrived lists i key at

  arrival : (key : EventKey) → IsSome (event_in x.log key) → (i : ℕ) × (slice_get s.arrived i ≡ Some key)
  arrival key there = fine.listed key (subst (λ o. IsSome o) (same key) there)

  threads : (a b : EventKey) → SequencedBefore (execution x) a b → time a < time b
  threads a b before =
      let i = arrival a before.first in
      let j = arrival b before.second in
      let le = fine.in_order i.0 j.0 a b i.1 j.1 before.same_thread (let lt = before.earlier in omega (arith, lt)) in
      let apart : i.0 ≢ j.0 = λ e.
      let one : a ≡ b = same_Some a b (sym i.1 ∙ ap (slice_get s.arrived) e ∙ j.1) in
      let number : a.number ≡ b.number = ap (λ (k : EventKey). k.number) one in
      let lt = before.earlier in
      omega (arith, number, lt) in
      let first = time_at i.0 a i.1 in
      let second = time_at j.0 b j.1 in
      omega (arith, le, apart, first, second)

  reads : (r w : EventKey) (k : ℕ) → IsSome (event_in x.log r) → ReadsFrom (execution x) r k (At w) → time w < time r
  reads r w k there from =
      let e = some_of (event_in x.log r) there in
      let ws = (execution x).writers_of r in
      let w_there : IsThere x.log (At w) = subst (IsThere x.log) (get_or_from_slice_get ws k (At w) (At w) from) ((shaped.good r e.0 e.1).there k (At w) (slice_get_within ws k (At w) from)) in
      let i = arrival r there in
      let j = arrival w w_there in
      let lt = back r w k i.0 j.0 there from i.1 j.1 in
      let first = time_at i.0 r i.1 in
      let second = time_at j.0 w j.1 in
      omega (arith, lt, first, second)

  -- an execution that looks back is causal
  pub is_causal : IsCausal (execution x)
  is_causal = (time, record { threads = threads; reads = reads })
