-- What a state has of an execution that goes on from it.
use Rattle.std.proofs.Common.{◌≡◌, ℕ, zero, suc, ◌<◌, List, [], ◌∷◌, length, take, Option, Some, None, IsSome, IsTrue, refl, sym, ap, subst, ◌∙◌, arith}
use Rattle.std.specs.Prelude.{option_and_then, slice_get}
use Rattle.std.specs.Option.{option_map_or}
use Rattle.std.proofs.lemmas.Bool.{lt-ltb, ltb-true}
use Rattle.std.proofs.lemmas.Option.{none-some, slice_get_within}
use Rattle.wm_ast.specs.declared.module.Module.{Module}
use Rattle.wm_event.specs.declared.event.Event.{Event}
use Rattle.wm_event.specs.declared.event.EventKey.{EventKey}
use Rattle.wm_event.specs.declared.log.Start.{Start}
use Rattle.wm_event.specs.declared.log.ThreadLog.{ThreadLog}
use Rattle.wm_event.specs.Log.{event_in}
use Rattle.wm_event.specs.LoggedRun.{LoggedRun}
use Rattle.wm_part.specs.Cut.{is_kept}
use Rattle.wm_replay.specs.Continuing.{IsEndedRun}
use Rattle.wm_explore.specs.Executions.{IsExecutionOf}
use Rattle.wm_explore.specs.States.{IsBeginning, count_in}
use Rattle.wm_explore.proofs.Turning.{item_within}

pub count_at : (log : List ThreadLog) (k : ℕ) (t : ThreadLog) → slice_get log k ≡ Some t → count_in log k ≡ length t.events
count_at log k t is = ap (λ o. option_map_or (λ (t : ThreadLog). length t.events) o 0) is

pub event_at : (log : List ThreadLog) (key : EventKey) (t : ThreadLog) → slice_get log key.thread ≡ Some t → event_in log key ≡ slice_get t.events key.number
event_at log key t is = ap (option_and_then (λ (t : ThreadLog). slice_get t.events key.number)) is

-- the thread of an event that a log has
thread_found : (log : List ThreadLog) (key : EventKey) (o : Option ThreadLog) → slice_get log key.thread ≡ o → (e : Event) → event_in log key ≡ Some e → (t : ThreadLog) × (slice_get log key.thread ≡ Some t)
thread_found log key None is e at = absurd (none-some e (sym (ap (option_and_then (λ (t : ThreadLog). slice_get t.events key.number)) is) ∙ at))
thread_found log key (Some t) is e at = (t, is)

pub thread_of_event : (log : List ThreadLog) (key : EventKey) (e : Event) → event_in log key ≡ Some e → (t : ThreadLog) × (slice_get log key.thread ≡ Some t)
thread_of_event log key e at = thread_found log key (slice_get log key.thread) refl e at

pub some_of : {X : Type 0} (o : Option X) → IsSome o → (x : X) × (o ≡ Some x)
some_of None h = absurd (cc h)
some_of (Some x) h = (x, refl)

-- the events of a log are those that it counts
pub there_kept : (log : List ThreadLog) (key : EventKey) → IsSome (event_in log key) → IsTrue (is_kept (count_in log) key)
there_kept log key there =
    let e = some_of (event_in log key) there in
    let t = thread_of_event log key e.0 e.1 in
    let within = slice_get_within t.0.events key.number e.0 (sym (event_at log key t.0 t.1) ∙ e.1) in
    lt-ltb key.number (count_in log key.thread) (subst (λ n. key.number < n) (sym (count_at log key.thread t.0 t.1)) within)

-- a thread in which an event is counted
counted_in : (log : List ThreadLog) (key : EventKey) (o : Option ThreadLog) → slice_get log key.thread ≡ o → key.number < count_in log key.thread → (t : ThreadLog) × (slice_get log key.thread ≡ Some t)
counted_in log key None is lt = absurd (let none : count_in log key.thread ≡ 0 = ap (λ o. option_map_or (λ (t : ThreadLog). length t.events) o 0) is in omega (arith, lt, none))
counted_in log key (Some t) is lt = (t, is)

pub kept_thread : (log : List ThreadLog) (key : EventKey) → IsTrue (is_kept (count_in log) key) → (t : ThreadLog) × (slice_get log key.thread ≡ Some t) × (key.number < length t.events)
kept_thread log key kept =
    let lt = ltb-true key.number (count_in log key.thread) kept in
    let t = counted_in log key (slice_get log key.thread) refl lt in
    (t.0, t.1, subst (λ n. key.number < n) (count_at log key.thread t.0 t.1) lt)

pub item_there : {X : Type 0} (xs : List X) (i : ℕ) → i < length xs → IsSome (slice_get xs i)
item_there [] i lt = absurd (omega (arith, lt))
item_there (x ∷ xs) zero lt = refl
item_there (x ∷ xs) (suc i) lt = item_there xs i (omega (arith, lt))

pub kept_there : (log : List ThreadLog) (key : EventKey) → IsTrue (is_kept (count_in log) key) → IsSome (event_in log key)
kept_there log key kept =
    let t = kept_thread log key kept in subst (λ o. IsSome o) (sym (event_at log key t.0 t.1)) (item_there t.0.events key.number t.2)

before_cut : (es : List Event) (n i : ℕ) → i < n → slice_get (take n es) i ≡ slice_get es i
before_cut es zero i l = absurd (omega (arith, l))
before_cut [] (suc n) i l = refl
before_cut (e ∷ es) (suc n) zero l = refl
before_cut (e ∷ es) (suc n) (suc i) l = before_cut es n i (omega (arith, l))

module _ (log whole : List ThreadLog) (is : IsBeginning log whole) where
  pub whole_thread : (k : ℕ) (t : ThreadLog) → slice_get log k ≡ Some t → (u : ThreadLog) × (slice_get whole k ≡ Some u)
  whole_thread k t at = let lt = slice_get_within log k t at in let count = is.count in item_within whole k (omega (arith, lt, count))

  pub first_thread : (k : ℕ) (u : ThreadLog) → slice_get whole k ≡ Some u → (t : ThreadLog) × (slice_get log k ≡ Some t)
  first_thread k u at = let lt = slice_get_within whole k u at in let count = is.count in item_within log k (omega (arith, lt, count))

  -- an event that the beginning counts is the same in both
  pub same_event : (key : EventKey) → IsTrue (is_kept (count_in log) key) → event_in log key ≡ event_in whole key
  same_event key kept =
      let t = kept_thread log key kept in
      let u = whole_thread key.thread t.0 t.1 in
      event_at log key t.0 t.1 ∙ ap (λ es. slice_get es key.number) (is.events key.thread t.0 u.0 t.1 u.1) ∙ before_cut u.0.events (length t.0.events) key.number t.2 ∙ sym (event_at whole key u.0 u.1)

-- what a thread of the state has is the beginning of an ended run
pub ended_run : (m : Module) (starts : List Start) (x : LoggedRun) (log : List ThreadLog) → IsExecutionOf m starts x → IsBeginning log x.log → (k : ℕ) (t u : ThreadLog)
    → slice_get log k ≡ Some t → slice_get x.log k ≡ Some u → IsEndedRun m k t u
ended_run m starts x log is on k t u at_t at_u = record {
  start = on.starts k t u at_t at_u;
  events = on.events k t u at_t at_u;
  is_run = is.runs k u at_u;
  ended = is.finished k u at_u;
}
