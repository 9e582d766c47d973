-- No execution goes on from a state whose threads all end or wait.
use Rattle.std.proofs.Common.{◌≡◌, ℕ, zero, suc, ◌+◌, ◌<◌, ◌≤◌, Bool, true, false, List, length, inl, inr, Some, IsSome, IsTrue, refl, sym, ap, subst, ◌∙◌, arith}
use Rattle.std.specs.Prelude.{◌⊎◌, option_and_then, slice_get, if◌then◌else◌}
use Rattle.std.proofs.Math.Nat.{eq-or-lt_of_le}
use Rattle.std.proofs.lemmas.Bool.{cases_lt, lt-ltb}
use Rattle.std.proofs.lemmas.Option.{none-some, slice_get_within}
use Rattle.wm_access.specs.AccessWidth.{bytes_of}
use Rattle.wm_ast.specs.declared.module.Module.{Module}
use Rattle.wm_event.specs.declared.event.Event.{Event}
use Rattle.wm_event.specs.declared.event.EventId.TheVariants.{At}
use Rattle.wm_event.specs.declared.event.EventKey.{EventKey}
use Rattle.wm_event.specs.declared.log.Start.{Start}
use Rattle.wm_event.specs.declared.log.ThreadLog.{ThreadLog}
use Rattle.wm_event.specs.declared.op.OpFields.{OpFields}
use Rattle.wm_event.specs.Byte.{byte_of}
use Rattle.wm_event.specs.Event.{byte_written, reads}
use Rattle.wm_event.specs.Execution.{ReadsFrom, byte_by}
use Rattle.wm_event.specs.Log.{event_in}
use Rattle.wm_event.specs.Op.{event_made}
use Rattle.wm_event.specs.Shape.{read_width}
use Rattle.wm_event.specs.LoggedRun.{LoggedRun, execution}
use Rattle.wm_replay.specs.Continuing.{HasNextBy}
use Rattle.wm_part.specs.Cut.{is_kept}
use Rattle.wm_explore.specs.Executions.{HasTimes, IsExecutionOf}
use Rattle.wm_explore.specs.States.{GoesOn, HasArrived, IsState, count_in}
use Rattle.wm_explore.specs.Turns.{EndsIn, IsStuck, IsWaiting}
use Rattle.wm_explore.specs.declared.state.State.{State}
use Rattle.wm_explore.proofs.Beginnings.{count_at, ended_run, event_at, first_thread, item_there, kept_there, same_event, some_of, thread_of_event, whole_thread}
use Rattle.wm_explore.proofs.Readings.{byte_left_by, byte_within, writer_there}

-- the bytes that an event reads are within its width
pub within_width : (e : Event) (byte : ℕ) → byte < read_width e → byte < bytes_of e.width
within_width e byte lt = by (reads e) lt
  where
    by : (b : Bool) → byte < (if b then bytes_of e.width else 0) → byte < bytes_of e.width
    by true h = h
    by false h = absurd (omega (arith, h))

module _ (m : Module) (starts : List Start) (x : LoggedRun) (s : State) (is : IsExecutionOf m starts x) (fine : IsState starts s) (on : GoesOn x s) where
  -- the next event of thread k, if the execution has one
  abbrev pub next : ℕ → EventKey
  next k = record { thread = k; number = count_in s.log k }

  -- where a thread makes an access next, the event that the access makes is the execution's
  pub next_there : (k : ℕ) (t u : ThreadLog) (op : OpFields) → slice_get s.log k ≡ Some t → slice_get x.log k ≡ Some u → (made : HasNextBy k t u op)
      → event_in x.log (next k) ≡ Some (event_made (record { thread = k; number = length t.events }) op made.0)
  next_there k t u op at_t at_u made =
      event_at x.log (next k) u at_u ∙ ap (slice_get u.events) (count_at s.log k t at_t) ∙ made.2

  -- where it arrived
  pub arrival : (w : EventKey) → IsTrue (is_kept (count_in s.log) w) → (i : ℕ) × (slice_get s.arrived i ≡ Some w)
  arrival w kept = fine.listed w (kept_there s.log w kept)

  -- a writer that is not among the first n stands behind them
  pub behind : (n : ℕ) (w : EventKey) → (HasArrived s.arrived n w → ⊥) → (kept : IsTrue (is_kept (count_in s.log) w)) → n ≤ (arrival w kept).0
  behind n w new kept = by (cases_lt (arrival w kept).0 n)
    where
      by : ((arrival w kept).0 < n) ⊎ (n ≤ (arrival w kept).0) → n ≤ (arrival w kept).0
      by (inl lt) = absurd (new ((arrival w kept).0, lt, (arrival w kept).1))
      by (inr le) = le

  -- the byte that a kept writer left
  pub left_there : (w : EventKey) (a b : ℕ) → IsTrue (is_kept (count_in s.log) w) → byte_by (execution x) (At w) a ≡ Some b → option_and_then (λ (e : Event). byte_written e a) (event_in s.log w) ≡ Some b
  left_there w a b kept left = ap (option_and_then (λ (e : Event). byte_written e a)) (same_event s.log x.log on.beginning w kept) ∙ left

  module _ (stuck : IsStuck m s) (time : EventKey → ℕ) (times : HasTimes (execution x) time) where
    written : (k : ℕ) (t u : ThreadLog) → slice_get s.log k ≡ Some t → slice_get x.log k ≡ Some u → (waits : IsWaiting m s k t) (byte : ℕ) (w : EventKey) → ReadsFrom (execution x) (next k) byte (At w)
        → (HasArrived s.arrived waits.2.0 w → ⊥) → HasNextBy k t u waits.0 → IsTrue (is_kept (count_in s.log) w) → ⊥
    written k t u at_t at_u waits byte w from new made kept =
        let op = waits.0 in
        let e : Event = event_made (record { thread = k; number = length t.events }) op made.0 in
        let here : event_in x.log (next k) ≡ Some e = next_there k t u op at_t at_u made in
        let left = left_there w (op.address + byte) (byte_of e.read byte) kept (byte_left_by m starts x is (next k) e here byte (At w) from) in
        let f = some_of (event_in s.log w) (kept_there s.log w kept) in
        let none = waits.2.2 (arrival w kept).0 w f.0 (behind waits.2.0 w new kept) (arrival w kept).1 f.1 byte (within_width e byte (byte_within m starts x is (next k) e here byte (At w) from)) in
        none-some (byte_of e.read byte) (sym (ap (option_and_then (λ (g : Event). byte_written g (op.address + byte))) f.1 ∙ none) ∙ left)

    -- some event that wrote a byte of the next event of a thread that waits is not in the state
    lacking : (k : ℕ) (t : ThreadLog) → slice_get s.log k ≡ Some t → IsWaiting m s k t → (byte : ℕ) × (w : EventKey) × ReadsFrom (execution x) (next k) byte (At w) × (IsTrue (is_kept (count_in s.log) w) → ⊥)
    lacking k t at waits =
        let u = whole_thread s.log x.log on.beginning k t at in
        let missed = on.marks k waits.2.0 waits.2.1 in
        let made = waits.1 u.0 (ended_run m starts x s.log is on.beginning k t u.0 at u.1) in
        (missed.0, missed.1, missed.2, written k t u.0 at u.1 waits missed.0 missed.1 missed.2 missed.3 made)

    -- the next event of the thread of an event that the state lacks is there, and no later than it
    module _ (w : EventKey) (there : IsSome (event_in x.log w)) (lacks : IsTrue (is_kept (count_in s.log) w) → ⊥) where
      beyond : count_in s.log w.thread ≤ w.number
      beyond = by (cases_lt w.number (count_in s.log w.thread))
        where
          by : (w.number < count_in s.log w.thread) ⊎ (count_in s.log w.thread ≤ w.number) → count_in s.log w.thread ≤ w.number
          by (inl lt) = absurd (lacks (lt-ltb w.number (count_in s.log w.thread) lt))
          by (inr le) = le

      next_is_there : IsSome (event_in x.log (next w.thread))
      next_is_there =
          let e = some_of (event_in x.log w) there in
          let u = thread_of_event x.log w e.0 e.1 in
          let lt = slice_get_within u.0.events w.number e.0 (sym (event_at x.log w u.0 u.1) ∙ e.1) in
          let le = beyond in
          subst (λ o. IsSome o) (sym (event_at x.log (next w.thread) u.0 u.1)) (item_there u.0.events (count_in s.log w.thread) (omega (arith, lt, le)))

      no_later : time (next w.thread) ≤ time w
      no_later = by (eq-or-lt_of_le beyond)
        where
          by : (count_in s.log w.thread ≡ w.number) ⊎ (count_in s.log w.thread < w.number) → time (next w.thread) ≤ time w
          by (inl same) = let one : time (next w.thread) ≡ time w = ap (λ n. time (record { thread = w.thread; number = n })) same in omega (arith, one)
          by (inr before) =
              let earlier = times.threads (next w.thread) w (record { first = next_is_there; second = there; same_thread = refl; earlier = before }) in omega (arith, earlier)

    -- no thread has a next event
    no_next : (fuel k : ℕ) → time (next k) < fuel → IsSome (event_in x.log (next k)) → ⊥
    no_next zero k lt there = omega (arith, lt)
    no_next (suc fuel) k lt there =
        let e = some_of (event_in x.log (next k)) there in
        let u = thread_of_event x.log (next k) e.0 e.1 in
        let t = first_thread s.log x.log on.beginning k u.0 u.1 in
        by (λ j. no_next fuel j) t.0 u.0 t.1 u.1 e.0 e.1 (stuck.each k t.0 t.1)
      where
        by : ((j : ℕ) → time (next j) < fuel → IsSome (event_in x.log (next j)) → ⊥) → (t u : ThreadLog) → slice_get s.log k ≡ Some t → slice_get x.log k ≡ Some u → (e : Event) → event_in x.log (next k) ≡ Some e → EndsIn m k t ⊎ IsWaiting m s k t → ⊥
        by none t u at_t at_u e is_e (inl ends) =
            let same = (ends.1 u (ended_run m starts x s.log is on.beginning k t u at_t at_u)).0 in
            let lt = slice_get_within u.events (count_in s.log k) e (sym (event_at x.log (next k) u at_u) ∙ is_e) in
            let count : length u.events ≡ count_in s.log k = ap length same ∙ sym (count_at s.log k t at_t) in
            omega (arith, lt, count)
        by none t u at_t at_u e is_e (inr waits) =
            let l = lacking k t at_t waits in
            let w_there = writer_there m starts x is (next k) e is_e l.0 (At l.1) l.2 in
            let earlier = times.reads (next k) l.1 l.0 there l.2 in
            let later = no_later l.1 w_there l.3 in
            none l.1.thread (omega (arith, lt, earlier, later)) (next_is_there l.1 w_there l.3)

    pub never_stuck : ⊥
    never_stuck =
        let k = stuck.some.0 in
        let t = stuck.some.1 in
        let at = stuck.some.2 in
        let waits = stuck.some.3 in
        let u = whole_thread s.log x.log on.beginning k t at in
        let made = waits.1 u.0 (ended_run m starts x s.log is on.beginning k t u.0 at u.1) in
        let here = next_there k t u.0 waits.0 at u.1 made in
        no_next (suc (time (next k))) k (omega arith) (subst (λ o. IsSome o) (sym here) refl)
