-- What a thread does that has made the events of its log.
use Rattle.std.proofs.Common.{◌≡◌, ℕ, ◌≤◌, true, List, [], ◌∷◌, length, take, Option, None, Some, sym, ap, subst, ◌∙◌}
use Rattle.std.specs.Prelude.{IfSome, slice_get, zero, suc}
use Rattle.std.proofs.lemmas.Option.{none-some, same_Some}
use Rattle.wm_access.specs.AccessWidth.{Fits}
use Rattle.wm_ast.specs.declared.module.Module.{Module}
use Rattle.wm_event.specs.Op.{event_made}
use Rattle.wm_event.specs.declared.log.ThreadLog.{ThreadLog}
use Rattle.wm_replay.specs.declared.continuing.Next.{Next}
use Rattle.wm_replay.specs.declared.continuing.Next.TheVariants.{Ends, Access, Unknown}
use Rattle.wm_replay.specs.Continuing.{ContinuesSo, GoesOn}
use Rattle.wm_explore.specs.Executions.{starts_of}
use Rattle.wm_explore.specs.Idle.{HasIdleTurn, IsIdle, OnlyRead, leaving_out, shortened}
use Rattle.wm_explore.specs.Moved.{IsMoved, IsMovedBy, MovesSo}
use Rattle.wm_explore.specs.declared.moved.Moved.{Moved}
use Rattle.wm_explore.specs.declared.state.State.{State}
use Rattle.wm_explore.proofs.Idling.{after_same}

-- the start of thread k
pub start_at : (log : List ThreadLog) (k : ℕ) (t : ThreadLog) → slice_get log k ≡ Some t → slice_get (starts_of log) k ≡ Some t.start
start_at [] k t is = absurd (none-some t is)
start_at (u ∷ log) zero t is = ap (λ v. Some v.start) (same_Some u t is)
start_at (u ∷ log) (suc k) t is = start_at log k t is

-- ---- threads that differ in their ends alone

module _ (m : Module) (k : ℕ) (t u : ThreadLog) (starts : u.start ≡ t.start) (events : u.events ≡ t.events) where
  goes_same : (v : ThreadLog) (next : Next) → GoesOn k t v next → GoesOn k u v next
  goes_same v (Ends end) on = (on.0 ∙ sym events, on.1, on.2)
  goes_same v (Access op) on =
      subst (λ es. (r : ℕ) × Fits op.width r × (slice_get v.events (length es) ≡ Some (event_made (record { thread = k; number = length es }) op r))) (sym events) on
  goes_same v Unknown on = on

  continues_same : (next : Next) → ContinuesSo m k t next → ContinuesSo m k u next
  continues_same next so v run = goes_same v next (so v (record {
    start = run.start ∙ starts;
    events = subst (λ es. es ≡ take (length es) v.events) events run.events;
    is_run = run.is_run;
    ended = run.ended;
  }))

  idle_same : (i n : ℕ) → IsIdle m k t i n → IsIdle m k u i n
  idle_same i n idle = record {
    some = idle.some;
    listed = subst (λ es. n ≤ length es) (sym events) idle.listed;
    read = subst (λ es. OnlyRead es i n) (sym events) idle.read;
    config = idle.config;
    count = idle.count;
    after = after_same m k u t idle.config idle.count (sym starts) (sym events) idle.after;
    fewer = idle.fewer;
    without = after_same m k (shortened i n idle.fewer u) (shortened i n idle.fewer t) idle.config idle.fewer (sym starts) (ap (leaving_out i n) (sym events)) idle.without;
    sooner = idle.sooner;
  }

  pub same_moved : (moved : Moved) → IsMovedBy m k t moved → IsMovedBy m k u moved
  same_moved moved by = record {
    number = by.number;
    next = continues_same moved.next by.next;
    idle = λ is. (let idle = by.idle is in (idle.0, idle.1, idle_same idle.0 idle.1 idle.2));
  }

-- ---- the thread of a state

pub is_moved : (m : Module) (s : State) (k : ℕ) (t : ThreadLog) → slice_get s.log k ≡ Some t → (moved : Moved) → IsMovedBy m k t moved → IsMoved m s moved
is_moved m s k t at moved by = record { thread = t; is_thread = ap (slice_get s.log) by.number ∙ at; moves = subst (λ j. IsMovedBy m j t moved) (sym by.number) by }

pub moves_so : (m : Module) (s : State) (k : ℕ) (t : ThreadLog) → slice_get s.log k ≡ Some t → (moved : Option Moved) → IfSome moved (IsMoved m s) → IfSome moved (MovesSo m k t)
moves_so m s k t at None is = tt
moves_so m s k t at (Some moved) is = λ same.
    subst (λ v. ContinuesSo m k v moved.next) (same_Some is.thread t (sym is.is_thread ∙ ap (slice_get s.log) same ∙ at))
    (subst (λ j. ContinuesSo m j is.thread moved.next) same is.moves.next)

pub idle_turn : (m : Module) (s : State) (moved : Option Moved) → IfSome moved (IsMoved m s) → (it : Moved) × (moved ≡ Some it) × (it.is_idle ≡ true) → HasIdleTurn m s.log
idle_turn m s moved found idle =
    let is : IsMoved m s idle.0 = subst (λ o. IfSome o (IsMoved m s)) idle.1 found in
    let turn = is.moves.idle idle.2 in
    record { number = idle.0.number; thread = is.thread; is_thread = is.is_thread; turn = turn }
