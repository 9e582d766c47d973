-- A state that is extended by an event that only writes, is at a bound, or waits.
use Rattle.std.proofs.Common.{◌≡◌, ℕ, ◌≤◌, false, List, [], ◌∷◌, ◌++◌, length, inl, inr, Some, refl, sym, ap, subst, ◌∙◌, arith}
use Rattle.std.specs.Prelude.{◌⊎◌, slice_get, if◌then◌else◌}
use Rattle.std.proofs.lemmas.Bool.{false≢true}
use Rattle.std.proofs.lemmas.Option.{slice_get_within}
use Rattle.wm_access.specs.AccessWidth.{bytes_of}
use Rattle.wm_access.specs.declared.AccessWidth.{AccessWidth}
use Rattle.wm_ast.specs.declared.module.Module.{Module}
use Rattle.wm_event.specs.LoggedRun.{LoggedRun, execution}
use Rattle.wm_event.specs.Event.{kind_reads}
use Rattle.wm_event.specs.Execution.{ReadsFrom}
use Rattle.wm_event.specs.Op.{event_made, kind_finds, made_kind, made_read, made_written}
use Rattle.wm_event.specs.Shape.{read_width}
use Rattle.wm_event.specs.declared.event.Event.{Event}
use Rattle.wm_event.specs.declared.event.EventKey.{EventKey}
use Rattle.wm_event.specs.declared.event.EventId.TheVariants.{At}
use Rattle.wm_event.specs.declared.log.Start.{Start}
use Rattle.wm_event.specs.declared.log.ThreadLog.{ThreadLog}
use Rattle.wm_event.specs.declared.op.OpFields.{OpFields}
use Rattle.wm_event.specs.declared.op.OpKind.{OpKind}
use Rattle.wm_event.specs.declared.op.OpKind.TheVariants.{Read, Write, Rmw, CmpXchg}
use Rattle.wm_replay.specs.Continuing.{ContinuesSo, HasNextBy}
use Rattle.wm_replay.specs.declared.continuing.Next.TheVariants.{Access, Unknown}
use Rattle.wm_explore.specs.Bounds.{Excuses}
use Rattle.wm_explore.specs.Executions.{IsExecutionOf, IsWithin}
use Rattle.wm_explore.specs.Search.{Extends, IsProgress}
use Rattle.wm_explore.specs.Known.{IsNoted}
use Rattle.wm_explore.specs.States.{GoesOn, IsChild, IsState}
use Rattle.wm_explore.specs.Turns.{IsAtBound, IsStuck, MakesNext, OfThread}
use Rattle.wm_explore.specs.declared.bound.Bound.{Bound}
use Rattle.wm_explore.specs.declared.search.Progress.{Progress}
use Rattle.wm_explore.specs.declared.state.State.{State}
use Rattle.wm_explore.proofs.Beginnings.{count_at, ended_run, whole_thread}
use Rattle.wm_explore.proofs.Children.{HasWriters, goes_on, is_state}
use Rattle.wm_explore.proofs.Progressing.{extends, same_more}
use Rattle.wm_explore.proofs.Readings.{byte_within}
use Rattle.wm_explore.proofs.ReadsOf.{pushed_left, pushed_more, pushed_progress}
use Rattle.wm_explore.proofs.Waiting.{never_stuck, next, next_there}

-- ---- an access that only writes

write_kind : (kind : OpKind) (r : ℕ) → kind_finds kind ≡ false → made_kind kind r ≡ made_kind kind 0
write_kind Read r h = absurd (false≢true (sym h))
write_kind (Write v) r h = refl
write_kind (Rmw op v) r h = absurd (false≢true (sym h))
write_kind (CmpXchg expected new) r h = absurd (false≢true (sym h))

write_read : (kind : OpKind) (r : ℕ) → kind_finds kind ≡ false → made_read kind r ≡ made_read kind 0
write_read Read r h = absurd (false≢true (sym h))
write_read (Write v) r h = refl
write_read (Rmw op v) r h = absurd (false≢true (sym h))
write_read (CmpXchg expected new) r h = absurd (false≢true (sym h))

write_written : (w : AccessWidth) (kind : OpKind) (r : ℕ) → kind_finds kind ≡ false → made_written w kind r ≡ made_written w kind 0
write_written w Read r h = absurd (false≢true (sym h))
write_written w (Write v) r h = refl
write_written w (Rmw op v) r h = absurd (false≢true (sym h))
write_written w (CmpXchg expected new) r h = absurd (false≢true (sym h))

-- its event doesn't depend on a value read
write_event : (key : EventKey) (op : OpFields) (r : ℕ) → kind_finds op.kind ≡ false → event_made key op r ≡ event_made key op 0
write_event key op r h =
    ap (λ k. record { thread = key.thread; number = key.number; kind = k; order = op.order; address = op.address; width = op.width; read = made_read op.kind r; written = made_written op.width op.kind r }) (write_kind op.kind r h)
    ∙ ap (λ v. record { thread = key.thread; number = key.number; kind = made_kind op.kind 0; order = op.order; address = op.address; width = op.width; read = v; written = made_written op.width op.kind r }) (write_read op.kind r h)
    ∙ ap (λ v. record { thread = key.thread; number = key.number; kind = made_kind op.kind 0; order = op.order; address = op.address; width = op.width; read = made_read op.kind 0; written = v }) (write_written op.width op.kind r h)

reads_nothing : (kind : OpKind) → kind_finds kind ≡ false → kind_reads (made_kind kind 0) ≡ false
reads_nothing Read h = absurd (false≢true (sym h))
reads_nothing (Write v) h = refl
reads_nothing (Rmw op v) h = absurd (false≢true (sym h))
reads_nothing (CmpXchg expected new) h = absurd (false≢true (sym h))

module _ (m : Module) (starts : List Start) (events : ℕ) (s : State) (fine : IsState starts s) (p : Progress) (progress : IsProgress m starts p) where
  module _ (k : ℕ) (op : OpFields) (makes : MakesNext m events s.log k op) (finds : kind_finds op.kind ≡ false) (q : Progress) (same_finished : q.finished ≡ p.finished) (same_met : q.met ≡ p.met) (child : State)
      (pushed : q.work.items ≡ p.work.items ++ child ∷ []) where
    abbrev e : Event
    e = event_made (record { thread = k; number = length makes.thread.events }) op 0

    pub writes : IsChild k e s child → IsNoted m child → Extends m starts events s p q
    writes is_child knows = extends m starts events s p q
        (pushed_progress m starts events p q same_finished same_met child pushed progress (is_state s k makes.thread makes.is_thread e refl starts fine child is_child) knows)
        (pushed_more m starts events p q same_finished same_met child pushed)
        (λ x is causal on. pushed_left m starts events p q same_finished same_met child pushed x (goes x is on))
      where
        goes : (x : LoggedRun) → IsExecutionOf m starts x → GoesOn x s → GoesOn x child
        goes x is on =
            let u = whole_thread s.log x.log on.beginning k makes.thread makes.is_thread in
            let made : HasNextBy k makes.thread u.0 op = makes.next u.0 (ended_run m starts x s.log is on.beginning k makes.thread u.0 makes.is_thread u.1) in
            let same = write_event (record { thread = k; number = length makes.thread.events }) op made.0 finds in
            let here = next_there m starts x s is fine on k makes.thread u.0 op makes.is_thread u.1 made in
            let width : read_width e ≡ 0 = ap (λ b. if b then bytes_of op.width else 0) (reads_nothing op.kind finds) in
            let has : HasWriters x s on k makes.thread makes.is_thread = λ byte w from.
            let from_next = subst (λ n. ReadsFrom (execution x) (record { thread = k; number = n }) byte (At w)) (sym (count_at s.log k makes.thread makes.is_thread)) from in
            let lt = byte_within m starts x is (next m starts x s is fine on k) e (here ∙ ap Some same) byte (At w) from_next in
            absurd (omega (arith, lt, width)) in
            goes_on x s on k makes.thread makes.is_thread u.0 u.1 e (made.2 ∙ ap Some same) refl starts fine child is_child has

  -- ---- a thread at a bound

  excuse_of : (bound : Bound) → OfThread bound → (log : List ThreadLog) → (IsWithin events log → ⊥) → Excuses events bound log
  excuse_of bound (k, inl is) log not = subst (λ b. Excuses events b log) (sym is) not
  excuse_of bound (k, inr is) log not = subst (λ b. Excuses events b log) (sym is) not

  pub at_bound : (bound : Bound) → OfThread bound → IsAtBound m events s.log → (x : LoggedRun) → IsExecutionOf m starts x → GoesOn x s → Excuses events bound x.log
  at_bound bound of at x is on = excuse_of bound of x.log (not_within at.at)
    where
      u : (v : ThreadLog) × (slice_get x.log at.number ≡ Some v)
      u = whole_thread s.log x.log on.beginning at.number at.thread at.is_thread

      not_within : ContinuesSo m at.number at.thread Unknown ⊎ ((op : OpFields) × ContinuesSo m at.number at.thread (Access op) × (events ≤ length at.thread.events)) → IsWithin events x.log → ⊥
      not_within (inl unknown) within =
          let long = unknown u.0 (ended_run m starts x s.log is on.beginning at.number at.thread u.0 at.is_thread u.1) in
          let short = (within at.number u.0 u.1).1 in
          omega (arith, long, short)
      not_within (inr more) within =
          let made = more.1 u.0 (ended_run m starts x s.log is on.beginning at.number at.thread u.0 at.is_thread u.1) in
          let lt = slice_get_within u.0.events (length at.thread.events) _ made.2 in
          let few = (within at.number u.0 u.1).0 in
          let many = more.2 in
          omega (arith, lt, few, many)

  -- ---- threads that wait

  pub waits : IsStuck m s → Extends m starts events s p p
  waits stuck = extends m starts events s p p progress (same_more events p) (λ x is causal on. absurd (never_stuck m starts x s is fine on stuck causal.0 causal.1))
