-- What the threads of a state do next.
use Rattle.std.proofs.Common.{◌≡◌, ℕ, [], ◌∷◌, ◌++◌, List, inl, inr, length, Some, sym, ap, subst, ◌∙◌}
use Rattle.std.specs.Prelude.{◌⊎◌, slice_get, Err, Result}
use Rattle.std.proofs.lemmas.Option.{none-some, same_Some}
use Rattle.wm_ast.specs.declared.module.Module.{Module}
use Rattle.wm_event.specs.declared.log.ThreadLog.{ThreadLog}
use Rattle.wm_machine.specs.declared.fault.StartFault.{StartFault}
use Rattle.wm_machine.specs.Run.{run_from}
use Rattle.wm_machine.specs.Term.{Config}
use Rattle.wm_replay.specs.Continuing.{ContinuesSo}
use Rattle.wm_replay.specs.Replay.{reads_of, start_of}
use Rattle.wm_replay.specs.declared.continuing.Next.{Next}
use Rattle.wm_explore.proofs.Lists.{at_pushed}

-- what is pushed is what the next thread does
pub nexts_more : (m : Module) (log : List ThreadLog) (nexts : List Next) (n : ℕ) (t : ThreadLog) (next : Next) → length nexts ≡ n → slice_get log n ≡ Some t → ContinuesSo m n t next
    → ((k : ℕ) (u : ThreadLog) (x : Next) → slice_get log k ≡ Some u → slice_get nexts k ≡ Some x → ContinuesSo m k u x)
    → (k : ℕ) (u : ThreadLog) (x : Next) → slice_get log k ≡ Some u → slice_get (nexts ++ next ∷ []) k ≡ Some x → ContinuesSo m k u x
nexts_more m log nexts n t next count is now before k u x at_log at = by (at_pushed nexts next k x at)
  where
    by : ((k ≡ length nexts) × (x ≡ next)) ⊎ (slice_get nexts k ≡ Some x) → ContinuesSo m k u x
    by (inr at) = before k u x at_log at
    by (inl last) =
        let number : k ≡ n = last.0 ∙ count in
        let thread : t ≡ u = same_Some t u (sym is ∙ ap (slice_get log) (sym number) ∙ at_log) in
        subst (λ y. ContinuesSo m k u y) (sym last.1) (subst (λ y. ContinuesSo m k y next) thread (subst (λ i. ContinuesSo m i t next) (sym number) now))

-- a thread that doesn't start has no run
pub unstarted : (m : Module) (k : ℕ) (t : ThreadLog) (fault : StartFault) (next : Next) → start_of m t ≡ Err fault → ContinuesSo m k t next
unstarted m k t fault next refused u is =
    let start : start_of m u ≡ Err fault = ap (λ (s : _). start_of m (record { start = s; end = u.end; steps = u.steps; events = u.events })) is.start ∙ refused in
    absurd (none-some (record { events = u.events; end = u.end }) (subst (λ (r : Result Config StartFault). run_from m k r (reads_of u.events) u.steps ≡ Some (record { events = u.events; end = u.end })) start is.is_run))
