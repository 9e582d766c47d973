-- Threads that rest while one reads.
use Rattle.std.proofs.Common.{◌≡◌, ℕ, ◌<◌, ◌≤◌, inl, inr, List, length, Option, Some, sym, ap, subst, ◌∙◌, arith}
use Rattle.std.specs.Prelude.{◌≢◌, ◌⊎◌, slice_get, slice_set}
use Rattle.std.proofs.lemmas.Bool.{cases_eq}
use Rattle.std.proofs.lemmas.Option.{same_Some, slice_get_within}
use Rattle.wm_ast.specs.declared.module.Module.{Module}
use Rattle.wm_event.specs.declared.log.ThreadLog.{ThreadLog}
use Rattle.wm_event.specs.declared.op.OpFields.{OpFields}
use Rattle.wm_explore.specs.States.{IsMarked}
use Rattle.wm_explore.specs.Turns.{AreNexts, EndsIn, IsStuck, IsWaiting, MakesNext, OthersRest, Rests}
use Rattle.wm_explore.specs.declared.state.State.{State}
use Rattle.wm_explore.proofs.Lists.{at_set, set_here, set_other}
use Rattle.wm_explore.proofs.Turning.{item_within}
use Rattle.wm_replay.specs.Continuing.{ContinuesSo}
use Rattle.wm_replay.specs.declared.continuing.Next.{Next}
use Rattle.wm_replay.specs.declared.continuing.Next.TheVariants.{Access}

-- ---- marks

-- one is put there
pub marked_set : (marks : List (Option ℕ)) (k : ℕ) (mark : Option ℕ) → IsMarked k mark marks (slice_set marks k mark)
marked_set marks k mark j m at = by (cases_eq j k) (at_set marks k mark j m at)
  where
    by : (j ≡ k) ⊎ (j ≢ k) → ((j ≡ k) × (m ≡ mark)) ⊎ (slice_get marks j ≡ Some m) → ((j ≡ k) × (m ≡ mark)) ⊎ ((j ≢ k) × (slice_get marks j ≡ Some m))
    by same (inl now) = inl now
    by (inr other) (inr old) = inr (other, old)
    by (inl same) (inr old) =
        let within : j < length marks = slice_get_within marks j m old in
        let here = set_here marks k mark (omega (arith, within, same)) in
        inl (same, same_Some m mark (sym at ∙ ap (slice_get (slice_set marks k mark)) same ∙ here))

-- there is no such place
pub marked_nowhere : (marks : List (Option ℕ)) (k : ℕ) (mark : Option ℕ) → length marks ≤ k → IsMarked k mark marks marks
marked_nowhere marks k mark past j m at =
    let within : j < length marks = slice_get_within marks j m at in
    inr ((λ same. absurd (omega (arith, within, past, same))), at)

-- ---- all would wait

-- the state in which thread k waits
abbrev pub marked : State → ℕ → State
marked s k = record { log = s.log; arrived = s.arrived; marks = slice_set s.marks k (Some (length s.arrived)); pasts = s.pasts; known = s.known; hint = s.hint }

module _ (m : Module) (events : ℕ) (s : State) (nexts : List Next) (k : ℕ) (op : OpFields) (are : AreNexts m s.log nexts) (next : MakesNext m events s.log k op) (rest : OthersRest s nexts k) where
  this_waits : (t : ThreadLog) → slice_get s.log k ≡ Some t → IsWaiting m (marked s k) k t
  this_waits t at = (
    op,
    subst (λ u. ContinuesSo m k u (Access op)) (same_Some next.thread t (sym next.is_thread ∙ at)) next.next,
    (
      length s.arrived,
      set_here s.marks k (Some (length s.arrived)) rest.place,
      λ i key e past there at_e. (let within = slice_get_within s.arrived i key there in absurd (omega (arith, within, past))),
    ),
  )

  other_rests : (i : ℕ) (t : ThreadLog) (after : Next) → i ≢ k → ContinuesSo m i t after → Rests s i after → EndsIn m i t ⊎ IsWaiting m (marked s k) i t
  other_rests i t after not so (inl (end, is)) = inl (end, subst (λ n. ContinuesSo m i t n) is so)
  other_rests i t after not so (inr (o, is, (n, mark, none))) =
      inr (o, subst (λ x. ContinuesSo m i t x) is so, (n, set_other s.marks k (Some (length s.arrived)) i not ∙ mark, none))

  pub stuck_when_marked : IsStuck m (marked s k)
  stuck_when_marked = record {
    each = λ i t at. by i t at (cases_eq i k);
    some = (k, next.thread, next.is_thread, this_waits next.thread next.is_thread);
  }
    where
      by : (i : ℕ) (t : ThreadLog) → slice_get s.log i ≡ Some t → (i ≡ k) ⊎ (i ≢ k) → EndsIn m i t ⊎ IsWaiting m (marked s k) i t
      by i t at (inl same) = inr (subst (λ j. IsWaiting m (marked s k) j t) (sym same) (this_waits t (ap (slice_get s.log) (sym same) ∙ at)))
      by i t at (inr other) =
          let lt = slice_get_within s.log i t at in
          let count = are.count in
          let after = item_within nexts i (omega (arith, lt, count)) in
          other_rests i t after.0 other (are.each i t after.0 at after.1) (rest.others i after.0 other after.1)
