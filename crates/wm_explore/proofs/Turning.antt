-- What is added next to a state, from what its threads do next.
use Rattle.std.proofs.Common.{◌≡◌, ℕ, ◌<◌, ◌≤◌, Bool, true, false, nat_lt, List, [], ◌∷◌, zero, suc, length, inl, inr, Some, None, refl, sym, ap, subst, ◌∙◌, arith}
use Rattle.std.specs.Prelude.{◌≢◌, ◌⊎◌, option_and_then, slice_get, if◌then◌else◌}
use Rattle.std.proofs.lemmas.Bool.{ltb-false, ltb-true}
use Rattle.std.proofs.lemmas.Option.{none-some, same_Some, slice_get_within}
use Rattle.wm_ast.specs.declared.module.Module.{Module}
use Rattle.wm_event.specs.declared.log.End.{End}
use Rattle.wm_event.specs.declared.log.ThreadLog.{ThreadLog}
use Rattle.wm_event.specs.declared.op.OpFields.{OpFields}
use Rattle.wm_explore.specs.declared.bound.Bound.{Bound}
use Rattle.wm_explore.specs.declared.bound.Bound.TheVariants.{Steps, Events}
use Rattle.wm_explore.specs.declared.state.State.{State}
use Rattle.wm_explore.specs.declared.turn.Turn.{Turn}
use Rattle.wm_explore.specs.Turns.{AreNexts, EachEnds, EachEndsIn, EndsIn, FindsBound, FindsRead, FindsWrite, IsAtBound, IsStuck, IsTurn, IsWaiting, MakesNext, OfThread, at_events, bound_at}
use Rattle.wm_replay.specs.Continuing.{ContinuesSo}
use Rattle.wm_replay.specs.declared.continuing.Next.{Next}
use Rattle.wm_replay.specs.declared.continuing.Next.TheVariants.{Ends, Access, Unknown}

-- an item at a place within a list
pub item_within : {X : Type 0} (xs : List X) (i : ℕ) → i < length xs → (x : X) × (slice_get xs i ≡ Some x)
item_within [] i lt = absurd (omega (arith, lt))
item_within (x ∷ xs) zero lt = (x, refl)
item_within (x ∷ xs) (suc i) lt = item_within xs i (omega (arith, lt))

module _ (m : Module) (log : List ThreadLog) (nexts : List Next) (are : AreNexts m log nexts) where
  thread_of : (k : ℕ) (next : Next) → slice_get nexts k ≡ Some next → (t : ThreadLog) × (slice_get log k ≡ Some t)
  thread_of k next is = let lt = slice_get_within nexts k next is in let count = are.count in item_within log k (omega (arith, lt, count))

  next_of : (k : ℕ) (t : ThreadLog) → slice_get log k ≡ Some t → (next : Next) × (slice_get nexts k ≡ Some next)
  next_of k t is = let lt = slice_get_within log k t is in let count = are.count in item_within nexts k (omega (arith, lt, count))

  -- a thread that asks for an access, as far as its events go
  bounded_at : (k : ℕ) (op : OpFields) (events : ℕ) (bound : Bound) (t : ThreadLog) → at_events k events t ≡ Some bound → (events ≤ length t.events) × (bound ≡ Events k)
  bounded_at k op events bound t is = by (nat_lt (length t.events) events) refl is
    where
      by : (b : Bool) → nat_lt (length t.events) events ≡ b → (if b then None else Some (Events k)) ≡ Some bound → (events ≤ length t.events) × (bound ≡ Events k)
      by true _ h = absurd (none-some bound h)
      by false not h = (ltb-false (length t.events) events not, sym (same_Some (Events k) bound h))

  few_at : (k : ℕ) (events : ℕ) (t : ThreadLog) → at_events k events t ≡ None → length t.events < events
  few_at k events t is = by (nat_lt (length t.events) events) refl is
    where
      by : (b : Bool) → nat_lt (length t.events) events ≡ b → (if b then None else Some (Events k)) ≡ None → length t.events < events
      by true few _ = ltb-true (length t.events) events few
      by false _ h = absurd (none-some (Events k) (sym h))

  pub bounded : (events : ℕ) (bound : Bound) → FindsBound log nexts events (Some bound) → IsAtBound m events log × OfThread bound
  bounded events bound (k, next, is, at) = by next is at
    where
      by : (next : Next) → slice_get nexts k ≡ Some next → bound_at log k next events ≡ Some bound → IsAtBound m events log × OfThread bound
      by (Ends end) is at = absurd (none-some bound at)
      by Unknown is at =
          let t = thread_of k Unknown is in (
            record { number = k; thread = t.0; is_thread = t.1; at = inl (are.each k t.0 Unknown t.1 is) },
            (k, inl (sym (same_Some (Steps k) bound at))),
          )
      by (Access op) is at =
          let t = thread_of k (Access op) is in
          let here = bounded_at k op events bound t.0 (ap (option_and_then (at_events k events)) (sym t.1) ∙ at) in (
            record { number = k; thread = t.0; is_thread = t.1; at = inr (op, are.each k t.0 (Access op) t.1 is, here.0) },
            (k, inr here.1),
          )

  pub makes_next : (events k : ℕ) (op : OpFields) → FindsBound log nexts events None → slice_get nexts k ≡ Some (Access op) → MakesNext m events log k op
  makes_next events k op none is =
      let t = thread_of k (Access op) is in record {
        thread = t.0;
        is_thread = t.1;
        next = are.each k t.0 (Access op) t.1 is;
        few = few_at k events t.0 (ap (option_and_then (at_events k events)) (sym t.1) ∙ none k (Access op) is);
      }

  pub each_ends_in : EachEnds nexts true → EachEndsIn m log
  each_ends_in ends k t is =
      let next = next_of k t is in
      let end = ends k next.0 next.1 in
      (end.0, subst (λ n. ContinuesSo m k t n) end.1 (are.each k t next.0 is next.1))

  module _ (s : State) (same : s.log ≡ log) (events : ℕ) (no_bound : FindsBound log nexts events None) (no_write : FindsWrite nexts None) (no_read : FindsRead s nexts None) where
    waits : (k : ℕ) (t : ThreadLog) (next : Next) → slice_get log k ≡ Some t → slice_get nexts k ≡ Some next → ((end : End) → next ≢ Ends end) → IsWaiting m s k t
    waits k t (Ends end) at is not = absurd (not end refl)
    waits k t Unknown at is not = absurd (none-some (Steps k) (sym (no_bound k Unknown is)))
    waits k t (Access op) at is not = (op, are.each k t (Access op) at is, no_read k op is (no_write k op is))

    ends_or_waits : (k : ℕ) (t : ThreadLog) (next : Next) → slice_get log k ≡ Some t → slice_get nexts k ≡ Some next → EndsIn m k t ⊎ IsWaiting m s k t
    ends_or_waits k t (Ends end) at is = inl (end, are.each k t (Ends end) at is)
    ends_or_waits k t Unknown at is = inr (waits k t Unknown at is (λ end e. cc e))
    ends_or_waits k t (Access op) at is = inr (waits k t (Access op) at is (λ end e. cc e))

    pub stuck : EachEnds nexts false → IsStuck m s
    stuck (k, next, is, not) =
        let t = thread_of k next is in record {
          each = λ i u at. let at_log : slice_get log i ≡ Some u = ap (λ ts. slice_get ts i) (sym same) ∙ at in let n = next_of i u at_log in ends_or_waits i u n.0 at_log n.1;
          some = (k, t.0, ap (λ ts. slice_get ts k) same ∙ t.1, waits k t.0 next t.1 is not);
        }

  -- the event of a thread that only writes, and of one that reads
  pub writes : (s : State) → s.log ≡ log → (events : ℕ) (turn : Turn) → FindsBound log nexts events None → FindsWrite nexts (Some turn) → IsTurn m events s turn
  writes s same events turn none (k, op, is, at, finds) =
      subst (IsTurn m events s) (sym is) (subst (λ ts. MakesNext m events ts k op) (sym same) (makes_next events k op none at), finds)

  pub reads : (s : State) → s.log ≡ log → (events : ℕ) (turn : Turn) → FindsBound log nexts events None → FindsRead s nexts (Some turn) → IsTurn m events s turn
  reads s same events turn none (k, op, is, at, finds) =
      subst (IsTurn m events s) (sym is) (subst (λ ts. MakesNext m events ts k op) (sym same) (makes_next events k op none at), finds)
