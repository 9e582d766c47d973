-- Logs with the same events: starts, ends and steps play no part in the rules.
use Rattle.std.proofs.Common.{◌≡◌, ℕ, suc, ◌+◌, ◌≤◌, List, [], ◌∷◌, get_or, length, map, Option, Some, None, IsSome, refl, sym, ap, subst, ◌∙◌, arith}
use Rattle.std.specs.Prelude.{option_and_then, slice_get, sum_by, All}
use Rattle.std.specs.Option.{option_map}
use Rattle.std.proofs.lemmas.List.Sums.{sum_by-cons}
use Rattle.std.proofs.lemmas.Option.{slice_get-map}
use Rattle.wm_event.specs.declared.event.Event.{Event}
use Rattle.wm_event.specs.declared.event.EventId.{EventId}
use Rattle.wm_event.specs.declared.event.EventId.TheVariants.{Init, At}
use Rattle.wm_event.specs.declared.event.EventKey.{EventKey}
use Rattle.wm_event.specs.declared.log.ThreadLog.{ThreadLog}
use Rattle.wm_event.specs.declared.witness.Witness.{Witness}
use Rattle.wm_event.specs.Execution.{Execution}
use Rattle.wm_event.specs.Log.{event_in}
use Rattle.wm_event.specs.LoggedRun.{execution}
use Rattle.wm_event.specs.Rules.{IsValid}
use Rattle.wm_event.specs.Shape.{IsThere, IsWellShaped, event_count, event_counts}
use Rattle.wm_explore.specs.Judging.{IsAllowedWith, run_with}

-- the events of each thread
abbrev pub events_of : List ThreadLog → List (List Event)
events_of log = map (λ t. t.events) log

-- of two logs whose threads have the same events
pub each_alike : (us cs : List ThreadLog) → length us ≡ length cs → ((k : ℕ) (u c : ThreadLog) → slice_get us k ≡ Some u → slice_get cs k ≡ Some c → u.events ≡ c.events) → events_of us ≡ events_of cs
each_alike [] [] count each = refl
each_alike [] (c ∷ cs) count each = absurd (omega (arith, count))
each_alike (u ∷ us) [] count each = absurd (omega (arith, count))
each_alike (u ∷ us) (c ∷ cs) count each =
    ap (λ (es : List Event). es ∷ events_of us) (each 0 u c refl refl) ∙ ap (λ (ess : List (List Event)). c.events ∷ ess) (each_alike us cs (omega (arith, count)) (λ k. each (suc k)))

event_by : (log : List ThreadLog) (key : EventKey) → event_in log key ≡ option_and_then (λ es. slice_get es key.number) (slice_get (events_of log) key.thread)
event_by log key = by (slice_get log key.thread) refl
  where
    by : (o : Option ThreadLog) → slice_get log key.thread ≡ o → event_in log key ≡ option_and_then (λ es. slice_get es key.number) (slice_get (events_of log) key.thread)
    by o is =
        ap (option_and_then (λ (t : ThreadLog). slice_get t.events key.number)) is
        ∙ both o
        ∙ sym (ap (option_and_then (λ (es : List Event). slice_get es key.number)) (slice_get-map (λ (t : ThreadLog). t.events) log key.thread ∙ ap (option_map (λ (t : ThreadLog). t.events)) is))
      where
        both : (o : Option ThreadLog) → option_and_then (λ (t : ThreadLog). slice_get t.events key.number) o ≡ option_and_then (λ es. slice_get es key.number) (option_map (λ (t : ThreadLog). t.events) o)
        both None = refl
        both (Some t) = refl

counts_by : (log : List ThreadLog) → event_counts log ≡ map length (events_of log)
counts_by [] = refl
counts_by (t ∷ log) = ap (λ ns. length t.events ∷ ns) (counts_by log)

count_by : (log : List ThreadLog) → event_count log ≡ sum_by length (events_of log)
count_by [] = refl
count_by (t ∷ log) = sum_by-cons (λ (u : ThreadLog). length u.events) t log ∙ ap (λ n. length t.events + n) (count_by log) ∙ sym (sum_by-cons length t.events (events_of log))

module _ (a b : List ThreadLog) (same : events_of a ≡ events_of b) where
  pub same_events : (key : EventKey) → event_in a key ≡ event_in b key
  same_events key = event_by a key ∙ ap (λ ls. option_and_then (λ (es : List Event). slice_get es key.number) (slice_get ls key.thread)) same ∙ sym (event_by b key)

  there_too : (w : EventId) → IsThere a w → IsThere b w
  there_too Init h = h
  there_too (At key) h = subst (λ o. IsSome o) (same_events key) h

  all_there : (ws : List EventId) → All (IsThere a) ws → All (IsThere b) ws
  all_there ws h i w at = there_too (get_or ws i w) (h i w at)

  shaped_too : (initial : List ℕ) (w : Witness) → IsWellShaped (run_with a initial w) → IsWellShaped (run_with b initial w)
  shaped_too initial w s = record {
    keys = λ key e at. s.keys key e (same_events key ∙ at);
    few = subst (λ n. n ≤ 16384) (count_by a ∙ ap (sum_by length) same ∙ sym (count_by b)) s.few;
    counts = s.counts ∙ counts_by a ∙ ap (map length) same ∙ sym (counts_by b);
    good = λ key e at.
        let g = s.good key e (same_events key ∙ at) in
        record { in_memory = g.in_memory; fits = g.fits; count = g.count; there = all_there _ g.there };
    order = record {
      listed = λ key there. s.order.listed key (subst (λ o. IsSome o) (sym (same_events key)) there);
      events = λ n key at. subst (λ o. IsSome o) (same_events key) (s.order.events n key at);
      once = s.order.once;
    };
  }

  same_function : event_in a ≡ event_in b
  same_function = λ i key. same_events key i

  -- what holds of the one execution holds of the other
  pub holds_too : (P : Execution → Type 0) (initial : List ℕ) (w : Witness) → P (execution (run_with a initial w)) → P (execution (run_with b initial w))
  holds_too P initial w h =
      let x = execution (run_with a initial w) in
      subst (λ (f : EventKey → Option Event). P (record { event_of = f; writers_of = x.writers_of; place_of = x.place_of; initial = x.initial })) same_function h

  -- what makes one of them valid makes the other valid
  pub allowed_too : (initial : List ℕ) (w : Witness) → IsAllowedWith a initial w → IsAllowedWith b initial w
  allowed_too initial w h = (shaped_too initial w h.0, holds_too IsValid initial w h.1)
