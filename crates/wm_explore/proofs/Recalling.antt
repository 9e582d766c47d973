-- What a cache still recalls.
use Rattle.std.proofs.Common.{◌≡◌, ◌≤◌, ℕ, inl, inr, length, length-take-le, List, Option, Some, take, sym, ap, subst, ◌∙◌}
use Rattle.std.specs.Prelude.{◌⊎◌, Box, slice_get, slice_set}
use Rattle.std.specs.declared.alloc.Global.{Global}
use Rattle.std.proofs.lemmas.Option.{same_Some}
use Rattle.wm_ast.specs.declared.module.Module.{Module}
use Rattle.wm_event.specs.declared.event.Event.{Event}
use Rattle.wm_event.specs.declared.log.Start.{Start}
use Rattle.wm_event.specs.declared.log.ThreadLog.{ThreadLog}
use Rattle.wm_event.specs.Limits.{max_steps}
use Rattle.wm_explore.specs.Cache.{AreRecalled, IsEntryOf, IsRecalled, RecallsOf, WasRun}
use Rattle.wm_explore.specs.declared.cache.Cache.{Cache}
use Rattle.wm_explore.specs.declared.cache.Entry.{Entry}
use Rattle.wm_replay.specs.declared.by_log.Followed.{Followed}
use Rattle.wm_replay.specs.Positions.{HasFollowed}
use Rattle.wm_explore.proofs.Lists.{at_set}

-- the first n events are as many as they are
pub front_of : (es first : List Event) (n : ℕ) → n ≤ length es → first ≡ take n es → first ≡ take (length first) es
front_of es first n le is = is ∙ ap (λ i. take i es) (sym (ap length is ∙ length-take-le n es le))

-- a thread that was run by the first events of a log goes on by the log
pub on_from : (m : Module) (k : ℕ) (t : ThreadLog) (first : List Event) (f : Followed) → first ≡ take (length first) t.events → WasRun m k t.start first f
    → HasFollowed m k t max_steps f
on_from m k t first f front (u, start, events, is) =
    record { first = u; start = start; events = events ∙ front ∙ ap (λ es. take (length es) t.events) (sym events); followed = is }

-- where the threads are started so, the entry is right of a thread with its events
abbrev pub IsRight : Module → List Start → Entry → Type 0
IsRight m starts e = (t : ThreadLog) → slice_get starts e.moved.number ≡ Some t.start → t.events ≡ e.events → IsRecalled m e.moved.number t e

-- an entry that is right is put in the place of another one
pub replaced : (m : Module) (starts : List Start) (entries : List (Option (Box Entry Global))) (n : ℕ) (e : Box Entry Global) → AreRecalled m starts entries → IsRight m starts e.value
    → AreRecalled m starts (slice_set entries n (Some e))
replaced m starts entries n new are right i e t at = by (at_set entries n (Some new) i (Some e) at)
  where
    by : ((i ≡ n) × (Some e ≡ Some new)) ⊎ (slice_get entries i ≡ Some (Some e)) → slice_get starts e.value.moved.number ≡ Some t.start → t.events ≡ e.value.events
        → IsRecalled m e.value.moved.number t e.value
    by (inl h) = subst (λ (b : Box Entry Global). IsRight m starts b.value) (sym (same_Some e new h.1)) right t
    by (inr old) = are i e t old

-- an entry of a thread is right of it
pub entry_right : (m : Module) (k : ℕ) (t : ThreadLog) (cache : Cache) (e : Box Entry Global) → RecallsOf m k t.start cache → IsEntryOf k t.events cache e → IsRecalled m k t e.value
entry_right m k t cache e (starts, started, recalls) of =
    subst (λ j. IsRecalled m j t e.value) of.number (recalls of.place e t of.at (ap (slice_get starts) of.number ∙ started) (sym of.made))
