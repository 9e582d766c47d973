-- Threads before anything has happened.
use Rattle.std.proofs.Common.{◌≡◌, ℕ, suc, ◌+◌, List, [], ◌∷◌, ◌++◌, inl, inr, length, map, take, Some, None, Option, refl, ap, ◌∙◌}
use Rattle.std.specs.Prelude.{◌⊎◌, slice_get}
use Rattle.wm_event.specs.declared.log.End.TheVariants.{Cut}
use Rattle.wm_event.specs.declared.log.Start.{Start}
use Rattle.wm_event.specs.declared.log.ThreadLog.{ThreadLog}
use Rattle.wm_event.specs.Log.{AreThreads}
use Rattle.wm_explore.proofs.Lists.{at_pushed, take_next}

-- a thread that is started so
abbrev pub fresh : Start → ThreadLog
fresh start = record { start = start; end = Cut; steps = 0; events = [] }

map_pushed : (starts : List Start) (start : Start) → map fresh (starts ++ start ∷ []) ≡ map fresh starts ++ fresh start ∷ []
map_pushed [] start = refl
map_pushed (s ∷ starts) start = ap (λ ts. fresh s ∷ ts) (map_pushed starts start)

-- one thread more
pub fresh_next : (starts : List Start) (n : ℕ) (start : Start) → slice_get starts n ≡ Some start → map fresh (take (n + 1) starts) ≡ map fresh (take n starts) ++ fresh start ∷ []
fresh_next starts n start is = ap (map fresh) (take_next starts n start is) ∙ map_pushed (take n starts) start

pub fresh_log : (k : ℕ) (starts : List Start) → AreThreads k (map fresh starts)
fresh_log k [] = tt
fresh_log k (s ∷ starts) = (tt, fresh_log (suc k) starts)

-- one thread more without a mark
pub no_mark : (marks : List (Option ℕ)) → ((k : ℕ) (mark : Option ℕ) → slice_get marks k ≡ Some mark → mark ≡ None) → (k : ℕ) (mark : Option ℕ) → slice_get (marks ++ None ∷ []) k ≡ Some mark → mark ≡ None
no_mark marks none k mark at = by (at_pushed marks None k mark at)
  where
    by : ((k ≡ length marks) × (mark ≡ None)) ⊎ (slice_get marks k ≡ Some mark) → mark ≡ None
    by (inl last) = last.1
    by (inr at) = none k mark at
