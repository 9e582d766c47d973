-- Legal histories.
use Rattle.std.specs.Prelude.{ℕ, ◌+◌, ◌<◌, ◌≤◌, List, [], ◌∷◌, length}
use Rattle.wm_access.specs.AccessWidth.{bytes_of}
use Rattle.wm_event.specs.Limits.{max_events}
use Rattle.wm_event.specs.Op.{IsOp}
use Rattle.wm_memory.specs.declared.history_step.HistoryStep.{HistoryStep}
use Rattle.wm_memory.specs.declared.history_step.HistoryStep.TheVariants.{Access, Drain, DrainAt}
use Rattle.wm_memory.specs.Limits.{max_pending}
use Rattle.wm_memory.specs.Visibility.{Step, events, waiting, steps, Passes}

-- an item may come after these steps of this number of threads over a memory of that size
abbrev pub MayFollow : ℕ → ℕ → List Step → HistoryStep → Type 0
MayFollow threads size s (Access t op) = (t < threads) × (op.address + bytes_of op.width ≤ size) × IsOp op
MayFollow threads size s (Drain t) = (t < threads) × (0 < length (waiting s t))
MayFollow threads size s (DrainAt t k) = (t < threads) × (k < length (waiting s t)) × Passes k (waiting s t)

pub record IsWithin (s : List Step) : Type 0 where
  pub pending : (t : ℕ) → length (waiting s t) ≤ max_pending
  pub few : length (events s) ≤ max_events

-- a history, the newest item first, of these threads over this Init
abbrev pub IsLegal : ℕ → List ℕ → List HistoryStep → Type 0
IsLegal threads initial [] = Unit {0}
IsLegal threads initial (item ∷ older) =
    IsLegal threads initial older × MayFollow threads (length initial) (steps initial older) item × IsWithin (steps initial (item ∷ older))
