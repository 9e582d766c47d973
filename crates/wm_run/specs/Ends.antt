-- One end for each thread.
use Rattle.std.specs.Prelude.{◌≡◌, ◌≢◌, ℕ, ◌<◌, ◌≤◌, ◌⊎◌, ◌==◌, List, Some, count_by, slice_get}
use Rattle.wm_run.specs.declared.rounds.ended.ThreadEnd.{ThreadEnd}

-- how many ends are of thread t
abbrev pub ends_of : List ThreadEnd → ℕ → ℕ
ends_of ends t = count_by (λ e. e.thread == t) ends

-- it is one of the ends, and of thread t
abbrev pub IsEndIn : List ThreadEnd → ℕ → ThreadEnd → Type 0
IsEndIn ends t e = ((k : ℕ) × (slice_get ends k ≡ Some e)) × (e.thread ≡ t)

abbrev pub HasEnd : List ThreadEnd → ℕ → Type 0
HasEnd ends t = (e : ThreadEnd) × IsEndIn ends t e

-- each end is of one of this number of threads
abbrev pub AreBelow : ℕ → List ThreadEnd → Type 0
AreBelow threads ends = (k : ℕ) (e : ThreadEnd) → slice_get ends k ≡ Some e → e.thread < threads

-- exactly one end for each of this number of threads, and no other
pub record HasOneEach (threads : ℕ) (ends : List ThreadEnd) : Type 0 where
  pub each : (t : ℕ) → t < threads → ends_of ends t ≡ 1
  pub others : AreBelow threads ends

-- t isn't one of this number of threads and has an end, and it is the least such thread
pub record IsLeastStray (threads : ℕ) (ends : List ThreadEnd) (t : ℕ) : Type 0 where
  pub stray : threads ≤ t
  pub listed : HasEnd ends t
  pub least : (k : ℕ) (e : ThreadEnd) → slice_get ends k ≡ Some e → threads ≤ e.thread → t ≤ e.thread

-- t is the least thread with no end or several; or each thread has one, and t is the least of the other ends' threads
pub record IsEndsFault (threads : ℕ) (ends : List ThreadEnd) (t : ℕ) : Type 0 where
  pub below : (k : ℕ) → k < threads → k < t → ends_of ends k ≡ 1
  pub fault : ((t < threads) × (ends_of ends t ≢ 1)) ⊎ IsLeastStray threads ends t
