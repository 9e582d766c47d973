-- The drainer's turns.
use Rattle.std.specs.Prelude.{◌≡◌, ℕ, ◌≤◌, ◌/◌, ◌%◌, ◌==◌, Bool, true, [], if◌then◌else◌}
use Rattle.wm_recorder.specs.Calls.{Called}
use Rattle.wm_run.specs.declared.rounds.drains.DrainerTurn.{DrainerTurn}
use Rattle.wm_run.specs.declared.rounds.drains.DrainerTurn.TheVariants.{Oldest, Second}

-- the threads take turns; in every other pass it is the store after the oldest one
abbrev pub drainer_turn : ℕ → ℕ → DrainerTurn
drainer_turn threads turn = if turn / threads % 2 == 1 then Second (turn % threads) else Oldest (turn % threads)

-- at most this number of drains, all of them if the gate is open, and no access
pub record AreDrains (is_open : Bool) (drains : ℕ) (calls : Called) : Type 0 where
  pub events : calls.events ≡ []
  pub within : calls.drains ≤ drains
  pub whole : is_open ≡ true → calls.drains ≡ drains
