-- The rules that are judged last, by their numbers.
use Rattle.std.specs.Prelude.{◌≡◌, ℕ, [], ◌∷◌, Bool, false, None}
use Rattle.wm_event.specs.declared.event.Event.{Event}
use Rattle.wm_event.specs.Execution.{Execution}
use Rattle.wm_hb.specs.Scan.{Finds}
use Rattle.wm_rules.specs.declared.scan.LateRule.{LateRule}
use Rattle.wm_rules.specs.declared.scan.LateRule.TheVariants.{Coherence, NoTearing, SequentialConsistency}

abbrev pub late_number : LateRule → ℕ
late_number Coherence = 3
late_number NoTearing = 4
late_number SequentialConsistency = 5

-- b is false only if the event has no fault of the rule
abbrev pub IsFaulty : Execution → ℕ → Event → Bool → Type 0
IsFaulty x rule e b = b ≡ false → Finds x (rule ∷ e.thread ∷ e.number ∷ []) None
