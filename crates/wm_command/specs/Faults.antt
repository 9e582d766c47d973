-- Why words are neither a script nor rounds.
use Rattle.std.specs.Prelude.{◌≡◌, Option, None, ⊤}
use Rattle.wm_command.specs.declared.fault.WordFault.{WordFault}
use Rattle.wm_command.specs.declared.fault.WordFault.TheVariants.{OutOfMemory}

-- the fault has this cause, and then nothing is spelled. An allocation failure states nothing about the words
abbrev pub Misses : {A : Type 0} → WordFault → Option A → WordFault → Type 0
Misses cause spelled OutOfMemory = ⊤
Misses cause spelled fault = (fault ≡ cause) × (spelled ≡ None)
