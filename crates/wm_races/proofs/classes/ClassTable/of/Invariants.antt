use Rattle.std.proofs.Common.{◌≡◌, ℕ, List, Some}
use Rattle.std.specs.Prelude.{nat_eq}
use Rattle.indexmap.specs.IndexMap.{get}
use Rattle.wm_races.specs.Classes.{AreClasses, AreOfSites}
use Rattle.wm_races.specs.declared.classes.Class.{Class}
use Rattle.wm_races.proofs.classes.ClassTable.of.Given as goal

-- the classes of each byte so far
abbrev pub invariant-loop-index : goal.invariant-loop-index
invariant-loop-index l = (byte : ℕ) (classes : List Class) → get nat_eq l.of_byte byte ≡ Some classes → AreClasses l.candidate byte classes × AreOfSites l.candidate l.sites classes
