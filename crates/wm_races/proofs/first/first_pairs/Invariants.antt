use Rattle.std.proofs.Common.{◌≡◌, map, take}
use Rattle.wm_races.specs.Groups.{first_pair}
use Rattle.wm_races.proofs.first.first_pairs.Given as goal

-- those of the first groups
abbrev pub invariant-loop-group : goal.invariant-loop-group
invariant-loop-group l = l.pairs.items ≡ map first_pair (take l.group-index l.groups)
