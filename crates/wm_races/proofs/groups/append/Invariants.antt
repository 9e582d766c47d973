use Rattle.std.proofs.Common.{◌≡◌, ◌++◌, take}
use Rattle.wm_races.proofs.groups.append.Given as goal

-- the groups so far come after the others
abbrev pub invariant-loop-group : goal.invariant-loop-group
invariant-loop-group l = l.groups ≡ l.initial.groups ++ take l.group-index l.more
