use Rattle.std.proofs.Common.{◌≡◌, map, take}
use Rattle.wm_races.specs.First.{one_site_of}
use Rattle.wm_races.proofs.first.one_site.Given as goal

-- the sites of the first threads
abbrev pub invariant-loop-thread : goal.invariant-loop-thread
invariant-loop-thread l = l.sites.items ≡ map one_site_of (take l.thread-index l.log)
