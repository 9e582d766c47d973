use Rattle.std.proofs.Common.{◌≡◌, length}
use Rattle.wm_sites.specs.Sites.{AreThreadSites}
use Rattle.wm_sites.proofs.sites.thread_sites.Given as goal

-- the first events have their sites
abbrev pub invariant-loop-event : goal.invariant-loop-event
invariant-loop-event l = record {
  count : length l.sites ≡ l.event-index;
  sites : AreThreadSites l.run.map l.run.positions.items l.thread.events l.sites;
  same : l.run ≡ l.fn.run;
}
