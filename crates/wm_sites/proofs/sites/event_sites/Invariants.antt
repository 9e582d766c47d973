use Rattle.std.proofs.Common.{◌≡◌, length, map, take}
use Rattle.wm_event.specs.Shape.{event_counts}
use Rattle.wm_sites.proofs.EventSites.{AreSitesIn}
use Rattle.wm_sites.proofs.sites.event_sites.Given as goal

-- there is a site for each event of the first threads, that of its position
abbrev pub invariant-loop-thread : goal.invariant-loop-thread
invariant-loop-thread l = record {
  shape : map length l.sites.items ≡ event_counts (take l.thread-index l.log);
  count : length l.sites.items ≡ l.thread-index;
  sites : AreSitesIn l.run.map l.run.positions.items l.log l.sites.items;
  same : l.run ≡ l.initial.run;
}
