-- Which events a clock counts.
use Rattle.std.specs.Prelude.{◌<◌, get_or}
use Rattle.wm_event.specs.declared.event.EventKey.{EventKey}
use Rattle.wm_explore.specs.declared.clock.Clock.{Clock}

abbrev pub Counts : Clock → EventKey → Type 0
Counts c a = a.number < get_or c.per_thread a.thread 0
