use Rattle.std.proofs.Common.{◌≡◌, map, drop}
use Rattle.serde_json.specs.View.{view}
use Rattle.wm_logfile.specs.Forms.{items_fault}
use Rattle.wm_logfile.specs.Reading.{traverse}
use Rattle.wm_logfile.proofs.Loop.{with_front}
use Rattle.wm_logfile.proofs.items.each_of.Given as goal

abbrev pub invariant-loop-index : goal.invariant-loop-index
invariant-loop-index g l = record {
  given : with_front l.found.items (traverse (g.R.ItemReader.reads l.reader) l.index (map view (drop l.index l.values))) ≡ traverse (g.R.ItemReader.reads l.reader) 0 (map view l.values);
  fault : items_fault (g.R.ItemReader.faults l.reader) l.path l.index (map view (drop l.index l.values)) ≡ items_fault (g.R.ItemReader.faults l.reader) l.path 0 (map view l.values);
}
