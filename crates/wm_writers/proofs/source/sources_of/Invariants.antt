use Rattle.std.proofs.Common.{◌≡◌, map, take}
use Rattle.std.specs.Prelude.{All}
use Rattle.wm_writers.specs.Answer.{IsSource}
use Rattle.wm_writers.proofs.source.sources_of.Given as goal

-- those of the needs so far
abbrev pub invariant-loop-need : goal.invariant-loop-need
invariant-loop-need l = record {
  needs : map (λ s. s.need) l.sources ≡ take l.need-index l.needs;
  sources : All (IsSource l.candidate) l.sources;
}
