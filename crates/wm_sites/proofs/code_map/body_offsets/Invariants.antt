use Rattle.std.proofs.Common.{◌≡◌, ℕ, List, length}
use Rattle.wm_sites.specs.Bodies.{BodyBegins}
use Rattle.wm_sites.specs.Offsets.{HasCode}
use Rattle.wm_sites.proofs.BodySteps.{BodyAhead}
use Rattle.wm_sites.proofs.code_map.body_offsets.Given as goal

-- each body is ahead or was noted
abbrev pub invariant-loop-body : goal.invariant-loop-body
invariant-loop-body l = record {
  count : length l.bodies.items ≡ l._body;
  functions : (before items : List ℕ) (code : HasCode l.bytes before items) → code.functions ≡ l.count;
  each : (f offset : ℕ) (b : BodyBegins l.bytes f offset) → BodyAhead b l.reader l._body l.bodies.items;
}
