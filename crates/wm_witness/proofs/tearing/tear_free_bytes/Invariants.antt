-- those so far
use Rattle.std.specs.Prelude.{All}
use Rattle.wm_witness.specs.Tearing.{IsTearFreeByte}
use Rattle.wm_witness.proofs.tearing.tear_free_bytes.Given as goal

abbrev pub invariant-loop-byte : goal.invariant-loop-byte
invariant-loop-byte l = All (IsTearFreeByte l.start l.assumed l.event) l.bytes.items
