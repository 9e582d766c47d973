use Rattle.std.proofs.Common.{◌≡◌, length}
use Rattle.std.specs.Io.KnownBytes.{Keeps}
use Rattle.wm_stream.proofs.stream.read_part.Given as goal

abbrev pub invariant-loop : goal.invariant-loop
invariant-loop g l = record {
  size : length l.buffer ≡ length l.initial.buffer;
  kept : Keeps (g.I.Read.remaining l.initial.input) (g.I.Read.remaining l.input);
}
