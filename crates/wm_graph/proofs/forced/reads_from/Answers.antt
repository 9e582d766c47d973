use Rattle.std.proofs.Common.{IsSome, arith, refl}
use Rattle.std.proofs.lemmas.Grind.{common_steps}
use Rattle.wm_event.specs.Log.{event_in}
use Rattle.wm_graph.proofs.CycleLaws.{edge_of_read}
use Rattle.wm_graph.proofs.forced.reads_from.Goals as goal

pub returns-then-is_writer : goal.returns-then-is_writer
returns-then-is_writer c =
    let x = c.args.candidate.now in
    let there : IsSome (event_in x.log c.args.to) = grind (arith, common_steps) in
    λ _. edge_of_read x c.args.from c.args.to c.loop-byte.byte there (c.if-is_writer.ensures refl)
