use Rattle.std.proofs.Common.{◌≢◌, arith, refl}
use Rattle.std.proofs.lemmas.Grind.{common_steps}
use Rattle.wm_graph.proofs.CycleLaws.{edge_of_from_read}
use Rattle.wm_graph.proofs.forced.is_read_before.Goals as goal

pub returns-then-is_writer_before : goal.returns-then-is_writer_before
returns-then-is_writer_before c =
    let apart : c.args.from ≢ c.args.to = grind (arith, common_steps) in
    λ _. edge_of_from_read c.args.candidate.now c.args.from c.args.to c.in-Some.writer apart c.in-Some.ensures (c.if-is_writer_before.ensures refl)
