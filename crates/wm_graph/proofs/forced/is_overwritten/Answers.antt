use Rattle.std.proofs.Common.{◌≢◌, arith, refl}
use Rattle.std.proofs.lemmas.Grind.{common_steps}
use Rattle.wm_graph.proofs.CycleLaws.{edge_of_coherence}
use Rattle.wm_graph.proofs.forced.is_overwritten.Goals as goal

pub returns-then-reads_one_of : goal.returns-then-reads_one_of
returns-then-reads_one_of c =
    let apart : c.args.from ≢ c.args.to = grind (arith, common_steps) in
    λ _. edge_of_coherence c.args.candidate.now c.args.from c.args.to _ apart (c.if-reads_one_of.ensures refl) (c.if-is_before.ensures refl)
