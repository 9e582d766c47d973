use Rattle.std.proofs.Common.{List, get_or, sym, subst}
use Rattle.std.specs.Prelude.{All}
use Rattle.wm_witness.specs.Relations.{IsSynchronized}
use Rattle.wm_witness.specs.declared.relation.Pair.{Pair}
use Rattle.wm_witness.proofs.RelationLaw.{synchronized-pair}
use Rattle.wm_witness.proofs.node.Node.close.Goals as goal

pub close-requires-clause-pairs : goal.close-requires-clause-pairs
close-requires-clause-pairs c = λ k d inside.
    let run = c.args.start.now in
    let assumed = c.args.assumed.now in
    let pairs : List Pair = c.as_slice.result.now in
    let all : All (IsSynchronized run assumed) pairs = subst (All (IsSynchronized run assumed)) (sym c.as_slice.ensures.value) c.requires.node.synchronized in
    synchronized-pair run assumed c.args.self.now.happens.kind (get_or pairs k d) (all k d inside)
