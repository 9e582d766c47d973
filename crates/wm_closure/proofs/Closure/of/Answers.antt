use Rattle.wm_closure.proofs.Closure.of.Goals as goal

pub arrivals-requires-clause-ordered : goal.arrivals-requires-clause-ordered
arrivals-requires-clause-ordered c = rw c.as_slice.ensures.value c.requires.ordered
