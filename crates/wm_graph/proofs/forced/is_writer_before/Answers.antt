use Rattle.std.proofs.Common.{sym, subst}
use Rattle.wm_graph.specs.Cycle.{ComesBefore}
use Rattle.wm_graph.proofs.forced.is_writer_before.Goals as goal

pub returns-in-At : goal.returns-in-At
returns-in-At c = λ before. subst (λ writer. ComesBefore c.args.candidate.now writer c.args.event) (sym c.in-At.is) (c.is_before.ensures before)
