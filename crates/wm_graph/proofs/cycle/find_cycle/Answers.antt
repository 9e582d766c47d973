use Rattle.wm_graph.proofs.CycleLaws.{no_order_found}
use Rattle.wm_graph.proofs.cycle.find_cycle.Goals as goal

pub returns-then-is_some-clause-no_order : goal.returns-then-is_some-clause-no_order
returns-then-is_some-clause-no_order c = no_order_found c.args.candidate.now c.in_ok-found.found c.in_ok-found.ensures
