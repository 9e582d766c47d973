use Rattle.wm_standard.proofs.OrderMatters.{order-is-needed}
use Rattle.wm_standard.proofs.law.order_is_needed.Goals as goal

pub returns : goal.returns
returns c = order-is-needed
