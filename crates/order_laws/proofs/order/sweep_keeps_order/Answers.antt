use Rattle.order_laws.proofs.ReplacedOrder.{sweep_keeps_order}
use Rattle.order_laws.proofs.order.sweep_keeps_order.Goals as goal

pub returns : goal.returns
returns c = sweep_keeps_order
