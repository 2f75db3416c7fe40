use Rattle.order_laws.proofs.ReplacedOrder.{replaced_keeps_order}
use Rattle.order_laws.proofs.order.replaced_keeps_order.Goals as goal

pub returns : goal.returns
returns c = replaced_keeps_order
