use Rattle.order_laws.proofs.EachOrder.{ends_keep_order}
use Rattle.order_laws.proofs.order.ends_keep_order.Goals as goal

pub returns : goal.returns
returns c = ends_keep_order
