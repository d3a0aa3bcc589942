use Rattle.jx9_meaning.proofs.Rows.Orders.{order_rows}
use Rattle.jx9_meaning.proofs.laws.order_rows.Goals as goal

pub returns : goal.returns
returns c = order_rows
