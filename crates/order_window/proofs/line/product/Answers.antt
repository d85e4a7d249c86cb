use Rattle.order_window.proofs.Heights.{exact}
use Rattle.order_window.proofs.line.product.Goals as goal

pub overflow_mul-result : goal.overflow_mul-result
overflow_mul-result c = (exact c.args.number c.args.factor c.ranges.number c.ranges.factor c.requires).fits

pub returns : goal.returns
returns c = (exact c.args.number c.args.factor c.ranges.number c.ranges.factor c.requires).same
