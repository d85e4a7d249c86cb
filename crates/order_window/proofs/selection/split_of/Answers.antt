use Rattle.std.proofs.Common.{refl, arith}
use Rattle.order_window.specs.Selection.{count_of, max_at, min_at}
use Rattle.order_window.proofs.Middle.{split_begun, split_found}
use Rattle.order_window.proofs.selection.split_of.Goals as goal

pub search-init : goal.search-init
search-init c = split_begun (max_at c.args.orders.now c.args.own) (min_at c.args.orders.now c.args.own) (count_of c.args.orders.now) 0 c.len.result refl (omega arith)

pub returns : goal.returns
returns c = split_found (max_at c.args.orders.now c.args.own) (min_at c.args.orders.now c.args.own) (count_of c.args.orders.now) c.search.bounds.low c.search.bounds.high c.search.invariant (omega arith)
