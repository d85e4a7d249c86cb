use Rattle.std.proofs.Common.{◌≡◌, length, drop}
use Rattle.screen_model.specs.Order.{is_before}
use Rattle.cert_format.proofs.order.is_before.Given as goal

abbrev pub invariant-loop-one : goal.invariant-loop-one
invariant-loop-one l = is_before (drop (length l.yielded) l.first) (drop (length l.yielded) l.second) ≡ is_before l.first l.second
