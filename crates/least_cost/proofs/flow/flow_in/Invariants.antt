use Rattle.std.proofs.Common.{◌≡◌, take}
use Rattle.screen_model.specs.Obeys.{with_prices}
use Rattle.screen_model.specs.Names.{items_of}
use Rattle.flow_core.specs.State.{bound_flows}
use Rattle.least_cost.proofs.flow.flow_in.Given as goal

abbrev pub invariant-loop-number : goal.invariant-loop-number
invariant-loop-number l = record {
  bounds : l.bound-items ≡ l.bounds;
  items : l.items ≡ items_of (take l.number (with_prices l.bounds l.prices)) (take l.number (bound_flows l.net));
}
