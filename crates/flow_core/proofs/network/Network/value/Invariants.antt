use Rattle.std.proofs.Common.{◌≡◌, pos, ◌-ℤ◌, map, take}
use Rattle.words.specs.Lists.{inner_product}
use Rattle.flow_core.specs.Layout.{arcs_of}
use Rattle.flow_core.proofs.network.Network.value.Given as goal

abbrev pub invariant-loop-arc : goal.invariant-loop-arc
invariant-loop-arc l = record {
  items : l.flow-items ≡ l.self.flows;
  value : l.value ≡ pos 0 -ℤ inner_product (take l.arc l.self.flows) (map (λ arc. arc.cost) (arcs_of l.self.network));
}
