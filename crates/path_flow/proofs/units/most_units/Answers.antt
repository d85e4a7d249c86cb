use Rattle.std.proofs.Common.{arith}
use Rattle.flow_core.proofs.Sizes.{prices_small, weights_small}
use Rattle.path_flow.proofs.units.most_units.Goals as goal

pub overflow_add-result : goal.overflow_add-result
overflow_add-result c = record { fits = omega (arith, c.sum_of_weights.ensures, c.sum_of_prices.ensures, prices_small c.args.net.now.network c.requires.network.layout, weights_small c.args.net.now.network c.requires.network.layout) }
