use Rattle.std.proofs.Common.{rules, ◌∙◌, w64}
use mir.Val.{SFits}
use Rattle.std.proofs.lemmas.Int.{to_z-of_z}
use Rattle.bound_maker.proofs.Weights.{weight_found}
use Rattle.bound_maker.proofs.weight.weight_in.Goals as goal

pub returns : goal.returns
returns c =
    let fits : SFits w64 c.ticks-ticks.result = search rules in
    weight_found c.args.rules.now c.args.header.now.sensor_cols c.args.col c.before_weights.result c.args.row.now.ticks _ c.as_slice.result.now c.last_weight.result c.last_weight.ensures c.before_weights.ensures c.as_slice.ensures (to_z-of_z w64 c.ticks-ticks.result fits ∙ c.ticks-ticks.ensures)
