use Rattle.std.proofs.Common.{FitsSigned, sym, subst, rules}
use Rattle.std.specs.Int.{w128}
use Rattle.fix_point.proofs.Rates.{IsSmallFloor, divided_floor, cast_fits, cast_is}
use Rattle.fix_point.proofs.rate.floor_rate.Goals as goal

pub overflow_cast-result : goal.overflow_cast-result
overflow_cast-result c =
    let wide : FitsSigned w128 c.change_of-change.result = search rules in
    let floor = divided_floor c.args.rate c.args.d c.args.dt c.change_of-change.result c.from.result c.div_euclid.result c.requires c.ranges.dt wide c.change_of-change.ensures c.from.ensures c.div_euclid.ensures in
    cast_fits c.div_euclid.result floor.small

pub returns : goal.returns
returns c =
    let wide : FitsSigned w128 c.change_of-change.result = search rules in
    let floor = divided_floor c.args.rate c.args.d c.args.dt c.change_of-change.result c.from.result c.div_euclid.result c.requires c.ranges.dt wide c.change_of-change.ensures c.from.ensures c.div_euclid.ensures in
    let same = subst (λ s. IsSmallFloor c.args.rate c.args.d c.args.dt s) (sym (cast_is c.div_euclid.result floor.small)) floor in
    record { floor = same.floor; small = same.small }
