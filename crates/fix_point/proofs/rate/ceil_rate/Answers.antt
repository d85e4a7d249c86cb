use Rattle.std.proofs.Common.{pos, ◌-ℤ◌, to_z, of_z, sym, subst}
use Rattle.std.specs.Int.{w64}
use Rattle.std.proofs.lemmas.Int.{to_z-of_z}
use Rattle.fix_point.specs.Rates.{IsFloor, IsWithinReach}
use Rattle.fix_point.proofs.Rates.{opposite_is, opposite_within, turned_is, turned_fits, turned_ceil}
use Rattle.fix_point.proofs.rate.ceil_rate.Goals as goal

pub floor_rate-requires : goal.floor_rate-requires
floor_rate-requires c =
    let within = opposite_within c.args.rate c.args.d c.args.dt c.requires in
    let turned = subst (λ m. IsWithinReach (record { millionths = m; per = c.args.rate.per }) c.args.d c.args.dt) (sym (opposite_is c.args.rate.millionths c.requires.limited.size)) within in
    subst (λ t. IsWithinReach (record { millionths = to_z w64 (of_z w64 (pos 0 -ℤ to_z w64 (of_z w64 c.args.rate.millionths))); per = c.args.rate.per }) c.args.d t) (sym (to_z-of_z w64 c.args.dt c.ranges.dt)) turned

pub overflow_sub-result : goal.overflow_sub-result
overflow_sub-result c = turned_fits c.floor_rate.result c.floor_rate.ensures.small

pub returns : goal.returns
returns c =
    let millionths = to_z w64 (of_z w64 (pos 0 -ℤ to_z w64 (of_z w64 c.args.rate.millionths))) in
    let floor = subst (λ t. IsFloor (record { millionths = millionths; per = c.args.rate.per }) c.args.d t c.floor_rate.result) (to_z-of_z w64 c.args.dt c.ranges.dt) c.floor_rate.ensures.floor in
    let ceil = turned_ceil c.args.rate c.args.d c.args.dt millionths c.floor_rate.result _ (opposite_is c.args.rate.millionths c.requires.limited.size) (turned_is c.floor_rate.result c.floor_rate.ensures.small) floor c.floor_rate.ensures.small in
    record { ceil = ceil.ceil; small = ceil.small }
