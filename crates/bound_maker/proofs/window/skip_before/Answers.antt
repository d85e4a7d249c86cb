use Rattle.std.proofs.Common.{arith, w64}
use Rattle.std.specs.Int.{w128}
use Rattle.std.proofs.lemmas.Int.{to_z-of_z}
use Rattle.bound_maker.proofs.Windows.{count_bound, counted_from}
use Rattle.bound_maker.proofs.window.skip_before.Goals as goal

pub loop-place-init : goal.loop-place-init
loop-place-init c =
    let most = count_bound c.args.from c.args.ticks c.args.readings.now in
    record {
      within = omega (arith, c.requires, most);
      rest = counted_from c.args.from c.args.ticks _ _ c.args.readings.now c.args.at (to_z-of_z w64 c.args.from c.ranges.from) (to_z-of_z w128 c.args.ticks c.ranges.ticks) c.requires;
    }
