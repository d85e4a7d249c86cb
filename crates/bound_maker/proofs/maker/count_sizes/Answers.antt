use Rattle.std.proofs.Common.{arith}
use Rattle.series_csv.specs.Readings.{places}
use Rattle.bound_maker.proofs.Counts.{sizes_count}
use Rattle.bound_maker.proofs.maker.count_sizes.Goals as goal

pub returns : goal.returns
returns c = let count = sizes_count (places c.args.table.now) in omega (arith, count, c.capped.ensures, c.len.ensures.len, c.places-places.ensures.len)
