use Rattle.std.proofs.Common.{◌≡◌, take}
use Rattle.std.specs.List.{count_by}
use Rattle.pair_bounds.specs.Pairs.{is_within}
use Rattle.bound_maker.specs.declared.reading.Reading.{Reading}
use Rattle.bound_maker.proofs.values.count_in_time.Given as goal

abbrev pub invariant-loop-reading : goal.invariant-loop-reading
invariant-loop-reading l = l.count ≡ count_by (λ (reading : Reading). is_within l.from l.to reading.stamp.ticks) (take l.reading-index l.readings)
