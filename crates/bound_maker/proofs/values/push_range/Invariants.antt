use Rattle.std.proofs.Common.{◌≡◌, ◌++◌, take}
use Rattle.bound_maker.specs.Bounds.{bounds_in_time}
use Rattle.bound_maker.proofs.values.push_range.Given as goal

abbrev pub invariant-loop-reading : goal.invariant-loop-reading
invariant-loop-reading l = l.bounds ≡ l.fn.bounds ++ bounds_in_time l.number l.col l.rule.from l.rule.to (λ value. l.rule.min) (λ value. l.rule.max) (take l.reading-index l.readings)
