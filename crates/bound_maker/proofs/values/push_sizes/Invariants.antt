use Rattle.std.proofs.Common.{◌≡◌, ◌++◌, take}
use Rattle.bound_maker.specs.Bounds.{size_bounds}
use Rattle.bound_maker.proofs.values.push_sizes.Given as goal

abbrev pub invariant-loop-place : goal.invariant-loop-place
invariant-loop-place l = l.bounds ≡ l.fn.bounds ++ size_bounds (take l.place-index l.places)
