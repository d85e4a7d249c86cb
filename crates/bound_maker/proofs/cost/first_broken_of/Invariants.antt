use Rattle.std.proofs.Common.{◌≡◌, drop}
use Rattle.std.specs.List.{find}
use Rattle.bound_maker.specs.Broken.{is_broken}
use Rattle.bound_maker.proofs.cost.first_broken_of.Given as goal

abbrev pub invariant-loop-bound : goal.invariant-loop-bound
invariant-loop-bound l = find (is_broken l.rules l.table l.series) l.bounds ≡ find (is_broken l.rules l.table l.series) (drop l.bound-index l.bounds)
