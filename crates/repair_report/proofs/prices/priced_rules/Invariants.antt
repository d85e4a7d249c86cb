use Rattle.std.proofs.Common.{◌≡◌, not, filter}
use Rattle.std.specs.Prelude.{◌==◌}
use Rattle.std.specs.List.{range_with_len}
use Rattle.bound_maker.specs.Bounds.{price_of_number}
use Rattle.repair_report.proofs.prices.priced_rules.Given as goal

abbrev pub invariant-loop-before : goal.invariant-loop-before
invariant-loop-before l = l.numbers ≡ filter (λ number. not (price_of_number l.rules number == 0)) (range_with_len 1 l.before)
