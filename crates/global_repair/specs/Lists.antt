-- For proofs: the prices of bounds, by the numbers of their rules.
use Rattle.std.specs.Prelude.{ℕ, List, map}
use Rattle.screen_model.specs.declared.bound.Bound.{Bound}
use Rattle.rule_file.specs.declared.rules.Rules.{Rules}
use Rattle.bound_maker.specs.Bounds.{price_of_number}

abbrev pub prices_of : Rules → List Bound → List ℕ
prices_of rules bounds = map (λ bound. price_of_number rules bound.name.rule) bounds
