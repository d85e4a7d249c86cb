-- For proofs: the weights of the weight rules alone that cover a reading, and for how long a weight stays.
use Rattle.std.specs.Prelude.{◌≡◌, ℕ, suc, ◌<◌, ◌==◌, ◌&&◌, ℤ, ◌≤ℤ◌, List, [], ◌∷◌, length, get_or, if◌then◌else◌}
use Rattle.rule_file.specs.Numbers.{rules_in_order}
use Rattle.rule_file.specs.declared.rules.Rules.{Rules}
use Rattle.rule_file.specs.declared.rules.WeightRule.{WeightRule}
use Rattle.pair_bounds.specs.Pairs.{is_within}
use Rattle.bound_maker.specs.declared.weigher.Stay.{Stay}
use Rattle.bound_maker.specs.Bounds.{with_columns}
use Rattle.bound_maker.specs.Costs.{weight_of}

-- the last of the numbers, and the one given where there is none
abbrev pub last_or : ℕ → List ℕ → ℕ
last_or other [] = other
last_or other (n ∷ ns) = last_or n ns

-- the weights of those that cover a column at a time; the sensor of the first stands at this place among all
abbrev pub covering : ℕ → List ℕ → List WeightRule → ℕ → ℤ → List ℕ
covering place cols [] col ticks = []
covering place cols (rule ∷ rules) col ticks =
    if (get_or cols place 0 == col) && is_within rule.from rule.to ticks then rule.weight ∷ covering (suc place) cols rules col ticks
    else covering (suc place) cols rules col ticks

-- at each time from one up to another it is as at the first
abbrev pub StaysSo : {A : Type 0} → (ℤ → A) → ℤ → ℤ → Type 0
StaysSo at from until = (ticks : ℤ) → from ≤ℤ ticks → ticks ≤ℤ until → at ticks ≡ at from

-- the weight of a reading in this column, where the sensors of all rules have these, is the one told at each of these times
abbrev pub IsStay : Rules → List ℕ → ℕ → Stay → Type 0
IsStay rules cols col stay =
    (ticks : ℤ) → stay.from ≤ℤ ticks → ticks ≤ℤ stay.until → weight_of (with_columns 1 (rules_in_order rules) cols) col ticks ≡ stay.weight

-- and so it is in each column
abbrev pub AreStays : Rules → List ℕ → List Stay → Type 0
AreStays rules cols stays = (col : ℕ) (d : Stay) → col < length stays → IsStay rules cols col (get_or stays col d)
