-- For proofs: a rule with the columns of its sensors.
use Rattle.std.specs.Prelude.{◌≡◌, ℕ, ◌+◌, ◌-◌, List, [], ◌∷◌, length, take, Some, get_or}
use Rattle.rule_file.specs.Numbers.{Rule, rule_of, rules_in_order, sensor_names}
use Rattle.rule_file.specs.declared.rules.Rules.{Rules}

-- The rule has this number, and these are the columns at the place of its first sensor and after it.
pub record IsRuled (rules : Rules) (cols : List ℕ) (number place : ℕ) (rule : Rule) (given col second : ℕ) : Type 0 where
  pub rule_is : rule_of rules number ≡ Some rule
  pub number_is : given ≡ number
  pub col_is : col ≡ get_or cols place 0
  pub second_is : second ≡ get_or cols (place + 1) 0

-- how many sensors rules name
abbrev pub named : List Rule → ℕ
named [] = 0
named (rule ∷ rules) = length (sensor_names rule) + named rules

-- how many sensors the rules before the one of this number name
abbrev pub named_before : Rules → ℕ → ℕ
named_before rules number = named (take (number - 1) (rules_in_order rules))
