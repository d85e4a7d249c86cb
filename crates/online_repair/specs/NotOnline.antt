-- To be believed: rules of which the online method makes no repair.
use Rattle.std.specs.Prelude.{ℕ, suc, List, [], ◌∷◌, Option, Some, None, if◌then◌else◌}
use Rattle.std.specs.List.{list_any}
use Rattle.std.specs.Str.{bytes_eq}
use Rattle.rule_file.specs.Numbers.{Rule, speed, swing, drift, range, trust, weight, between, rules_in_order}
use Rattle.rule_file.specs.declared.rules.Rules.{Rules}

-- The number of the first rule that is no speed rule, or whose sensor a rule of a lower number names. The first of these
-- rules has the number given, and the names are those of the sensors of the rules before.
abbrev pub first_of : ℕ → List (List ℕ) → List Rule → Option ℕ
first_of number names [] = None
first_of number names (speed rule ∷ rules) =
    if list_any (bytes_eq rule.sensor) names then Some number else first_of (suc number) (rule.sensor ∷ names) rules
first_of number names (swing rule ∷ rules) = Some number
first_of number names (drift rule ∷ rules) = Some number
first_of number names (range rule ∷ rules) = Some number
first_of number names (trust rule ∷ rules) = Some number
first_of number names (weight rule ∷ rules) = Some number
first_of number names (between rule ∷ rules) = Some number

abbrev pub not_online : Rules → Option ℕ
not_online rules = first_of 1 [] (rules_in_order rules)
