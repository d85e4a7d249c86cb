-- For proofs: the first sensor that a rule speaks of.
use Rattle.std.specs.Prelude.{ℕ, List}
use Rattle.rule_file.specs.Numbers.{Rule, speed, swing, drift, range, trust, weight, between}

abbrev pub first_name : Rule → List ℕ
first_name (speed rule) = rule.sensor
first_name (swing rule) = rule.sensor
first_name (drift rule) = rule.sensor
first_name (range rule) = rule.sensor
first_name (trust rule) = rule.sensor
first_name (weight rule) = rule.sensor
first_name (between rule) = rule.first
