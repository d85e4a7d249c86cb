-- To be believed: the rules and the sensors in the order of the rules' numbers.
use Rattle.std.specs.Prelude.{◌≡◌, ℕ, zero, suc, ◌+◌, ◌<◌, List, [], ◌∷◌, ◌++◌, length, map, Option, Some, None, slice_get, option_map}
use Rattle.rule_keys.specs.declared.key.TableKind.{TableKind}
use Rattle.rule_keys.specs.declared.key.TableKind.TheVariants as kind
use Rattle.rule_file.specs.declared.numbers.RuleAt.{RuleAt}
use Rattle.rule_file.specs.declared.numbers.RuleAt.TheVariants.{Speed, Swing, Drift, Range, Trust, Weight, Between}
use Rattle.rule_file.specs.declared.numbers.NamedSensor.{NamedSensor as LentSensor}
use Rattle.rule_file.specs.declared.rules.SpeedRule.{SpeedRule}
use Rattle.rule_file.specs.declared.rules.SwingRule.{SwingRule}
use Rattle.rule_file.specs.declared.rules.DriftRule.{DriftRule}
use Rattle.rule_file.specs.declared.rules.RangeRule.{RangeRule}
use Rattle.rule_file.specs.declared.rules.TrustRule.{TrustRule}
use Rattle.rule_file.specs.declared.rules.WeightRule.{WeightRule}
use Rattle.rule_file.specs.declared.rules.BetweenRule.{BetweenRule}
use Rattle.rule_file.specs.declared.rules.Rules.{Rules}

-- a rule of some kind
pub data Rule : Type 0 where
  speed : SpeedRule → Rule
  swing : SwingRule → Rule
  drift : DriftRule → Rule
  range : RangeRule → Rule
  trust : TrustRule → Rule
  weight : WeightRule → Rule
  between : BetweenRule → Rule

-- All rules in the order of their numbers: kind after kind, and within a kind in the order of the file.
abbrev pub rules_in_order : Rules → List Rule
rules_in_order rules =
    map speed rules.speeds ++ map swing rules.swings ++ map drift rules.drifts ++ map range rules.ranges
    ++ map trust rules.trusts ++ map weight rules.weights ++ map between rules.betweens

-- the rule of a number, counted from 1
abbrev pub rule_of : Rules → ℕ → Option Rule
rule_of rules zero = None
rule_of rules (suc n) = slice_get (rules_in_order rules) n

-- a sensor that the rule of this number speaks of
pub record NamedSensor : Type 0 where
  pub rule : ℕ
  pub name : List ℕ

-- the names of the sensors of a rule, of a rule between two sensors the first and then the second
abbrev pub sensor_names : Rule → List (List ℕ)
sensor_names (speed rule) = rule.sensor ∷ []
sensor_names (swing rule) = rule.sensor ∷ []
sensor_names (drift rule) = rule.sensor ∷ []
sensor_names (range rule) = rule.sensor ∷ []
sensor_names (trust rule) = rule.sensor ∷ []
sensor_names (weight rule) = rule.sensor ∷ []
sensor_names (between rule) = rule.first ∷ rule.second ∷ []

-- the sensors of the rule of this number
abbrev pub sensors_of : ℕ → Rule → List NamedSensor
sensors_of number rule = map (λ name. record { rule = number; name = name }) (sensor_names rule)

-- the sensors of rules, of which the first has this number
abbrev pub sensors_from : ℕ → List Rule → List NamedSensor
sensors_from number [] = []
sensors_from number (rule ∷ rules) = sensors_of number rule ++ sensors_from (suc number) rules

-- the sensors of all rules, in the order of the rules' numbers
abbrev pub sensors : Rules → List NamedSensor
sensors rules = sensors_from 1 (rules_in_order rules)

-- the rules of the kinds that come before a kind
abbrev pub count_before : TableKind → Rules → ℕ
count_before kind.Format rules = 0
count_before kind.Speed rules = 0
count_before kind.Swing rules = length rules.speeds
count_before kind.Drift rules = length rules.speeds + length rules.swings
count_before kind.Range rules = length rules.speeds + length rules.swings + length rules.drifts
count_before kind.Trust rules = length rules.speeds + length rules.swings + length rules.drifts + length rules.ranges
count_before kind.Weight rules = length rules.speeds + length rules.swings + length rules.drifts + length rules.ranges + length rules.trusts
count_before kind.Between rules =
    length rules.speeds + length rules.swings + length rules.drifts + length rules.ranges + length rules.trusts + length rules.weights

-- So the rules of a kind have the numbers that follow those of the kinds before.
pub record AreNumbered (rules : Rules) : Type 0 where
  pub speeds : (k : ℕ) → k < length rules.speeds → rule_of rules (suc (count_before kind.Speed rules + k)) ≡ option_map speed (slice_get rules.speeds k)
  pub swings : (k : ℕ) → k < length rules.swings → rule_of rules (suc (count_before kind.Swing rules + k)) ≡ option_map swing (slice_get rules.swings k)
  pub drifts : (k : ℕ) → k < length rules.drifts → rule_of rules (suc (count_before kind.Drift rules + k)) ≡ option_map drift (slice_get rules.drifts k)
  pub ranges : (k : ℕ) → k < length rules.ranges → rule_of rules (suc (count_before kind.Range rules + k)) ≡ option_map range (slice_get rules.ranges k)
  pub trusts : (k : ℕ) → k < length rules.trusts → rule_of rules (suc (count_before kind.Trust rules + k)) ≡ option_map trust (slice_get rules.trusts k)
  pub weights : (k : ℕ) → k < length rules.weights → rule_of rules (suc (count_before kind.Weight rules + k)) ≡ option_map weight (slice_get rules.weights k)
  pub betweens : (k : ℕ) → k < length rules.betweens → rule_of rules (suc (count_before kind.Between rules + k)) ≡ option_map between (slice_get rules.betweens k)

-- these members stand in the list one after the other, the first at this place
abbrev pub StandFrom : List NamedSensor → ℕ → List NamedSensor → Type 0
StandFrom list place members = (k : ℕ) → k < length members → slice_get list (place + k) ≡ slice_get members k

-- the sensors of the rule of this number stand from this place on in the list of all sensors
abbrev pub SensorsStandFrom : Rules → ℕ → ℕ → Type 0
SensorsStandFrom rules number place = (rule : Rule) × (rule_of rules number ≡ Some rule) × StandFrom (sensors rules) place (sensors_of number rule)

-- what a unit beyond a bound of the rule costs, and 0 where the rule has no price
abbrev pub price_of : Rule → ℕ
price_of (speed rule) = rule.price
price_of (swing rule) = rule.price
price_of (drift rule) = rule.price
price_of (range rule) = rule.price
price_of (trust rule) = 0
price_of (weight rule) = 0
price_of (between rule) = rule.price

-- what the code hands out, without where it lies in memory
abbrev pub seen_rule : RuleAt → Rule
seen_rule (Speed rule) = speed rule.now
seen_rule (Swing rule) = swing rule.now
seen_rule (Drift rule) = drift rule.now
seen_rule (Range rule) = range rule.now
seen_rule (Trust rule) = trust rule.now
seen_rule (Weight rule) = weight rule.now
seen_rule (Between rule) = between rule.now

abbrev pub seen_sensor : LentSensor → NamedSensor
seen_sensor sensor = record { rule = sensor.rule; name = sensor.name.now }
