-- For proofs: the bounds that a rule of any kind makes of two readings of its column.
use Rattle.std.specs.Prelude.{◌≡◌, ◌==◌, ℕ, ◌≤◌, Bool, false, List, [], ◌∷◌, Option, None, if◌then◌else◌}
use Rattle.fix_point.specs.RateLimits.{RateLimits}
use Rattle.screen_model.specs.declared.bound.Bound.{Bound}
use Rattle.screen_model.specs.declared.bound.Side.{Side}
use Rattle.rule_file.specs.Limits.{AreInReach}
use Rattle.rule_file.specs.Numbers.{Rule, speed, swing, drift, range, trust, weight, between}
use Rattle.rule_file.specs.declared.rules.SpeedRule.{SpeedRule}
use Rattle.pair_bounds.specs.declared.stamp.Stamp.{Stamp}
use Rattle.pair_bounds.specs.Pairs.{drift_bound, swing_bound}
use Rattle.bound_maker.specs.declared.reading.Reading.{Reading}
use Rattle.bound_maker.specs.Bounds.{speed_bound}
use Rattle.bound_maker.specs.Readings.{all_pairs, neighbours}

-- the rates of a speed rule
abbrev pub speed_limits : ℕ → SpeedRule → RateLimits
speed_limits d rule = record { min = rule.min; max = rule.max; decimals = d }

-- the steps are those of the rule, if it is a speed rule
abbrev pub HasSteps : ℕ → Rule → RateLimits → Type 0
HasSteps d (speed rule) limits = limits ≡ speed_limits d rule
HasSteps d (swing rule) limits = Unit {0}
HasSteps d (drift rule) limits = Unit {0}
HasSteps d (range rule) limits = Unit {0}
HasSteps d (trust rule) limits = Unit {0}
HasSteps d (weight rule) limits = Unit {0}
HasSteps d (between rule) limits = Unit {0}

-- the rates of the rule reach no further within its window than they may
abbrev pub IsBounded : ℕ → Rule → Type 0
IsBounded d (speed rule) = (d ≤ 6) × AreInReach d rule.min rule.max rule.window
IsBounded d (drift rule) = (d ≤ 6) × AreInReach d rule.min rule.max rule.window
IsBounded d (swing rule) = Unit {0}
IsBounded d (range rule) = Unit {0}
IsBounded d (trust rule) = Unit {0}
IsBounded d (weight rule) = Unit {0}
IsBounded d (between rule) = Unit {0}

-- the bound of a rule on two readings of a sensor, if it is of a kind that speaks of such
abbrev pub pair_bound : ℕ → Rule → ℕ → ℕ → Stamp → Stamp → Side → Option Bound
pair_bound number (speed rule) d col from to side = speed_bound number rule d col from to side
pair_bound number (swing rule) d col from to side = swing_bound number rule col from to side
pair_bound number (drift rule) d col from to side = drift_bound number rule d col from to side
pair_bound number (range rule) d col from to side = None
pair_bound number (trust rule) d col from to side = None
pair_bound number (weight rule) d col from to side = None
pair_bound number (between rule) d col from to side = None

-- the rule speaks of neighbouring readings alone
abbrev pub is_of_neighbours : Rule → Bool
is_of_neighbours (speed rule) = rule.price == 0
is_of_neighbours (swing rule) = false
is_of_neighbours (drift rule) = false
is_of_neighbours (range rule) = false
is_of_neighbours (trust rule) = false
is_of_neighbours (weight rule) = false
is_of_neighbours (between rule) = false

-- the pairs of readings of which a rule's bounds are made
abbrev pub pairs_of : Rule → List Reading → List (Reading × Reading)
pairs_of rule readings = if is_of_neighbours rule then neighbours readings else all_pairs readings

-- a reading with the first of the later ones, if there is one
abbrev pub with_next : Reading → List Reading → List (Reading × Reading)
with_next from [] = []
with_next from (to ∷ later) = (from, to) ∷ []
