-- To be believed: the bounds that rules make of two readings of a sensor, and of the readings of two sensors in a row.
use Rattle.std.specs.Prelude.{ℕ, Bool, ◌&&◌, ℤ, pos, neg_ℤ, ◌-ℤ◌, int_le, Option, Some, None, if◌then◌else◌}
use Rattle.screen_model.specs.declared.bound.Bound.{Bound}
use Rattle.screen_model.specs.declared.bound.BoundName.{BoundName}
use Rattle.screen_model.specs.declared.bound.Side.{Side}
use Rattle.screen_model.specs.declared.bound.Side.TheVariants.{Up, Down}
use Rattle.screen_model.specs.declared.place.End.{End}
use Rattle.screen_model.specs.declared.place.End.TheVariants.{At}
use Rattle.screen_model.specs.declared.place.Place.{Place}
use Rattle.fix_point.specs.declared.rate.Rate.{Rate}
use Rattle.fix_point.specs.Rates.{ceil_step, floor_step}
use Rattle.rule_file.specs.declared.rules.SwingRule.{SwingRule}
use Rattle.rule_file.specs.declared.rules.DriftRule.{DriftRule}
use Rattle.rule_file.specs.declared.rules.BetweenRule.{BetweenRule}
use Rattle.pair_bounds.specs.declared.stamp.Stamp.{Stamp}

-- ---- the two bounds on a rise

-- A rise is at least the one number and at most the other: so up it is at most the greater, and down its opposite is at
-- most the opposite of the lesser.
abbrev pub limit_on : Side → ℤ → ℤ → ℤ
limit_on Up least most = most
limit_on Down least most = neg_ℤ least

-- The bound of a rule on the rise from the value at one place to that at another. It bears the column of the first.
abbrev pub rise_bound : ℕ → Place → Place → ℤ → Side → Bound
rise_bound number from to limit Up = record {
  name = record { rule = number; from_row = from.row; to_row = to.row; col = from.col; side = Up };
  first = At from;
  second = At to;
  limit = limit;
}
rise_bound number from to limit Down = record {
  name = record { rule = number; from_row = from.row; to_row = to.row; col = from.col; side = Down };
  first = At to;
  second = At from;
  limit = limit;
}

-- ---- two readings of a sensor

-- the reading of a sensor's column in the row of this stamp
abbrev pub place_in : ℕ → Stamp → Place
place_in col stamp = record { row = stamp.row; col = col }

-- the ticks from one row to another
abbrev pub elapsed : Stamp → Stamp → ℤ
elapsed from to = to.ticks -ℤ from.ticks

abbrev pub is_within : ℤ → ℤ → ℤ → Bool
is_within least most ticks = int_le least ticks && int_le ticks most

-- a rise by whole steps between two rates
abbrev pub rate_limit : Rate → Rate → ℕ → ℤ → Side → ℤ
rate_limit min max d ticks side = limit_on side (ceil_step min d ticks) (floor_step max d ticks)

-- A swing rule speaks of two readings of which one is later, and no later than the window.
abbrev pub swing_bound : ℕ → SwingRule → ℕ → Stamp → Stamp → Side → Option Bound
swing_bound number rule col from to side =
    if is_within (pos 1) rule.window (elapsed from to)
    then Some (rise_bound number (place_in col from) (place_in col to) (limit_on side (neg_ℤ rule.most) rule.most) side)
    else None

-- A drift rule speaks of two readings of which one is later, by no less than `over` and no more than the window.
abbrev pub drift_bound : ℕ → DriftRule → ℕ → ℕ → Stamp → Stamp → Side → Option Bound
drift_bound number rule d col from to side =
    if is_within rule.over rule.window (elapsed from to)
    then Some (rise_bound number (place_in col from) (place_in col to) (rate_limit rule.min rule.max d (elapsed from to) side) side)
    else None

-- ---- two sensors in one row

-- A between rule speaks of the readings of both sensors, where the row has both: the columns that hold them are told.
abbrev pub between_bound : ℕ → BetweenRule → ℕ → Option ℕ → Option ℕ → Side → Option Bound
between_bound number rule row (Some first) (Some second) side =
    Some (rise_bound number (record { row = row; col = first }) (record { row = row; col = second }) (limit_on side rule.min rule.max) side)
between_bound number rule row None second side = None
between_bound number rule row (Some first) None side = None
