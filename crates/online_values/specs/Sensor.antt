-- To be believed: what contracts see of the repair of a sensor.
use Rattle.std.specs.Prelude.{◌≡◌, ℕ, ℤ, pos, ◌-ℤ◌, ◌≤ℤ◌, ◌<ℤ◌, List, Option, Some, None}
use Rattle.fix_point.specs.RateLimits.{RateLimits, AreWithinReach}
use Rattle.rule_file.specs.declared.rules.SpeedRule.{SpeedRule}
use Rattle.rule_file.specs.Limits.{IsUnits}
use Rattle.order_window.specs.declared.key.Key.{Key}
use Rattle.order_window.specs.Window.{Window}
use Rattle.online_values.specs.Results.{Speed, least_step, greatest_step}

-- the rule of a sensor; the keys in its window, in order of time, and for how many there is room; and the result for the
-- last reading that was repaired, with its time
pub record SensorView : Type 0 where
  pub speed : Speed
  pub keys : List Key
  pub room : ℕ
  pub last : Option Key

-- a speed rule as the online method sees it, for units of so many decimals
abbrev pub speed_of : SpeedRule → ℕ → Speed
speed_of rule d = record { rates = record { min = rule.min; max = rule.max; decimals = d }; span = rule.window }

-- there is a whole step from one reading to a later one, or that is beyond the window
abbrev pub HasStep : Speed → ℤ → ℤ → Type 0
HasStep speed before now = (now -ℤ before) ≤ℤ speed.span → least_step speed (now -ℤ before) ≤ℤ greatest_step speed (now -ℤ before)

abbrev pub sensor_view : Window → Option Key → SensorView
sensor_view window last = record { speed = record { rates = window.rates; span = window.span }; keys = window.keys; room = window.room; last = last }

-- the window of a sensor: it has the keys and the room of the repair, and the rates and the span of its rule
abbrev pub window_in : SensorView → Window
window_in sensor = record { keys = sensor.keys; room = sensor.room; rates = sensor.speed.rates; span = sensor.speed.span }

-- For proofs: what a repair keeps.
pub record KeepsSensor (window : Window) (steps : RateLimits) (span : ℤ) (last : Option Key) : Type 0 where
  pub steps_are : steps ≡ window.rates
  pub span_is : span ≡ window.span
  pub reach : AreWithinReach window.rates window.span
  pub small : (key : Key) → last ≡ Some key → IsUnits key.value

-- the ticks between two times, or none where they are more than so many
abbrev pub IsTimeWithin : ℤ → ℤ → ℤ → Option ℤ → Type 0
IsTimeWithin span before now None = span <ℤ (now -ℤ before)
IsTimeWithin span before now (Some dt) = (dt ≡ now -ℤ before) × (dt ≤ℤ span) × (pos 1 ≤ℤ dt)
