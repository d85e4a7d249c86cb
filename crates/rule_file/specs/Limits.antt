-- To be believed: the limits that the rules keep.
use Rattle.std.specs.Prelude.{◌≡◌, ℕ, ◌≤◌, ℤ, pos, neg_ℤ, ◌≤ℤ◌, IsTrue}
use Rattle.words.specs.Separators.{is_separator}
use Rattle.fix_point.specs.declared.rate.Rate.{Rate}
use Rattle.fix_point.specs.declared.rate.TheConstants.{MOST_SPAN}
use Rattle.fix_point.specs.Rates.{IsRate, IsInReach}
use Rattle.fix_point.specs.declared.scale.TheConstants.{MOST_UNITS}
use Rattle.time_text.specs.declared.form.TheConstants.{MOST_TICKS}
use Rattle.rule_keys.specs.declared.limits.TheConstants.{MOST_DECIMALS, MOST_HOLD}

pub record IsFormat (d sep held : ℕ) : Type 0 where
  pub decimals : d ≤ MOST_DECIMALS
  pub separator : IsTrue (is_separator sep)
  pub hold_least : 1 ≤ held
  pub hold_most : held ≤ MOST_HOLD

-- both for as many seconds, and the least is not above the greatest
pub record AreRates (low high : Rate) : Type 0 where
  pub min : IsRate low
  pub max : IsRate high
  pub per : low.per ≡ high.per
  pub ordered : low.millionths ≤ℤ high.millionths

abbrev pub IsSpan : ℤ → Type 0
IsSpan ticks = (pos 1 ≤ℤ ticks) × (ticks ≤ℤ pos MOST_SPAN)

abbrev pub IsUnits : ℤ → Type 0
IsUnits value = (neg_ℤ MOST_UNITS ≤ℤ value) × (value ≤ℤ MOST_UNITS)

abbrev pub IsMoment : ℤ → Type 0
IsMoment tick = (neg_ℤ MOST_TICKS ≤ℤ tick) × (tick ≤ℤ MOST_TICKS)

abbrev pub IsPeriod : ℤ → ℤ → Type 0
IsPeriod from to = IsMoment from × IsMoment to × (from ≤ℤ to)

-- both rates reach no further within the window than they may, in units of 10^-d
abbrev pub AreInReach : ℕ → Rate → Rate → ℤ → Type 0
AreInReach d min max window = IsInReach d min window × IsInReach d max window
