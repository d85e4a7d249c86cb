-- To be believed: the nanoseconds since 1970-01-01T00:00:00Z that calendar texts name.
use Rattle.std.specs.Prelude.{◌≡◌, ℕ, ◌+◌, ◌*◌, ◌==◌, ℤ, pos, ◌+ℤ◌, ◌*ℤ◌, List, Ok, Err, if◌then◌else◌, slice_index, slice_set}
use Rattle.jiff_core.specs.Calendar.{days_from_civil}
use Rattle.jiff_fmt.specs.Temporal.{DateParts, TimeParts}
use Rattle.jiff.specs.Words.{Error, parse_timestamp, parse_datetime}
use Rattle.time_text.specs.declared.calendar.TheConstants.{DESIGNATOR}

-- the text as it is read: where its eleventh byte is a space, a `T` in place of that
abbrev pub with_designator : List ℕ → List ℕ
with_designator text = if slice_index text DESIGNATOR == 32 then slice_set text DESIGNATOR 84 else text

-- the text is read as the instant at this nanosecond
abbrev pub IsInstant : List ℕ → ℤ → Type 0
IsInstant text nanosecond = parse_timestamp text ≡ Ok nanosecond

-- the text is read as no instant
abbrev pub IsNoInstant : List ℕ → Type 0
IsNoInstant text = (error : Error) × (parse_timestamp text ≡ Err error)

-- the seconds since midnight
abbrev pub seconds_of_day : TimeParts → ℕ
seconds_of_day time = time.hour * 3600 + time.minute * 60 + time.second

-- The nanosecond at which a clock in UTC shows this date and this time of day: that of the days since 1970-01-01, each of
-- 86,400 seconds, of the seconds since midnight, and of the fraction of a second.
abbrev pub civil_nanos_of : DateParts → TimeParts → ℤ
civil_nanos_of date time =
    days_from_civil date.year date.month date.day *ℤ pos 86_400_000_000_000 +ℤ pos (seconds_of_day time * 1_000_000_000 + time.subsec)

-- the text is read as a date and a time of day, which a clock in UTC shows at this nanosecond
pub record IsCivil (text : List ℕ) (nanosecond : ℤ) : Type 0 where
  pub date : DateParts
  pub time : TimeParts
  pub read : parse_datetime text ≡ Ok (date, time)
  pub in_utc : nanosecond ≡ civil_nanos_of date time

-- the text is read as no date and no time of day
abbrev pub IsNoCivil : List ℕ → Type 0
IsNoCivil text = (error : Error) × (parse_datetime text ≡ Err error)
