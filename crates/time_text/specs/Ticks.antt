-- To be believed: what a time text is read as, its ticks or why it has none. A tick is a nanosecond.
use Rattle.std.specs.Prelude.{ℕ, ◌<◌, ◌≤◌, ◌⊎◌, ℤ, List, length, Result, Ok, Err, unsigned_abs, IsUtf8}
use Rattle.fix_point.specs.Scaled as Scaled
use Rattle.fix_point.specs.declared.scale.NumFault.TheVariants as NumFault
use Rattle.fix_point.specs.declared.scale.Extra.TheVariants as Extra
use Rattle.time_text.specs.Trimmed.{trimmed}
use Rattle.time_text.specs.Calendar.{with_designator, IsInstant, IsNoInstant, IsCivil, IsNoCivil}
use Rattle.time_text.specs.declared.calendar.TheConstants.{LONGEST}
use Rattle.time_text.specs.declared.form.TheConstants.{MOST_TICKS}
use Rattle.time_text.specs.declared.form.TimeForm.{TimeForm}
use Rattle.time_text.specs.declared.form.TimeForm.TheVariants.{Sec, Milli, Micro, Nano, Instant, Civil}
use Rattle.time_text.specs.declared.form.TimeFault.{TimeFault}
use Rattle.time_text.specs.declared.form.TimeFault.TheVariants.{NotTime, TimeTooFine, TimeOutOfRange, Memory}

-- The text is a number of units of 10^d ticks, and this is the number of ticks.
abbrev pub IsNumber : ℕ → List ℕ → ℤ → Type 0
IsNumber d text ticks = Scaled.Spells text d Extra.Refuse MOST_TICKS ticks

-- why a text is no such number
abbrev pub NumberRefuses : ℕ → List ℕ → TimeFault → Type 0
NumberRefuses d text NotTime = Scaled.Refuses text d Extra.Refuse MOST_TICKS NumFault.NotNumber
NumberRefuses d text TimeTooFine = Scaled.Refuses text d Extra.Refuse MOST_TICKS NumFault.TooFine
NumberRefuses d text TimeOutOfRange = Scaled.Refuses text d Extra.Refuse MOST_TICKS NumFault.OutOfRange
NumberRefuses d text Memory = ⊥

-- the text is read as this nanosecond, which is in the range of ticks
pub record IsCalendar (Reads : List ℕ → ℤ → Type 0) (text : List ℕ) (ticks : ℤ) : Type 0 where
  pub short : length text ≤ LONGEST
  pub utf8 : IsUtf8 (with_designator text)
  pub read : Reads (with_designator text) ticks
  pub small : unsigned_abs ticks ≤ unsigned_abs MOST_TICKS

-- the text is read as this nanosecond, which is out of the range of ticks
pub record IsBeyond (Reads : List ℕ → ℤ → Type 0) (text : List ℕ) (nanosecond : ℤ) : Type 0 where
  pub short : length text ≤ LONGEST
  pub utf8 : IsUtf8 (with_designator text)
  pub read : Reads (with_designator text) nanosecond
  pub large : unsigned_abs MOST_TICKS < unsigned_abs nanosecond

-- why a text is read as no ticks
abbrev pub CalendarRefuses : (List ℕ → ℤ → Type 0) → (List ℕ → Type 0) → List ℕ → TimeFault → Type 0
CalendarRefuses Reads Fails text NotTime =
    (LONGEST < length text) ⊎ ((¬ IsUtf8 (with_designator text)) ⊎ Fails (with_designator text))
CalendarRefuses Reads Fails text TimeTooFine = ⊥
CalendarRefuses Reads Fails text TimeOutOfRange = (nanosecond : ℤ) × IsBeyond Reads text nanosecond
CalendarRefuses Reads Fails text Memory = ⊥

-- the trimmed text stands for these ticks in the form
abbrev pub IsTrimmedTicks : TimeForm → List ℕ → ℤ → Type 0
IsTrimmedTicks Sec text ticks = IsNumber 9 text ticks
IsTrimmedTicks Milli text ticks = IsNumber 6 text ticks
IsTrimmedTicks Micro text ticks = IsNumber 3 text ticks
IsTrimmedTicks Nano text ticks = IsNumber 0 text ticks
IsTrimmedTicks Instant text ticks = IsCalendar IsInstant text ticks
IsTrimmedTicks Civil text ticks = IsCalendar IsCivil text ticks

-- why it stands for none
abbrev pub RefusesTrimmed : TimeForm → List ℕ → TimeFault → Type 0
RefusesTrimmed Sec text fault = NumberRefuses 9 text fault
RefusesTrimmed Milli text fault = NumberRefuses 6 text fault
RefusesTrimmed Micro text fault = NumberRefuses 3 text fault
RefusesTrimmed Nano text fault = NumberRefuses 0 text fault
RefusesTrimmed Instant text fault = CalendarRefuses IsInstant IsNoInstant text fault
RefusesTrimmed Civil text fault = CalendarRefuses IsCivil IsNoCivil text fault

-- What a text is read as in the form. Want of memory is no reason to refuse a text.
abbrev pub Reads : TimeForm → List ℕ → Result ℤ TimeFault → Type 0
Reads form text (Ok ticks) = IsTrimmedTicks form (trimmed text) ticks
Reads form text (Err fault) = RefusesTrimmed form (trimmed text) fault

-- the text stands for these ticks
abbrev pub Spells : TimeForm → List ℕ → ℤ → Type 0
Spells form text ticks = Reads form text (Ok ticks)

-- the text is refused for this
abbrev pub Refuses : TimeForm → List ℕ → TimeFault → Type 0
Refuses form text fault = Reads form text (Err fault)
