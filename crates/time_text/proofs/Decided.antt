-- Every time text has an answer.
use Rattle.std.proofs.Common.{◌≡◌, ℕ, ◌<◌, ◌≤◌, ◌⊎◌, inl, inr, true, false, ℤ, List, Result, Ok, Err, length, unsigned_abs, IsUtf8, refl, sym, ◌∙◌}
use Rattle.std.specs.Str.{is_utf8}
use Rattle.std.proofs.lemmas.Bool.{cases_Bool, cases_lt, false≢true}
use Rattle.std.proofs.lemmas.Str.{IsUtf8-from_is_utf8, is_utf8-from_IsUtf8}
use Rattle.jiff_fmt.specs.Temporal.{DateParts, TimeParts}
use Rattle.jiff.specs.Words.{Error, parse_timestamp, parse_datetime}
use Rattle.fix_point.specs.Scaled as Scaled
use Rattle.fix_point.specs.declared.scale.NumFault.{NumFault}
use Rattle.fix_point.specs.declared.scale.Extra.{Extra}
use Rattle.time_text.specs.Trimmed.{trimmed}
use Rattle.time_text.specs.Calendar.{with_designator, civil_nanos_of, IsInstant, IsNoInstant, IsCivil, IsNoCivil}
use Rattle.time_text.specs.Ticks.{IsNumber, NumberRefuses, IsCalendar, CalendarRefuses, IsTrimmedTicks, RefusesTrimmed, Reads}
use Rattle.time_text.specs.declared.calendar.TheConstants.{LONGEST}
use Rattle.time_text.specs.declared.form.TheConstants.{MOST_TICKS}
use Rattle.time_text.specs.declared.form.TimeForm.{TimeForm}
use Rattle.time_text.specs.declared.form.TimeForm.TheVariants.{Sec, Milli, Micro, Nano, Instant, Civil}
use Rattle.time_text.specs.declared.form.TimeFault.{TimeFault}
use Rattle.time_text.specs.declared.form.TimeFault.TheVariants.{NotTime, TimeTooFine, TimeOutOfRange}

-- what is proved of decimal texts
abbrev pub HasNumberAnswer : Type 0
HasNumberAnswer = (text : List ℕ) (d : ℕ) (extra : Extra) (most : ℤ) → (answer : Result ℤ NumFault) × Scaled.Reads text d extra most answer

-- there is a value, or a reason why there is none
abbrev Has : (ℤ → Type 0) → (TimeFault → Type 0) → Type 0
Has Value Refusal = ((ticks : ℤ) × Value ticks) ⊎ ((fault : TimeFault) × Refusal fault)

-- ---- numbers

number_by : (d : ℕ) (text : List ℕ) (answer : Result ℤ NumFault) → Scaled.Reads text d Extra.Refuse MOST_TICKS answer → Has (IsNumber d text) (NumberRefuses d text)
number_by d text (Ok ticks) reads = inl (ticks, reads)
number_by d text (Err NumFault.NotNumber) reads = inr (NotTime, reads)
number_by d text (Err NumFault.TooFine) reads = inr (TimeTooFine, reads)
number_by d text (Err NumFault.OutOfRange) reads = inr (TimeOutOfRange, reads)

number_has : HasNumberAnswer → (d : ℕ) (text : List ℕ) → Has (IsNumber d text) (NumberRefuses d text)
number_has law d text = let found = law text d Extra.Refuse MOST_TICKS in number_by d text found.0 found.1

-- ---- calendars

-- a text is read as a nanosecond, or as none
abbrev ReadsOrFails : (List ℕ → ℤ → Type 0) → (List ℕ → Type 0) → List ℕ → Type 0
ReadsOrFails Reads Fails text = ((nanosecond : ℤ) × Reads text nanosecond) ⊎ Fails text

instant_by : (text : List ℕ) (found : Result ℤ Error) → parse_timestamp text ≡ found → ReadsOrFails IsInstant IsNoInstant text
instant_by text (Ok nanosecond) is = inl (nanosecond, is)
instant_by text (Err error) is = inr (error, is)

instant_or : (text : List ℕ) → ReadsOrFails IsInstant IsNoInstant text
instant_or text = instant_by text (parse_timestamp text) refl

civil_by : (text : List ℕ) (found : Result (DateParts × TimeParts) Error) → parse_datetime text ≡ found → ReadsOrFails IsCivil IsNoCivil text
civil_by text (Ok (date, time)) is = inl (civil_nanos_of date time, record { date = date; time = time; read = is; in_utc = refl })
civil_by text (Err error) is = inr (error, is)

civil_or : (text : List ℕ) → ReadsOrFails IsCivil IsNoCivil text
civil_or text = civil_by text (parse_datetime text) refl

module _ (Reads : List ℕ → ℤ → Type 0) (Fails : List ℕ → Type 0) (text : List ℕ) where
  abbrev HasCalendar : Type 0
  HasCalendar = Has (IsCalendar Reads text) (CalendarRefuses Reads Fails text)

  by_range : length text ≤ LONGEST → IsUtf8 (with_designator text) → (nanosecond : ℤ) → Reads (with_designator text) nanosecond
      → (unsigned_abs MOST_TICKS < unsigned_abs nanosecond) ⊎ (unsigned_abs nanosecond ≤ unsigned_abs MOST_TICKS)
      → HasCalendar
  by_range short utf8 nanosecond read (inl large) = inr (TimeOutOfRange, (nanosecond, record { short = short; utf8 = utf8; read = read; large = large }))
  by_range short utf8 nanosecond read (inr small) = inl (nanosecond, record { short = short; utf8 = utf8; read = read; small = small })

  by_reading : length text ≤ LONGEST → IsUtf8 (with_designator text) → ReadsOrFails Reads Fails (with_designator text) → HasCalendar
  by_reading short utf8 (inl (nanosecond, read)) = by_range short utf8 nanosecond read (cases_lt (unsigned_abs MOST_TICKS) (unsigned_abs nanosecond))
  by_reading short utf8 (inr fails) = inr (NotTime, inr (inr fails))

  by_bytes : length text ≤ LONGEST → ReadsOrFails Reads Fails (with_designator text) → (is_utf8 (with_designator text) ≡ true) ⊎ (is_utf8 (with_designator text) ≡ false) → HasCalendar
  by_bytes short reads (inl is) = by_reading short (IsUtf8-from_is_utf8 (with_designator text) is) reads
  by_bytes short reads (inr other) = inr (NotTime, inr (inl (λ utf8. false≢true (sym other ∙ is_utf8-from_IsUtf8 (with_designator text) utf8))))

  by_length : ReadsOrFails Reads Fails (with_designator text) → (LONGEST < length text) ⊎ (length text ≤ LONGEST) → HasCalendar
  by_length reads (inl long) = inr (NotTime, inl long)
  by_length reads (inr short) = by_bytes short reads (cases_Bool (is_utf8 (with_designator text)))

  calendar_has : ReadsOrFails Reads Fails (with_designator text) → HasCalendar
  calendar_has reads = by_length reads (cases_lt LONGEST (length text))

-- ---- all forms

trimmed_has : HasNumberAnswer → (form : TimeForm) (text : List ℕ) → Has (IsTrimmedTicks form text) (RefusesTrimmed form text)
trimmed_has law Sec text = number_has law 9 text
trimmed_has law Milli text = number_has law 6 text
trimmed_has law Micro text = number_has law 3 text
trimmed_has law Nano text = number_has law 0 text
trimmed_has law Instant text = calendar_has IsInstant IsNoInstant text (instant_or (with_designator text))
trimmed_has law Civil text = calendar_has IsCivil IsNoCivil text (civil_or (with_designator text))

as_answer : (form : TimeForm) (text : List ℕ) → Has (IsTrimmedTicks form (trimmed text)) (RefusesTrimmed form (trimmed text)) → (answer : Result ℤ TimeFault) × Reads form text answer
as_answer form text (inl (ticks, spells)) = (Ok ticks, spells)
as_answer form text (inr (fault, refuses)) = (Err fault, refuses)

pub an_answer : HasNumberAnswer → (form : TimeForm) (text : List ℕ) → (answer : Result ℤ TimeFault) × Reads form text answer
an_answer law form text = as_answer form text (trimmed_has law form (trimmed text))
