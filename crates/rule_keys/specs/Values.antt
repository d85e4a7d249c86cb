-- To be believed: what stands at a key, as the number or the name that it means.
use Rattle.std.specs.Prelude.{◌≡◌, ◌⊎◌, ℕ, ◌^◌, ◌<◌, ◌≤◌, ℤ, pos, ◌*ℤ◌, ◌≤ℤ◌, ◌<ℤ◌, List, Result, Ok, Err, unsigned_abs}
use Rattle.std.specs.Fmt.{signed_decimal}
use Rattle.toml.specs.Data.{Data, string, integer}
use Rattle.fix_point.specs.Scaled as Scaled
use Rattle.fix_point.specs.declared.scale.NumFault.{NumFault}
use Rattle.fix_point.specs.declared.scale.Extra.TheVariants.{Refuse}
use Rattle.fix_point.specs.declared.scale.TheConstants.{MOST_UNITS}
use Rattle.time_text.specs.Ticks as Ticks
use Rattle.time_text.specs.Trimmed.{trimmed}
use Rattle.time_text.specs.declared.form.TimeForm.{TimeForm}
use Rattle.time_text.specs.declared.form.TimeForm.TheVariants.{Instant, Civil}
use Rattle.time_text.specs.declared.form.TimeFault.{TimeFault}
use Rattle.rule_keys.specs.declared.cause.KeyCause.{KeyCause}
use Rattle.rule_keys.specs.declared.cause.KeyCause.TheVariants.{WrongKind, BadNumber, OutOfLimit}
use Rattle.rule_keys.specs.declared.key.Kind.{Kind}
use Rattle.rule_keys.specs.declared.key.Kind.TheVariants.{Whole, Value, Amount, Rate, Span, Moment, Name, Word}
use Rattle.rule_keys.specs.declared.key.Choice.{Choice}
use Rattle.rule_keys.specs.declared.key.Chosen.{Chosen}
use Rattle.fix_point.specs.declared.rate.TheConstants.{MOST_MILLIONTHS, MOST_SPAN}
use Rattle.rule_keys.specs.declared.read.Scale.{Scale}
use Rattle.rule_keys.specs.Entries.{Meaning, number, name, chosen, nothing}
use Rattle.rule_keys.specs.Words.{words, Means}

-- The answer is a value that is good, or this cause where something is bad.
abbrev pub ValueOrCause : {A : Type 0} → (A → Type 0) → KeyCause → Type 0 → Result A KeyCause → Type 0
ValueOrCause Good cause Bad (Ok value) = Good value
ValueOrCause Good cause Bad (Err found) = (found ≡ cause) × Bad

-- a number, unless it is less than the least
abbrev pub AtLeast : ℤ → (Result ℤ KeyCause → Type 0) → Result ℤ KeyCause → Type 0
AtLeast least Reads (Ok z) = Reads (Ok z) × (least ≤ℤ z)
AtLeast least Reads (Err cause) = Reads (Err cause) ⊎ ((cause ≡ OutOfLimit) × (z : ℤ) × Reads (Ok z) × (z <ℤ least))

-- what a lower limit makes of an answer
abbrev pub IsAtLeast : ℤ → Result ℤ KeyCause → Result ℤ KeyCause → Type 0
IsAtLeast least (Err cause) answer = answer ≡ Err cause
IsAtLeast least (Ok z) answer = ValueOrCause (λ w. (w ≡ z) × (least ≤ℤ z)) OutOfLimit (z <ℤ least) answer

-- a number within limits
abbrev pub ReadsWithin : ℤ → ℤ → ℤ → Result ℤ KeyCause → Type 0
ReadsWithin least most z answer = ValueOrCause (λ w. (w ≡ z) × (least ≤ℤ z) × (z ≤ℤ most)) OutOfLimit ((z <ℤ least) ⊎ (most <ℤ z)) answer

-- a TOML integer within limits
abbrev pub ReadsWhole : ℕ → ℕ → Data → Result ℤ KeyCause → Type 0
ReadsWhole least most (integer z) answer = ReadsWithin (pos least) (pos most) z answer
ReadsWhole least most _ answer = answer ≡ Err WrongKind

-- so many wholes in units of 10^-d, at most so many
abbrev pub ReadsScaledWhole : ℕ → ℕ → ℤ → Result ℤ KeyCause → Type 0
ReadsScaledWhole d most z answer =
    ValueOrCause (λ w. (w ≡ z *ℤ pos (10 ^ d)) × (unsigned_abs w ≤ most)) BadNumber (most < unsigned_abs (z *ℤ pos (10 ^ d))) answer

-- the units of a number text
abbrev pub ReadsScaledText : ℕ → ℕ → List ℕ → Result ℤ KeyCause → Type 0
ReadsScaledText d most text answer =
    ValueOrCause (Scaled.Spells text d Refuse (pos most)) BadNumber ((fault : NumFault) × Scaled.Refuses text d Refuse (pos most) fault) answer

-- The number of units of 10^-d: of a TOML integer, which is that many wholes, or of a number text, which has
-- to be a whole number of them. It is at most so great in size.
abbrev pub ReadsScaled : ℕ → ℕ → Data → Result ℤ KeyCause → Type 0
ReadsScaled d most (integer z) answer = ReadsScaledWhole d most z answer
ReadsScaled d most (string text) answer = ReadsScaledText d most text answer
ReadsScaled d most _ answer = answer ≡ Err WrongKind

-- the ticks of a time text in the form
abbrev pub ReadsTime : TimeForm → List ℕ → Result ℤ KeyCause → Type 0
ReadsTime form text answer =
    ValueOrCause (Ticks.Spells form text) BadNumber ((fault : TimeFault) × Ticks.Refuses form text fault) answer

-- A TOML integer stands for its text where times are numbers.
abbrev pub ReadsInteger : TimeForm → ℤ → Result ℤ KeyCause → Type 0
ReadsInteger Instant z answer = answer ≡ Err WrongKind
ReadsInteger Civil z answer = answer ≡ Err WrongKind
ReadsInteger form z answer = ReadsTime form (signed_decimal z) answer

abbrev pub ReadsMoment : TimeForm → Data → Result ℤ KeyCause → Type 0
ReadsMoment form (string text) answer = ReadsTime form text answer
ReadsMoment form (integer z) answer = ReadsInteger form z answer
ReadsMoment form _ answer = answer ≡ Err WrongKind

-- what one of some words means
abbrev pub IsMeaningOf : List (List ℕ × Chosen) → List ℕ → Meaning → Type 0
IsMeaningOf some word (chosen c) = Means some word c
IsMeaningOf some word _ = ⊥

-- what a word of a list means
abbrev pub ReadsChosen : Choice → List ℕ → Result Meaning KeyCause → Type 0
ReadsChosen choice word answer =
    ValueOrCause (IsMeaningOf (words choice) word) OutOfLimit ((c : Chosen) → Means (words choice) word c → ⊥) answer

abbrev pub ReadsWord : Choice → Data → Result Meaning KeyCause → Type 0
ReadsWord choice (string word) answer = ReadsChosen choice word answer
ReadsWord choice _ answer = answer ≡ Err WrongKind

-- the number that stands at a key
abbrev pub ReadsNumber : Scale → Kind → Data → Result ℤ KeyCause → Type 0
ReadsNumber scale (Whole least most) found answer = ReadsWhole least most found answer
ReadsNumber scale Value found answer = ReadsScaled scale.decimals (unsigned_abs MOST_UNITS) found answer
ReadsNumber scale Amount found answer = AtLeast (pos 0) (ReadsScaled scale.decimals (unsigned_abs MOST_UNITS) found) answer
ReadsNumber scale Rate found answer = ReadsScaled 6 MOST_MILLIONTHS found answer
ReadsNumber scale Span found answer = AtLeast (pos 1) (ReadsScaled 9 MOST_SPAN found) answer
ReadsNumber scale Moment found answer = ReadsMoment scale.form found answer
ReadsNumber scale (Word choice) found answer = ⊥
ReadsNumber scale Name found answer = ⊥

-- a string, without the blanks at its ends
abbrev pub ReadsName : Data → Result Meaning KeyCause → Type 0
ReadsName (string text) answer = answer ≡ Ok (name (trimmed text))
ReadsName _ answer = answer ≡ Err WrongKind

abbrev pub AsNumber : (Result ℤ KeyCause → Type 0) → Result Meaning KeyCause → Type 0
AsNumber Reads (Ok (number z)) = Reads (Ok z)
AsNumber Reads (Ok (name s)) = ⊥
AsNumber Reads (Ok (chosen c)) = ⊥
AsNumber Reads (Ok nothing) = ⊥
AsNumber Reads (Err cause) = Reads (Err cause)

-- what stands at a key of this kind
abbrev pub ReadsValue : Scale → Kind → Data → Result Meaning KeyCause → Type 0
ReadsValue scale Name found answer = ReadsName found answer
ReadsValue scale (Word choice) found answer = ReadsWord choice found answer
ReadsValue scale kind found answer = AsNumber (ReadsNumber scale kind found) answer
