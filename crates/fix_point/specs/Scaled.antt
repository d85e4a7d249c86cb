-- To be believed: what a text is read as, times a power of ten and as a whole number.
use Rattle.std.specs.Prelude.{◌≡◌, ℕ, ◌+◌, ◌*◌, ◌^◌, ◌<◌, ◌≤◌, ℤ, pos, neg_ℤ, List, length, Result, Ok, Err, unsigned_abs}
use Rattle.std.specs.Str.Parse.{digits_value}
use Rattle.fix_point.specs.Grammar.{Parts, Sign, none, plus, minus, Exponent, no_exponent, exponent, fraction_digits, mantissa_digits, IsNumberText}
use Rattle.fix_point.specs.declared.scale.NumFault.{NumFault}
use Rattle.fix_point.specs.declared.scale.NumFault.TheVariants.{NotNumber, TooFine, OutOfRange}
use Rattle.fix_point.specs.declared.scale.Extra.{Extra}
use Rattle.fix_point.specs.declared.scale.Extra.TheVariants.{Refuse, Round}

-- a number with the sign
abbrev pub signed : Sign → ℕ → ℤ
signed minus n = neg_ℤ (pos n)
signed none n = pos n
signed plus n = pos n

-- The exponent is this many tens above the line, or below it.
abbrev pub tens_above : Exponent → ℕ
tens_above no_exponent = 0
tens_above (exponent letter minus digits) = 0
tens_above (exponent letter none digits) = digits_value 10 digits
tens_above (exponent letter plus digits) = digits_value 10 digits

abbrev pub tens_below : Exponent → ℕ
tens_below no_exponent = 0
tens_below (exponent letter minus digits) = digits_value 10 digits
tens_below (exponent letter none digits) = 0
tens_below (exponent letter plus digits) = 0

-- The number of the text times 10^d is a fraction: all digits of the mantissa as one number, with the tens
-- of d and of an exponent above it, over the tens of the digits after the point and of an exponent below it.
abbrev pub numerator : Parts → ℕ → ℕ
numerator parts d = digits_value 10 (mantissa_digits parts) * 10 ^ (d + tens_above parts.power)

abbrev pub denominator : Parts → ℕ
denominator parts = 10 ^ (length (fraction_digits parts.fraction) + tens_below parts.power)

-- size is exactly this fraction
abbrev pub IsExact : Parts → ℕ → ℕ → Type 0
IsExact parts d size = size * denominator parts ≡ numerator parts d

-- size is the whole number nearest to this fraction, the greater one of two
pub record IsNearest (parts : Parts) (d size : ℕ) : Type 0 where
  pub low : 2 * (size * denominator parts) ≤ 2 * numerator parts d + denominator parts
  pub high : 2 * numerator parts d + denominator parts < 2 * ((size + 1) * denominator parts)

-- what is taken for the fraction: the number itself, or the nearest one
abbrev pub IsTaken : Extra → Parts → ℕ → ℕ → Type 0
IsTaken Refuse parts d size = IsExact parts d size
IsTaken Round parts d size = IsNearest parts d size

-- the text is a number, and this is its value with d decimals
pub record IsScaled (text : List ℕ) (d : ℕ) (extra : Extra) (most : ℤ) (value : ℤ) : Type 0 where
  pub parts : Parts
  pub number : IsNumberText text parts
  pub size : ℕ
  pub taken : IsTaken extra parts d size
  pub value_is : value ≡ signed parts.sign size
  pub small : size ≤ unsigned_abs most

-- What a text is read as: a whole number of units of 10^-d, at most so great in size, or why it is none. Each
-- refusal looks at what the ones before it left: the grammar, whether the number is whole, its size.
abbrev pub Reads : List ℕ → ℕ → Extra → ℤ → Result ℤ NumFault → Type 0
Reads text d extra most (Ok value) = IsScaled text d extra most value
Reads text d extra most (Err NotNumber) = (parts : Parts) → ¬ IsNumberText text parts
Reads text d extra most (Err TooFine) =
    (parts : Parts) × IsNumberText text parts × (extra ≡ Refuse) × ((size : ℕ) → ¬ IsExact parts d size)
Reads text d extra most (Err OutOfRange) =
    (parts : Parts) × IsNumberText text parts × (size : ℕ) × IsTaken extra parts d size × (unsigned_abs most < size)

-- the text is this value
abbrev pub Spells : List ℕ → ℕ → Extra → ℤ → ℤ → Type 0
Spells text d extra most value = Reads text d extra most (Ok value)

-- the text is refused for this
abbrev pub Refuses : List ℕ → ℕ → Extra → ℤ → NumFault → Type 0
Refuses text d extra most fault = Reads text d extra most (Err fault)
