-- To be believed: the grammar of number texts.
use Rattle.std.specs.Prelude.{◌≡◌, ℕ, ◌≤◌, Bool, ◌||◌, ◌==◌, IsTrue, List, [], ◌∷◌, ◌++◌, length}
use Rattle.std.specs.Char.{is_ascii_digit}
use Rattle.std.specs.List.{list_all}
use Rattle.fix_point.specs.declared.number.TheConstants.{MOST_BYTES, MOST_DIGITS, MOST_EXPONENT_DIGITS}

-- a space or a tab
abbrev pub is_blank : ℕ → Bool
is_blank c = (c == 32) || (c == 9)

pub data Sign : Type 0 where
  none : Sign
  plus : Sign
  minus : Sign

abbrev pub sign_text : Sign → List ℕ
sign_text none = []
sign_text plus = 43 ∷ []
sign_text minus = 45 ∷ []

-- the part after the whole digits: nothing, or a point and digits
pub data Fraction : Type 0 where
  no_point : Fraction
  point : List ℕ → Fraction

abbrev pub fraction_text : Fraction → List ℕ
fraction_text no_point = []
fraction_text (point digits) = 46 ∷ digits

abbrev pub fraction_digits : Fraction → List ℕ
fraction_digits no_point = []
fraction_digits (point digits) = digits

-- the exponent: nothing, or a letter `e` or `E`, a sign and digits
pub data Exponent : Type 0 where
  no_exponent : Exponent
  exponent : ℕ → Sign → List ℕ → Exponent

abbrev pub exponent_text : Exponent → List ℕ
exponent_text no_exponent = []
exponent_text (exponent letter sign digits) = letter ∷ sign_text sign ++ digits

pub record Parts : Type 0 where
  pub before : List ℕ
  pub sign : Sign
  pub whole : List ℕ
  pub fraction : Fraction
  pub power : Exponent
  pub after : List ℕ

abbrev pub text_of_parts : Parts → List ℕ
text_of_parts parts =
    parts.before ++ (sign_text parts.sign ++ (parts.whole ++ (fraction_text parts.fraction ++ (exponent_text parts.power ++ parts.after))))

-- all digits of the mantissa
abbrev pub mantissa_digits : Parts → List ℕ
mantissa_digits parts = parts.whole ++ fraction_digits parts.fraction

abbrev pub IsExponent : Exponent → Type 0
IsExponent no_exponent = Unit {0}
IsExponent (exponent letter sign digits) =
    IsTrue ((letter == 101) || (letter == 69)) × IsTrue (list_all is_ascii_digit digits) × (1 ≤ length digits) × (length digits ≤ MOST_EXPONENT_DIGITS)

-- The text is a number text of these parts.
pub record IsNumberText (text : List ℕ) (parts : Parts) : Type 0 where
  pub spelled : text ≡ text_of_parts parts
  pub short : length text ≤ MOST_BYTES
  pub before : IsTrue (list_all is_blank parts.before)
  pub after : IsTrue (list_all is_blank parts.after)
  pub digits : IsTrue (list_all is_ascii_digit (mantissa_digits parts))
  pub some : 1 ≤ length (mantissa_digits parts)
  pub few : length (mantissa_digits parts) ≤ MOST_DIGITS
  pub power : IsExponent parts.power
