-- To be believed: the text of a whole number of units.
use Rattle.std.specs.Prelude.{ℕ, zero, suc, ◌+◌, ◌/◌, ◌%◌, ◌^◌, ℤ, pos, negsuc, List, [], ◌∷◌, ◌++◌, decimal, unsigned_abs}

-- the last digits of a number, in so many places
abbrev pub places : ℕ → ℕ → List ℕ
places zero size = []
places (suc more) size = (48 + size / 10 ^ more % 10) ∷ places more size

-- a minus where the number is below 0
abbrev pub minus_text : ℤ → List ℕ
minus_text (pos size) = []
minus_text (negsuc size) = 45 ∷ []

-- where decimals are kept, a point and so many digits
abbrev pub decimals_text : ℕ → ℕ → List ℕ
decimals_text zero size = []
decimals_text (suc more) size = 46 ∷ places (suc more) size

-- the number over 10^d: its sign, the whole part, and exactly d decimals
abbrev pub text_of_value : ℤ → ℕ → List ℕ
text_of_value value d =
    minus_text value ++ (decimal (unsigned_abs value / 10 ^ d) ++ decimals_text d (unsigned_abs value % 10 ^ d))
