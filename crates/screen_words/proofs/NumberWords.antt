-- Words that are numbers.
use Rattle.std.proofs.Common.{◌≡◌, ℕ, zero, suc, ◌==◌, IfSome, IfNone, ◌<◌, ◌≤◌, nat_le, Bool, true, false, ◌&&◌, List, length, if◌then◌else◌, Option, Some, None, refl, ap, sym, ◌∙◌, arith}
use Rattle.std.specs.Str.{all_ascii_digits}
use Rattle.std.specs.Str.Parse.{AllDigits, digits_value}
use Rattle.std.proofs.lemmas.Bool.{le-leb, leb-true}
use Rattle.std.proofs.lemmas.Str.Parse.{numerals_by_value, tells_all_ascii_digits}
use Rattle.screen_words.specs.declared.command.TheConstants.{MOST_DIGITS}
use Rattle.screen_words.specs.Command.{number_of}

abbrev by_tests : (a b c : Bool) (value : ℕ) → Option ℕ
by_tests a b c value = if a && (b && c) then Some value else None

no_first : (a b c : Bool) (value : ℕ) → (a ≡ true → ⊥) → by_tests a b c value ≡ None
no_first true b c value p = absurd (p refl)
no_first false b c value p = refl

no_middle : (a b c : Bool) (value : ℕ) → (b ≡ true → ⊥) → by_tests a b c value ≡ None
no_middle true true c value p = absurd (p refl)
no_middle true false c value p = refl
no_middle false b c value p = refl

no_last : (a b c : Bool) (value : ℕ) → (c ≡ true → ⊥) → by_tests a b c value ≡ None
no_last true true true value p = absurd (p refl)
no_last true true false value p = refl
no_last true false c value p = refl
no_last false b c value p = refl

all_three : (a b c : Bool) (value : ℕ) → a ≡ true → b ≡ true → c ≡ true → by_tests a b c value ≡ Some value
all_three true true true value p q r = refl
all_three false b c value p q r = absurd (cc p)
all_three true false c value p q r = absurd (cc q)
all_three true true false value p q r = absurd (cc r)

pub none_empty : (word : List ℕ) → length word ≡ 0 → number_of word ≡ None
none_empty word empty = no_middle (all_ascii_digits word) (nat_le 1 (length word)) (nat_le (length word) MOST_DIGITS) (digits_value 10 word) (λ t. omega (arith, leb-true 1 (length word) t, empty))

pub none_long : (word : List ℕ) → MOST_DIGITS < length word → number_of word ≡ None
none_long word long = no_last (all_ascii_digits word) (nat_le 1 (length word)) (nat_le (length word) MOST_DIGITS) (digits_value 10 word) (λ t. omega (arith, leb-true (length word) MOST_DIGITS t, long))

pub none_other : (word : List ℕ) → ¬ AllDigits 10 word → number_of word ≡ None
none_other word other = no_first (all_ascii_digits word) (nat_le 1 (length word)) (nat_le (length word) MOST_DIGITS) (digits_value 10 word) (λ t. other ((numerals_by_value (λ ds. all_ascii_digits ds ≡ true) tells_all_ascii_digits).to word t))

pub some_number : (word : List ℕ) (value : ℕ) → 1 ≤ length word → length word ≤ MOST_DIGITS → AllDigits 10 word → value ≡ digits_value 10 word → Some value ≡ number_of word
some_number word value some short digits same =
    ap Some same ∙ sym (all_three (all_ascii_digits word) (nat_le 1 (length word)) (nat_le (length word) MOST_DIGITS) (digits_value 10 word) ((numerals_by_value (λ ds. all_ascii_digits ds ≡ true) tells_all_ascii_digits).from word digits) (le-leb 1 (length word) some) (le-leb (length word) MOST_DIGITS short))

pub some_of : (n : ℕ) → false ≡ (n == 0) → 1 ≤ n
some_of zero p = absurd (cc p)
some_of (suc n) p = omega arith

pub from_value : (word : List ℕ) (found : Option ℕ) → 1 ≤ length word → length word ≤ MOST_DIGITS → IfSome found (λ value. AllDigits 10 word × (value ≡ digits_value 10 word)) → IfNone found (¬ AllDigits 10 word)
    → found ≡ number_of word
from_value word (Some value) some short found none = some_number word value some short found.0 found.1
from_value word None some short found none = sym (none_other word none)
