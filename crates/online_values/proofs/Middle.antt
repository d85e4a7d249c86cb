-- The median is in the middle.
use Rattle.std.proofs.Common.{◌≡◌, ℕ, ◌/◌, ◌≤◌, Bool, true, false, cond, ◌⊎◌, inl, inr, ℤ, pos, List, [], ◌∷◌, length, sym, ap, ◌∙◌, subst, arith}
use Rattle.std.specs.Prelude.{Contains, Option, Some, nat_le}
use Rattle.std.specs.List.{find}
use Rattle.std.specs.Option.{unwrap_or}
use Rattle.std.proofs.lemmas.Bool.{and_parts, and_from, cases_Bool}
use Rattle.std.proofs.lemmas.Bool.Decides.{nat_tests}
use Rattle.words.proofs.Lists.{contains_first, contains_later, contains_cases, contains_none}
use Rattle.window_median.specs.Median.{IsMedian, IsOdd, count_above, count_below}
use Rattle.window_median.proofs.Ranks.{has_median, only_median}
use Rattle.online_values.specs.Results.{is_middle, median}

-- what was found passes the test, and is an element
pub record IsFound (test : ℤ → Bool) (xs : List ℤ) : Type 0 where
  pub found : ℤ
  pub is : find test xs ≡ Some found
  pub element : Contains xs found
  pub passes : test found ≡ true

found_by : (test : ℤ → Bool) (x : ℤ) (xs : List ℤ) → (test x ≡ true) ⊎ (test x ≡ false) → (test x ≡ false → IsFound test xs) → IsFound test (x ∷ xs)
found_by test x xs (inl here) rest = record {
  found = x;
  is = ap (λ (b : Bool). cond b (Some x) (find test xs)) here;
  element = contains_first x xs;
  passes = here;
}
found_by test x xs (inr missed) rest =
    let later = rest missed in
    record {
      found = later.found;
      is = ap (λ (b : Bool). cond b (Some x) (find test xs)) missed ∙ later.is;
      element = contains_later x xs later.found later.element;
      passes = later.passes;
    }

true_not_false : (b : Bool) → b ≡ true → b ≡ false → ⊥
true_not_false b e f = cc

passes_later : (test : ℤ → Bool) (x m : ℤ) (xs : List ℤ) → test m ≡ true → test x ≡ false → (x ≡ m) ⊎ Contains xs m → Contains xs m
passes_later test x m xs passes missed (inl e) = absurd (true_not_false (test m) passes (ap test (sym e) ∙ missed))
passes_later test x m xs passes missed (inr later) = later

pub found : (test : ℤ → Bool) (m : ℤ) (xs : List ℤ) → test m ≡ true → Contains xs m → IsFound test xs
found test m [] passes h = absurd (contains_none m h)
found test m (x ∷ xs) passes h =
    found_by test x xs (cases_Bool (test x)) (λ missed. found test m xs passes (passes_later test x m xs passes missed (contains_cases x xs m h)))

le_true : (a b : ℕ) → a ≤ b → nat_le a b ≡ true
le_true a b h = grind (arith, nat_tests)

true_le : (a b : ℕ) → nat_le a b ≡ true → a ≤ b
true_le a b h = grind (arith, nat_tests)

middle_passes : (xs : List ℤ) (m : ℤ) → IsMedian xs m → is_middle xs m ≡ true
middle_passes xs m is =
    and_from (nat_le (count_below m xs) (length xs / 2)) (nat_le (count_above m xs) (length xs / 2)) (le_true _ _ is.below) (le_true _ _ is.above)

passing_middle : (xs : List ℤ) (m : ℤ) → Contains xs m → is_middle xs m ≡ true → IsMedian xs m
passing_middle xs m element passes =
    let parts = and_parts (nat_le (count_below m xs) (length xs / 2)) (nat_le (count_above m xs) (length xs / 2)) passes in
    record { element = element; below = true_le _ _ parts.0; above = true_le _ _ parts.1 }

pub median_middle : (xs : List ℤ) → IsOdd xs → IsMedian xs (median xs)
unfolding median
median_middle xs is_odd =
    let some = has_median xs is_odd in
    let is = found (is_middle xs) some.0 xs (middle_passes xs some.0 some.1) some.1.element in
    let M : ℤ → Type 0 = λ m. IsMedian xs m in
    subst M (sym (ap (λ (o : Option ℤ). unwrap_or o (pos 0)) is.is)) (passing_middle xs is.found is.element is.passes)

-- any median is that one
pub median_is : (xs : List ℤ) (m : ℤ) → IsOdd xs → IsMedian xs m → m ≡ median xs
median_is xs m is_odd is = only_median xs m (median xs) is_odd is (median_middle xs is_odd)
