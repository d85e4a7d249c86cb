-- Columns that go up from the left.
use Rattle.std.proofs.Common.{ℕ, zero, suc, ◌+◌, ◌<◌, ◌≤◌, Bool, true, false, cond, List, [], ◌∷◌, length, arith}
use Rattle.std.specs.List.{AllByRecursion, filter, range_with_len}
use Rattle.series_rows.specs.Parts.{IsWithin}
use Rattle.series_rows.specs.Row.{Rise}

pub rise_lower : (b before : ℕ) (cols : List ℕ) (last : ℕ) → b ≤ before → Rise before cols last → Rise b cols last
rise_lower b before [] last h r = tt
rise_lower b before (col ∷ cols) last h r = (omega (arith, r.0), r.1, r.2)

rise_if : (t : Bool) (b : ℕ) (cols : List ℕ) (last : ℕ) → b + 1 ≤ last → Rise (b + 1) cols last → Rise b (cond t ((b + 1) ∷ cols) cols) last
rise_if true b cols last h r = (omega arith, h, r)
rise_if false b cols last h r = rise_lower b (b + 1) cols last (omega arith) r

pub rise_range : (test : ℕ → Bool) (b n last : ℕ) → b + n ≤ last → Rise b (filter test (range_with_len (b + 1) n)) last
rise_range test b zero last h = tt
rise_range test b (suc n) last h = rise_if (test (b + 1)) b (filter test (range_with_len ((b + 1) + 1) n)) last (omega arith) (rise_range test (b + 1) n last (omega arith))

pub rise_within : (b : ℕ) (cols : List ℕ) (last : ℕ) → Rise b cols last → AllByRecursion (IsWithin last) cols
rise_within b [] last r = tt
rise_within b (col ∷ cols) last r = ((omega (arith, r.0), r.1), rise_within col cols last r.2)

pub rise_above : (b : ℕ) (cols : List ℕ) (last : ℕ) → Rise b cols last → AllByRecursion (λ col. b < col) cols
rise_above b [] last r = tt
rise_above b (col ∷ cols) last r = (r.0, rise_above b cols last (rise_lower b col cols last (omega (arith, r.0)) r.2))

pub rise_length : (b : ℕ) (cols : List ℕ) (last : ℕ) → b ≤ last → Rise b cols last → length cols + b ≤ last
rise_length b [] last h r = omega arith
rise_length b (col ∷ cols) last h r = omega (arith, r.0, rise_length col cols last r.1 r.2)
