-- To be believed: calls that are counted from 1, of which some are to fail.
use Rattle.std.specs.Prelude.{ℕ, ◌+◌, ◌-◌, ◌^◌, ◌≡◌, min, List, Contains}
use Rattle.screen_io.specs.declared.calls.Calls.{Calls}

-- One more, where a count stands still at its last value.
abbrev pub one_more : ℕ → ℕ
one_more count = min (count + 1) (2 ^ 64 - 1)

-- The number of the next call stands among those that fail.
abbrev pub FailsNext : Calls → Type 0
FailsNext calls = Contains calls.failing.items (one_more calls.made)

-- A call was counted, and which calls fail is as before.
pub record IsCounted (before now : Calls) : Type 0 where
  pub made : now.made ≡ one_more before.made
  pub failing : now.failing.items ≡ before.failing.items

-- No call has been made, and these are the numbers of the calls that fail.
pub record IsNew (calls : Calls) (numbers : List ℕ) : Type 0 where
  pub made : calls.made ≡ 0
  pub faults : calls.faults ≡ 0
  pub failing : calls.failing.items ≡ numbers
