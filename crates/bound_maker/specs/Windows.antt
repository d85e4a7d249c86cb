-- For proofs: readings of a column in the order of time, and those that stand before a moment.
use Rattle.std.specs.Prelude.{◌≡◌, ℕ, suc, Bool, true, false, ℤ, pos, ◌-ℤ◌, ◌≤ℤ◌, ◌<ℤ◌, int_lt, List, [], ◌∷◌, None, IsSome, if◌then◌else◌}
use Rattle.std.specs.List.{AllByRecursion}
use Rattle.screen_model.specs.declared.bound.Side.{Side}
use Rattle.rule_file.specs.Numbers.{Rule}
use Rattle.pair_bounds.specs.declared.stamp.Stamp.{Stamp}
use Rattle.pair_bounds.specs.Pairs.{elapsed, is_within}
use Rattle.bound_maker.specs.declared.reading.Reading.{Reading}
use Rattle.bound_maker.specs.declared.window.Window.{Window}
use Rattle.bound_maker.specs.Pairs.{pair_bound}

-- each reading comes earlier than all that follow
abbrev pub StampsRise : List Reading → Type 0
StampsRise [] = Unit {0}
StampsRise (reading ∷ readings) = AllByRecursion (λ (later : Reading). reading.stamp.ticks <ℤ later.stamp.ticks) readings × StampsRise readings

-- a reading is less than so many ticks later than a time
abbrev pub is_before : ℤ → ℤ → Reading → Bool
is_before from ticks reading = int_lt (reading.stamp.ticks -ℤ from) ticks

-- how many pass a test before the first that does not
abbrev pub lead : {A : Type 0} → (A → Bool) → List A → ℕ
lead test [] = 0
lead test (x ∷ xs) = if test x then suc (lead test xs) else 0

-- how many stand before the first that is not
abbrev pub count_before : ℤ → ℤ → List Reading → ℕ
count_before from ticks readings = lead (is_before from ticks) readings

-- a window begins later than the reading itself
pub record IsWindow (window : Window) : Type 0 where
  pub least : pos 1 ≤ℤ window.least
  pub ordered : window.least ≤ℤ window.most

-- the rule speaks of no two readings that are further apart, or less far
abbrev pub SpeaksWithin : Rule → Window → Type 0
SpeaksWithin rule window =
    (number d col : ℕ) (from to : Stamp) (side : Side) → is_within window.least window.most (elapsed from to) ≡ false → pair_bound number rule d col from to side ≡ None

-- and where they are not, of both sides
abbrev pub SpeaksOf : Rule → Window → Type 0
SpeaksOf rule window =
    (number d col : ℕ) (from to : Stamp) (side : Side) → is_within window.least window.most (elapsed from to) ≡ true → IsSome (pair_bound number rule d col from to side)

-- the rule speaks of no two readings of a column
abbrev pub SpeaksOfNone : Rule → Type 0
SpeaksOfNone rule = (number d col : ℕ) (from to : Stamp) (side : Side) → pair_bound number rule d col from to side ≡ None

-- what a rule speaks of lies in this window, and all that lies there
pub record HasWindow (rule : Rule) (window : Window) : Type 0 where
  pub is_window : IsWindow window
  pub within : SpeaksWithin rule window
  pub all : SpeaksOf rule window

-- the second reading lies in the window of the first
abbrev pub is_pair_within : Window → Reading × Reading → Bool
is_pair_within window pair = is_within window.least window.most (elapsed pair.0.stamp pair.1.stamp)
