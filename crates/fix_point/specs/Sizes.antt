-- For proofs: the whole number that is taken for a fraction, whose parts are given by numbers.
use Rattle.std.specs.Prelude.{◌≡◌, ℕ, ◌+◌, ◌*◌, ◌<◌, ◌≤◌}
use Rattle.fix_point.specs.declared.scale.Extra.{Extra}
use Rattle.fix_point.specs.declared.scale.Extra.TheVariants.{Refuse, Round}
use Rattle.fix_point.specs.declared.scale.NumFault.{NumFault}
use Rattle.fix_point.specs.declared.scale.NumFault.TheVariants.{NotNumber, TooFine, OutOfRange}

-- size is the whole number nearest to this fraction, the greater one of two
pub record IsNearestTo (over under size : ℕ) : Type 0 where
  pub low : 2 * (size * under) ≤ 2 * over + under
  pub high : 2 * over + under < 2 * ((size + 1) * under)

-- what is taken for the fraction: the number itself, or the nearest one
abbrev pub IsTakenFor : Extra → ℕ → ℕ → ℕ → Type 0
IsTakenFor Refuse over under size = size * under ≡ over
IsTakenFor Round over under size = IsNearestTo over under size

-- it is at most this great
pub record IsSize (extra : Extra) (over under most size : ℕ) : Type 0 where
  pub taken : IsTakenFor extra over under size
  pub small : size ≤ most

abbrev pub RefusesSize : Extra → ℕ → ℕ → ℕ → NumFault → Type 0
RefusesSize extra over under most NotNumber = ⊥
RefusesSize extra over under most TooFine = (extra ≡ Refuse) × ((size : ℕ) → ¬ (size * under ≡ over))
RefusesSize extra over under most OutOfRange = (size : ℕ) × IsTakenFor extra over under size × (most < size)
