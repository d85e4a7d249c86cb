-- For proofs: the sizes within which the reach of a rate can be reckoned.
use Rattle.std.specs.Prelude.{◌≤◌, List, unsigned_abs}
use Rattle.rule_keys.specs.declared.key.KeyName.{KeyName}
use Rattle.rule_keys.specs.declared.key.KeyName.TheVariants.{Per, Window}
use Rattle.rule_keys.specs.declared.key.Check.{Check}
use Rattle.rule_keys.specs.declared.key.Check.TheVariants.{Order, Reach, Differ}
use Rattle.fix_point.specs.declared.rate.TheConstants.{MOST_MILLIONTHS, MOST_PER, MOST_SPAN}
use Rattle.rule_keys.specs.Entries.{Meaning, number_at}

-- the numbers that a check multiplies are so small that the products have room
abbrev pub HasSmallNumbers : List (KeyName × Meaning) → Check → Type 0
HasSmallNumbers entries (Order _ _) = Unit {0}
HasSmallNumbers entries (Reach rate) =
    (unsigned_abs (number_at rate entries) ≤ MOST_MILLIONTHS)
    × (unsigned_abs (number_at Per entries) ≤ MOST_PER)
    × (unsigned_abs (number_at Window entries) ≤ MOST_SPAN)
HasSmallNumbers entries (Differ _ _) = Unit {0}
