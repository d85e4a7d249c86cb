-- How many bytes stand in the front of a piece.
use Rattle.std.proofs.Common.{◌≡◌, ℕ, ◌+◌, ◌-◌, ◌<◌, ◌≤◌, List, length, take, arith}
use Rattle.std.proofs.lemmas.List.{length-take-le}

pub front_length : (piece : List ℕ) (count most : ℕ) → length piece ≡ most → count ≤ most → length (take count piece) ≡ count
front_length piece count most e short = length-take-le count piece (omega (arith, e, short))

pub room_after : (piece : List ℕ) (count most room : ℕ) → length piece ≡ most → count ≤ most → count ≤ room → length (take count piece) + (room - count) ≡ room
room_after piece count most room e short within = omega (arith, front_length piece count most e short, within)

pub front_at_most : (piece : List ℕ) (count most bound : ℕ) → length piece ≡ most → count ≤ most → count ≤ bound → length (take count piece) ≤ bound
front_at_most piece count most bound e short within = omega (arith, front_length piece count most e short, within)

pub front_of_one : (piece : List ℕ) (count most : ℕ) → length piece ≡ most → count ≤ most → count ≤ 1 → 0 < count → length (take count piece) ≡ 1
front_of_one piece count most e short one some = omega (arith, front_length piece count most e short, one, some)
