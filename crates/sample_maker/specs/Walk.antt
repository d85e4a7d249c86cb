-- To be believed: the readings of a sample, a walk in small steps with spikes.
use Rattle.std.specs.Prelude.{ℕ, zero, suc, ◌+◌, ◌*◌, ◌/◌, ◌%◌, ◌^◌, ◌==◌, ℤ, pos, ◌+ℤ◌, ◌-ℤ◌, if◌then◌else◌}

-- the state of a linear congruential generator after another one
abbrev pub state_after : ℕ → ℕ
state_after state = (state * 1103515245 + 12345) % 2 ^ 31

-- the number that is drawn from a state: its upper 15 bits
abbrev pub drawn_from : ℕ → ℕ
drawn_from state = state / 65536

-- the level, in hundredths, after a step of -3 to 3
abbrev pub level_after : ℤ → ℕ → ℤ
level_after level draw = (level +ℤ pos (draw % 7)) -ℤ pos 3

-- what is read at a level: in one of fifty draws a spike of 5 wholes
abbrev pub reading_at : ℤ → ℕ → ℤ
reading_at level draw = if draw % 50 == 0 then level +ℤ pos 500 else level

-- the state at a row; rows are counted from 1, and the number that the sample is made from is the state before them
unfoldable pub state_of : ℕ → ℕ → ℕ
state_of seed zero = seed
state_of seed (suc k) = state_after (state_of seed k)

abbrev pub draw_of : ℕ → ℕ → ℕ
draw_of seed k = drawn_from (state_of seed k)

-- the level at a row, of 200 wholes before the first
unfoldable pub level_of : ℕ → ℕ → ℤ
level_of seed zero = pos 20000
level_of seed (suc k) = level_after (level_of seed k) (draw_of seed (suc k))

abbrev pub reading_of : ℕ → ℕ → ℤ
reading_of seed k = reading_at (level_of seed k) (draw_of seed k)
