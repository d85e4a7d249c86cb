-- To be believed: the texts of a sample.
use Rattle.std.specs.Prelude.{ℕ, zero, suc, ℤ, List, [], ◌++◌, codes, decimal}
use Rattle.fix_point.specs.Text.{text_of_value}
use Rattle.sample_maker.specs.Walk.{reading_of}

-- in times at most 5 seconds apart the sensor changes by at most 0.03 in each second
abbrev pub rules_text : List ℕ
rules_text =
    codes "[format]\n"
    ++ codes "decimals = 2\n"
    ++ codes "[[speed]]\n"
    ++ codes "sensor = \"x\"\n"
    ++ codes "min = \"-0.03\"\n"
    ++ codes "max = \"0.03\"\n"
    ++ codes "window = 5\n"

-- a time in seconds, and a reading in hundredths
abbrev pub line_text : ℕ → ℤ → List ℕ
line_text time reading = decimal time ++ codes "," ++ text_of_value reading 2 ++ codes "\n"

-- the lines of the first so many rows: the first row has the time 0
unfoldable pub lines_text : ℕ → ℕ → List ℕ
lines_text zero seed = []
lines_text (suc time) seed = lines_text time seed ++ line_text time (reading_of seed (suc time))

abbrev pub readings_text : ℕ → ℕ → List ℕ
readings_text rows seed = codes "time,x\n" ++ lines_text rows seed
