-- To be believed: the lines of a report. Values are whole numbers of units, of which each is 10^-decimals.
use Rattle.std.specs.Prelude.{ℕ, ◌-◌, ℤ, pos, List, [], ◌∷◌, ◌++◌, length, map, filter, replicate, sum, codes, decimal}
use Rattle.fix_point.specs.Text.{text_of_value}
use Rattle.screen_model.specs.declared.bound.Bound.{Bound}
use Rattle.cert_format.specs.declared.line.Line.TheVariants.{Step}
use Rattle.cert_format.specs.Words.{line_of_words, space}
use Rattle.cert_format.specs.Line.{text_of_line}
use Rattle.repair_report.specs.declared.reading.Repaired.{Repaired}
use Rattle.repair_report.specs.Readings.{in_column, is_changed, weighted}

-- text at the right end of so many places; text that is wider is written whole
abbrev pub right_in : ℕ → List ℕ → List ℕ
right_in places text = replicate (places - length text) space ++ text

-- a line of the table of columns
abbrev pub table_line : List ℕ → List ℕ → List ℕ → List ℕ → List ℕ
table_line column readings changed change = right_in 6 column ++ right_in 10 readings ++ right_in 10 changed ++ right_in 26 change

abbrev pub heading : List ℕ
heading = table_line (codes "column") (codes "readings") (codes "changed") (codes "change")

-- a word and a value
abbrev pub value_line : List ℕ → ℕ → ℤ → List ℕ
value_line word decimals value = line_of_words (word ∷ text_of_value value decimals ∷ [])

-- a column: its number, how many of these readings are in it, how many of those changed, and their weighted change
abbrev pub column_line : ℕ → List Repaired → ℕ → List ℕ
column_line decimals readings col =
    let own = in_column col readings in
    table_line (decimal col) (decimal (length own)) (decimal (length (filter is_changed own))) (text_of_value (pos (sum (map weighted own))) decimals)

-- a rule, and what is paid for its bounds
abbrev pub rule_line : ℕ → ℕ → ℤ → List ℕ
rule_line decimals number paid = line_of_words (codes "rule" ∷ decimal number ∷ text_of_value paid decimals ∷ [])

-- a reading that changed: its place, the value that was read and the one that it has now
abbrev pub change_line : ℕ → Repaired → List ℕ
change_line decimals reading =
    line_of_words (codes "change" ∷ decimal reading.place.row ∷ decimal reading.place.col ∷ text_of_value reading.from decimals ∷ text_of_value reading.to decimals ∷ [])

-- a bound of a cycle: the step as in the certificate, and the limit
abbrev pub step_line : ℕ → Bound → List ℕ
step_line decimals bound = text_of_line (Step bound.name) ++ space ∷ text_of_value bound.limit decimals
