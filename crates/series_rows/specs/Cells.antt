-- To be believed: what a field of a sensor column is read as: no reading, a reading, or why it is neither.
use Rattle.std.specs.Prelude.{ℕ, ℤ, Bool, IsTrue, IsFalse, List, [], ◌∷◌, Option, Some, None, Result, Ok, Err, codes}
use Rattle.std.specs.List.{list_any}
use Rattle.std.specs.Str.{bytes_eq}
use Rattle.fix_point.specs.Scaled.{Spells, Refuses}
use Rattle.fix_point.specs.declared.scale.NumFault.{NumFault}
use Rattle.fix_point.specs.declared.scale.TheConstants.{MOST_UNITS}
use Rattle.time_text.specs.Trimmed.{trimmed}
use Rattle.rule_file.specs.declared.rules.Format.{Format}

-- what stands for a missing reading
abbrev pub missing_words : List (List ℕ)
missing_words = [] ∷ codes "NaN" ∷ codes "nan" ∷ codes "NA" ∷ codes "null" ∷ []

-- the field without the blanks at its ends is one of these
abbrev pub is_missing : List ℕ → Bool
is_missing field = list_any (bytes_eq (trimmed field)) missing_words

-- A field is missing, or a number of units as the format says, or refused as that.
abbrev pub ReadsCell : Format → List ℕ → Result (Option ℤ) NumFault → Type 0
ReadsCell format field (Ok None) = IsTrue (is_missing field)
ReadsCell format field (Ok (Some value)) = IsFalse (is_missing field) × Spells field format.decimals format.extra MOST_UNITS value
ReadsCell format field (Err fault) = IsFalse (is_missing field) × Refuses field format.decimals format.extra MOST_UNITS fault
