-- The fields of the first record always have an answer.
use Rattle.std.proofs.Common.{◌≡◌, ℕ, ◌<◌, ◌≤◌, ◌⊎◌, inl, inr, List, length, Result, Ok, Err, refl}
use Rattle.std.proofs.lemmas.Bool.{cases_lt}
use Rattle.rule_file.specs.declared.rules.Rules.{Rules}
use Rattle.rule_file.specs.Numbers.{sensors}
use Rattle.series_rows.specs.Faults.{fault_at}
use Rattle.series_rows.specs.Header.{HeaderView, ReadsHeader, columns_of, time_column}
use Rattle.series_rows.specs.Kept.{header_view}
use Rattle.series_rows.specs.declared.fault.TableCause.TheVariants.{TooManyColumns}
use Rattle.series_rows.specs.declared.fault.TableFault.{TableFault}
use Rattle.screen_model.specs.declared.limits.TheConstants.{MOST_COLUMNS}

module _ (rules : Rules) (fields : List (List ℕ)) where
  abbrev HasAnswer : Type 0
  HasAnswer = (answer : Result HeaderView TableFault) × ReadsHeader rules fields answer

  by_sensors : length fields ≤ MOST_COLUMNS → (time : ℕ) → time_column rules.format.time fields ≡ Ok time → (cols : Result (List ℕ) TableFault) → columns_of time fields (sensors rules) ≡ cols → HasAnswer
  by_sensors few time is (Ok cols) are = (Ok (header_view fields time cols), record { fields_are = refl; few = few; time = is; sensors_are = are })
  by_sensors few time is (Err fault) are = (Err fault, inr (few, inr (time, is, are)))

  by_time : length fields ≤ MOST_COLUMNS → (time : Result ℕ TableFault) → time_column rules.format.time fields ≡ time → HasAnswer
  by_time few (Ok time) is = by_sensors few time is (columns_of time fields (sensors rules)) refl
  by_time few (Err fault) is = (Err fault, inr (few, inl is))

  by_width : (MOST_COLUMNS < length fields) ⊎ (length fields ≤ MOST_COLUMNS) → HasAnswer
  by_width (inl many) = (Err (fault_at 0 0 TooManyColumns), inl (many, refl))
  by_width (inr few) = by_time few (time_column rules.format.time fields) refl

  pub header_answer : HasAnswer
  header_answer = by_width (cases_lt MOST_COLUMNS (length fields))
