-- To be believed: what the fields of the first record are read as: a header, or why they are none.
use Rattle.std.specs.Prelude.{◌≡◌, ◌⊎◌, ℕ, Bool, suc, ◌-◌, ◌<◌, ◌≤◌, ◌==◌, not, List, [], ◌∷◌, length, Option, Some, None, Result, Ok, Err, if◌then◌else◌}
use Rattle.std.specs.List.{filter, find, list_any, range_with_len, slice_index_or}
use Rattle.std.specs.Str.{bytes_eq}
use Rattle.time_text.specs.Trimmed.{trimmed}
use Rattle.rule_file.specs.Numbers.{NamedSensor, sensors}
use Rattle.rule_file.specs.declared.rules.Rules.{Rules}
use Rattle.series_rows.specs.Faults.{fault_at}
use Rattle.series_rows.specs.declared.fault.TableCause.TheVariants.{TooManyColumns, NameTwice, NoSuchSensor}
use Rattle.series_rows.specs.declared.fault.TableFault.{TableFault}
use Rattle.screen_model.specs.declared.limits.TheConstants.{MOST_COLUMNS}

-- What contracts see of a header. Columns are counted from 1.
pub record HeaderView : Type 0 where
  pub fields : List (List ℕ)
  pub time_col : ℕ
  -- the column of each sensor, in the order of the rules' numbers
  pub sensor_cols : List ℕ

-- the field in a column
abbrev pub field_at : List (List ℕ) → ℕ → List ℕ
field_at fields col = slice_index_or fields (col - 1) []

-- a field bears the name: it is the name, but for the blanks at its ends
abbrev pub bears : List ℕ → List ℕ → Bool
bears name field = bytes_eq (trimmed field) name

-- the columns that bear the name, from the left; the first field stands in the column given
abbrev pub columns_named_from : ℕ → List ℕ → List (List ℕ) → List ℕ
columns_named_from col name [] = []
columns_named_from col name (field ∷ fields) =
    if bears name field then col ∷ columns_named_from (suc col) name fields else columns_named_from (suc col) name fields

abbrev pub columns_named : List ℕ → List (List ℕ) → List ℕ
columns_named name fields = columns_named_from 1 name fields

-- Of the columns that bear the name of a sensor of this rule there must be one: none is a fault, and so is the second.
abbrev pub the_only_column : ℕ → List ℕ → Result ℕ TableFault
the_only_column rule [] = Err (fault_at 0 0 (NoSuchSensor rule))
the_only_column rule (col ∷ []) = Ok col
the_only_column rule (first ∷ second ∷ others) = Err (fault_at 0 second NameTwice)

-- The time column: the one with the name that the rules give, and the first where they give none. A record has a
-- field; a header of no fields would lack that column.
abbrev pub time_column : Option (List ℕ) → List (List ℕ) → Result ℕ TableFault
time_column (Some name) fields = the_only_column 0 (columns_named name fields)
time_column None (field ∷ fields) = Ok 1
time_column None [] = the_only_column 0 []

abbrev pub other_than : ℕ → List ℕ → List ℕ
other_than col cols = filter (λ other. not (other == col)) cols

-- the column of a sensor, which is not the time column
abbrev pub sensor_column : ℕ → List (List ℕ) → NamedSensor → Result ℕ TableFault
sensor_column time fields sensor = the_only_column sensor.rule (other_than time (columns_named sensor.name fields))

abbrev pub with_first : Result ℕ TableFault → Result (List ℕ) TableFault → Result (List ℕ) TableFault
with_first (Ok col) (Ok cols) = Ok (col ∷ cols)
with_first (Ok col) (Err fault) = Err fault
with_first (Err fault) others = Err fault

-- the column of each sensor, or the first fault
abbrev pub columns_of : ℕ → List (List ℕ) → List NamedSensor → Result (List ℕ) TableFault
columns_of time fields [] = Ok []
columns_of time fields (sensor ∷ others) = with_first (sensor_column time fields sensor) (columns_of time fields others)

-- the fields are this header
pub record IsHeader (rules : Rules) (fields : List (List ℕ)) (header : HeaderView) : Type 0 where
  pub fields_are : header.fields ≡ fields
  pub few : length fields ≤ MOST_COLUMNS
  pub time : time_column rules.format.time fields ≡ Ok header.time_col
  pub sensors_are : columns_of header.time_col fields (sensors rules) ≡ Ok header.sensor_cols

-- why the fields are no header: they are too many; or the time column is refused; or a sensor is
abbrev pub RefusesHeader : Rules → List (List ℕ) → TableFault → Type 0
RefusesHeader rules fields fault =
    ((MOST_COLUMNS < length fields) × (fault ≡ fault_at 0 0 TooManyColumns))
    ⊎ ((length fields ≤ MOST_COLUMNS)
    × ((time_column rules.format.time fields ≡ Err fault)
    ⊎ ((time : ℕ) × (time_column rules.format.time fields ≡ Ok time) × (columns_of time fields (sensors rules) ≡ Err fault))))

-- what the fields of the first record are read as by the rules
abbrev pub ReadsHeader : Rules → List (List ℕ) → Result HeaderView TableFault → Type 0
ReadsHeader rules fields (Ok header) = IsHeader rules fields header
ReadsHeader rules fields (Err fault) = RefusesHeader rules fields fault

-- those of so many columns that are columns of sensors, from the left, each once
abbrev pub named_by_sensors : List ℕ → ℕ → List ℕ
named_by_sensors sensor_cols width = filter (λ col. list_any (λ sensor. sensor == col) sensor_cols) (range_with_len 1 width)

-- the sensor columns from the left, each once, though several rules may name one
abbrev pub sensor_columns : HeaderView → List ℕ
sensor_columns header = named_by_sensors header.sensor_cols (length header.fields)

-- the first sensor column that bears a name, if there is one
abbrev pub column_of : HeaderView → List ℕ → Option ℕ
column_of header name = find (λ col. bears name (field_at header.fields col)) (sensor_columns header)
