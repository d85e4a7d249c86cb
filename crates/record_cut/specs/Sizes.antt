-- To be believed: how great a record can be, and its grammar without the bounds on its recursion.
use Rattle.std.specs.Prelude.{◌≡◌, ℕ, suc, ◌+◌, ◌<◌, ◌≤◌, List, [], ◌∷◌, length}
use Rattle.std.specs.List.{AllByRecursion}
use Rattle.record_cut.specs.Bytes.{after_line_break}
use Rattle.record_cut.specs.Field.{field_at}
use Rattle.record_cut.specs.Record.{Nothing, by_field, record_at}
use Rattle.record_cut.specs.Records.{Rest, only, by_record, by_line_break, records_from}
use Rattle.record_cut.specs.Ended.{ended}
use Rattle.record_cut.specs.declared.cutter.TheConstants.{LONGEST}

-- the bytes of the fields, and one for each field: that of the separator or the line break after it
abbrev pub size_of_fields : List (List ℕ) → ℕ
size_of_fields [] = 0
size_of_fields (field ∷ fields) = suc (length field) + size_of_fields fields

-- The record has a field, and the bytes of its fields with the separators between them are no more than a record may have.
pub record IsSmall (fields : List (List ℕ)) : Type 0 where
  pub some : 0 < length fields
  pub short : size_of_fields fields ≤ LONGEST + 1

abbrev pub RecordsAreSmall : Type 0
RecordsAreSmall = (sep : ℕ) (bytes : List ℕ) → AllByRecursion IsSmall (ended sep bytes).records

-- a record is its first field, and the record that goes on after it
abbrev pub ByFields : Type 0
ByFields = (sep : ℕ) (bytes : List ℕ) → record_at sep bytes ≡ by_field (record_at sep) sep (field_at sep bytes)

-- no bytes have no record
abbrev pub OfNone : Type 0
OfNone = (sep all : ℕ) → records_from sep all [] ≡ only (Rest Nothing)

-- the records of some bytes are those after an empty line, or the record at their beginning and those after it
abbrev pub ByLines : Type 0
ByLines = (sep all byte : ℕ) (rest : List ℕ) → records_from sep all (byte ∷ rest)
    ≡ by_line_break (records_from sep all) (by_record (records_from sep all) all (length (byte ∷ rest)) (record_at sep (byte ∷ rest))) (after_line_break (byte ∷ rest))
