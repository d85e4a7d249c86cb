-- For proofs: what a byte does to a record that is being read.
use Rattle.std.specs.Prelude.{◌≡◌, ℕ, suc, Bool, true, false, List, [], ◌∷◌, ◌++◌, Result, Ok, Err}
use Rattle.record_cut.specs.Bytes.{carriage_return}
use Rattle.record_cut.specs.Record.{Whole, Bad, Fields, OpenField, CrAfterQuote, Nothing as NoRecord}
use Rattle.record_cut.specs.Records.{Rest, only, records_from}
use Rattle.record_cut.specs.Drafted.{Drafted}
use Rattle.record_cut.specs.Resumed.{continued, resumed, FitsPlace, Fits}
use Rattle.record_cut.specs.declared.fault.CutFault.{CutFault}
use Rattle.record_cut.specs.declared.fault.CutFault.TheVariants.{BadQuote, RecordTooLong, OpenQuote, Memory}
use Rattle.record_cut.specs.declared.phase.Place.{Place}
use Rattle.record_cut.specs.declared.phase.Place.TheVariants.{Field as AtField, Plain, PlainCr, Quoted, QuoteInQuoted, ClosedCr}
use Rattle.record_cut.specs.declared.phase.Phase.{Phase}
use Rattle.record_cut.specs.declared.phase.Phase.TheVariants.{Input, MarkOne, MarkTwo, Record, RecordCr, Inside, Refused}
use Rattle.record_cut.specs.declared.phase.Move.{Move}
use Rattle.record_cut.specs.declared.phase.Move.TheVariants.{To, EndRecord}
use Rattle.record_cut.specs.declared.phase.Opening.{Opening}
use Rattle.record_cut.specs.declared.phase.Opening.TheVariants.{Read, Keep, Skip, Refuse as Refuses}
use Rattle.record_cut.specs.declared.phase.Ending.{Ending}
use Rattle.record_cut.specs.declared.phase.Ending.TheVariants.{Nothing, Field, FieldAndCr, Refuse}

-- the byte was added to the field, and the next one stands at this place
abbrev pub AddsByte : Place → Drafted → ℕ → Result Move CutFault → Drafted → Type 0
AddsByte place old byte (Ok (To next)) new = (next ≡ place) × (new.fields ≡ old.fields) × (new.field ≡ old.field ++ byte ∷ [])
AddsByte place old byte (Ok EndRecord) new = ⊥
AddsByte place old byte (Err BadQuote) new = ⊥
AddsByte place old byte (Err RecordTooLong) new = ⊥
AddsByte place old byte (Err OpenQuote) new = ⊥
AddsByte place old byte (Err Memory) new = Unit {0}

-- the field has ended, and the next begins
abbrev pub EndsField : Drafted → Result Move CutFault → Drafted → Type 0
EndsField old (Ok (To next)) new = (next ≡ AtField) × (new.fields ≡ old.fields ++ old.field ∷ []) × (new.field ≡ [])
EndsField old (Ok EndRecord) new = ⊥
EndsField old (Err BadQuote) new = ⊥
EndsField old (Err RecordTooLong) new = ⊥
EndsField old (Err OpenQuote) new = ⊥
EndsField old (Err Memory) new = Unit {0}

pub record GoesTo (sep : ℕ) (place : Place) (old : Drafted) (byte : ℕ) (next : Place) (new : Drafted) : Type 0 where
  pub fits : FitsPlace next new
  pub same : (more : List ℕ) → continued sep place old (byte ∷ more) ≡ continued sep next new more

-- by the grammar, the byte at this place leads to the next place, ends the record or is wrong
abbrev pub Moves : ℕ → Place → Drafted → ℕ → Result Move CutFault → Drafted → Type 0
Moves sep place old byte (Ok (To next)) new = GoesTo sep place old byte next new
Moves sep place old byte (Ok EndRecord) new = (more : List ℕ) → continued sep place old (byte ∷ more) ≡ Whole (new.fields ++ new.field ∷ []) more
Moves sep place old byte (Err BadQuote) new = (more : List ℕ) → continued sep place old (byte ∷ more) ≡ Bad (byte ∷ more)
Moves sep place old byte (Err RecordTooLong) new = ⊥
Moves sep place old byte (Err OpenQuote) new = ⊥
Moves sep place old byte (Err Memory) new = Unit {0}

-- the next byte stands in an unquoted field or at the beginning of a field
abbrev pub in_unquoted : Phase → Bool
in_unquoted Input = false
in_unquoted MarkOne = false
in_unquoted MarkTwo = false
in_unquoted Record = false
in_unquoted RecordCr = false
in_unquoted (Inside AtField) = true
in_unquoted (Inside Plain) = true
in_unquoted (Inside PlainCr) = false
in_unquoted (Inside Quoted) = false
in_unquoted (Inside QuoteInQuoted) = false
in_unquoted (Inside ClosedCr) = false
in_unquoted (Refused fault) = false

-- the same, or the next byte begins a record
abbrev pub is_unquoted : Phase → Bool
is_unquoted Input = false
is_unquoted MarkOne = false
is_unquoted MarkTwo = false
is_unquoted Record = true
is_unquoted RecordCr = false
is_unquoted (Inside place) = in_unquoted (Inside place)
is_unquoted (Refused fault) = false

-- by the grammar, the byte after these that began the record belongs to the record itself, may yet be
-- something else, or ends an empty line or a mark
abbrev pub Opens : ℕ → Phase → Drafted → ℕ → ℕ → Opening → Type 0
Opens sep phase draft count byte (Read place) = FitsPlace place draft × ((all : ℕ) (more : List ℕ) → resumed sep phase draft count all (byte ∷ more) ≡ resumed sep (Inside place) draft count all (byte ∷ more))
Opens sep phase draft count byte (Keep next) = (new : Drafted) (more_count : ℕ) → new.fields ≡ draft.fields → new.field ≡ draft.field ++ byte ∷ [] → more_count ≡ suc count → Fits next new more_count × ((all : ℕ) (more : List ℕ) → resumed sep phase draft count all (byte ∷ more) ≡ resumed sep next new more_count all more)
Opens sep phase draft count byte Skip = (all : ℕ) (more : List ℕ) → resumed sep phase draft count all (byte ∷ more) ≡ records_from sep all more
Opens sep phase draft count byte (Refuses fault) = ⊥

-- by the grammar, the end of the text leaves nothing, the record with the draft's field, the same with one
-- more carriage return, or what is refused
abbrev pub Leaves : ℕ → Phase → Drafted → ℕ → Ending → Type 0
Leaves sep phase draft count Nothing = (all : ℕ) → resumed sep phase draft count all [] ≡ only (Rest NoRecord)
Leaves sep phase draft count Field = (all : ℕ) → resumed sep phase draft count all [] ≡ only (Rest (Fields (draft.fields ++ draft.field ∷ [])))
Leaves sep phase draft count FieldAndCr = (all : ℕ) → resumed sep phase draft count all [] ≡ only (Rest (Fields (draft.fields ++ (draft.field ++ carriage_return ∷ []) ∷ [])))
Leaves sep phase draft count (Refuse BadQuote) = (all : ℕ) → resumed sep phase draft count all [] ≡ only (Rest CrAfterQuote)
Leaves sep phase draft count (Refuse OpenQuote) = (all : ℕ) → resumed sep phase draft count all [] ≡ only (Rest OpenField)
Leaves sep phase draft count (Refuse RecordTooLong) = ⊥
Leaves sep phase draft count (Refuse Memory) = ⊥
