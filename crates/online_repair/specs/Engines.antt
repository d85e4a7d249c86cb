-- For proofs: the rows that were written and those that are held, and what writing the oldest of them does.
use Rattle.std.specs.Prelude.{◌≡◌, ℕ, suc, ◌+◌, ◌≤◌, ℤ, ◌-ℤ◌, int_lt, int_le, nat_le, ◌&&◌, Bool, false, ◌⊎◌, if◌then◌else◌, List, [], ◌∷◌, ◌++◌, length, Result, Ok, Err, Option, Some, None, IsTrue}
use Rattle.std.specs.List.{list_all}
use Rattle.rule_file.specs.declared.rules.Rules.{Rules}
use Rattle.series_rows.specs.Header.{HeaderView}
use Rattle.series_rows.specs.Row.{RowView}
use Rattle.series_rows.specs.Texts.{row_text_with}
use Rattle.series_rows.specs.declared.cell.RowReading.{RowReading}
use Rattle.series_rows.specs.declared.limits.TheConstants.{MOST_ENDLESS_ROWS}
use Rattle.online_repair.specs.Output.{is_small, too_large}
use Rattle.online_repair.specs.Rows.{repaired_row}
use Rattle.online_repair.specs.Sensors.{HaveSeen}
use Rattle.online_repair.specs.Standing.{AreAbout, AreStanding}
use Rattle.online_repair.specs.declared.engine.Engine.{Engine}
use Rattle.online_repair.specs.declared.fault.OnlineFault.{OnlineFault}
use Rattle.online_repair.specs.declared.fault.OnlineFault.TheVariants.{LeavesRange, Memory}

-- the rows that are held, after those that were written, which stand latest first
abbrev pub AreRows : ℕ → List RowView → List RowView → Type 0
AreRows hold before [] = Unit {0}
AreRows hold before (oldest ∷ rest) = AreAbout hold before oldest rest

pub record Stands (rules : Rules) (header : HeaderView) (before : List RowView) (engine : Engine) : Type 0 where
  pub tracks : AreStanding rules header before engine.held.items engine.tracks.items
  pub rows : AreRows rules.format.hold before engine.held.items
  pub written_is : engine.written ≡ length before
  pub few : length before + length engine.held.items ≤ MOST_ENDLESS_ROWS

-- some rows were written
pub record CanWrite (rules : Rules) (engine : Engine) : Type 0 where
  pub header : HeaderView
  pub before : List RowView
  pub stands : Stands rules header before engine

-- what stays of an engine
pub record IsSame (old new : Engine) : Type 0 where
  pub most : new.most ≡ old.most
  pub capacity : new.held.capacity ≡ old.held.capacity

-- what the tracks have seen stays
abbrev pub KeepSeen : Engine → Engine → Type 0
KeepSeen old new = (rows : List RowView) → HaveSeen rows old.tracks.items → HaveSeen rows new.tracks.items

-- the oldest row was written
pub record IsWritten (rules : Rules) (header : HeaderView) (before : List RowView) (oldest : RowView) (rest : List RowView) (old new : Engine) (text now : List ℕ) : Type 0 where
  pub stands : Stands rules header (oldest ∷ before) new
  pub held : new.held.items ≡ rest
  pub small : IsTrue (list_all is_small (repaired_row rules header before oldest rest))
  pub text_is : now ≡ text ++ row_text_with rules oldest (repaired_row rules header before oldest rest)
  pub same : IsSame old new
  pub seen : KeepSeen old new

-- or a value of it is too large
pub record IsTooLarge (rules : Rules) (header : HeaderView) (before : List RowView) (oldest : RowView) (rest : List RowView) (fault : OnlineFault) : Type 0 where
  pub reading : RowReading
  pub is : too_large rules header before oldest rest ≡ Some reading
  pub fault_is : fault ≡ LeavesRange (suc (length before)) reading.col

abbrev pub WritesRow : Rules → HeaderView → List RowView → RowView → List RowView → Result Unit OnlineFault → Engine → Engine → List ℕ → List ℕ → Type 0
WritesRow rules header before oldest rest (Ok done) old new text now = IsWritten rules header before oldest rest old new text now
WritesRow rules header before oldest rest (Err fault) old new text now = (now ≡ text) × ((fault ≡ Memory → ⊥) → IsTooLarge rules header before oldest rest fault)

abbrev pub WritesOldest : Rules → HeaderView → List RowView → List RowView → Result Unit OnlineFault → Engine → Engine → List ℕ → List ℕ → Type 0
WritesOldest rules header before [] result old new text now = (result ≡ Ok tt) × (new ≡ old) × (now ≡ text)
WritesOldest rules header before (oldest ∷ rest) result old new text now = WritesRow rules header before oldest rest result old new text now

-- the oldest row has left those that are held, and the tracks do not know it yet
pub record Leaves (rules : Rules) (header : HeaderView) (before : List RowView) (row : RowView) (engine : Engine) : Type 0 where
  pub tracks : AreStanding rules header before (row ∷ engine.held.items) engine.tracks.items
  pub about : AreAbout rules.format.hold before row engine.held.items
  pub written_is : engine.written ≡ length before
  pub few : length before + suc (length engine.held.items) ≤ MOST_ENDLESS_ROWS

pub record HasLeft (rules : Rules) (row : RowView) (engine : Engine) : Type 0 where
  pub header : HeaderView
  pub before : List RowView
  pub leaves : Leaves rules header before row engine

-- the column of the first reading whose value is too large
abbrev pub first_large : List RowReading → List ℤ → Option ℕ
first_large [] values = None
first_large (reading ∷ readings) [] = None
first_large (reading ∷ readings) (value ∷ values) = if is_small value then first_large readings values else Some reading.col

-- of the rows that are held, the oldest that a time lies more than so many ticks past, and those after them
abbrev pub due_part : ℤ → ℤ → List RowView → List RowView
due_part most now [] = []
due_part most now (row ∷ rows) = if int_lt most (now -ℤ row.ticks) then row ∷ due_part most now rows else []

abbrev pub rest_part : ℤ → ℤ → List RowView → List RowView
rest_part most now [] = []
rest_part most now (row ∷ rows) = if int_lt most (now -ℤ row.ticks) then rest_part most now rows else row ∷ rows

-- the oldest row that is held is among them
abbrev pub first_due : ℤ → ℤ → List RowView → Bool
first_due most now [] = false
first_due most now (row ∷ rows) = int_lt most (now -ℤ row.ticks)

-- nothing is left to write
pub record IsThrough (rules : Rules) (header : HeaderView) (before rest : List RowView) (result : Result Unit OnlineFault) (old new : Engine) (text now : List ℕ) : Type 0 where
  pub result_is : result ≡ Ok tt
  pub stands : Stands rules header before new
  pub held : new.held.items ≡ rest
  pub text_is : now ≡ text
  pub same : IsSame old new
  pub seen : KeepSeen old new

-- a row was refused, or memory ran out at it
pub record IsStopped (rules : Rules) (header : HeaderView) (before : List RowView) (oldest : RowView) (rest : List RowView) (result : Result Unit OnlineFault) (text now : List ℕ) : Type 0 where
  pub fault : OnlineFault
  pub result_is : result ≡ Err fault
  pub text_is : now ≡ text
  pub refused : (fault ≡ Memory → ⊥) → IsTooLarge rules header before oldest rest fault

-- some rows were written one after the other, up to the first that is refused
abbrev pub WritesRows : Rules → HeaderView → List RowView → List RowView → List RowView → Result Unit OnlineFault → Engine → Engine → List ℕ → List ℕ → Type 0
WritesRows rules header before [] rest result old new text now = IsThrough rules header before rest result old new text now
WritesRows rules header before (row ∷ due) rest result old new text now =
    ((middle : Engine) × (more : List ℕ) × IsWritten rules header before row (due ++ rest) old middle text more × WritesRows rules header (row ∷ before) due rest result middle new more now)
    ⊎ IsStopped rules header before row (due ++ rest) result text now

-- as many rows are held as may be, and a time lies no more than so many ticks past the oldest of them
abbrev pub is_full_at : ℕ → ℤ → List RowView → ℤ → Bool
is_full_at hold most [] now = false
is_full_at hold most (oldest ∷ others) now = nat_le hold (length (oldest ∷ others)) && int_le (now -ℤ oldest.ticks) most
