-- For proofs: what accepting a row does with those that are held.
use Rattle.std.specs.Prelude.{◌≡◌, ℕ, ◌^◌, ◌+◌, ◌<◌, ◌≤◌, ℤ, ◌-ℤ◌, ◌<ℤ◌, false, List, [], ◌∷◌, ◌++◌, length, Result, Ok, Err}
use Rattle.std.specs.List.{AllByRecursion}
use Rattle.rule_file.specs.declared.rules.Rules.{Rules}
use Rattle.series_rows.specs.Header.{HeaderView}
use Rattle.series_rows.specs.Row.{RowView}
use Rattle.series_rows.specs.Texts.{row_text_with}
use Rattle.series_rows.specs.declared.limits.TheConstants.{MOST_ENDLESS_ROWS}
use Rattle.online_repair.specs.Accepted.{greatest_window}
use Rattle.online_repair.specs.Engines.{IsSame, Stands, WritesRows, due_part, is_full_at, rest_part}
use Rattle.online_repair.specs.Rows.{repaired_row}
use Rattle.online_repair.specs.Sensors.{HaveSeen}
use Rattle.online_repair.specs.Shown.{AreSmallRows}
use Rattle.online_repair.specs.Standing.{FallsFrom, IsSound}
use Rattle.online_repair.specs.declared.engine.Engine.{Engine}
use Rattle.online_repair.specs.declared.fault.OnlineFault.{OnlineFault}

-- each row is earlier than the one before it in the list
abbrev pub Fall : List RowView → Type 0
Fall [] = Unit {0}
Fall (row ∷ rows) = FallsFrom row.ticks rows

-- rows that lie more than so many ticks before a time
abbrev pub ArePast : ℤ → ℤ → List RowView → Type 0
ArePast most now rows = AllByRecursion (λ (row : RowView). most <ℤ (now -ℤ row.ticks)) rows

-- a row may be held, after the rows before were written, which stand latest first
pub record MayStore (rules : Rules) (header : HeaderView) (before : List RowView) (row : RowView) (engine : Engine) : Type 0 where
  pub stands : Stands rules header before engine
  pub most_is : engine.most ≡ greatest_window rules.speeds
  pub room_is : engine.held.capacity ≡ rules.format.hold
  pub fall : Fall before
  pub past : ArePast engine.most row.ticks before
  pub later : AllByRecursion (λ (other : RowView). other.ticks <ℤ row.ticks) engine.held.items
  pub sound : IsSound row
  pub few : length before + length engine.held.items < MOST_ENDLESS_ROWS
  pub hold_least : 1 ≤ rules.format.hold
  pub hold_fits : rules.format.hold < 2 ^ 32
  pub held_fits : length engine.held.items ≤ rules.format.hold
  pub not_full : is_full_at rules.format.hold engine.most engine.held.items row.ticks ≡ false

pub record CanStore (rules : Rules) (row : RowView) (engine : Engine) : Type 0 where
  pub header : HeaderView
  pub before : List RowView
  pub may : MayStore rules header before row engine

-- rows, which go to the front of others one after the other
abbrev pub onto : List RowView → List RowView → List RowView
onto [] before = before
onto (row ∷ rows) before = onto rows (row ∷ before)

-- the texts of rows that are written
abbrev pub rows_text : Rules → HeaderView → List RowView → List RowView → List RowView → List ℕ
rows_text rules header before [] rest = []
rows_text rules header before (row ∷ due) rest =
    row_text_with rules row (repaired_row rules header before row (due ++ rest)) ++ rows_text rules header (row ∷ before) due rest

-- those that are due were written, and the row is held
pub record IsStored (rules : Rules) (header : HeaderView) (before due rest : List RowView) (row : RowView) (old new : Engine) (text now : List ℕ) : Type 0 where
  pub stands : Stands rules header (onto due before) new
  pub held : new.held.items ≡ rest ++ row ∷ []
  pub same : IsSame old new
  pub text_is : now ≡ text ++ rows_text rules header before due rest
  pub seen : (rows : List RowView) → HaveSeen rows old.tracks.items → HaveSeen (row ∷ rows) new.tracks.items
  pub small : AreSmallRows rules header before due rest

abbrev pub StoresOf : Rules → HeaderView → List RowView → List RowView → List RowView → RowView → Result Unit OnlineFault → Engine → Engine → List ℕ → List ℕ → Type 0
StoresOf rules header before due rest row (Ok done) old new text now = IsStored rules header before due rest row old new text now
StoresOf rules header before due rest row (Err fault) old new text now = (started : Engine) × (ended : Engine) × WritesRows rules header before due rest (Err fault) started ended text now

abbrev pub Stores : Rules → HeaderView → List RowView → RowView → Result Unit OnlineFault → Engine → Engine → List ℕ → List ℕ → Type 0
Stores rules header before row result old new text now =
    StoresOf rules header before (due_part old.most row.ticks old.held.items) (rest_part old.most row.ticks old.held.items) row result old new text now
