-- For proofs: the rows that were written are ready, and their values are small.
use Rattle.std.specs.Prelude.{◌≡◌, ℤ, true, false, List, [], ◌∷◌, ◌++◌, reverse}
use Rattle.std.specs.List.{list_all}
use Rattle.rule_file.specs.declared.rules.Rules.{Rules}
use Rattle.series_rows.specs.Header.{HeaderView}
use Rattle.series_rows.specs.Row.{RowView}
use Rattle.online_repair.specs.Accepted.{greatest_window, is_ready}
use Rattle.online_repair.specs.Output.{is_small}
use Rattle.online_repair.specs.Rows.{repaired_row}

-- these rows are ready, where those others come after them
abbrev pub AreReady : ℤ → List RowView → List RowView → Type 0
AreReady most [] rest = Unit {0}
AreReady most (row ∷ rows) rest = (is_ready most row (rows ++ rest) ≡ true) × AreReady most rows rest

-- their values are small
abbrev pub AreSmallRows : Rules → HeaderView → List RowView → List RowView → List RowView → Type 0
AreSmallRows rules header before [] rest = Unit {0}
AreSmallRows rules header before (row ∷ rows) rest = (list_all is_small (repaired_row rules header before row (rows ++ rest)) ≡ true) × AreSmallRows rules header (row ∷ before) rows rest

-- no row of these is ready
abbrev pub AreWaiting : ℤ → List RowView → Type 0
AreWaiting most [] = Unit {0}
AreWaiting most (row ∷ rows) = (is_ready most row rows ≡ false) × AreWaiting most rows

-- The rows before were written, which stand latest first, and the others are held.
pub record AreShown (rules : Rules) (header : HeaderView) (before items : List RowView) : Type 0 where
  pub ready : AreReady (greatest_window rules.speeds) (reverse before) items
  pub small : AreSmallRows rules header [] (reverse before) items
  pub waiting : AreWaiting (greatest_window rules.speeds) items
