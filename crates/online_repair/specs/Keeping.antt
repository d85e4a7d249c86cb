-- For proofs: the rows that an engine has accepted, and what accepting one more does.
use Rattle.std.specs.Prelude.{◌≡◌, ℕ, ◌^◌, ◌<◌, ◌≤◌, ℤ, ◌<ℤ◌, false, true, List, [], ◌∷◌, ◌++◌, length, reverse, Option, Some, None, Result, Ok, Err}
use Rattle.std.specs.List.{AllByRecursion}
use Rattle.rule_file.specs.declared.rules.Rules.{Rules}
use Rattle.series_rows.specs.Header.{HeaderView}
use Rattle.series_rows.specs.Row.{RowView}
use Rattle.series_rows.specs.declared.limits.TheConstants.{MOST_ENDLESS_ROWS}
use Rattle.online_repair.specs.Accepted.{greatest_window, held, refusal}
use Rattle.online_repair.specs.Engines.{Stands, due_part, rest_part}
use Rattle.online_repair.specs.Sensors.{HaveSeen}
use Rattle.online_repair.specs.Output.{leaving, texts}
use Rattle.online_repair.specs.Shown.{AreShown}
use Rattle.online_repair.specs.Standing.{IsSound}
use Rattle.online_repair.specs.Storing.{ArePast, Fall, rows_text}
use Rattle.online_repair.specs.declared.engine.Engine.{Engine}
use Rattle.online_repair.specs.declared.fault.OnlineFault.{OnlineFault}
use Rattle.online_repair.specs.declared.fault.OnlineFault.TheVariants.{Memory}

abbrev pub AreBefore : ℤ → List RowView → Type 0
AreBefore now rows = AllByRecursion (λ (row : RowView). row.ticks <ℤ now) rows

-- these rows were accepted, which stand in order
pub record KeepsRows (rules : Rules) (header : HeaderView) (accepted : List RowView) (engine : Engine) : Type 0 where
  pub before : List RowView
  pub joined : accepted ≡ reverse before ++ engine.held.items
  pub held_is : engine.held.items ≡ held engine.most accepted
  pub stands : Stands rules header before engine
  pub most_is : engine.most ≡ greatest_window rules.speeds
  pub room_is : engine.held.capacity ≡ rules.format.hold
  pub fall : Fall before
  pub past : (now : ℤ) → AreBefore now accepted → ArePast engine.most now before
  pub held_fits : length engine.held.items ≤ rules.format.hold
  pub hold_least : 1 ≤ rules.format.hold
  pub hold_fits : rules.format.hold < 2 ^ 32
  pub seen : HaveSeen (reverse accepted) engine.tracks.items
  pub shown : AreShown rules header before engine.held.items

-- a row may come after them
pub record IsNext (accepted : List RowView) (row : RowView) : Type 0 where
  pub later : AreBefore row.ticks accepted
  pub sound : IsSound row
  pub few : length accepted < MOST_ENDLESS_ROWS

pub record CanAccept (rules : Rules) (row : RowView) (engine : Engine) : Type 0 where
  pub header : HeaderView
  pub accepted : List RowView
  pub keeps : KeepsRows rules header accepted engine
  pub next : IsNext accepted row

-- The texts of the rows that are ready were those before, and these bytes now; so is the text that was written.
pub record AddsText (rules : Rules) (header : HeaderView) (accepted : List RowView) (row : RowView) (added text now : List ℕ) : Type 0 where
  pub texts_are : texts rules header false [] (accepted ++ row ∷ []) ≡ texts rules header false [] accepted ++ added
  pub text_is : now ≡ text ++ added

-- The text was written up to a row of which a value is too large, or memory ran out: a part of what the definition adds.
pub record Stops (rules : Rules) (header : HeaderView) (accepted : List RowView) (row : RowView) (fault : OnlineFault) (text now : List ℕ) : Type 0 where
  pub added : List ℕ
  pub more : List ℕ
  pub texts_are : texts rules header false [] (accepted ++ row ∷ []) ≡ texts rules header false [] accepted ++ added ++ more
  pub text_is : now ≡ text ++ added
  pub refused : (fault ≡ Memory → ⊥) → (more ≡ []) × (leaving rules header false 1 [] (accepted ++ row ∷ []) ≡ Some fault)

-- It is accepted, and those that it makes ready were written; or the first of these of which a value is too large is
-- refused, or memory ran out.
abbrev pub Holds : Rules → HeaderView → List RowView → List RowView → List RowView → List RowView → RowView → Result Unit OnlineFault → Engine → List ℕ → List ℕ → Type 0
Holds rules header accepted before due rest row (Ok done) new text now = KeepsRows rules header (accepted ++ row ∷ []) new × AddsText rules header accepted row (rows_text rules header before due rest) text now
Holds rules header accepted before due rest row (Err fault) new text now = Stops rules header accepted row fault text now

-- the row is refused as `refusal` says, or not
abbrev pub AcceptsBy : Option OnlineFault → Rules → HeaderView → List RowView → List RowView → List RowView → List RowView → RowView → Result Unit OnlineFault → Engine → List ℕ → List ℕ → Type 0
AcceptsBy (Some fault) rules header accepted before due rest row result new text now = (result ≡ Err fault) × (now ≡ text)
AcceptsBy None rules header accepted before due rest row result new text now = Holds rules header accepted before due rest row result new text now

abbrev pub Accepts : (rules : Rules) (header : HeaderView) (accepted : List RowView) (row : RowView) → Result Unit OnlineFault → (old : Engine) → KeepsRows rules header accepted old → Engine → List ℕ → List ℕ → Type 0
Accepts rules header accepted row result old keeps new text now =
    AcceptsBy (refusal rules header accepted row) rules header accepted keeps.before (due_part old.most row.ticks old.held.items) (rest_part old.most row.ticks old.held.items) row result new text now

-- At the end all rows are written; or the first of these of which a value is too large is refused, or memory ran out.
pub record EndsWell (rules : Rules) (header : HeaderView) (accepted : List RowView) (engine : Engine) (text now : List ℕ) : Type 0 where
  pub added : List ℕ
  pub texts_are : texts rules header true [] accepted ≡ texts rules header false [] accepted ++ added
  pub text_is : now ≡ text ++ added
  pub none_leaves : leaving rules header true 1 [] accepted ≡ None
  pub stands : Stands rules header (reverse accepted) engine
  pub none_held : engine.held.items ≡ []

pub record EndStops (rules : Rules) (header : HeaderView) (accepted : List RowView) (fault : OnlineFault) (text now : List ℕ) : Type 0 where
  pub added : List ℕ
  pub more : List ℕ
  pub texts_are : texts rules header true [] accepted ≡ texts rules header false [] accepted ++ added ++ more
  pub text_is : now ≡ text ++ added
  pub refused : (fault ≡ Memory → ⊥) → (more ≡ []) × (leaving rules header true 1 [] accepted ≡ Some fault)

abbrev pub Ends : Rules → HeaderView → List RowView → Result Unit OnlineFault → Engine → List ℕ → List ℕ → Type 0
Ends rules header accepted (Ok done) engine text now = EndsWell rules header accepted engine text now
Ends rules header accepted (Err fault) engine text now = EndStops rules header accepted fault text now

pub record HasKept (rules : Rules) (engine : Engine) : Type 0 where
  pub header : HeaderView
  pub accepted : List RowView
  pub keeps : KeepsRows rules header accepted engine
