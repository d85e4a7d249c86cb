-- To be believed: what the online repair answers to a piece of a file and to its end, what it adds to the text, and which
-- windows it shows.
use Rattle.std.specs.Prelude.{◌≡◌, ℕ, ◌-◌, Bool, true, false, List, [], ◌∷◌, ◌++◌, length, reverse, take, Option, Some, None, Result, Ok, Err, OnOk}
use Rattle.rule_file.specs.declared.rules.Rules.{Rules}
use Rattle.rule_file.specs.declared.rules.SpeedRule.{SpeedRule}
use Rattle.series_rows.specs.Header.{HeaderView}
use Rattle.series_rows.specs.Row.{RowView}
use Rattle.series_csv.specs.Read.{Read}
use Rattle.order_window.specs.declared.key.Key.{Key}
use Rattle.order_window.specs.Window.{Window}
use Rattle.online_values.specs.Results.{Speed, successors}
use Rattle.online_values.specs.Sensor.{speed_of}
use Rattle.online_repair.specs.Rows.{keys_in, rule_in}
use Rattle.online_repair.specs.Output.{IsOutput, Output, Reads, output}
use Rattle.online_repair.specs.StandsFor.{OnlineView, StandsFor}
use Rattle.online_repair.specs.declared.fault.OnlineFault.{OnlineFault}
use Rattle.online_repair.specs.declared.fault.OnlineFault.TheVariants.{Memory}

-- The new text is the old one, and what the output now has beyond what it had before.
pub record Appends (before now : Output) (old new : List ℕ) : Type 0 where
  pub added : List ℕ
  pub output_is : now.text ≡ before.text ++ added
  pub text_is : new ≡ old ++ added

-- it is a part of that, from its beginning on
pub record AppendsPart (before now : Output) (old new : List ℕ) : Type 0 where
  pub added : List ℕ
  pub rest : List ℕ
  pub output_is : now.text ≡ before.text ++ added ++ rest
  pub text_is : new ≡ old ++ added

-- The piece is taken, and refused for this or not: the output has this fault or none, and the text is appended.
pub record Takes (rules : Rules) (ended : Bool) (bytes piece : List ℕ) (fault : Option OnlineFault) (old new : List ℕ) (before : Output) : Type 0 where
  pub now : Output
  pub is_output : IsOutput rules ended (bytes ++ piece) now
  pub fault_is : now.fault ≡ fault
  pub appends : Appends before now old new

-- The piece is refused for this at one of its bytes, or the end is: the output up to there has this fault, and so has the
-- output for the whole piece; and the text of both is appended.
pub record Refuses (rules : Rules) (ended : Bool) (bytes piece : List ℕ) (fault : OnlineFault) (old new : List ℕ) (before : Output) : Type 0 where
  pub front : List ℕ
  pub rest : List ℕ
  pub piece_is : piece ≡ front ++ rest
  pub at_front : Takes rules ended bytes front (Some fault) old new before
  pub stays : (now : Output) → IsOutput rules ended (bytes ++ piece) now → (now.fault ≡ Some fault) × Appends before now old new

-- What was appended is a part, from its beginning on, of what a front of the piece adds to the output, or of what the end adds.
-- The front has an output, whatever follows it.
pub record AppendsFront (rules : Rules) (ended : Bool) (bytes piece : List ℕ) (old new : List ℕ) (before : Output) : Type 0 where
  pub front : List ℕ
  pub rest : List ℕ
  pub piece_is : piece ≡ front ++ rest
  pub over : Bool
  pub over_is : over ≡ true → (ended ≡ true) × (rest ≡ [])
  pub now : Output
  pub is_output : IsOutput rules over (bytes ++ front) now
  pub part : AppendsPart before now old new

-- The answer to a piece after these bytes, or to the end after them: nothing, where the output has no fault; or its fault.
-- Want of memory may come at any time; then a part of the text is appended: of the text of a front of the piece, and so of
-- the text of the whole piece, if there is one.
abbrev pub Answers : Rules → Bool → List ℕ → List ℕ → Result Unit OnlineFault → List ℕ → List ℕ → Type 0
Answers rules ended bytes piece (Ok done) old new = (before : Output) → IsOutput rules false bytes before → Takes rules ended bytes piece None old new before
Answers rules ended bytes piece (Err fault) old new =
    ((fault ≡ Memory → ⊥) → (before : Output) → IsOutput rules false bytes before → Refuses rules ended bytes piece fault old new before)
    × (fault ≡ Memory → (before now : Output) → IsOutput rules false bytes before → IsOutput rules ended (bytes ++ piece) now → AppendsPart before now old new)
    × (fault ≡ Memory → (before : Output) → IsOutput rules false bytes before → AppendsFront rules ended bytes piece old new before)

-- and where it is not refused, the repair stands for all of it
abbrev pub Feeds : Rules → Bool → List ℕ → List ℕ → Result Unit OnlineFault → OnlineView → List ℕ → List ℕ → Type 0
Feeds rules ended bytes piece result online old new = OnOk result (StandsFor online rules ended (bytes ++ piece)) × Answers rules ended bytes piece result old new

-- ---- the windows

-- the successors of the last of the readings before, which stand latest first
abbrev pub successors_of_last : Speed → List Key → List Key → List Key
successors_of_last speed [] later = []
successors_of_last speed (last ∷ before) later = successors speed last later

-- the rule of a column of the file, if its header is read
abbrev pub rule_of_column : Rules → Option HeaderView → ℕ → Option SpeedRule
rule_of_column rules None col = None
rule_of_column rules (Some header) col = rule_in rules header col

-- no rule names a sensor in this column, or the header is not read
abbrev pub LacksWindow : Rules → Bool → List ℕ → ℕ → Type 0
LacksWindow rules ended bytes col = (read : Read) → Reads rules ended bytes read → rule_of_column rules read.header col ≡ None

-- The window of a column: its keys are the successors of the last reading in the rows that are ready, which are all that are
-- not held. It has room for all rows that may be held, and the rates, the decimals and the span are those of the rule of the
-- column.
pub record IsWindow (rules : Rules) (read : Read) (held : List RowView) (col : ℕ) (window : Window) : Type 0 where
  pub rule : SpeedRule
  pub names : rule_of_column rules read.header col ≡ Some rule
  pub keys : window.keys ≡ successors_of_last (speed_of rule rules.format.decimals) (keys_in col (reverse (take (length read.rows - length held) read.rows))) (keys_in col held)
  pub room : window.room ≡ rules.format.hold
  pub rates : window.rates ≡ record { min = rule.min; max = rule.max; decimals = rules.format.decimals }
  pub span : window.span ≡ rule.window

abbrev pub HasWindow : Rules → Bool → List ℕ → ℕ → Window → Type 0
HasWindow rules ended bytes col window = (read : Read) → Reads rules ended bytes read → IsWindow rules read (output rules ended read).held col window
