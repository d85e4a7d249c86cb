-- For proofs: what a stream answers to a piece of a file, to the header or a row, and to the end.
use Rattle.std.specs.Prelude.{◌≡◌, ℕ, Bool, true, false, List, [], ◌++◌, take, Option, Some, None, Result, Ok, Err, OnOk}
use Rattle.rule_file.specs.declared.rules.Rules.{Rules}
use Rattle.series_rows.specs.declared.limits.Limits.TheVariants.{Endless}
use Rattle.series_csv.specs.Feeds.{IsNew, with_event}
use Rattle.series_csv.specs.File.{ReadsEnded}
use Rattle.series_csv.specs.Read.{Read}
use Rattle.series_csv.specs.Stays.{Continues}
use Rattle.series_csv.specs.declared.event.Event.{Event}
use Rattle.online_repair.specs.Feeds.{Answers, Appends, AppendsPart}
use Rattle.online_repair.specs.Output.{IsOutput, Output, Reads, output}
use Rattle.online_repair.specs.StandsFor.{EngineKeeps, GoesOn, IsOver}
use Rattle.online_repair.specs.declared.engine.Engine.{Engine}
use Rattle.online_repair.specs.declared.fault.OnlineFault.{OnlineFault}
use Rattle.online_repair.specs.declared.fault.OnlineFault.TheVariants.{Memory}
use Rattle.online_repair.specs.declared.stream.Stream.{Stream}

-- ---- a piece

abbrev pub Feeds : Rules → List ℕ → List ℕ → Result Unit OnlineFault → Stream → List ℕ → List ℕ → Type 0
Feeds rules bytes piece result stream old new = OnOk result (GoesOn stream rules (bytes ++ piece)) × Answers rules false bytes piece result old new

-- so many bytes of the rest of a piece were taken; or the rest is refused
abbrev pub FeedsSome : Rules → List ℕ → List ℕ → Result ℕ OnlineFault → Stream → List ℕ → List ℕ → Type 0
FeedsSome rules bytes rest (Ok count) stream old new = GoesOn stream rules (bytes ++ take count rest) × Answers rules false bytes (take count rest) (Ok tt) old new
FeedsSome rules bytes rest (Err fault) stream old new = Answers rules false bytes rest (Err fault) old new

-- ---- the header or a row

-- this was read and kept, and now the header or a row comes
pub record MayTake (rules : Rules) (read : Read) (event : Event) (engine : Option Engine) : Type 0 where
  pub not_refused : read.fault ≡ None
  pub keeps : EngineKeeps rules read.header read.rows engine
  pub is_new : IsNew read event
  pub ended : Bool
  pub bytes : List ℕ
  pub reads : Reads rules ended bytes (with_event read event)

abbrev pub CanTake : Rules → Event → Option Engine → Type 0
CanTake rules event engine = (read : Read) × MayTake rules read event engine

-- The output has this fault, and the text is appended. After want of memory a part of the text is appended.
abbrev pub StopsBy : OnlineFault → Output → Output → List ℕ → List ℕ → Type 0
StopsBy fault before now old new =
    ((fault ≡ Memory → ⊥) → (now.fault ≡ Some fault) × Appends before now old new) × (fault ≡ Memory → AppendsPart before now old new)

-- it is so of every file that goes on after what was read
abbrev pub StopsAll : Rules → Read → Read → OnlineFault → List ℕ → List ℕ → Type 0
StopsAll rules read after fault old new =
    (ended : Bool) (bytes : List ℕ) (longer : Read) → Reads rules ended bytes longer → Continues after longer → StopsBy fault (output rules false read) (output rules ended longer) old new

-- The header or the row is kept, and what it makes ready was appended; or it is refused.
abbrev pub TakesEvent : Rules → Read → Event → Result Unit OnlineFault → Option Engine → List ℕ → List ℕ → Type 0
TakesEvent rules read event (Ok done) engine old new =
    EngineKeeps rules (with_event read event).header (with_event read event).rows engine × Appends (output rules false read) (output rules false (with_event read event)) old new
TakesEvent rules read event (Err fault) engine old new = StopsAll rules read (with_event read event) fault old new

-- ---- the end

-- the file was read to its end and kept, and what became ready was appended
pub record HasReadLast (rules : Rules) (bytes : List ℕ) (stream : Stream) (old new : List ℕ) : Type 0 where
  pub rules_are : stream.rules.now ≡ rules
  pub read : Read
  pub reads : ReadsEnded rules Endless bytes read
  pub not_refused : read.fault ≡ None
  pub keeps : EngineKeeps rules read.header read.rows stream.engine
  pub appends : (before : Output) → IsOutput rules false bytes before → Appends before (output rules false read) old new

abbrev pub ReadsLast : Rules → List ℕ → Result Unit OnlineFault → Stream → List ℕ → List ℕ → Type 0
ReadsLast rules bytes (Ok done) stream old new = HasReadLast rules bytes stream old new
ReadsLast rules bytes (Err fault) stream old new = Answers rules true bytes [] (Err fault) old new

abbrev pub Finishes : Rules → List ℕ → Result Unit OnlineFault → Stream → List ℕ → List ℕ → Type 0
Finishes rules bytes result stream old new = OnOk result (IsOver stream rules bytes) × Answers rules true bytes [] result old new
