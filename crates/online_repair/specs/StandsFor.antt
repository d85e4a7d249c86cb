-- To be believed: what contracts see of a repair (`OnlineView`), when it has refused (`HasRefused`) or ended (`HasEnded`), and
-- at which stage it is where it stands for some bytes (`stage_of`, and the field `stage_is` of `StandsFor`).
-- For proofs: all else, which is what the fields of a repair have to do with the bytes that it was fed. What it answers is in
-- Feeds.
use Rattle.std.specs.Prelude.{◌≡◌, ℕ, Bool, true, false, List, [], reverse, Option, Some, None}
use Rattle.rule_file.specs.declared.rules.Rules.{Rules}
use Rattle.series_rows.specs.Header.{HeaderView}
use Rattle.series_rows.specs.Row.{RowView}
use Rattle.series_csv.specs.File.{ReadsEnded, ReadsSoFar}
use Rattle.series_csv.specs.Read.{Read}
use Rattle.series_csv.specs.StandsFor as Reader
use Rattle.series_rows.specs.declared.limits.Limits.TheVariants.{Endless}
use Rattle.online_repair.specs.Accepted.{accept}
use Rattle.online_repair.specs.Engines.{Stands}
use Rattle.online_repair.specs.Keeping.{KeepsRows}
use Rattle.online_repair.specs.declared.engine.Engine.{Engine}
use Rattle.online_repair.specs.declared.fault.OnlineFault.{OnlineFault}
use Rattle.online_repair.specs.declared.online.Stage.{Stage}
use Rattle.online_repair.specs.declared.online.Stage.TheVariants.{Open, Refused, Ended}
use Rattle.online_repair.specs.declared.stream.Stream.{Stream}

-- what contracts see of a repair
pub record OnlineView : Type 0 where
  pub stream : Stream
  pub stage : Stage

-- the repair has answered this refusal, and answers it for ever
abbrev pub HasRefused : OnlineView → OnlineFault → Type 0
HasRefused online fault = online.stage ≡ Refused fault

-- the repair has been told that the file has ended, and did not refuse it
abbrev pub HasEnded : OnlineView → Type 0
HasEnded online = online.stage ≡ Ended

abbrev pub stage_of : Bool → Stage
stage_of true = Ended
stage_of false = Open

-- ---- the fields, and the bytes that the repair was fed

-- While the file goes on, the engine keeps all rows, once the header was read; and none of them is refused.
abbrev pub EngineKeeps : Rules → Option HeaderView → List RowView → Option Engine → Type 0
EngineKeeps rules None rows None = rows ≡ []
EngineKeeps rules None rows (Some engine) = ⊥
EngineKeeps rules (Some header) rows None = ⊥
EngineKeeps rules (Some header) rows (Some engine) = KeepsRows rules header rows engine × (accept rules header [] rows None ≡ record { rows = rows; fault = None })

-- when it has ended, all of them were written
abbrev pub EngineEnded : Rules → Option HeaderView → List RowView → Option Engine → Type 0
EngineEnded rules None rows engine = ⊥
EngineEnded rules (Some header) rows None = ⊥
EngineEnded rules (Some header) rows (Some engine) = Stands rules header (reverse rows) engine × (engine.held.items ≡ []) × (accept rules header [] rows None ≡ record { rows = rows; fault = None })

-- The stream has read these bytes by these rules, and refused nothing of them.
pub record GoesOn (stream : Stream) (rules : Rules) (bytes : List ℕ) : Type 0 where
  pub rules_are : stream.rules.now ≡ rules
  pub read : Read
  pub reads : ReadsSoFar rules Endless bytes read
  pub not_refused : read.fault ≡ None
  pub reader : Reader.StandsFor stream.reader rules Endless bytes
  pub engine : EngineKeeps rules read.header read.rows stream.engine

-- and the file has ended with them, and all rows were written
pub record IsOver (stream : Stream) (rules : Rules) (bytes : List ℕ) : Type 0 where
  pub read : Read
  pub reads : ReadsEnded rules Endless bytes read
  pub not_refused : read.fault ≡ None
  pub engine : EngineEnded rules read.header read.rows stream.engine

abbrev pub CanGoOn : Stream → Type 0
CanGoOn stream = (rules : Rules) × (bytes : List ℕ) × GoesOn stream rules bytes

-- what a repair keeps
abbrev pub IsKept : Stage → Stream → Type 0
IsKept Open stream = CanGoOn stream
IsKept (Refused fault) stream = Unit {0}
IsKept Ended stream = Unit {0}

abbrev pub StreamStands : Bool → Stream → Rules → List ℕ → Type 0
StreamStands false stream rules bytes = GoesOn stream rules bytes
StreamStands true stream rules bytes = IsOver stream rules bytes

-- The repair was fed these bytes by these rules, and has not refused.
pub record StandsFor (online : OnlineView) (rules : Rules) (ended : Bool) (bytes : List ℕ) : Type 0 where
  pub stage_is : online.stage ≡ stage_of ended
  pub stream : StreamStands ended online.stream rules bytes
