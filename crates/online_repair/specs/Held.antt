-- To be believed: the rows that a repair holds, which are those in its ring.
use Rattle.std.specs.Prelude.{List, [], Option, Some, None}
use Rattle.series_rows.specs.Row.{RowView}
use Rattle.online_repair.specs.StandsFor.{OnlineView}
use Rattle.online_repair.specs.declared.engine.Engine.{Engine}

-- the rows that an engine holds, if there is one
abbrev pub held_by : Option Engine → List RowView
held_by None = []
held_by (Some engine) = engine.held.items

abbrev pub held_rows : OnlineView → List RowView
held_rows online = held_by online.stream.engine
