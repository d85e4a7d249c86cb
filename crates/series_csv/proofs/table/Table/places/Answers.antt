use Rattle.std.proofs.Common.{◌≡◌, length, subst}
use Rattle.words.specs.Lists.{Distinct}
use Rattle.series_csv.specs.File.{TableView}
use Rattle.series_csv.specs.Readings.{places, values, AreInOrder}
use Rattle.series_csv.proofs.Indexing.{in_order, in_order_distinct, as_many}
use Rattle.series_csv.proofs.table.Table.places.Goals as goal

pub returns-clause-order : goal.returns-clause-order
returns-clause-order c = subst (λ (t : TableView). AreInOrder (places t)) c.self.view_is (in_order 1 c.self.inside.rows.rows c.self.invariant.rising)

pub returns-clause-distinct : goal.returns-clause-distinct
returns-clause-distinct c =
    subst (λ (t : TableView). Distinct (places t)) c.self.view_is (in_order_distinct (places (record { header = c.self.inside.header; rows = c.self.inside.rows.rows })) (in_order 1 c.self.inside.rows.rows c.self.invariant.rising))

pub returns-clause-len : goal.returns-clause-len
returns-clause-len c = subst (λ (t : TableView). length (places t) ≡ length (values t)) c.self.view_is (as_many 1 c.self.inside.rows.rows)
