use Rattle.std.proofs.Common.{◌≤◌, length, get_or, sym, ap, subst, arith}
use Rattle.series_rows.specs.Kept.{header_view}
use Rattle.series_rows.proofs.RowFacts.{kept_within}
use Rattle.series_rows.proofs.header.Header.col_of.Goals as goal

pub field_in-requires-clause-least : goal.field_in-requires-clause-least
field_in-requires-clause-least c =
    let self = c.self.inside in
    subst (λ cols. 1 ≤ get_or cols c.loop-col.col-index 0) (sym c.as_slice-col-items.ensures)
    (kept_within (header_view self.fields self.time_col self.sensor_cols) self.from_left c.loop-col.col-index c.self.invariant (omega (arith, c.loop-col-test.true, ap length c.as_slice-col-items.ensures))).0

pub field_in-requires-clause-most : goal.field_in-requires-clause-most
field_in-requires-clause-most c =
    let self = c.self.inside in
    subst (λ cols. get_or cols c.loop-col.col-index 0 ≤ length self.fields) (sym c.as_slice-col-items.ensures)
    (kept_within (header_view self.fields self.time_col self.sensor_cols) self.from_left c.loop-col.col-index c.self.invariant (omega (arith, c.loop-col-test.true, ap length c.as_slice-col-items.ensures))).1
