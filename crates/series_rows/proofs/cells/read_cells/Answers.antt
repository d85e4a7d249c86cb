use Rattle.std.proofs.Common.{Ok, Err, refl, subst, arith}
use Rattle.series_rows.specs.Cells.{ReadsCell}
use Rattle.series_rows.specs.Kept.{seen_cells}
use Rattle.series_rows.specs.Parts.{IsWithin}
use Rattle.series_rows.proofs.CellsRead.{none_so_far, one_more, first_refused, refused_at, all_read, all_here}
use Rattle.series_rows.proofs.cells.read_cells.Goals as goal

pub loop-col-init : goal.loop-col-init
loop-col-init c = none_so_far c.args.format.now c.args.fields.now c.args.columns.now (seen_cells c.new-cells.result) c.new-cells.ensures

pub field_in-requires-clause-least : goal.field_in-requires-clause-least
field_in-requires-clause-least c = (all_here (IsWithin _) c.args.columns.now c.loop-col.col-index c.requires (omega arith)).0

pub field_in-requires-clause-most : goal.field_in-requires-clause-most
field_in-requires-clause-most c = (all_here (IsWithin _) c.args.columns.now c.loop-col.col-index c.requires (omega arith)).1

pub loop-col-preserved : goal.loop-col-preserved
loop-col-preserved c =
    one_more c.args.format.now c.args.fields.now c.args.columns.now c.loop-col.col-index _ (seen_cells c.loop-col.cells) _ c.in-Ok.reading (omega arith) refl c.loop-col.invariant
    (subst (λ s. ReadsCell c.args.format.now s (Ok c.in-Ok.reading)) c.field_in.ensures c.in-Ok.ensures) c.in_ok-push-in-Ok.ensures

pub returns-in-Err-clause-refused : goal.returns-in-Err-clause-refused
returns-in-Err-clause-refused c = λ _.
    refused_at c.args.row c.args.format.now c.args.fields.now c.args.columns.now _ c.in-Err.fault c.at.result c.at.ensures
    (first_refused c.args.format.now c.args.fields.now c.args.columns.now c.loop-col.col-index _ (seen_cells c.loop-col.cells) c.in-Err.fault (omega arith) refl c.loop-col.invariant
    (subst (λ s. ReadsCell c.args.format.now s (Err c.in-Err.fault)) c.field_in.ensures c.in-Err.ensures))

pub returns-clause-accepted : goal.returns-clause-accepted
returns-clause-accepted c = all_read c.args.format.now c.args.fields.now c.args.columns.now c.loop-col.col-index (seen_cells c.loop-col.cells) (omega arith) c.loop-col.invariant
