use Rattle.std.proofs.Common.{◌≡◌, length, sym, subst, arith}
use Rattle.std.specs.List.{AllByRecursion}
use Rattle.series_rows.specs.Kept.{seen_cells}
use Rattle.series_rows.specs.Parts.{IsWithin}
use Rattle.series_rows.specs.ReadsRow.{AreCells}
use Rattle.series_rows.proofs.RowAnswers.{columns_within, row_keeps}
use Rattle.series_rows.proofs.later_record.row_of.Goals as goal

pub read_cells-requires : goal.read_cells-requires
read_cells-requires c =
    let width : length c.args.fields ≡ length c.args.header.now.fields = omega (arith, c.if-width.false, c.width.ensures, c.width-2.ensures.width) in
    subst (AllByRecursion (IsWithin (length c.args.fields))) (sym c.sensor_columns.ensures) (columns_within c.args.header.now c.args.fields width)

pub new-requires : goal.new-requires
new-requires c =
    let width : length c.args.fields ≡ length c.args.header.now.fields = omega (arith, c.if-width.false, c.width.ensures, c.width-2.ensures.width) in
    row_keeps c.args.rules.now.format c.args.header.now c.args.fields _ _ (seen_cells c.in_ok-cells.cells) width (omega (arith, c.width-2.ensures.width, c.width-2.ensures.least)) (omega (arith, c.width-2.ensures.width, c.width-2.ensures.most))
    (subst (λ cols. AreCells c.args.rules.now.format c.args.fields cols (seen_cells c.in_ok-cells.cells)) c.sensor_columns.ensures c.in_ok-cells.ensures.accepted)
