use Rattle.std.proofs.Common.{ℤ, pos, get_or, FitsSigned, rules, sym, ap, ◌∙◌}
use Rattle.std.specs.Int.{w64}
use Rattle.std.proofs.lemmas.Int.{to_z-of_z}
use Rattle.series_rows.specs.declared.cell.RowReading.{RowReading}
use Rattle.online_repair.specs.Output.{is_small}
use Rattle.online_repair.proofs.Large.{large_later}
use Rattle.online_repair.proofs.engine.too_large.Goals as goal

pub loop-i-preserved : goal.loop-i-preserved
loop-i-preserved c =
    let d : RowReading = record { col = 0; value = pos 0 } in
    let fits : FitsSigned w64 (get_or c.args.values.now c.loop-i.i (pos 0)) = search rules in
    let small = ap (λ (z : ℤ). is_small z) (sym (to_z-of_z w64 (get_or c.args.values.now c.loop-i.i (pos 0)) fits)) ∙ sym c.if-not-is_small.ensures in
    large_later c.args.readings.now c.args.values.now c.loop-i.i d (pos 0) c.loop-i-test.true c.requires small ∙ c.loop-i.invariant
