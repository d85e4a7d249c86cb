use Rattle.std.proofs.Common.{◌≡◌, ◌∙◌, ℤ, List, length, ap, arith}
use Rattle.series_csv.specs.Readings.{values}
use Rattle.screen_tool.proofs.sample.summary_of.Goals as goal

pub changed-changed-requires-clause-few : goal.changed-changed-requires-clause-few
changed-changed-requires-clause-few c =
    let size : length c.as_slice.result.now ≡ length (values c.args.table.now) = ap (λ (l : List ℤ). length l) (c.as_slice.ensures ∙ c.series.ensures.values) in
    omega (arith, size, c.len-len.ensures.len, c.len-len.ensures.most)
