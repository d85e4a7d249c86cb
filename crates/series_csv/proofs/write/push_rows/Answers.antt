use Rattle.std.proofs.Common.{refl}
use Rattle.series_csv.proofs.write.push_rows.Goals as goal

pub loop-row-init : goal.loop-row-init
loop-row-init c = record { text_is = refl; count = c.requires.count; small = c.requires.small }
