use Rattle.std.proofs.Common.{refl}
use Rattle.series_csv.proofs.Beginning.{new_stands}
use Rattle.series_csv.proofs.reader.RowReader.new.Goals as goal

pub returns-clause-stands : goal.returns-clause-stands
returns-clause-stands c =
    new_stands _ c.args.rules.now c.args.limits
    (record { rules_are = refl; limits_are = refl; is_open = refl; cuts = c.new.ensures; no_header = c.new-2.ensures.header; none_before = c.new-2.ensures.before })
