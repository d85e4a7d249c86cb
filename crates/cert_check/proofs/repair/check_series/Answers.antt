use Rattle.std.proofs.Common.{◌∙◌, sym, ap, length}
use Rattle.std.specs.Prelude.{List, ℤ}
use Rattle.series_csv.specs.Readings.{places, values}
use Rattle.cert_check.proofs.Placed.{length-series_set}
use Rattle.cert_check.proofs.repair.check_series.Goals as goal

pub costs_of-cost-requires-clause-whole : goal.costs_of-cost-requires-clause-whole
costs_of-cost-requires-clause-whole c =
    ap (λ (xs : List ℤ). length xs) c.requires.series
    ∙ (length-series_set (places c.args.table.now) (values c.args.table.now) c.args.claim.now.sets (sym c.places-places.ensures.len) ∙ c.places-places.ensures.len)
