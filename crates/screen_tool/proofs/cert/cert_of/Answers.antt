use Rattle.screen_tool.proofs.Found.{series_whole}
use Rattle.screen_tool.proofs.cert.cert_of.Goals as goal

pub sets_of-requires-clause-series : goal.sets_of-requires-clause-series
sets_of-requires-clause-series c =
    rw (c.as_slice-in-Repaired-2.ensures, c.as_slice.ensures, c.places.ensures.places)
    (series_whole c.args.rules.now c.args.table.now c.args.found c.in-Repaired.series c.in-Repaired.flow c.in-Repaired.total c.in-Repaired.paid c.in-Repaired.changes c.in-Repaired.is c.requires)
