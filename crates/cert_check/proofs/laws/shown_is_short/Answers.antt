use Rattle.std.proofs.Common.{◌≤◌, length, arith}
use Rattle.series_csv.specs.Readings.{places}
use Rattle.cert_check.proofs.Short.{few_lines}
use Rattle.cert_check.proofs.laws.shown_is_short.Goals as goal

pub returns : goal.returns
returns c =
    let few : length (places c.args.table.now) ≤ 400000 = omega (arith, c.places-places.ensures.len, c.len-count.ensures.len, c.len-count.ensures.most) in
    λ claim given shown is items has. c.short_texts.ensures.readable given has (few_lines c.args.rules.now c.args.table.now claim given c.names_are_distinct.ensures c.problem_is_sound.ensures few shown is items)
