use Rattle.std.proofs.Common.{◌≡◌, sym}
use Rattle.screen_tool.proofs.Priced.{any_speed, any_swing, any_drift, any_range, any_between, has_price_is}
use Rattle.screen_tool.proofs.prices.has_price.Goals as goal

pub returns : goal.returns
returns c =
    let given = c.args.rules.now in
    let speeds : c.any_speed-speeds.result ≡ any_speed given = rw c.as_slice.ensures at c.any_speed-speeds.ensures in
    let swings : c.any_swing-swings.result ≡ any_swing given = rw c.as_slice-2.ensures at c.any_swing-swings.ensures in
    let drifts : c.any_drift-drifts.result ≡ any_drift given = rw c.as_slice-3.ensures at c.any_drift-drifts.ensures in
    let ranges : c.any_range-ranges.result ≡ any_range given = rw c.as_slice-4.ensures at c.any_range-ranges.ensures in
    let betweens : c.any_between-betweens.result ≡ any_between given = rw c.as_slice-5.ensures at c.any_between-betweens.ensures in
    rw (speeds, swings, drifts, ranges, betweens) (sym (has_price_is given))
