use Rattle.std.proofs.Common.{◌∙◌, sym, ap, length}
use Rattle.series_csv.specs.Readings.{places}
use Rattle.cert_check.proofs.Placed.{length-series_set, set_end, set_step}
use Rattle.cert_check.proofs.sets.series_with.Goals as goal

pub loop-line-preserved : goal.loop-line-preserved
loop-line-preserved c = record {
  long = ap length c.set_value.ensures ∙ length-series_set (places c.args.table.now) c.loop-line.series _ c.loop-line.invariant.long;
  rest = set_step (places c.args.table.now) c.loop-line.series c.set_value.new.series c.args.sets.now c.loop-line.line-index _ c.loop-line-test.true c.set_value.ensures ∙ c.loop-line.invariant.rest;
}

pub returns : goal.returns
returns c = sym (set_end (places c.args.table.now) c.loop-line.series c.args.sets.now c.loop-line.line-index c.loop-line-test.false c.loop-line.invariant.long) ∙ c.loop-line.invariant.rest
