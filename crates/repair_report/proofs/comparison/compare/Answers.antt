use Rattle.std.proofs.Common.{◌≤◌, List, filter, length, take, sym, ap, ◌∙◌, subst, arith}
use Rattle.series_csv.specs.Readings.{places, values}
use Rattle.bound_maker.specs.Costs.{weights}
use Rattle.repair_report.specs.declared.reading.Repaired.{Repaired}
use Rattle.repair_report.specs.Readings.{is_changed}
use Rattle.repair_report.specs.Repairs.{repaired}
use Rattle.repair_report.specs.Tallies.{AreTallies}
use Rattle.repair_report.proofs.Zipped.{passed_one, repaired_few, take_few, take_one, take_whole}
use Rattle.repair_report.proofs.comparison.compare.Goals as goal

pub count-requires-clause-more : goal.count-requires-clause-more
count-requires-clause-more c =
    let before = take c.loop-i.i (repaired c.args.rules.now c.args.table.now c.args.series.now) in
    (before, c.loop-i.invariant.tallied, omega (arith, take_few (repaired c.args.rules.now c.args.table.now c.args.series.now) c.loop-i.i, c.loop-i-test.true, c.len-i-end.ensures.most))

pub loop-i-preserved : goal.loop-i-preserved
loop-i-preserved c =
    let readings = repaired c.args.rules.now c.args.table.now c.args.series.now in
    let i = c.loop-i.i in
    let reading = c.repaired_at-reading.result in
    record {
      tallied = subst (λ (rs : List Repaired). AreTallies rs c.count.new.tallies.items) (sym (take_one readings i reading c.repaired_at-reading.ensures.reading)) (c.count.ensures (take i readings) c.loop-i.invariant.tallied);
      changes = passed_one is_changed readings i reading c.loop-i.changes c.push_if_changed.new.changes c.repaired_at-reading.ensures.reading c.loop-i.invariant.changes c.in_ok-push_if_changed.ensures;
    }

pub returns : goal.returns
returns c =
    let table = c.args.table.now in
    let readings = repaired c.args.rules.now table c.args.series.now in
    let few = repaired_few (places table) (weights c.args.rules.now table) (values table) c.args.series.now in
    let within : length readings ≤ c.loop-i.i = omega (arith, few, c.loop-i-test.false, c.len-i-end.ensures.len) in
    let all = take_whole readings c.loop-i.i within in
    record {
      tallied = subst (λ (rs : List Repaired). AreTallies rs c.loop-i.tallies.items) all c.loop-i.invariant.tallied;
      changes = c.loop-i.invariant.changes ∙ ap (filter is_changed) all;
    }
