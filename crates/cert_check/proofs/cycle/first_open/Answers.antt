use Rattle.std.proofs.Common.{◌∙◌, sym, arith}
use Rattle.series_csv.specs.Readings.{places}
use Rattle.cert_check.proofs.Steps.{marked_within, open_here, open_later}
use Rattle.cert_check.proofs.cycle.first_open.Goals as goal

pub returns-then-not-goes_on : goal.returns-then-not-goes_on
returns-then-not-goes_on c =
    open_here (places c.args.table.now) c.args.cycle.now c.loop-bound.marks c.loop-bound.last c.loop-bound.number c.loop-bound.bound-index c.end_index-first.result _ c.is_marked.result
    c.loop-bound-test.true c.end_index-first.ensures c.is_marked.ensures c.loop-bound.invariant.open_so_far (sym c.goes_on.ensures ∙ c.if-not-goes_on.true)

pub set-requires : goal.set-requires
set-requires c = marked_within (places c.args.table.now) c.args.cycle.now c.loop-bound.marks c.loop-bound.last c.loop-bound.number _ c.end_index-first.result _ c.loop-bound.invariant.open_so_far c.end_index-first.ensures

pub loop-bound-preserved : goal.loop-bound-preserved
loop-bound-preserved c =
    let later = open_later (places c.args.table.now) c.args.cycle.now c.loop-bound.marks c.loop-bound.last c.loop-bound.number c.loop-bound.bound-index c.end_index-first.result _ c.is_marked.result
    c.loop-bound-test.true c.end_index-first.ensures c.is_marked.ensures c.set.new.self c.set.ensures c.places-places.ensures.distinct c.loop-bound.invariant.open_so_far (sym c.goes_on.ensures ∙ c.if-not-goes_on.false) in
    record {
      number = omega (arith, c.loop-bound.invariant.number);
      open_so_far = later;
    }
