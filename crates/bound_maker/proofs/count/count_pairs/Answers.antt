use Rattle.std.proofs.Common.{rules, subst, sym, List, arith, w64}
use Rattle.std.proofs.lemmas.Int.{to_z-of_z}
use mir.Val.{SFits}
use Rattle.bound_maker.specs.declared.reading.Reading.{Reading}
use Rattle.bound_maker.specs.Windows.{StampsRise}
use Rattle.bound_maker.proofs.Steps.{counted_next, ready_next, rise_rest}
use Rattle.bound_maker.proofs.count.count_pairs.Goals as goal

pub loop-from-preserved : goal.loop-from-preserved
loop-from-preserved c =
    let window = c.args.window in
    let rest = c.loop-from.rest.now in
    let fits : SFits w64 c.in-Some.from.stamp.ticks = search rules in
    let time = to_z-of_z w64 c.in-Some.from.stamp.ticks fits in
    let rise = c.loop-from.invariant.rise in
    record {
      rise = subst (λ (xs : List Reading). StampsRise xs) (sym c.later_of-rest.ensures) (rise_rest rest rise);
      ready = ready_next window rest c.later_of-rest.result.now c.in-Some.from _ c.slide-span.result c.without_first-span.result c.in-Some.ensures c.later_of-rest.ensures time c.requires.window rise
          (record { start = c.slide-span.ensures.start; end = c.slide-span.ensures.end }) c.without_first-span.ensures.start c.without_first-span.ensures.end;
      few = omega (arith, c.with_span-count.ensures);
      count = counted_next window rest c.later_of-rest.result.now c.in-Some.from _ c.slide-span.result c.loop-from.count c.with_span-count.result 4000001 _ c.in-Some.ensures c.later_of-rest.ensures time c.requires.window rise
          (record { start = c.slide-span.ensures.start; end = c.slide-span.ensures.end }) c.with_span-count.ensures c.loop-from.invariant.count;
    }
