use Rattle.std.proofs.Common.{◌-◌, ◌/◌, ◌%◌, ap, arith}
use Rattle.fix_point.proofs.Fronts.{front_stays}
use Rattle.fix_point.proofs.Sizes.{power_some}
use Rattle.fix_point.proofs.Texts.{place_more}
use Rattle.fix_point.proofs.text.push_places.Goals as goal

pub nonzero_div-digit : goal.nonzero_div-digit
nonzero_div-digit c = omega (arith, power_some (c.loop-place.place - 1), c.pow.ensures)

pub loop-place-preserved : goal.loop-place-preserved
loop-place-preserved c = record {
  text = place_more c.loop-place.text.items c.push.new.self.items c.args.text.now.items c.loop-place.place c.args.count c.args.size (c.args.size / c.pow.result % 10) (omega arith) c.loop-place.invariant.text (ap (λ p. c.args.size / p % 10) c.pow.ensures) c.in_ok-push.ensures.items;
  front = front_stays c.loop-place.text.items c.push.new.self.items c.args.text.now.items _ c.in_ok-push.ensures.items c.loop-place.invariant.front;
}
