use Rattle.std.proofs.Common.{◌≡◌, ◌+◌, ◌-◌, ◌++◌, ℕ, take, drop, ap, arith, length-drop}
use Rattle.std.proofs.lemmas.List.{length-take}
use Rattle.record_cut.proofs.Standing.{nothing-fed}
use Rattle.record_cut.proofs.Pieces.{goes-part, goes-byte}
use Rattle.record_cut.proofs.cutter.Cutter.take_unquoted.Goals as goal

pub loop-count-init : goal.loop-count-init
loop-count-init c = record { within = omega arith; unquoted = c.requires.unquoted; room = omega arith; goes_on = nothing-fed c.args.self.now }

pub loop-count-preserved-then-run-gt0 : goal.loop-count-preserved-then-run-gt0
loop-count-preserved-then-run-gt0 c = record {
  within = omega (arith, c.before_special-run.ensures.within, length-take {A = ℕ}, length-drop {A = ℕ});
  unquoted = c.in_ok-take_ordinary.ensures.unquoted;
  room = omega (arith, c.in_ok-take_ordinary.ensures.count, c.before_special-run.ensures.within, length-take {A = ℕ}, length-drop {A = ℕ});
  goes_on = λ sep before stands.
      let first = c.loop-count.invariant.goes_on sep before stands in
      let size : (c.loop-count.count + c.before_special-run.result) - c.loop-count.count ≡ c.before_special-run.result = omega arith in
      goes-part c.args.self.now c.loop-count.self c.take_ordinary.new.self sep before c.args.bytes.now _ c.loop-count.count c.before_special-run.result (ap (λ n. take n (drop c.loop-count.count c.args.bytes.now)) size) stands first (c.in_ok-take_ordinary.ensures.goes_on sep (before ++ take c.loop-count.count c.args.bytes.now) first.stands);
}

pub loop-count-preserved : goal.loop-count-preserved
loop-count-preserved c = record {
  within = omega arith;
  unquoted = c.in_ok-take_separator.ensures.unquoted;
  room = omega (arith, c.in_ok-take_separator.ensures.count);
  goes_on = λ sep before stands.
      let first = c.loop-count.invariant.goes_on sep before stands in
      goes-byte c.args.self.now c.loop-count.self c.take_separator.new.self sep before c.args.bytes.now c.loop-count.count c.loop-count-test.true stands first (c.in_ok-take_separator.ensures.goes_on sep (before ++ take c.loop-count.count c.args.bytes.now) first.stands);
}
