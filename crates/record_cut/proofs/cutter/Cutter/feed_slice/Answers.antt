use Rattle.std.proofs.Common.{◌≡◌, ◌+◌, ◌++◌, ℕ, List, take, drop, Option, None, Result, Ok, Err, refl, ap, subst, arith, length-drop}
use Rattle.std.proofs.lemmas.List.{length-take, take_all}
use Rattle.record_cut.specs.Feeds.{Feeds}
use Rattle.record_cut.specs.declared.fault.CutFault.{CutFault}
use Rattle.record_cut.specs.declared.taken.Taken.{Taken}
use Rattle.record_cut.proofs.Standing.{nothing-fed}
use Rattle.record_cut.proofs.Pieces.{feeds-on}
use Rattle.record_cut.proofs.cutter.Cutter.feed_slice.Goals as goal

pub loop-count-init : goal.loop-count-init
loop-count-init c = record { within = omega arith; goes_on = nothing-fed c.args.self.now; refused = λ fault h. (h, refl) }

pub loop-count-preserved-else-not-goes_on-2 : goal.loop-count-preserved-else-not-goes_on-2
loop-count-preserved-else-not-goes_on-2 c =
    let none : c.feed_run-next.result.answer ≡ Ok None = c.if-not-goes_on.ensures.0 refl in
    record {
      within = omega (arith, c.feed_run-next.ensures.within, length-take {A = ℕ}, length-drop {A = ℕ});
      goes_on = λ sep before stands.
          let P : Result (Option (List (List ℕ))) CutFault → Type 0 = λ answer. Feeds sep before (take (c.loop-count.count + c.feed_run-next.result.count) c.args.bytes.now) answer c.feed_run-next.new.self in
          let first = c.loop-count.invariant.goes_on sep before stands in
          subst P none (feeds-on c.args.self.now c.loop-count.self c.feed_run-next.new.self sep before c.args.bytes.now _ c.loop-count.count c.feed_run-next.result.count c.feed_run-next.result.answer (take_all _ (drop c.loop-count.count c.args.bytes.now) (omega (arith, length-drop c.loop-count.count c.args.bytes.now))) c.feed_run-next.ensures.within c.feed_run-next.ensures.some stands first (c.feed_run-next.ensures.feeds sep (before ++ take c.loop-count.count c.args.bytes.now) first.stands));
      refused = λ fault h.
          let again : c.feed_run-next.result.answer ≡ Err fault = ap (λ (t : Taken). t.answer) (c.feed_run-next.ensures.refused fault (c.loop-count.invariant.refused fault h).0) in
          let never : ⊥ = cc in
          absurd never;
    }

pub returns-then-not-goes_on-clause-feeds : goal.returns-then-not-goes_on-clause-feeds
returns-then-not-goes_on-clause-feeds c = λ sep before stands.
    let first = c.loop-count.invariant.goes_on sep before stands in
    feeds-on c.args.self.now c.loop-count.self c.feed_run-next.new.self sep before c.args.bytes.now _ c.loop-count.count c.feed_run-next.result.count c.feed_run-next.result.answer (take_all _ (drop c.loop-count.count c.args.bytes.now) (omega (arith, length-drop c.loop-count.count c.args.bytes.now))) c.feed_run-next.ensures.within c.feed_run-next.ensures.some stands first (c.feed_run-next.ensures.feeds sep (before ++ take c.loop-count.count c.args.bytes.now) first.stands)
