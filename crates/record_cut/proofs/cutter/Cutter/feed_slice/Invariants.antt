use Rattle.std.proofs.Common.{◌≡◌, ℕ, ◌-◌, ◌≤◌, List, [], length, take}
use Rattle.record_cut.specs.StandsFor.{StandsFor, HasRefused}
use Rattle.record_cut.specs.Feeds.{GoesOn}
use Rattle.record_cut.specs.declared.fault.CutFault.{CutFault}
use Rattle.record_cut.proofs.cutter.Cutter.feed_slice.Given as goal

abbrev pub invariant-loop-count : goal.invariant-loop-count
invariant-loop-count l = record {
  within : l.count ≤ length l.bytes;
  goes_on : (sep : ℕ) (before : List ℕ) → StandsFor l.initial.self sep before → GoesOn sep before (take l.count l.bytes) [] l.self;
  refused : (fault : CutFault) → HasRefused l.initial.self fault → HasRefused l.self fault × (l.count ≡ 0);
}

abbrev pub decreases-loop-count : goal.decreases-loop-count
decreases-loop-count l = length l.bytes - l.count
