use Rattle.std.proofs.Common.{◌≡◌, ℕ, ◌+◌, ◌-◌, ◌≤◌, true, List, [], length, take}
use Rattle.record_cut.specs.StandsFor.{StandsFor}
use Rattle.record_cut.specs.Feeds.{GoesOn}
use Rattle.record_cut.specs.Moves.{is_unquoted}
use Rattle.record_cut.specs.declared.cutter.TheConstants.{LONGEST}
use Rattle.record_cut.proofs.cutter.Cutter.take_unquoted.Given as goal

abbrev pub invariant-loop-count : goal.invariant-loop-count
invariant-loop-count l = record {
  within : l.count ≤ length l.bytes;
  unquoted : is_unquoted l.self.phase ≡ true;
  room : l.self.count + length l.bytes ≤ LONGEST + l.count;
  goes_on : (sep : ℕ) (before : List ℕ) → StandsFor l.initial.self sep before → GoesOn sep before (take l.count l.bytes) [] l.self;
}

abbrev pub decreases-loop-count : goal.decreases-loop-count
decreases-loop-count l = length l.bytes - l.count
