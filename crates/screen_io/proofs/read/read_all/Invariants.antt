use Rattle.std.proofs.Common.{vec_len, ◌≤◌, ◌+◌, ◌-◌, ◌≡◌}
use Rattle.screen_io.specs.Source.{Takes}
use Rattle.screen_io.proofs.read.read_all.Given as goal

-- the bytes were taken from the source, and its count is as it was
abbrev pub invariant-loop-piece : goal.invariant-loop-piece
invariant-loop-piece g l = record {
  taken : Takes (g.S.Source.left l.initial.src) l.bytes.items (g.S.Source.left l.src);
  within : vec_len l.bytes ≤ l.limit + 1;
  unfailed : g.S.Source.faults l.src ≡ g.S.Source.faults l.initial.src;
}

abbrev pub decreases-loop-piece : goal.decreases-loop-piece
decreases-loop-piece g l = l.limit + 1 - vec_len l.bytes
