use Rattle.std.proofs.Common.{◌≡◌, ◌+◌, ◌≤◌, drop}
use Rattle.screen_tool.specs.Sample.{changed}
use Rattle.screen_tool.proofs.sample.changed.Given as goal

abbrev pub invariant-loop-i : goal.invariant-loop-i
invariant-loop-i l = (l.count + changed (drop l.i l.values) (drop l.i l.series) ≡ changed l.values l.series) × (l.count ≤ l.i)
