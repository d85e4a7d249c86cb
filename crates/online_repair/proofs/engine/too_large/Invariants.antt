use Rattle.std.proofs.Common.{◌≡◌, drop}
use Rattle.online_repair.specs.Engines.{first_large}
use Rattle.online_repair.proofs.engine.too_large.Given as goal

abbrev pub invariant-loop-i : goal.invariant-loop-i
invariant-loop-i l = first_large (drop l.i l.readings) (drop l.i l.values) ≡ first_large l.readings l.values
