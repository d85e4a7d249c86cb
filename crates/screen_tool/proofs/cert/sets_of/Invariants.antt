use Rattle.std.proofs.Common.{◌≡◌, ◌++◌, drop}
use Rattle.cert_format.specs.Sets.{sets_of}
use Rattle.screen_tool.proofs.cert.sets_of.Given as goal

abbrev pub invariant-loop-i : goal.invariant-loop-i
invariant-loop-i l = sets_of l.places l.values l.series ≡ l.sets ++ sets_of (drop l.i l.places) (drop l.i l.values) (drop l.i l.series)
