use Rattle.std.specs.Io.KnownBytes.{Keeps}
use Rattle.screen_io.proofs.interrupted.write_again.Given as goal

-- only interrupted calls were made so far
abbrev pub invariant-loop : goal.invariant-loop
invariant-loop g l = Keeps (g.T.Write.contents l.initial.to) (g.T.Write.contents l.to)
