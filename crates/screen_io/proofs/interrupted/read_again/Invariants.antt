use Rattle.std.specs.Io.KnownBytes.{Keeps}
use Rattle.screen_io.proofs.interrupted.read_again.Given as goal

-- only interrupted calls were made so far
abbrev pub invariant-loop : goal.invariant-loop
invariant-loop g l = Keeps (g.T.Read.remaining l.initial.from) (g.T.Read.remaining l.from)
