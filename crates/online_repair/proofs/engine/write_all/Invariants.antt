use Rattle.std.proofs.Common.{length, []}
use Rattle.online_repair.specs.Engines.{CanWrite}
use Rattle.online_repair.proofs.Round.{Goes}
use Rattle.online_repair.proofs.engine.write_all.Given as goal

abbrev pub invariant-rows : goal.invariant-rows
invariant-rows l = record { can : CanWrite l.rules l.engine; goes : Goes l.rules (λ items. items) (λ items. []) l.fn.engine l.engine l.fn.out.items l.out.items }

abbrev pub decreases-rows : goal.decreases-rows
decreases-rows l = length l.engine.held.items
