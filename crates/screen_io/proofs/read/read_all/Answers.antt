use Rattle.std.proofs.Common.{◌++◌, take, drop, arith, length-append}
use Rattle.std.proofs.lemmas.List.{length-take}
use Rattle.std.proofs.lemmas.Grind.{common_steps}
use Rattle.std.proofs.lemmas.Result.{err_from_is_err_and}
use Rattle.screen_io.proofs.Steps.{TakesInto-more}
use Rattle.screen_io.proofs.read.read_all.Goals as goal

pub returns-in_err-map_err-clause-rest : goal.returns-in_err-map_err-clause-rest
returns-in_err-map_err-clause-rest g c =
    let p = err_from_is_err_and c.from_residual.result c.from_residual.ensures.1 in
    rw p.1 (
      c.loop-piece.bytes.items ++ take c.in-Ok.count (c.read.new.buf ++ drop c.wanted_of-wanted.result c.loop-piece.piece),
      grind (arith, common_steps, length-append, length-take),
      TakesInto-more _ _ _ _ _ _ _ c.loop-piece.invariant.taken c.in-Ok.ensures.bound c.in-Ok.ensures.bytes,
    )
