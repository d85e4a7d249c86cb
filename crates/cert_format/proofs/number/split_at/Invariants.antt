use Rattle.std.proofs.Common.{take}
use Rattle.cert_format.specs.Fields.{Lacks}
use Rattle.cert_format.proofs.number.split_at.Given as goal

abbrev pub invariant-loop-index : goal.invariant-loop-index
invariant-loop-index l = Lacks l.byte (take l.index l.bytes)
