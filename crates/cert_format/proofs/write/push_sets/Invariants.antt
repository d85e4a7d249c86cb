use Rattle.std.proofs.Common.{◌≡◌, ◌++◌, drop, map}
use Rattle.cert_format.specs.declared.line.Line.TheVariants.{Set}
use Rattle.cert_format.proofs.Refusals.{text_of}
use Rattle.cert_format.proofs.write.push_sets.Given as goal

abbrev pub invariant-loop-set : goal.invariant-loop-set
invariant-loop-set l = l.text.items ++ text_of (map Set (drop l.set-index l.sets)) ≡ l.initial.text.items ++ text_of (map Set l.sets)
