use Rattle.std.proofs.Common.{◌≡◌, ◌++◌, drop, map}
use Rattle.cert_format.specs.declared.line.Line.TheVariants.{Step}
use Rattle.cert_format.proofs.Refusals.{text_of}
use Rattle.cert_format.proofs.write.push_steps.Given as goal

abbrev pub invariant-loop-name : goal.invariant-loop-name
invariant-loop-name l = l.text.items ++ text_of (map Step (drop l.name-index l.steps)) ≡ l.initial.text.items ++ text_of (map Step l.steps)
