use Rattle.std.proofs.Common.{◌≡◌, ◌++◌, drop, map}
use Rattle.cert_format.specs.declared.line.Line.TheVariants.{Flow}
use Rattle.cert_format.proofs.Refusals.{text_of}
use Rattle.cert_format.proofs.write.push_items.Given as goal

abbrev pub invariant-loop-item : goal.invariant-loop-item
invariant-loop-item l = l.text.items ++ text_of (map Flow (drop l.item-index l.flow)) ≡ l.initial.text.items ++ text_of (map Flow l.flow)
