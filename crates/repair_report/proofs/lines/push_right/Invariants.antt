use Rattle.std.proofs.Common.{◌≡◌, ◌++◌, replicate}
use Rattle.cert_format.specs.Words.{space}
use Rattle.repair_report.proofs.lines.push_right.Given as goal

abbrev pub invariant-loop : goal.invariant-loop
invariant-loop l = l.text.items ≡ l.fn.text.items ++ replicate l.counter space
