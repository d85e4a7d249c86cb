use Rattle.std.proofs.Common.{drop}
use Rattle.rule_keys.proofs.KeyByKey.{IsCheckedSoFar}
use Rattle.rule_keys.proofs.check.check_all.Given as goal

abbrev pub invariant-loop-check : goal.invariant-loop-check
invariant-loop-check l = IsCheckedSoFar l.d l.entries l.checks (drop l.check-index l.checks)
