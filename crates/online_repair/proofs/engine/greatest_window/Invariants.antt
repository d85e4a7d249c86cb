use Rattle.online_repair.proofs.Greatest.{IsGreatest}
use Rattle.online_repair.proofs.engine.greatest_window.Given as goal

abbrev pub invariant-loop-rule : goal.invariant-loop-rule
invariant-loop-rule l = IsGreatest l.speeds l.rule-index l.most
