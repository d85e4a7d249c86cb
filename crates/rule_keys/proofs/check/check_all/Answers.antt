use Rattle.std.proofs.lemmas.Bool.{false≢true}
use Rattle.rule_keys.proofs.KeyByKey.{failed_at}
use Rattle.rule_keys.proofs.check.check_all.Goals as goal

pub returns-then-not-passes : goal.returns-then-not-passes
returns-then-not-passes c =
    failed_at c.args.d c.args.entries.now c.args.checks.now c.loop-check.check-index c.cause_of.result c.loop-check-test.true c.loop-check.invariant (λ p. false≢true (c.if-not-passes.ensures.1 p)) c.cause_of.ensures
