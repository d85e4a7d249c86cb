use Rattle.rule_file.proofs.Facts.{are_rates, speed_rates}
use Rattle.rule_file.proofs.typed.speed_from.Goals as goal

pub invariant_of-result-clause-rates : goal.invariant_of-result-clause-rates
invariant_of-result-clause-rates c =
    are_rates c.args.entries.now _ _ (speed_rates c.args.entries.now c.requires.fit) c.rate_from.ensures c.rate_from-2.ensures c.requires.rates
