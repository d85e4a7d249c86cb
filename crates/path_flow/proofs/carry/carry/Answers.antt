use Rattle.path_flow.proofs.Carrying.{few_covered, left_after}
use Rattle.path_flow.proofs.carry.carry.Goals as goal

pub returns-clause-few : goal.returns-clause-few
returns-clause-few c = few_covered c.carry_in_rounds.new.purse c.carry_in_rounds.new.net c.carry_in_rounds.ensures.network c.carry_in_rounds.ensures.covered

pub returns-clause-left : goal.returns-clause-left
returns-clause-left c =
    let rounds = c.carry_in_rounds in
    λ spare spare_is.
    left_after c.first_purse-purse.result rounds.new.purse c.args.net.now rounds.new.net c.budget.result spare rounds.ensures.network rounds.ensures.covered rounds.ensures.carried
    c.first_purse-purse.ensures.pool c.budget.ensures.most c.budget.ensures.need c.budget.ensures.pool spare_is
