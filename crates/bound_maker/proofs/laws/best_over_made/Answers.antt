use Rattle.std.proofs.Common.{◌≡◌, ℕ, ◌+◌, ℤ, List, arith}
use Rattle.screen_model.specs.Cost.{change, paid}
use Rattle.bound_maker.specs.Costs.{made_problem, whole_problem}
use Rattle.bound_maker.proofs.laws.best_over_made.Goals as goal

same_rest : (a p q : ℕ) → a + p ≡ a + q → p ≡ q
same_rest a p q same = omega (arith, same)

pub returns : goal.returns
returns c =
    let rules = c.args.rules.now in
    let table = c.args.table.now in
    let part = c.made_is_a_part.ensures rules table in
    let costs = λ (series : List ℤ). c.costs_over_parts.ensures (whole_problem rules table) (made_problem rules table).bounds series part.prices in
    record {
      costs = costs;
      pays = λ series. same_rest (change (made_problem rules table) series) (paid (made_problem rules table) series) (paid (whole_problem rules table) series) (costs series);
      best = λ series flow extended extends is_best. c.best_over_parts.ensures (whole_problem rules table) (made_problem rules table).bounds series flow extended extends part.prices (c.made_bind_all.ensures series is_best.obeys) is_best;
    }
