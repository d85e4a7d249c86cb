-- What was found has as many values as there are readings.
use Rattle.std.proofs.Common.{◌≡◌, ℕ, ℤ, List, length, subst}
use Rattle.least_cost.specs.declared.outcome.Outcome.{Outcome}
use Rattle.least_cost.specs.declared.outcome.Outcome.TheVariants.{Repaired}
use Rattle.rule_file.specs.declared.rules.Rules.{Rules}
use Rattle.screen_model.specs.declared.bound.FlowItem.{FlowItem}
use Rattle.series_csv.specs.File.{TableView}
use Rattle.series_csv.specs.Readings.{places}
use Rattle.screen_tool.specs.Global.{IsFoundFor}

pub series_whole : (rules : Rules) (table : TableView) (outcome : Outcome) (series : List ℤ) (flow : List FlowItem) (total paid : ℤ) (changes : ℕ)
    → outcome ≡ Repaired series flow total paid changes → IsFoundFor rules table outcome → length series ≡ length (places table)
series_whole rules table outcome series flow total paid changes is found =
    let repaired : IsFoundFor rules table (Repaired series flow total paid changes) = subst (IsFoundFor rules table) is found in
    repaired.whole.best.best.whole
