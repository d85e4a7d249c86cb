-- To be believed: the lines of the report of a repair. They are told of the table by the rules; of what was accepted they take
-- the series and the flow.
use Rattle.std.specs.Prelude.{ℕ, ◌==◌, ℤ, pos, List, [], ◌∷◌, ◌++◌, filter, length, map, codes, if◌then◌else◌}
use Rattle.screen_model.specs.declared.bound.FlowItem.{FlowItem}
use Rattle.screen_model.specs.Cost.{cost, paid}
use Rattle.rule_file.specs.declared.rules.Rules.{Rules}
use Rattle.series_rows.specs.Header.{sensor_columns}
use Rattle.series_csv.specs.File.{TableView}
use Rattle.bound_maker.specs.Costs.{whole_problem}
use Rattle.cert_format.specs.declared.line.Line.TheVariants.{Flow}
use Rattle.cert_format.specs.Line.{text_of_line}
use Rattle.repair_report.specs.Lines.{change_line, column_line, heading, rule_line, value_line}
use Rattle.repair_report.specs.Readings.{is_changed}
use Rattle.repair_report.specs.Repairs.{paid_for, priced_rules, repaired}

-- the lines of a flow, as in the certificate
abbrev pub flow_lines : List FlowItem → List (List ℕ)
flow_lines flow = map (λ item. text_of_line (Flow item)) flow

module _ (rules : Rules) (table : TableView) where
  -- where some rule has a price, what a series pays
  abbrev pub paid_lines : List ℤ → List (List ℕ)
  paid_lines series =
      if length (priced_rules rules) == 0 then [] else value_line (codes "paid") rules.format.decimals (pos (paid (whole_problem rules table) series)) ∷ []

  -- what it costs
  abbrev pub total_lines : List ℤ → List (List ℕ)
  total_lines series = codes "claim repair" ∷ value_line (codes "total") rules.format.decimals (pos (cost (whole_problem rules table) series)) ∷ paid_lines series

  -- each sensor column from the left
  abbrev pub column_lines : List ℤ → List (List ℕ)
  column_lines series = heading ∷ map (column_line rules.format.decimals (repaired rules table series)) (sensor_columns table.header)

  -- each rule that has a price
  abbrev pub rule_lines : List ℤ → List (List ℕ)
  rule_lines series = map (λ number. rule_line rules.format.decimals number (pos (paid_for rules table series number))) (priced_rules rules)

  -- each reading that changed
  abbrev pub change_lines : List ℤ → List (List ℕ)
  change_lines series = map (change_line rules.format.decimals) (filter is_changed (repaired rules table series))

  abbrev pub repair_lines : List ℤ → List FlowItem → List (List ℕ)
  repair_lines series flow = total_lines series ++ (column_lines series ++ (rule_lines series ++ (change_lines series ++ flow_lines flow)))
