-- To be believed: the text of a report.
use Rattle.std.specs.Prelude.{ℕ, List, [], ◌∷◌, ◌++◌, map, codes}
use Rattle.words.specs.Lists.{total}
use Rattle.screen_model.specs.declared.bound.BoundName.{BoundName}
use Rattle.rule_file.specs.declared.rules.Rules.{Rules}
use Rattle.series_csv.specs.File.{TableView}
use Rattle.cert_format.specs.Words.{text_of_lines}
use Rattle.cert_check.specs.declared.accepted.Accepted.{Accepted}
use Rattle.cert_check.specs.declared.accepted.Accepted.TheVariants.{Repair, NoSeries}
use Rattle.cert_check.specs.Cycle.{cycle_of}
use Rattle.repair_report.specs.Lines.{step_line, value_line}
use Rattle.repair_report.specs.RepairLines.{repair_lines}

module _ (rules : Rules) (table : TableView) where
  -- each bound of the cycle, and the sum of their limits
  abbrev pub cycle_lines : List BoundName → List (List ℕ)
  cycle_lines cycle =
      codes "claim none"
      ∷ map (step_line rules.format.decimals) (cycle_of rules table cycle)
      ++ value_line (codes "sum") rules.format.decimals (total (map (λ bound. bound.limit) (cycle_of rules table cycle))) ∷ []

  abbrev pub report_lines : Accepted → List (List ℕ)
  report_lines (Repair series flow total_part paid_part) = repair_lines rules table series flow
  report_lines (NoSeries cycle) = cycle_lines cycle

-- the text of a report
abbrev pub report_text : Rules → TableView → Accepted → List ℕ
report_text rules table accepted = text_of_lines (report_lines rules table accepted)
