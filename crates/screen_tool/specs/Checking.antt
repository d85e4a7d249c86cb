-- For proofs: what the commands that check a certificate leave, before they write anything.
use Rattle.std.specs.Prelude.{ℕ, List, Option, Ok}
use Rattle.cert_check.specs.Judges.{Judges}
use Rattle.cert_check.specs.Laws.{IsTrueClaim}
use Rattle.cert_check.specs.declared.accepted.Accepted.{Accepted}
use Rattle.cert_format.specs.declared.limits.TheConstants.{LONGEST as longest_cert}
use Rattle.rule_file.specs.File.{ReadsFile}
use Rattle.rule_file.specs.declared.read.TheConstants.{LONGEST as longest_rules}
use Rattle.rule_file.specs.declared.rules.Rules.{Rules}
use Rattle.series_csv.specs.File.{TableView, ReadsTable}
use Rattle.series_csv.specs.declared.table.TheConstants.{LONGEST as longest_readings}
use Rattle.screen_words.specs.declared.ends.Inputs.{Inputs}
use Rattle.screen_words.specs.declared.status.Ending.{Ending}
use Rattle.screen_tool.specs.declared.checked.Checked.{Checked}
use Rattle.screen_tool.specs.Checked.{AnswersChecked}
use Rattle.screen_steps.specs.Files.{HasFewBounds}
use Rattle.screen_steps.specs.Step.{Ends, IsStep}

module _ {S : Type 0} (left : S → Option (List ℕ)) (source_faults : S → ℕ) where
  -- Three files were read, and accepted as these; and the claim is true.
  pub record IsChecked (ins now : Inputs S) (checked : Checked) : Type 0 where
    pub rules : IsStep left source_faults longest_rules ReadsFile ins.rules now.rules (Ok checked.rules)
    pub table : IsStep left source_faults longest_readings (ReadsTable checked.rules) ins.readings now.readings (Ok checked.table)
    pub few : HasFewBounds checked.rules checked.table
    pub accepted : IsStep left source_faults longest_cert (Judges checked.rules checked.table) ins.cert now.cert (Ok checked.accepted)
    pub is_true : IsTrueClaim checked.rules checked.table checked.accepted

  -- A command that checks a certificate ends so, whatever it would write.
  abbrev pub EndsUnchecked : Inputs S → Inputs S → Ending → Type 0
  EndsUnchecked ins now how = (text : Rules → TableView → Accepted → List ℕ) → Ends left source_faults (AnswersChecked (λ rules table accepted. Unit {0}) text) ins now how
