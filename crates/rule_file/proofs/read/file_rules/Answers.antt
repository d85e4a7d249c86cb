use Rattle.toml.specs.View.{table_view}
use Rattle.rule_file.specs.Toml.{IsToml}
use Rattle.rule_file.proofs.Whole.{file_read}
use Rattle.rule_file.proofs.read.file_rules.Goals as goal

pub returns-in-Ok : goal.returns-in-Ok
returns-in-Ok c =
    let is : IsToml c.args.bytes.now (table_view c.in-Ok.file) = record { text = c.in-Ok.ensures.ok.0; parsed = c.in-Ok.ensures.ok.1 } in
    file_read c.args.bytes.now (table_view c.in-Ok.file) _ c.if-bytes-gt-LONGEST.false is c.document_rules.ensures
