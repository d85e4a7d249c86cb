use Rattle.std.proofs.Common.{drop}
use Rattle.toml.specs.View.{table_view}
use Rattle.rule_file.specs.Answered.{AllHave}
use Rattle.rule_file.specs.Document.{rule_kinds, rule_tables}
use Rattle.rule_file.proofs.answered.tables_answer.Given as goal

-- the kinds that are left answer for all
abbrev pub invariant-loop-kind : goal.invariant-loop-kind
invariant-loop-kind l =
    AllHave l.scale (rule_tables (drop l.kind-index rule_kinds) (table_view l.file)) → AllHave l.scale (rule_tables rule_kinds (table_view l.file))
