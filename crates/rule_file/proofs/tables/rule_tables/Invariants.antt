use Rattle.std.proofs.Common.{◌≡◌, map, drop, Some}
use Rattle.toml.specs.View.{table_view}
use Rattle.rule_file.specs.Document.{rule_kinds, rule_tables, joined}
use Rattle.rule_file.specs.Tables.{seen}
use Rattle.rule_file.proofs.tables.rule_tables.Given as goal

-- the tables so far, and those of the kinds that are left, are those of all
abbrev pub invariant-loop-kind : goal.invariant-loop-kind
invariant-loop-kind l =
    joined (Some (map seen l.tables.items)) (rule_tables (drop l.kind-index rule_kinds) (table_view l.file)) ≡ rule_tables rule_kinds (table_view l.file)
