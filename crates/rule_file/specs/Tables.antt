-- For proofs: the tables of rules without where they lie in memory.
use Rattle.toml.specs.Data.{Members}
use Rattle.toml.specs.View.{table_view}
use Rattle.rule_keys.specs.declared.key.TableKind.{TableKind}
use Rattle.rule_file.specs.declared.tables.RuleTable.{RuleTable}

abbrev pub seen : RuleTable → TableKind × Members
seen rule = (rule.kind, table_view rule.table.now)
