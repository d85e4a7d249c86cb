use Rattle.toml.specs.View.{members_view, table_view}
use Rattle.rule_keys.specs.Table.{HasOnly}
use Rattle.rule_file.specs.Document.{table_texts}
use Rattle.rule_file.proofs.tables.has_known_keys.Given as goal

-- the entries that are left answer for all
abbrev pub invariant-loop-key : goal.invariant-loop-key
invariant-loop-key l = record {
  can_next : (goal.iterator-loop-key).can_next l.key-iterator;
  is_finite : (goal.iterator-loop-key).is_finite l.key-iterator;
  known : HasOnly table_texts (members_view l.key-iterator) → HasOnly table_texts (table_view l.file);
  unknown : HasOnly table_texts (table_view l.file) → HasOnly table_texts (members_view l.key-iterator);
}
