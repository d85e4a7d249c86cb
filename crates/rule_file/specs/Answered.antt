-- For proofs: tables that are read as something, be it their entries or a cause to refuse them.
use Rattle.std.specs.Prelude.{List, Option, Some, None, Result}
use Rattle.std.specs.List.{AllByRecursion}
use Rattle.toml.specs.Data.{Members}
use Rattle.rule_keys.specs.declared.cause.KeyCause.{KeyCause}
use Rattle.rule_keys.specs.declared.key.TableKind.{TableKind}
use Rattle.rule_keys.specs.declared.read.Scale.{Scale}
use Rattle.rule_keys.specs.Table.{Reads}
use Rattle.rule_file.specs.Meaning.{Entries}

abbrev pub HasAnswer : Scale → TableKind × Members → Type 0
HasAnswer scale rule = (answer : Result Entries KeyCause) × Reads scale rule.0 rule.1 answer

-- each of the tables, if there are any
abbrev pub AllHave : Scale → Option (List (TableKind × Members)) → Type 0
AllHave scale None = Unit {0}
AllHave scale (Some tables) = AllByRecursion (HasAnswer scale) tables
