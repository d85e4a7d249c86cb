-- What a table that is read as its entries has: checks that pass.
use Rattle.std.proofs.Common.{inl, inr}
use Rattle.std.specs.Prelude.{Ok}
use Rattle.std.specs.List.{AllByRecursion}
use Rattle.toml.specs.Data.{Members}
use Rattle.rule_keys.specs.declared.key.TableKind.{TableKind}
use Rattle.rule_keys.specs.declared.read.Scale.{Scale}
use Rattle.rule_keys.specs.Keys.{checks_of}
use Rattle.rule_keys.specs.Table.{Reads, Passes}
use Rattle.rule_file.specs.Meaning.{Entries}

pub reads_passes : (scale : Scale) (kind : TableKind) (found : Members) (entries : Entries)
    → Reads scale kind found (Ok entries) → AllByRecursion (Passes scale.decimals entries) (checks_of kind)
reads_passes scale kind found entries reads = elim reads [ inl refused ↦ absurd (cc refused.1) | inr read ↦ read.1.1 ]
