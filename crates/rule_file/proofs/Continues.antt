-- For proofs: rules that are read one after the other.
use Rattle.std.specs.Prelude.{ℕ, List, ◌++◌, Ok, Err}
use Rattle.toml.specs.Data.{Members}
use Rattle.rule_keys.specs.declared.key.TableKind.{TableKind}
use Rattle.rule_keys.specs.declared.read.Scale.{Scale}
use Rattle.rule_file.specs.declared.fault.RuleFault.{RuleFault}
use Rattle.rule_file.specs.Document.{ReadsRules}
use Rattle.rule_file.specs.Meaning.{Entries}

-- What the rules that are left are read as, from this number on, is with what was read before what all are read as.
pub record Continues (scale : Scale) (number : ℕ) (left : List (TableKind × Members)) (front : List (TableKind × Entries)) (all : List (TableKind × Members)) : Type 0 where
  pub read : (others : List (TableKind × Entries)) → ReadsRules scale number left (Ok others) → ReadsRules scale 1 all (Ok (front ++ others))
  pub refused : (fault : RuleFault) → ReadsRules scale number left (Err fault) → ReadsRules scale 1 all (Err fault)
