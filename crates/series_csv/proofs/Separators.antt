-- The separator of a rule file is one of a text.
use Rattle.std.proofs.Common.{IsTrue}
use Rattle.words.specs.Separators.{is_separator}
use Rattle.rule_file.specs.declared.rules.Rules.{Rules}

pub separates : (rules : Rules) → IsTrue (is_separator rules.format.separator)
separates rules = rules.format.limits.separator
