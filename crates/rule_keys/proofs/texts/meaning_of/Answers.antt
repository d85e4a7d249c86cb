use Rattle.std.proofs.Common.{rules}
use Rattle.rule_keys.proofs.Meanings.{meaning_found}
use Rattle.rule_keys.specs.Words.{words}
use Rattle.rule_keys.proofs.texts.meaning_of.Goals as goal

pub returns : goal.returns
returns c = meaning_found (words c.args.choice) c.words_of.result.now c.args.text.now c.word_among.result _ c.words_of.ensures c.word_among.ensures (search rules)
