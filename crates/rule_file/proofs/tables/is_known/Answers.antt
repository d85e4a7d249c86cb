use Rattle.rule_file.proofs.Known.{known_is}
use Rattle.rule_file.proofs.tables.is_known.Goals as goal

pub returns-else-is_key_of : goal.returns-else-is_key_of
returns-else-is_key_of c =
    known_is c.args.key.now c.is_key_of.result c.is_among.result c.is_key_of.ensures c.if-is_key_of.false c.is_among.ensures
