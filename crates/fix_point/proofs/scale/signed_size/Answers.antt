use Rattle.fix_point.proofs.Reading.{is_of_parts}
use Rattle.fix_point.proofs.scale.signed_size.Goals as goal

pub returns-in_default-clause-refused : goal.returns-in_default-clause-refused
returns-in_default-clause-refused c = λ parts is. c.in_default.ensures.none (is_of_parts c.args.text.now parts is)
