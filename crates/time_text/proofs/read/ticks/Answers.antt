use Rattle.time_text.proofs.Only.{is_read}
use Rattle.time_text.proofs.read.ticks.Goals as goal

pub returns-clause-only : goal.returns-clause-only
returns-clause-only c =
    let accepted = rw c.trimmed_text.ensures at c.trimmed_ticks.ensures.accepted in
    let refused = rw c.trimmed_text.ensures at c.trimmed_ticks.ensures.refused in
    λ answer reads. c.one_answer.ensures c.args.form c.args.text.now c.trimmed_ticks.result answer
    (is_read c.args.form c.args.text.now c.trimmed_ticks.result accepted refused) reads
