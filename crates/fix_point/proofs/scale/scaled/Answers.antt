use Rattle.std.specs.Int.{w64}
use Rattle.std.proofs.lemmas.Int.{to_z-of_z}
use Rattle.fix_point.proofs.Only.{is_read}
use Rattle.fix_point.proofs.scale.scaled.Goals as goal

pub returns-clause-only : goal.returns-clause-only
returns-clause-only c =
    let accepted = rw (to_z-of_z w64 c.args.most c.ranges.most) at c.signed_size.ensures.accepted in
    let refused = rw (to_z-of_z w64 c.args.most c.ranges.most) at c.signed_size.ensures.refused in
    λ answer reads. c.one_answer.ensures c.args.text.now c.args.d c.args.extra c.args.most c.signed_size.result answer
    (is_read c.args.text.now c.args.d c.args.extra c.args.most c.signed_size.result accepted refused) reads
