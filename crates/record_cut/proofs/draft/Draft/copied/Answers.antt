use Rattle.std.proofs.Common.{◌∙◌, ap, length, arith}
use Rattle.record_cut.proofs.Splits.{Rises-whole, Rises-copied, size-drafted}
use Rattle.record_cut.specs.Drafted.{Drafted, size_of}
use Rattle.record_cut.proofs.draft.Draft.copied.Goals as goal

pub from_parts-requires-clause-rises : goal.from_parts-requires-clause-rises
from_parts-requires-clause-rises c =
    let whole = Rises-whole c.self.inside.bytes.items c.self.inside.ends.items c.self.inside.start c.self.invariant.0 c.self.invariant.1 (ap (λ (d : Drafted). d.field) c.self.view_is ∙ c.requires.ended) in
    Rises-copied c.self.inside.bytes.items c.self.inside.ends.items c.in_ok-bytes.bytes.items c.in_ok-ends.ends.items (c.in_ok-bytes.ensures.items ∙ c.as_slice.ensures.value) (c.in_ok-ends.ensures.items ∙ c.as_slice-2.ensures.value) whole

pub from_parts-requires-clause-few : goal.from_parts-requires-clause-few
from_parts-requires-clause-few c = omega (arith, ap length (c.in_ok-ends.ensures.items ∙ c.as_slice-2.ensures.value), ap size_of c.self.view_is, size-drafted c.self.inside.bytes.items c.self.inside.ends.items c.self.inside.start c.self.invariant.0 c.self.invariant.1)
