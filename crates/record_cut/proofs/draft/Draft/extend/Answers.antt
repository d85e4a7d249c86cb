use Rattle.std.proofs.Common.{◌∙◌, ap, arith}
use Rattle.record_cut.specs.Drafted.{Drafted, size_of}
use Rattle.record_cut.specs.Split.{pieces}
use Rattle.record_cut.proofs.Splits.{pieces-more, size-pushed}
use Rattle.record_cut.proofs.draft.Draft.extend.Goals as goal

pub returns-clause-fields : goal.returns-clause-fields
returns-clause-fields c =
    ap (λ bytes. pieces bytes 0 c.self.inside.ends.items) c.in_ok-extend_from_slice.ensures.items ∙ pieces-more c.self.inside.bytes.items c.args.bytes.now 0 c.self.inside.ends.items c.self.inside.start c.self.invariant.0 c.self.invariant.1 ∙ ap (λ (d : Drafted). d.fields) c.self.view_is

pub returns-clause-size : goal.returns-clause-size
returns-clause-size c = omega (arith, ap size_of c.self.view_is, size-pushed c.self.inside.bytes.items c.self.inside.ends.items _ c.args.bytes.now c.self.inside.start c.self.invariant.0 c.self.invariant.1 c.in_ok-extend_from_slice.ensures.items)
