use Rattle.std.proofs.Common.{◌≡◌, ◌∙◌, ◌++◌, ◌∷◌, [], ap, arith}
use Rattle.record_cut.specs.Drafted.{Drafted, size_of}
use Rattle.record_cut.proofs.Splits.{end_pushed, field_ended, size-drafted, size-ended}
use Rattle.record_cut.proofs.draft.Draft.end_field.Goals as goal

pub overflow_cast-len : goal.overflow_cast-len
overflow_cast-len c = omega (arith, ap size_of c.self.view_is, size-drafted c.self.inside.bytes.items c.self.inside.ends.items c.self.inside.start c.self.invariant.0 c.self.invariant.1)

pub invariant_of-self-2 : goal.invariant_of-self-2
invariant_of-self-2 c = (let first = end_pushed c.self.inside.bytes.items c.self.inside.ends.items _ c.self.inside.start c.len.result c.self.invariant.0 c.self.invariant.1 (omega arith) c.in_ok-push.ensures.items in let same : c.len.result ≡ c.len-self-inside.result = omega arith in rw (← same) first, omega arith)

pub returns-clause-fields : goal.returns-clause-fields
returns-clause-fields c =
    field_ended c.self.inside.bytes.items c.self.inside.ends.items _ c.self.inside.start c.len.result c.self.invariant.0 c.self.invariant.1 (omega arith) c.in_ok-push.ensures.items ∙ ap (λ (d : Drafted). d.fields ++ d.field ∷ []) c.self.view_is

pub returns-clause-size : goal.returns-clause-size
returns-clause-size c =
    let same : c.len.result ≡ c.len-self-inside.result = omega arith in
    omega (arith, ap size_of c.self.view_is, size-ended c.self.inside.bytes.items c.self.inside.ends.items c.push.new.self.items c.self.inside.start c.len-self-inside.result c.self.invariant.0 c.self.invariant.1 (omega arith) (rw same at c.in_ok-push.ensures.items))
