use Rattle.std.proofs.Common.{[], length, append-nil, eq-eqb, ◌∙◌, sym, ap}
use Rattle.std.proofs.lemmas.Bool.{both_ways}
use Rattle.cert_format.specs.Fields.{name_fields}
use Rattle.cert_format.proofs.parse.name_of.Goals as goal

pub returns-else-is_empty-clause-only : goal.returns-else-is_empty-clause-only
returns-else-is_empty-clause-only c = λ name is e.
    let same = c.in_ok-name.ensures.only name [] is (e ∙ sym (append-nil (name_fields name))) in
    both_ways c.is_empty.result c.if-is_empty.false (c.is_empty.ensures ∙ eq-eqb (length c.in_ok-name.rest.now) 0 (ap length same.1))
