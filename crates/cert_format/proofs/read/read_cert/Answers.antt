use Rattle.std.proofs.Common.{◌≡◌, ◌≢◌, ◌∙◌, inr, None, Some, Err, [], length, eq-eqb, sym, ap, subst, arith}
use Rattle.std.proofs.lemmas.Bool.{both_ways}
use Rattle.words.proofs.Answers.{refused_if}
use Rattle.cert_format.specs.declared.fault.CertRead.TheVariants.{Syntax, Memory}
use Rattle.cert_format.specs.Draft.{next}
use Rattle.cert_format.specs.Reads.{Reads}
use Rattle.cert_format.proofs.Drafts.{so_far}
use Rattle.cert_format.proofs.Members.{none_left}
use Rattle.cert_format.proofs.Refusals.{few_lines, read_on, refused_at, refused_next, refuses, reads_end}
use Rattle.cert_format.proofs.read.read_cert.Goals as goal

pub returns-in_default-2-clause-refused : goal.returns-in_default-2-clause-refused
returns-in_default-2-clause-refused c =
    let none : next c.loop-line.draft c.in-Some.line ≡ None = sym c.in_ok-more.ensures ∙ c.in_default-2.is in
    λ _. refuses c.args.bytes.now (length (so_far c.loop-line.draft)) c.loop-line.number c.loop-line.invariant.1
    (refused_next c.args.bytes.now c.loop-line.draft c.loop-line.rest.now c.in-Some.line c.in-Some.after.now c.loop-line.invariant.0 c.in-Some.ensures.found none)

pub returns-in_default-2-clause-only : goal.returns-in_default-2-clause-only
returns-in_default-2-clause-only c =
    let none : next c.loop-line.draft c.in-Some.line ≡ None = sym c.in_ok-more.ensures ∙ c.in_default-2.is in
    let reads : Reads c.args.bytes.now (Err (Syntax c.loop-line.number)) = refuses c.args.bytes.now (length (so_far c.loop-line.draft)) c.loop-line.number c.loop-line.invariant.1
    (refused_next c.args.bytes.now c.loop-line.draft c.loop-line.rest.now c.in-Some.line c.in-Some.after.now c.loop-line.invariant.0 c.in-Some.ensures.found none)
    in
    λ answer other _. c.one_answer.ensures c.args.bytes.now (Err (Syntax c.loop-line.number)) answer reads other

pub overflow_add-number : goal.overflow_add-number
overflow_add-number c = omega (arith, c.requires, c.loop-line.invariant.1, few_lines c.args.bytes.now c.loop-line.draft c.loop-line.rest.now c.loop-line.invariant.0)

pub loop-line-preserved : goal.loop-line-preserved
loop-line-preserved c =
    let some : next c.loop-line.draft c.in-Some.line ≡ Some c.in-Some-2.more = sym c.in_ok-more.ensures ∙ c.in-Some-2.is in
    let on = read_on c.args.bytes.now c.loop-line.draft c.loop-line.rest.now c.in-Some.line c.in-Some.after.now c.in-Some-2.more c.loop-line.invariant.0 c.in-Some.ensures.found.is c.in-Some.ensures.found.text some in
    (on.read, omega (arith, c.loop-line.invariant.1, on.count))

pub returns-then-not-is_empty-clause-refused : goal.returns-then-not-is_empty-clause-refused
returns-then-not-is_empty-clause-refused c =
    let some : c.loop-line.rest.now ≢ [] = λ e. both_ways c.is_empty.result c.if-not-is_empty.true (c.is_empty.ensures ∙ eq-eqb (length c.loop-line.rest.now) 0 (ap length e)) in
    λ _. refuses c.args.bytes.now (length (so_far c.loop-line.draft)) c.loop-line.number c.loop-line.invariant.1
    (refused_at c.args.bytes.now c.loop-line.draft c.loop-line.rest.now c.loop-line.invariant.0 c.in_default.ensures.none (inr some))

pub returns-then-not-is_empty-clause-only : goal.returns-then-not-is_empty-clause-only
returns-then-not-is_empty-clause-only c =
    let some : c.loop-line.rest.now ≢ [] = λ e. both_ways c.is_empty.result c.if-not-is_empty.true (c.is_empty.ensures ∙ eq-eqb (length c.loop-line.rest.now) 0 (ap length e)) in
    let reads : Reads c.args.bytes.now (Err (Syntax c.loop-line.number)) = refuses c.args.bytes.now (length (so_far c.loop-line.draft)) c.loop-line.number c.loop-line.invariant.1
    (refused_at c.args.bytes.now c.loop-line.draft c.loop-line.rest.now c.loop-line.invariant.0 c.in_default.ensures.none (inr some))
    in
    λ answer other _. c.one_answer.ensures c.args.bytes.now (Err (Syntax c.loop-line.number)) answer reads other

pub returns-clause-refused : goal.returns-clause-refused
returns-clause-refused c =
    let empty : c.loop-line.rest.now ≡ [] = none_left c.loop-line.rest.now (sym c.is_empty.ensures ∙ c.if-not-is_empty.false) in
    let reads = reads_end c.args.bytes.now c.loop-line.draft c.loop-line.rest.now c.loop-line.number c.whole.result c.loop-line.invariant.0 c.in_default.ensures.none c.loop-line.invariant.1 empty c.whole.ensures in
    refused_if Memory (Reads c.args.bytes.now) c.ok_or.result (λ _. subst (Reads c.args.bytes.now) (sym c.ok_or.ensures.value) reads)

pub returns-clause-only : goal.returns-clause-only
returns-clause-only c =
    let empty : c.loop-line.rest.now ≡ [] = none_left c.loop-line.rest.now (sym c.is_empty.ensures ∙ c.if-not-is_empty.false) in
    let reads = reads_end c.args.bytes.now c.loop-line.draft c.loop-line.rest.now c.loop-line.number c.whole.result c.loop-line.invariant.0 c.in_default.ensures.none c.loop-line.invariant.1 empty c.whole.ensures in
    λ answer other _. c.one_answer.ensures c.args.bytes.now c.ok_or.result answer (subst (Reads c.args.bytes.now) (sym c.ok_or.ensures.value) reads) other
