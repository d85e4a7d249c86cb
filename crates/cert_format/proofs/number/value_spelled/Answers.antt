use Rattle.std.proofs.Common.{suc, Some, [], ◌∷◌, arith}
use Rattle.std.proofs.lemmas.Bool.Decides.{Decides-eqb}
use Rattle.std.proofs.lemmas.Int.{ints}
use Rattle.std.proofs.lemmas.Slice.Eq.{strip_prefix_is}
use Rattle.cert_format.proofs.Numbers.{is_negative}
use Rattle.cert_format.proofs.number.value_spelled.Goals as goal

pub returns-in_err-size-2-clause-only : goal.returns-in_err-size-2-clause-only
returns-in_err-size-2-clause-only c = λ value small text.
    let sign = strip_prefix_is Decides-eqb c.args.word.now (45 ∷ []) (Some c.in-Some.digits) c.in-Some.ensures.cases in
    let negative = is_negative c.args.word.now c.in-Some.digits.now value sign small text in
    absurd (c.in_err-size-2.ensures.only (suc negative.size) negative.small negative.text)

pub returns-then-size-eq0-clause-only : goal.returns-then-size-eq0-clause-only
returns-then-size-eq0-clause-only c = λ value small text.
    let sign = strip_prefix_is Decides-eqb c.args.word.now (45 ∷ []) (Some c.in-Some.digits) c.in-Some.ensures.cases in
    let negative = is_negative c.args.word.now c.in-Some.digits.now value sign small text in
    let same = c.in_ok-size-2.ensures.only (suc negative.size) negative.small negative.text in
    omega (arith, same)

pub returns-clause-only : goal.returns-clause-only
returns-clause-only c = λ value small text.
    let sign = strip_prefix_is Decides-eqb c.args.word.now (45 ∷ []) (Some c.in-Some.digits) c.in-Some.ensures.cases in
    let negative = is_negative c.args.word.now c.in-Some.digits.now value sign small text in
    let same = c.in_ok-size-2.ensures.only (suc negative.size) negative.small negative.text in
    omega (arith, ints, same, negative.value_is)
