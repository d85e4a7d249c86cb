use Rattle.std.proofs.Common.{◌≡◌, None, Some, [], ◌∷◌, ◌∙◌, sym, ap₂, arith, to_z, of_z, w64}
use Rattle.std.specs.Fmt.{signed_decimal}
use Rattle.std.proofs.lemmas.Bool.Decides.{Decides-eqb}
use Rattle.std.proofs.lemmas.Int.{ints}
use Rattle.std.proofs.lemmas.Slice.Eq.{strip_prefix_is}
use Rattle.cert_format.specs.Words.{space}
use Rattle.cert_format.proofs.Lines.{item_of_parts, item_fields-split}
use Rattle.cert_format.proofs.parse.item_of.Goals as goal

pub returns-in_err-name-clause-only : goal.returns-in_err-name-clause-only
returns-in_err-name-clause-only c = λ item is e. absurd (c.in_err-name.ensures.only item.name (space ∷ signed_decimal item.amount) is.0 (e ∙ item_fields-split item))

pub returns-in_err-strip_prefix-clause-only : goal.returns-in_err-strip_prefix-clause-only
returns-in_err-strip_prefix-clause-only c = λ item is e.
    let same = c.in_ok-name.ensures.only item.name (space ∷ signed_decimal item.amount) is.0 (e ∙ item_fields-split item) in
    absurd (strip_prefix_is Decides-eqb c.in_ok-name.rest.now (space ∷ []) None c.in_err-strip_prefix.ensures.cases (signed_decimal item.amount) same.1)

pub returns-in_err-amount-clause-only : goal.returns-in_err-amount-clause-only
returns-in_err-amount-clause-only c = λ item is e.
    let same = c.in_ok-name.ensures.only item.name (space ∷ signed_decimal item.amount) is.0 (e ∙ item_fields-split item) in
    let found = strip_prefix_is Decides-eqb c.in_ok-name.rest.now (space ∷ []) (Some c.in_ok-strip_prefix.field-0) c.in_ok-strip_prefix.ensures.cases in
    absurd (c.in_err-amount.ensures.only item.amount is.1 (cc (sym found ∙ same.1)))

pub returns-clause-only : goal.returns-clause-only
returns-clause-only c = λ item is e.
    let same = c.in_ok-name.ensures.only item.name (space ∷ signed_decimal item.amount) is.0 (e ∙ item_fields-split item) in
    let found = strip_prefix_is Decides-eqb c.in_ok-name.rest.now (space ∷ []) (Some c.in_ok-strip_prefix.field-0) c.in_ok-strip_prefix.ensures.cases in
    let amount = c.in_ok-amount.ensures.only item.amount is.1 (cc (sym found ∙ same.1)) in
    let known : to_z w64 (of_z w64 c.in_ok-amount.amount) ≡ c.in_ok-amount.amount = omega (arith, ints, c.in_ok-amount.ensures.found.0.0, c.in_ok-amount.ensures.found.0.1) in
    ap₂ item_of_parts same.0 (known ∙ amount)
