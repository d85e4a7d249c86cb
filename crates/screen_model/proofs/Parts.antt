-- Flows over a part of a list of bounds, extended over all of them; cycles of a part.
use Rattle.std.proofs.Common.{◌≡◌, ◌+◌, ◌≤◌, ℤ, pos, neg_ℤ, ◌-ℤ◌, List, [], ◌∷◌, length, map, sum, refl, sym, ap, ◌∙◌, subst, arith}
use Rattle.std.specs.Prelude.{Contains, unsigned_abs}
use Rattle.std.specs.List.{AllZip}
use Rattle.std.proofs.lemmas.Int.{ints}
use Rattle.std.proofs.Math.IntN.{zero-*ℤ}
use Rattle.screen_model.specs.declared.place.Place.{Place}
use Rattle.words.specs.Lists.{IsPart, none, kept, left_out, inner_product}
use Rattle.words.proofs.Lists.{all_weaker}
use Rattle.words.proofs.Parts.{part_contains}
use Rattle.screen_model.specs.Obeys.{Priced}
use Rattle.screen_model.specs.Cost.{payment, change}
use Rattle.screen_model.specs.Flow.{CanCarry, unit_pull, pull}
use Rattle.screen_model.specs.Parts.{IsExtended, no_bounds, same_amount, no_amount, FlowsExtend, FlowsOverParts, CyclesOverParts, CostsOverParts, BestOverParts}
use Rattle.screen_model.proofs.Prices.{paid_for_priced}

extend : {part bounds : List Priced} (flow : List ℤ) → IsPart part bounds → length flow ≡ length part → (extended : List ℤ) × IsExtended part flow bounds extended
extend [] none long = ([], no_bounds)
extend (amount ∷ flow) none long = absurd (omega arith)
extend [] (kept rest) long = absurd (omega arith)
extend (amount ∷ flow) (kept rest) long = let more = extend flow rest (omega arith) in (amount ∷ more.0, same_amount more.1)
extend flow (left_out rest) long = let more = extend flow rest long in (pos 0 ∷ more.0, no_amount more.1)

pub can_extend : FlowsExtend
can_extend part bounds flow is_part long = extend flow is_part long

-- whatever an amount on a bound counts for, the sum over all bounds is that over the part
pub same_sum : (f : Priced → ℤ) {part bounds : List Priced} {flow extended : List ℤ} → IsExtended part flow bounds extended → inner_product extended (map f bounds) ≡ inner_product flow (map f part)
same_sum f no_bounds = refl
same_sum f (same_amount {priced = priced} {amount = amount} rest) = omega (arith, ints, same_sum f rest)
same_sum f (no_amount {priced = priced} rest) = omega (arith, ints, zero-*ℤ (f priced), same_sum f rest)

still_carry : {part bounds : List Priced} {flow extended : List ℤ} → IsExtended part flow bounds extended → AllZip CanCarry part flow → AllZip CanCarry bounds extended
still_carry no_bounds carry = carry
still_carry (same_amount rest) carry = (carry.0, still_carry rest carry.1)
still_carry (no_amount rest) carry = ((omega (arith, ints), λ some. omega (arith, ints)), still_carry rest carry)

pub same_pull : {part bounds : List Priced} {flow extended : List ℤ} → IsExtended part flow bounds extended → (p : Place) → pull bounds extended p ≡ pull part flow p
same_pull extended p = same_sum (λ priced. unit_pull p priced.bound) extended

pub flows_over : FlowsOverParts
flows_over problem part flow extended is_extended admissible =
    let same : pull part flow ≡ pull problem.bounds extended = λ i p. sym (same_pull is_extended p) i in
    let limits = same_sum (λ priced. priced.bound.limit) is_extended in (
      record {
        amounts = still_carry is_extended admissible.amounts;
        pulls = subst (λ (pulls : Place → ℤ). AllZip (λ p weight. unsigned_abs (pulls p) ≤ weight) problem.places problem.weights) same admissible.pulls;
      },
      ap (λ limited. neg_ℤ limited -ℤ inner_product problem.values (map (pull problem.bounds extended) problem.places)) limits
          ∙ ap (λ (pulls : Place → ℤ). neg_ℤ (inner_product flow (map (λ priced. priced.bound.limit) part)) -ℤ inner_product problem.values (map pulls problem.places)) (sym same),
    )

pub cycles_over : CyclesOverParts
cycles_over part bounds cycle is_part blocked = record {
  some = blocked.some;
  members = all_weaker (Contains part) (Contains bounds) (part_contains is_part) cycle blocked.members;
  unpriced = blocked.unpriced;
  closed = blocked.closed;
  simple = blocked.simple;
  negative = blocked.negative;
}

pub costs_over : CostsOverParts
costs_over problem part series same =
    let pay = payment problem.places series in
    let same_paid : sum (map pay part) ≡ sum (map pay problem.bounds) =
    sym (paid_for_priced problem.places series part) ∙ ap (λ bounds. sum (map pay bounds)) same ∙ paid_for_priced problem.places series problem.bounds in
    ap (λ n. change problem series + n) same_paid

pub best_over : BestOverParts
best_over problem part series flow extended is_extended same obeys best =
    let whole = flows_over problem part flow extended is_extended best.admissible in
    record {
      sound = record { distinct = best.sound.distinct; valued = best.sound.valued; weighted = best.sound.weighted };
      whole = best.whole;
      obeys = obeys;
      admissible = whole.0;
      equal = whole.1 ∙ best.equal ∙ ap pos (costs_over problem part series same);
    }
