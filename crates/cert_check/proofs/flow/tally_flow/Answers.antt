use Rattle.std.proofs.Common.{rules, ◌≡◌, ℕ, ◌*◌, ◌^◌, ◌≤◌, ◌∙◌, ℤ, pos, ◌+ℤ◌, List, ap, refl, sym, subst, arith, length, get_or, Bool, None, ◌*ℤ◌, replicate, not, of_z, to_z, w64}
use Rattle.std.specs.Prelude.{option_map, unsigned_abs}
use Rattle.std.specs.Int.{w128}
use Rattle.std.proofs.lemmas.Int.{ints, to_z-of_z}
use Rattle.std.proofs.lemmas.List.{length-replicate}
use Rattle.words.proofs.Lists.{all_at}
use Rattle.screen_model.specs.declared.bound.Bound.{Bound}
use Rattle.screen_model.specs.declared.bound.FlowItem.{FlowItem}
use Rattle.screen_model.specs.declared.bound.Side.TheVariants.{Up}
use Rattle.cert_format.specs.Line.{IsItem}
use Rattle.series_csv.specs.Readings.{places}
use Rattle.bound_maker.specs.Bounds.{all_bounds}
use Rattle.bound_maker.specs.Costs.{whole_problem}
use Rattle.cert_check.specs.declared.fault.CertFault.TheVariants.{UnknownBound}
use Rattle.cert_check.specs.Repair.{first_line, is_known}
use Rattle.cert_check.specs.Tally.{AreWithin}
use Rattle.cert_check.proofs.Added.{length-added_by, more_within}
use Rattle.cert_check.proofs.Steps.{IsNamedBy, all_named, is_named, is_not_named, line_found, line_none, line_passed, none_passes}
use Rattle.cert_check.proofs.Tallied.{amount_within, each_at, limits_end, limits_step, limits_within, none_within, pulls_end, pulls_first, pulls_step, pulls_told, pulls_with, pulls_within}
use Rattle.cert_check.proofs.flow.tally_flow.Goals as goal

pub loop-item-init : goal.loop-item-init
loop-item-init c =
    let bounds = (whole_problem c.args.rules.now c.args.table.now).bounds in
    let whole = places c.args.table.now in
    let zeroes : ℕ → List ℤ = λ n. replicate n (pos 0) in
    let long : c.len.result ≡ length whole = omega (arith, c.len.ensures.len, c.places-places.ensures.len) in
    let pulls : c.in_ok-tally.tally.pulls ≡ zeroes (length whole) = c.in_ok-tally.ensures.0 ∙ ap zeroes long in
    let limits : c.in_ok-tally.tally.limits ≡ pos 0 = c.in_ok-tally.ensures.1 in
    record {
      number = omega arith;
      lines = refl;
      pulls = ap (pulls_with bounds c.args.flow.now whole) pulls ∙ pulls_first bounds c.args.flow.now whole;
      limits = omega (arith, ints, limits);
      long = ap length pulls ∙ length-replicate (length whole) (pos 0);
      small = subst (λ (ps : List ℤ). AreWithin 0 ps) (sym pulls) (none_within (length whole));
      small_limits = omega (arith, ints, limits);
    }

pub add_pulls-requires-clause-small : goal.add_pulls-requires-clause-small
add_pulls-requires-clause-small c =
    more_within (c.loop-item.item-index * (2 * 10 ^ 15)) (10 ^ 30) c.loop-item.tally.pulls (omega (arith, c.requires.few, c.loop-item-test.true)) c.loop-item.invariant.small

pub limits_with-requires-clause-limit : goal.limits_with-requires-clause-limit
limits_with-requires-clause-limit c =
    let same : to_z w64 (of_z w64 c.in-Some.bound.limit) ≡ c.in-Some.bound.limit = to_z-of_z w64 c.in-Some.bound.limit (search rules) in
    let few = all_at (λ (bound : Bound). unsigned_abs bound.limit ≤ 4 * 10 ^ 15) (all_bounds c.args.rules.now c.args.table.now) c.in-Some.bound c.problem_is_sound.ensures.all_limits c.in-Some.ensures.0 in
    subst (λ (z : ℤ). unsigned_abs z ≤ 4 * 10 ^ 15) (sym same) few

pub returns-in-None-clause-unknown : goal.returns-in-None-clause-unknown
returns-in-None-clause-unknown c =
    let rules = c.args.rules.now in
    let table = c.args.table.now in
    λ _. ap (option_map UnknownBound)
    (sym c.loop-item.invariant.lines
    ∙ line_found (λ (item : FlowItem). not (is_known (whole_problem rules table).bounds item.name)) c.args.flow.now c.loop-item.item-index c.loop-item.number _ c.loop-item-test.true (is_not_named rules table _ c.in-None.ensures))

pub loop-item-preserved : goal.loop-item-preserved
loop-item-preserved c =
    let rules = c.args.rules.now in
    let table = c.args.table.now in
    let i = c.loop-item.item-index in
    let none : FlowItem = record { name = record { rule = 0; from_row = 0; to_row = 0; col = 0; side = Up }; amount = pos 0 } in
    let item : FlowItem = get_or c.args.flow.now i none in
    let bound = c.in-Some.bound in
    let amount : to_z w64 (of_z w64 item.amount) ≡ item.amount = to_z-of_z w64 item.amount (search rules) in
    let limit : to_z w64 (of_z w64 bound.limit) ≡ bound.limit = to_z-of_z w64 bound.limit (search rules) in
    let sum : to_z w128 (of_z w128 c.loop-item.tally.limits) ≡ c.loop-item.tally.limits = to_z-of_z w128 c.loop-item.tally.limits (search rules) in
    let new : to_z w128 (of_z w128 c.limits_with.result) ≡ c.limits_with.result = to_z-of_z w128 c.limits_with.result (search rules) in
    let is = new ∙ (c.limits_with.ensures ∙ ap (λ z. z +ℤ (to_z w64 (of_z w64 item.amount) *ℤ to_z w64 (of_z w64 bound.limit))) sum) in
    let named : IsNamedBy rules table item.name bound = record { member = c.in-Some.ensures.0; name_is = c.in-Some.ensures.1 } in
    let of_form : IsItem item = each_at IsItem c.args.flow.now i none c.requires.each c.loop-item-test.true in
    let few : unsigned_abs (to_z w64 (of_z w64 item.amount)) ≤ 10 ^ 15 = subst (λ (z : ℤ). unsigned_abs z ≤ 10 ^ 15) (sym amount) (amount_within item of_form) in
    let most : unsigned_abs (to_z w64 (of_z w64 bound.limit)) ≤ 4 * 10 ^ 15 =
    subst (λ (z : ℤ). unsigned_abs z ≤ 4 * 10 ^ 15) (sym limit) (all_at (λ (b : Bound). unsigned_abs b.limit ≤ 4 * 10 ^ 15) (all_bounds rules table) bound c.problem_is_sound.ensures.all_limits c.in-Some.ensures.0) in
    record {
      number = omega (arith, c.loop-item.invariant.number);
      lines = sym (line_passed (λ (other : FlowItem). not (is_known (whole_problem rules table).bounds other.name)) c.args.flow.now i c.loop-item.number none c.loop-item-test.true (is_named rules table item.name bound named)) ∙ c.loop-item.invariant.lines;
      pulls = pulls_step rules table c.names_are_distinct.ensures c.args.flow.now i none bound (to_z w64 (of_z w64 item.amount)) (places table) c.loop-item.tally.pulls c.add_pulls.new.pulls c.loop-item-test.true named amount c.add_pulls.ensures
          ∙ c.loop-item.invariant.pulls;
      limits = limits_step rules table c.names_are_distinct.ensures c.args.flow.now i none bound (to_z w64 (of_z w64 item.amount)) (to_z w64 (of_z w64 bound.limit)) c.loop-item.tally.limits (to_z w128 (of_z w128 c.limits_with.result))
          c.loop-item-test.true named amount limit is c.loop-item.invariant.limits;
      long = ap length c.add_pulls.ensures ∙ length-added_by (places table) c.loop-item.tally.pulls bound _ c.loop-item.invariant.long;
      small = pulls_within (places table) c.loop-item.tally.pulls c.add_pulls.new.pulls bound (to_z w64 (of_z w64 item.amount)) i c.loop-item.invariant.small few c.add_pulls.ensures;
      small_limits = limits_within c.loop-item.tally.limits (to_z w64 (of_z w64 item.amount)) (to_z w64 (of_z w64 bound.limit)) (to_z w128 (of_z w128 c.limits_with.result)) i is few most c.loop-item.invariant.small_limits;
    }

pub returns-clause-tally : goal.returns-clause-tally
returns-clause-tally c =
    let rules = c.args.rules.now in
    let table = c.args.table.now in
    let distinct = c.names_are_distinct.ensures in
    let bounds = (whole_problem rules table).bounds in
    let flow = c.args.flow.now in
    let test : FlowItem → Bool = λ (item : FlowItem). not (is_known bounds item.name) in
    let none : first_line test c.args.before flow ≡ None = sym c.loop-item.invariant.lines ∙ line_none test flow c.loop-item.item-index c.loop-item.number c.loop-item-test.false in
    let named = all_named bounds (λ (item : FlowItem). item.name) flow (none_passes test c.args.before flow none) in
    record {
      pulls = sym (pulls_end rules table distinct flow c.loop-item.item-index (places table) c.loop-item.tally.pulls c.loop-item-test.false c.loop-item.invariant.long)
          ∙ (c.loop-item.invariant.pulls ∙ sym (pulls_told rules table distinct c.sums_over_items.ensures flow named (places table)));
      limits = limits_end rules table distinct c.sums_over_items.ensures flow c.loop-item.item-index c.loop-item.tally.limits c.loop-item-test.false named c.loop-item.invariant.limits;
      small = omega (arith, c.requires.few, c.loop-item.invariant.small_limits, c.loop-item.auto.item-index-end);
    }
