-- What is answered over the bounds that are made is the answer over all bounds.
use Rattle.std.proofs.Common.{◌≡◌, ℕ, ◌+◌, Bool, true, false, cond, eqb, not, ℤ, pos, ◌≤ℤ◌, List, [], ◌∷◌, map, sum, refl, sym, ap, ◌∙◌, subst, arith}
use Rattle.std.specs.List.{AllByRecursion}
use Rattle.std.proofs.lemmas.Bool.{eqb-true}
use Rattle.std.proofs.lemmas.List.Sums.{sum_by-cons}
use Rattle.words.specs.Lists.{Distinct, IsPart, none, kept, left_out}
use Rattle.words.proofs.Parts.{part_all, part_map}
use Rattle.screen_model.specs.declared.bound.Bound.{Bound}
use Rattle.screen_model.specs.declared.bound.BoundName.{BoundName}
use Rattle.screen_model.specs.declared.bound.FlowItem.{FlowItem}
use Rattle.screen_model.specs.Obeys.{Priced, Keeps}
use Rattle.screen_model.specs.Cost.{paid}
use Rattle.screen_model.specs.Names.{names_of, amounts_of, bounds_named}
use Rattle.screen_model.specs.Parts.{bounds_with_price}
use Rattle.screen_model.specs.Best.{IsBlocked}
use Rattle.screen_model.proofs.Names.{over_parts as names_over}
use Rattle.screen_model.proofs.Items.{over_parts as items_over}
use Rattle.screen_model.proofs.Parts.{cycles_over}
use Rattle.rule_file.specs.declared.rules.Rules.{Rules}
use Rattle.series_csv.specs.File.{TableView}
use Rattle.series_csv.specs.Readings.{places}
use Rattle.bound_maker.specs.Bounds.{all_bounds, priced}
use Rattle.bound_maker.specs.Costs.{made_problem, whole_problem, weights}
use Rattle.bound_maker.specs.Laws.{NamesAreDistinct, AreAPart, MadeBindAll, BestOverMade}
use Rattle.least_cost.specs.declared.outcome.Outcome.{Outcome}
use Rattle.least_cost.specs.declared.outcome.Outcome.TheVariants.{Repaired, NoSeries}
use Rattle.least_cost.specs.Repair.{IsObeying, IsRepair}
use Rattle.least_cost.specs.Answer.{IsRepaired, IsWithoutSeries, Answers}

part_of_part : {A : Type 0} {few some all : List A} → IsPart few some → IsPart some all → IsPart few all
part_of_part none none = none
part_of_part first (left_out second) = left_out (part_of_part first second)
part_of_part (kept first) (kept second) = kept (part_of_part first second)
part_of_part (left_out first) (kept second) = left_out (part_of_part first second)

-- ---- prices

priced_names : (rules : Rules) (bounds : List Bound) → names_of (priced rules bounds) ≡ map (λ bound. bound.name) bounds
priced_names rules [] = refl
priced_names rules (bound ∷ bounds) = ap (λ (names : List BoundName). bound.name ∷ names) (priced_names rules bounds)

abbrev price_sum : List Priced → ℕ
price_sum bounds = sum (map (λ priced. priced.price) bounds)

one_price : (priced : Priced) (bounds : List Priced) (free : Bool) → eqb priced.price 0 ≡ free → price_sum (bounds_with_price bounds) ≡ price_sum bounds
    → price_sum (cond (not free) (priced ∷ bounds_with_price bounds) (bounds_with_price bounds)) ≡ price_sum (priced ∷ bounds)
one_price priced bounds true e rest = omega (arith, rest, eqb-true priced.price 0 e, sum_by-cons (λ x. x) priced.price (map (λ (p : Priced). p.price) bounds))
one_price priced bounds false e rest =
    omega (arith, rest, sum_by-cons (λ x. x) priced.price (map (λ (p : Priced). p.price) bounds), sum_by-cons (λ x. x) priced.price (map (λ (p : Priced). p.price) (bounds_with_price bounds)))

-- bounds without a price add nothing
price_sum_same : (bounds : List Priced) → price_sum (bounds_with_price bounds) ≡ price_sum bounds
price_sum_same [] = refl
price_sum_same (priced ∷ bounds) = one_price priced bounds (eqb priced.price 0) refl (price_sum_same bounds)

-- ---- series that obey

-- the laws of the bounds that are made
pub record AreLaws (rules : Rules) (table : TableView) : Type 0 where
  pub part : AreAPart rules table
  pub distinct : NamesAreDistinct rules table
  pub bind : MadeBindAll rules table
  pub over : BestOverMade rules table

obeys_made : (rules : Rules) (table : TableView) (series : List ℤ) → AreLaws rules table → IsObeying (whole_problem rules table) series → IsObeying (made_problem rules table) series
obeys_made rules table series laws obeying = record {
  whole = obeying.whole;
  obeys = part_all (λ (priced : Priced). priced.price ≡ 0 → Keeps (places table) series priced.bound) laws.part.part obeying.obeys;
}

obeys_all : (rules : Rules) (table : TableView) (series : List ℤ) → AreLaws rules table → IsObeying (made_problem rules table) series → IsObeying (whole_problem rules table) series
obeys_all rules table series laws obeying = record { whole = obeying.whole; obeys = laws.bind series obeying.obeys }

distinct_all : (rules : Rules) (table : TableView) → AreLaws rules table → Distinct (names_of (whole_problem rules table).bounds)
distinct_all rules table laws = subst (λ (names : List BoundName). Distinct names) (sym (priced_names rules (all_bounds rules table))) laws.distinct

-- ---- a repair

repair_over_all : (rules : Rules) (table : TableView) (series : List ℤ) → AreLaws rules table → IsRepair (made_problem rules table) series → IsRepair (whole_problem rules table) series
repair_over_all rules table series laws is = record {
  obeying = obeys_all rules table series laws is.obeying;
  least = λ other obeying. omega (arith, is.least other (obeys_made rules table other laws obeying), laws.over.costs series, laws.over.costs other);
  greatest = λ other obeying same. is.greatest other (obeys_made rules table other laws obeying) (laws.over.costs other ∙ same ∙ sym (laws.over.costs series));
}

repaired_over_all : (rules : Rules) (table : TableView) (series : List ℤ) (flow : List FlowItem) (total broken : ℤ) → AreLaws rules table → IsRepaired (made_problem rules table) series flow total broken → IsRepaired (whole_problem rules table) series flow total broken
repaired_over_all rules table series flow total broken laws is =
    let made = made_problem rules table in
    let all = whole_problem rules table in
    let part = laws.part.part in
    let costs = laws.over.costs series in
    let items = items_over made.bounds all.bounds flow part (distinct_all rules table laws) is.best.over in
    let pays : paid made series ≡ paid all series = omega (arith, costs) in
    let prices : price_sum made.bounds ≡ price_sum all.bounds = sym (price_sum_same made.bounds) ∙ ap price_sum laws.part.prices ∙ price_sum_same all.bounds in
    record {
      repair = repair_over_all rules table series laws is.repair;
      best = record {
        over = items.0;
        best = laws.over.best series (amounts_of flow made.bounds) (amounts_of flow all.bounds) items.1 is.best.best;
      };
      total = is.total ∙ ap pos costs;
      paid = is.paid ∙ ap pos pays;
      in_order = part_of_part is.in_order (part_map (λ (priced : Priced). priced.bound.name) part);
      amounts = subst (λ (n : ℕ). AllByRecursion (λ item. item.amount ≤ℤ pos (sum (weights rules table) + n + 1)) flow) prices is.amounts;
      small_values = is.small_values;
      small_total = is.small_total;
    }

-- ---- no series

without_over_all : (rules : Rules) (table : TableView) (cycle : List BoundName) → AreLaws rules table → IsWithoutSeries (made_problem rules table) cycle → IsWithoutSeries (whole_problem rules table) cycle
without_over_all rules table cycle laws is =
    let made = made_problem rules table in
    let all = whole_problem rules table in
    let part = laws.part.part in
    let names = names_over made.bounds all.bounds cycle part (distinct_all rules table laws) is.blocked.named in
    record {
      blocked = record {
        named = names.0;
        blocked = subst (λ (ring : List Priced). IsBlocked all.bounds ring) (sym names.1) (cycles_over made.bounds all.bounds (bounds_named cycle made.bounds) part is.blocked.blocked);
      };
      none = λ series obeying. is.none series (obeys_made rules table series laws obeying);
    }

pub over_all : (rules : Rules) (table : TableView) (outcome : Outcome) → AreLaws rules table → Answers (made_problem rules table) outcome → Answers (whole_problem rules table) outcome
over_all rules table (Repaired series flow total paid changes) laws is = repaired_over_all rules table series flow total paid laws is
over_all rules table (NoSeries cycle) laws is = without_over_all rules table cycle laws is
