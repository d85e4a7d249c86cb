-- What a sample sums up: its text, and that the solver has counted a change where the total is above 0.
use Rattle.std.proofs.Common.{◌≡◌, inl, inr, ℕ, suc, ◌+◌, ◌≤◌, ℤ, pos, ◌-ℤ◌, ◌*ℤ◌, ◌<ℤ◌, List, [], ◌∷◌, length, map, Option, Some, None, Result, Ok, Err, refl, sym, ap, subst, ◌∙◌, arith}
use Rattle.std.specs.Prelude.{neg_ℤ}
use Rattle.std.proofs.lemmas.Int.{ints}
use Rattle.std.proofs.Math.IntN.{*ℤ-zero}
use Rattle.words.specs.Lists.{inner_product}
use Rattle.words.proofs.InnerProducts.{inner_product-map_zero, inner_product_comm}
use Rattle.bound_maker.specs.Costs.{made_problem, whole_problem}
use Rattle.least_cost.specs.Answer.{Answers as AnswersProblem, AreChanges, CountsChanges, IsRepaired}
use Rattle.least_cost.specs.declared.outcome.Outcome.{Outcome as Found}
use Rattle.least_cost.specs.declared.outcome.Outcome.TheVariants as found
use Rattle.rule_file.specs.declared.fault.RuleFault.{RuleFault}
use Rattle.rule_file.specs.declared.rules.Rules.{Rules}
use Rattle.screen_model.specs.declared.bound.FlowItem.{FlowItem}
use Rattle.screen_model.specs.declared.place.Place.{Place}
use Rattle.screen_model.specs.Cost.{Problem}
use Rattle.screen_model.specs.Flow.{pull}
use Rattle.screen_model.specs.Names.{amounts_of}
use Rattle.screen_model.specs.Obeys.{Priced}
use Rattle.screen_steps.specs.Answer.{Answer}
use Rattle.screen_tool.specs.Sample.{AfterSampleReadings, AfterSampleRules, AnswersSampleBy, Sums, changed, summary_of, unread}
use Rattle.screen_words.specs.declared.status.Outcome.TheVariants as outcome
use Rattle.series_csv.specs.File.{TableView}
use Rattle.series_csv.specs.Readings.{values}
use Rattle.series_rows.specs.declared.fault.TableFault.{TableFault}

-- ---- without a flow the dual value is 0

times_zero : (v x : ℤ) → x ≡ pos 0 → v *ℤ x ≡ pos 0
times_zero v x e = ap (λ (y : ℤ). v *ℤ y) e ∙ *ℤ-zero v

zero_amounts : (bounds : List Priced) (worth : List ℤ) → inner_product (amounts_of [] bounds) worth ≡ pos 0
zero_amounts bounds worth = inner_product_comm (amounts_of [] bounds) worth ∙ inner_product-map_zero worth bounds

zero_pulls : (bounds : List Priced) (read : List ℤ) (places : List Place) → inner_product read (map (pull bounds (amounts_of [] bounds)) places) ≡ pos 0
zero_pulls bounds [] places = refl
zero_pulls bounds (value ∷ read) [] = refl
zero_pulls bounds (value ∷ read) (place ∷ places) =
    omega (arith, ints, times_zero value (pull bounds (amounts_of [] bounds) place) (zero_amounts bounds _), zero_pulls bounds read places)

zero_dual : (limits pulls : ℤ) → limits ≡ pos 0 → pulls ≡ pos 0 → neg_ℤ limits -ℤ pulls ≡ pos 0
zero_dual limits pulls e f = ap (λ (x : ℤ). neg_ℤ x -ℤ pulls) e ∙ ap (λ (y : ℤ). neg_ℤ (pos 0) -ℤ y) f

zero_total : (problem : Problem) (series : List ℤ) (total paid : ℤ) → IsRepaired problem series [] total paid → total ≡ pos 0
zero_total problem series total paid repaired =
    repaired.total ∙ sym repaired.best.best.equal
    ∙ zero_dual _ _ (zero_amounts problem.bounds (map (λ (priced : Priced). priced.bound.limit) problem.bounds)) (zero_pulls problem.bounds problem.values problem.places)

not_above : (total : ℤ) → total ≡ pos 0 → pos 0 <ℤ total → ⊥
not_above total e above = omega (arith, ints)

one_change : (n changes last : ℕ) → n + 1 ≤ changes → changes ≡ last → 1 ≤ last
one_change n changes last enough counted = omega arith

one_less : (n changes : ℕ) → suc n ≤ changes → n + 1 ≤ changes
one_less n changes h = omega (arith, h)

-- so where the total is above 0 something flows, and was counted
counted : (problem made : Problem) (most : ℕ → ℕ → ℕ → ℕ → Option ℕ) (last changes : ℕ) (series : List ℤ) (flow : List FlowItem) (total paid : ℤ)
    → IsRepaired problem series flow total paid → AreChanges made most last flow changes → pos 0 <ℤ total → 1 ≤ last
counted problem made most last changes series [] total paid repaired counts above = absurd (not_above total (zero_total problem series total paid repaired) above)
counted problem made most last changes series (item ∷ flow) total paid repaired counts above =
    one_change (length flow) changes last (one_less (length flow) changes counts.enough) counts.counted

-- ---- from an answer to what it sums up

module _ (most : ℕ → ℕ → ℕ → ℕ → Option ℕ) (last : ℕ) (rows seed : ℕ) where
  abbrev Counts : Problem → Found → Type 0
  Counts problem outcome_found = CountsChanges problem most last outcome_found

  abbrev HasSums : Answer → Type 0
  HasSums answer = answer.outcome ≡ outcome.Done → Sums last rows answer

  found_sums : (rules : Rules) (table : TableView) (outcome_found : Found) → AnswersProblem (whole_problem rules table) outcome_found → Counts (made_problem rules table) outcome_found → HasSums (summary_of rows table outcome_found)
  found_sums rules table (found.Repaired series flow total paid changes) repaired counts = λ done. record {
    changed = changed (values table) series;
    total = total;
    text_is = refl;
    counted = counted (whole_problem rules table) (made_problem rules table) most last changes series flow total paid repaired counts;
  }
  found_sums rules table (found.NoSeries cycle) none counts = λ done. absurd (cc done)

  readings_sums : (rules : Rules) (table : Result TableView TableFault) (answer : Answer) → AfterSampleReadings Counts rows rules table answer → HasSums answer
  readings_sums rules (Ok table) answer (inl p) = subst HasSums (sym p.1) (λ done. absurd (cc done))
  readings_sums rules (Ok table) answer (inr p) = subst HasSums (sym p.1.3) (found_sums rules table p.1.0 p.1.1 p.1.2)
  readings_sums rules (Err fault) answer p = subst HasSums (sym p) (λ done. absurd (cc done))

  rules_sums : (rules : Result Rules RuleFault) (answer : Answer) → AfterSampleRules Counts rows seed rules answer → HasSums answer
  rules_sums (Ok rules) answer p = readings_sums rules p.0 answer p.2
  rules_sums (Err fault) answer p = subst HasSums (sym p) (λ done. absurd (cc done))

  same_sums : (given : Answer) → Sums last rows given → Sums last rows (unread given)
  same_sums given sums = record { changed = sums.changed; total = sums.total; text_is = sums.text_is; counted = sums.counted }

  pub sample_sums : (answer : Answer) → AnswersSampleBy Counts rows seed answer → HasSums answer
  sample_sums answer p = subst HasSums (sym p.2) (λ done. same_sums p.0 (rules_sums p.1.0 p.0 p.1.2 done))
