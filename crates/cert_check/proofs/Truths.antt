-- What is accepted is true: repairs.
use Rattle.std.proofs.Common.{◌≡◌, ℕ, ◌+◌, ◌≤◌, not, false, ℤ, pos, ◌≤ℤ◌, List, [], ◌∷◌, length, map, None, refl, sym, ◌∙◌, subst}
use Rattle.std.specs.Prelude.{unsigned_abs}
use Rattle.std.specs.List.{AllByRecursion, AllZip}
use Rattle.std.proofs.lemmas.List.{length-map}
use Rattle.words.specs.Lists.{Distinct}
use Rattle.words.proofs.Lists.{all_weaker}
use Rattle.screen_model.specs.declared.bound.FlowItem.{FlowItem}
use Rattle.screen_model.specs.Best.{BestCostsLeast, IsBest}
use Rattle.screen_model.specs.Cost.{cost, paid}
use Rattle.screen_model.specs.Flow.{CanCarry, IsAdmissible, dual_value, pull}
use Rattle.screen_model.specs.Names.{AreNamesIn, IsFlowOver, amounts_of, bounds_named}
use Rattle.screen_model.specs.Obeys.{Obeys, Priced}
use Rattle.screen_model.specs.Prices.{ItemsWithinPrices}
use Rattle.cert_format.specs.Line.{IsItem}
use Rattle.cert_format.specs.Cert.{AreLists}
use Rattle.rule_file.specs.declared.rules.Rules.{Rules}
use Rattle.series_csv.specs.File.{TableView}
use Rattle.series_csv.specs.Readings.{places, values}
use Rattle.bound_maker.specs.Bounds.{all_bounds, made_bounds, price_of_number}
use Rattle.bound_maker.specs.Broken.{first_broken}
use Rattle.bound_maker.specs.Costs.{weights, whole_problem}
use Rattle.bound_maker.specs.Laws.{MadeBindAll, NamesAreDistinct}
use Rattle.bound_maker.specs.Sound.{IsSound}
use Rattle.bound_maker.proofs.Payments.{broken_or_obeys}
use Rattle.cert_check.specs.declared.fault.CertFault.TheVariants.{Broken, OverPrice, PullTooGreat, TotalWrong, UnknownBound, ValueDiffers}
use Rattle.cert_check.specs.declared.repair.Claim.{Claim}
use Rattle.cert_check.specs.Laws.{IsTrueRepair}
use Rattle.cert_check.specs.Repair.{first_line, first_pulled, is_above, is_known, repair_faults, series_of}
use Rattle.cert_check.proofs.Passed.{all_carried, item_name, map_none, members_of, members_priced, named_is, names_distinct, same_given}
use Rattle.cert_check.proofs.Placed.{length-series_set}
use Rattle.cert_check.proofs.Pulled.{all_within}
use Rattle.cert_check.proofs.Steps.{all_named, names_apart, none_passes}

zip_from_map : {A B C : Type 0} (R : B → C → Type 0) (f : A → B) (xs : List A) (ys : List C) → AllZip R (map f xs) ys → AllZip (λ x y. R (f x) y) xs ys
zip_from_map R f [] [] all = tt
zip_from_map R f [] (y ∷ ys) all = absurd all
zip_from_map R f (x ∷ xs) [] all = absurd all
zip_from_map R f (x ∷ xs) (y ∷ ys) all = (all.0, zip_from_map R f xs ys all.1)

each_some : (items : List FlowItem) → AllByRecursion IsItem items → AllByRecursion (λ (item : FlowItem). pos 1 ≤ℤ item.amount) items
each_some items all = all_weaker IsItem (λ (item : FlowItem). pos 1 ≤ℤ item.amount) (λ item is. is.1.0) items all

-- what is known of a table that was read
pub record IsKnown (rules : Rules) (table : TableView) : Type 0 where
  pub apart : Distinct (places table)
  pub valued : length (places table) ≡ length (values table)
  pub distinct : NamesAreDistinct rules table
  pub sound : IsSound rules table
  pub bind : MadeBindAll rules table
  pub carried : ItemsWithinPrices
  pub least : BestCostsLeast

module _ (rules : Rules) (table : TableView) (known : IsKnown rules table) (claim : Claim) (lists : AreLists claim.sets claim.flow)
    (none : AllByRecursion (λ fault. fault ≡ None) (repair_faults rules table claim)) where
  abbrev bounds : List Priced
  bounds = (whole_problem rules table).bounds

  abbrev series : List ℤ
  series = series_of table claim

  abbrev flow : List ℤ
  flow = amounts_of claim.flow bounds

  abbrev before : ℕ
  before = claim.before + length claim.sets

  whole : length series ≡ length (places table)
  whole = length-series_set (places table) (values table) claim.sets (sym known.valued)

  named : AreNamesIn bounds (map item_name claim.flow)
  named =
      all_named bounds item_name claim.flow
      (none_passes (λ (item : FlowItem). not (is_known bounds item.name)) before claim.flow (map_none UnknownBound (first_line (λ (item : FlowItem). not (is_known bounds item.name)) before claim.flow) none.1.0))

  above : AllByRecursion (λ (item : FlowItem). is_above (price_of_number rules item.name.rule) item.amount ≡ false) claim.flow
  above =
      none_passes (λ (item : FlowItem). is_above (price_of_number rules item.name.rule) item.amount) before claim.flow
      (map_none OverPrice (first_line (λ (item : FlowItem). is_above (price_of_number rules item.name.rule) item.amount) before claim.flow) none.1.1.0)

  over : IsFlowOver bounds claim.flow
  over = record { named = named; distinct = names_distinct claim.flow lists.flow_rises; some = each_some claim.flow lists.each_item }

  carry_each : AllZip CanCarry (bounds_named (map item_name claim.flow) bounds) (map (λ (item : FlowItem). item.amount) claim.flow)
  carry_each =
      let members = members_of bounds (map item_name claim.flow) named in
      let apart = names_apart rules table known.distinct in
      subst (λ (ps : List Priced). AllZip CanCarry ps (map (λ (item : FlowItem). item.amount) claim.flow)) (sym (named_is bounds (map item_name claim.flow) apart members))
      (all_carried rules members.list claim.flow members.names_are (members_priced rules (all_bounds rules table) members.list members.each) lists.each_item above)

  pulls : AllZip (λ p weight. unsigned_abs (pull bounds flow p) ≤ weight) (places table) (weights rules table)
  pulls =
      zip_from_map (λ (x : ℤ) (weight : ℕ). unsigned_abs x ≤ weight) (pull bounds flow) (places table) (weights rules table)
      (all_within (map (pull bounds flow) (places table)) (weights rules table) (places table) (length-map (places table) (pull bounds flow)) known.sound.weighted
      (map_none PullTooGreat (first_pulled (map (pull bounds flow) (places table)) (weights rules table) (places table)) none.1.1.1.1.1.1.0))

  admissible : IsAdmissible (whole_problem rules table) flow
  admissible = record { amounts = (known.carried bounds claim.flow (names_apart rules table known.distinct) over).1 carry_each; pulls = pulls }

  obeys : Obeys (places table) series bounds
  obeys =
      let unbroken = map_none Broken (first_broken rules table (made_bounds rules table) series) none.1.1.1.0 in
      known.bind series ((broken_or_obeys rules table series (made_bounds rules table) (first_broken rules table (made_bounds rules table) series) refl).0 unbroken)

  total_is : claim.total ≡ pos (cost (whole_problem rules table) series)
  total_is = same_given claim.total (pos (cost (whole_problem rules table) series)) (TotalWrong claim.total (pos (cost (whole_problem rules table) series))) none.1.1.1.1.0

  value_is : dual_value (whole_problem rules table) flow ≡ claim.total
  value_is = same_given (dual_value (whole_problem rules table) flow) claim.total (ValueDiffers (dual_value (whole_problem rules table) flow) claim.total) none.1.1.1.1.1.1.1.0

  best : IsBest (whole_problem rules table) series flow
  best = record {
    sound = record { distinct = known.apart; valued = sym known.valued; weighted = known.sound.weighted };
    whole = whole;
    obeys = obeys;
    admissible = admissible;
    equal = value_is ∙ total_is;
  }

  pub true_repair : IsTrueRepair rules table series claim.flow claim.total (pos (paid (whole_problem rules table) series))
  true_repair = record {
    best = record { over = over; best = best };
    total_is = total_is;
    paid_is = refl;
    least = λ other is_series obeying. known.least (whole_problem rules table) series other flow is_series best obeying;
  }
