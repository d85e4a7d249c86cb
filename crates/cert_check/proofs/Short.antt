-- A certificate of what is shown has few enough lines.
use Rattle.std.proofs.Common.{◌≡◌, ◌≢◌, suc, ◌+◌, ◌≤◌, ◌⊎◌, List, [], ◌∷◌, length, map, refl, sym, ap, ◌∙◌, subst, arith, inl, inr}
use Rattle.std.specs.Prelude.{Contains}
use Rattle.std.specs.List.{AllByRecursion}
use Rattle.std.proofs.lemmas.List.{length-map}
use Rattle.words.specs.Lists.{Distinct}
use Rattle.words.proofs.Lists.{all_at, contains_cases, contains_first, contains_later, contains_map, contains_none}
use Rattle.screen_model.specs.declared.bound.Bound.{Bound}
use Rattle.screen_model.specs.declared.bound.BoundName.{BoundName}
use Rattle.screen_model.specs.declared.place.End.{End}
use Rattle.screen_model.specs.declared.place.End.TheVariants.{At, Zero}
use Rattle.screen_model.specs.declared.place.Place.{Place}
use Rattle.screen_model.specs.Best.{IsBlockedByNames}
use Rattle.screen_model.specs.Names.{bounds_named}
use Rattle.screen_model.specs.Obeys.{HasEnds, Priced}
use Rattle.screen_model.specs.Series.{IsEnd}
use Rattle.cert_format.specs.declared.cert.Cert.{Cert}
use Rattle.cert_format.specs.Laws.{HasFewLines}
use Rattle.cert_format.specs.Sets.{sets_of}
use Rattle.cert_format.proofs.Sets.{few_sets}
use Rattle.rule_file.specs.declared.rules.Rules.{Rules}
use Rattle.series_csv.specs.File.{TableView}
use Rattle.series_csv.specs.Readings.{places, values}
use Rattle.bound_maker.specs.Bounds.{all_bounds, priced}
use Rattle.bound_maker.specs.Costs.{whole_problem}
use Rattle.bound_maker.specs.Laws.{NamesAreDistinct}
use Rattle.bound_maker.specs.Sound.{IsSound}
use Rattle.cert_check.specs.declared.accepted.Accepted.{Accepted}
use Rattle.cert_check.specs.declared.accepted.Accepted.TheVariants.{NoSeries, Repair}
use Rattle.cert_check.specs.Laws.{HasFewItems, IsCertOf, IsShown}
use Rattle.cert_check.specs.Marks.{ends_of}
use Rattle.cert_check.proofs.Marked.{length-ends_of}
use Rattle.cert_check.proofs.Passed.{members_of, named_is}
use Rattle.cert_check.proofs.Steps.{names_apart}

-- ---- distinct members of a list are no more than its length

module _ {A : Type 0} where
  record IsWithout (ys : List A) (x : A) : Type 0 where
    rest : List A
    long : length ys ≡ suc (length rest)
    keeps : (y : A) → x ≢ y → Contains ys y → Contains rest y

  from_later : (z : A) (ys : List A) (x y : A) → z ≡ x → x ≢ y → (z ≡ y) ⊎ Contains ys y → Contains ys y
  from_later z ys x y same other (inl is) = absurd (other (sym same ∙ is))
  from_later z ys x y same other (inr later) = later

  from_rest : (z : A) (ys : List A) (x y : A) (without : IsWithout ys x) → x ≢ y → (z ≡ y) ⊎ Contains ys y → Contains (z ∷ without.rest) y
  from_rest z ys x y without other (inl is) = subst (λ w. Contains (z ∷ without.rest) w) is (contains_first z without.rest)
  from_rest z ys x y without other (inr later) = contains_later z without.rest y (without.keeps y other later)

  less_one : (z : A) (ys : List A) (x : A) → (z ≡ x) ⊎ Contains ys x → (Contains ys x → IsWithout ys x) → IsWithout (z ∷ ys) x
  less_one z ys x (inl same) later = record { rest = ys; long = refl; keeps = λ y other has. from_later z ys x y same other (contains_cases z ys y has) }
  less_one z ys x (inr has_x) later =
      let without = later has_x in
      record { rest = z ∷ without.rest; long = ap suc without.long; keeps = λ y other has. from_rest z ys x y without other (contains_cases z ys y has) }

  take_out : (ys : List A) (x : A) → Contains ys x → IsWithout ys x
  take_out [] x has = absurd (contains_none x has)
  take_out (z ∷ ys) x has = less_one z ys x (contains_cases z ys x has) (take_out ys x)

  still_there : (xs ys : List A) (x : A) (without : IsWithout ys x) → AllByRecursion (λ y. x ≢ y) xs → AllByRecursion (Contains ys) xs → AllByRecursion (Contains without.rest) xs
  still_there [] ys x without others all = tt
  still_there (y ∷ xs) ys x without others all = (without.keeps y others.0 all.0, still_there xs ys x without others.1 all.1)

  few_members : (xs ys : List A) → Distinct xs → AllByRecursion (Contains ys) xs → length xs ≤ length ys
  few_members [] ys distinct all = omega arith
  few_members (x ∷ xs) ys distinct all =
      let without = take_out ys x all.0 in
      let few = few_members xs without.rest distinct.1 (still_there xs ys x without distinct.0 all.1) in
      omega (arith, few, without.long)

-- ---- cycles

end_there : (places : List Place) (end : End) → IsEnd places end → Contains (ends_of places) end
end_there places Zero is = contains_first Zero (map At places)
end_there places (At p) is = contains_later Zero (map At places) (At p) (contains_map At places p is)

priced_ends : (rules : Rules) (places : List Place) (bounds : List Bound) → AllByRecursion (HasEnds places) bounds → AllByRecursion (λ (p : Priced). HasEnds places p.bound) (priced rules bounds)
priced_ends rules places [] all = tt
priced_ends rules places (bound ∷ bounds) all = (all.0, priced_ends rules places bounds all.1)

abbrev first_in : Priced → End
first_in p = p.bound.first

firsts_there : (places : List Place) (bounds ring : List Priced) → AllByRecursion (λ (p : Priced). HasEnds places p.bound) bounds → AllByRecursion (Contains bounds) ring
    → AllByRecursion (Contains (ends_of places)) (map first_in ring)
firsts_there places bounds [] ends all = tt
firsts_there places bounds (p ∷ ring) ends all = (
  end_there places p.bound.first (all_at (λ (q : Priced). HasEnds places q.bound) bounds p ends all.0).0,
  firsts_there places bounds ring ends all.1,
)

few_steps : (rules : Rules) (table : TableView) (steps : List BoundName) → NamesAreDistinct rules table → IsSound rules table → IsBlockedByNames (whole_problem rules table).bounds steps
    → length steps ≤ length (places table) + 1
few_steps rules table steps names_differ sound blocked =
    let bounds = (whole_problem rules table).bounds in
    let ring = bounds_named steps bounds in
    let members = members_of bounds steps blocked.named in
    let is : ring ≡ members.list = named_is bounds steps (names_apart rules table names_differ) members in
    let ends = priced_ends rules (places table) (all_bounds rules table) sound.all_ends in
    let few = few_members (map first_in ring) (ends_of (places table)) blocked.blocked.simple (firsts_there (places table) bounds ring ends blocked.blocked.members) in
    let long : length members.list ≡ length steps = sym (length-map members.list (λ (p : Priced). p.bound.name)) ∙ ap (λ (ns : List BoundName). length ns) members.names_are in
    omega (arith, few, long, ap (λ (ps : List Priced). length ps) is, length-map ring first_in, length-ends_of (places table))

-- ---- certificates

pub few_lines : (rules : Rules) (table : TableView) (claim : Accepted) (given : Cert) → NamesAreDistinct rules table → IsSound rules table → length (places table) ≤ 400000
    → IsShown rules table claim → IsCertOf table claim given → HasFewItems claim → HasFewLines given
few_lines rules table (Repair series flow total part) given names_differ sound few shown (inl is) items =
    let sets = sets_of (places table) (values table) series in
    let few_changes : length sets ≤ 400000 = omega (arith, few, few_sets (places table) (values table) series) in
    subst (λ (c : Cert). HasFewLines c) (sym is) (few_changes, omega (arith, items))
few_lines rules table (Repair series flow total part) given names_differ sound few shown (inr is) items =
    let sets = sets_of (places table) (values table) series in
    let few_changes : length sets ≤ 400000 = omega (arith, few, few_sets (places table) (values table) series) in
    subst (λ (c : Cert). HasFewLines c) (sym is) (few_changes, omega (arith, items))
few_lines rules table (NoSeries cycle) given names_differ sound few shown is items =
    let few_names : length cycle ≤ 4000000 = omega (arith, few, few_steps rules table cycle names_differ sound shown) in
    subst (λ (c : Cert). HasFewLines c) (sym is) few_names
