-- The bound with a name among those of all rules.
use Rattle.std.proofs.Common.{◌≡◌, ◌≢◌, ℕ, zero, suc, ◌+◌, ◌-◌, ◌<◌, ◌≤◌, List, [], ◌∷◌, ◌++◌, length, map, take, drop, get_or, Option, Some, None, refl, sym, ap, ◌∙◌, subst, append_assoc, arith}
use Rattle.std.specs.Prelude.{slice_get, Contains, MatchOption}
use Rattle.std.specs.List.{AllByRecursion, flat_map}
use Rattle.std.proofs.lemmas.List.{length-take, take-append-drop}
use Rattle.std.proofs.lemmas.List.Concat.{flat_map-append}
use Rattle.std.proofs.lemmas.List.Elements.{Contains-append_left, Contains-append_right}
use Rattle.std.proofs.lemmas.Option.{slice_get_within}
use Rattle.words.proofs.Lists.{all_append, all_from_map, all_weaker}
use Rattle.screen_model.specs.declared.bound.Bound.{Bound}
use Rattle.screen_model.specs.declared.bound.BoundName.{BoundName}
use Rattle.screen_model.specs.declared.place.Place.{Place}
use Rattle.rule_file.specs.Numbers.{Rule, rule_of, rules_in_order, sensor_names}
use Rattle.rule_file.specs.declared.rules.Rules.{Rules}
use Rattle.series_rows.specs.Row.{RowView}
use Rattle.series_csv.specs.File.{TableView}
use Rattle.series_csv.specs.Readings.{places}
use Rattle.bound_maker.specs.Bounds.{Ruled, all_bounds, bounds_of_kind, bounds_of_rule, col_of, second_col_of, size_bounds, with_columns}
use Rattle.bound_maker.specs.Named.{Finds, HasNone, each_pair}
use Rattle.bound_maker.specs.Ruled.{IsRuled, named, named_before}
use Rattle.bound_maker.proofs.Distinct.{kind_rule, numbers_from, sizes_rule}
use Rattle.bound_maker.proofs.Finding.{none_flat, none_named}
use Rattle.bound_maker.proofs.Making.{past_end}
use Rattle.bound_maker.proofs.Rules.{bounds_more}
use Rattle.bound_maker.proofs.Weights.{with_columns-append}

none_is_some : {A : Type 0} (x : A) → ◌≡◌ {A = Option A} None (Some x) → ⊥
none_is_some x e = cc

-- ---- lists that are joined

pub finds_between : (before here after : List Bound) (name : BoundName) (found : Option Bound) → HasNone before name → HasNone after name → Finds here name found → Finds (before ++ (here ++ after)) name found
finds_between before here after name (Some bound) first last finds =
    (Contains-append_right before (here ++ after) bound (Contains-append_left here after bound finds.0), finds.1)
finds_between before here after name None first last none =
    all_append (λ (b : Bound). b.name ≢ name) before (here ++ after) first (all_append (λ (b : Bound). b.name ≢ name) here after none last)

pub finds_first : (here after : List Bound) (name : BoundName) (found : Option Bound) → HasNone after name → Finds here name found → Finds (here ++ after) name found
finds_first here after name (Some bound) last finds = (Contains-append_left here after bound finds.0, finds.1)
finds_first here after name None last none = all_append (λ (b : Bound). b.name ≢ name) here after none last

-- ---- the bounds of other rules

other_number : (number : ℕ) (bounds : List Bound) (name : BoundName) → number ≢ name.rule → AllByRecursion (λ (n : BoundName). n.rule ≡ number) (map (λ (b : Bound). b.name) bounds) → HasNone bounds name
other_number number bounds name other all =
    all_weaker (λ (b : Bound). b.name.rule ≡ number) (λ (b : Bound). b.name ≢ name) (λ b is same. other (sym is ∙ ap (λ (n : BoundName). n.rule) same)) bounds
    (all_from_map (λ (n : BoundName). n.rule ≡ number) (λ (b : Bound). b.name) bounds all)

pub no_size_of_rule : (name : BoundName) (ps : List Place) → name.rule ≢ 0 → HasNone (size_bounds ps) name
no_size_of_rule name ps some = other_number 0 (size_bounds ps) name (λ same. some (sym same)) (sizes_rule ps)

none_of_rules : (d : ℕ) (rows : List RowView) (name : BoundName) (ruled : List Ruled) → AllByRecursion (λ (r : Ruled). r.number ≢ name.rule) ruled → HasNone (flat_map (bounds_of_rule each_pair d rows) ruled) name
none_of_rules d rows name ruled others =
    none_flat (bounds_of_rule each_pair d rows) name ruled
    (all_weaker (λ (r : Ruled). r.number ≢ name.rule) (λ (r : Ruled). HasNone (bounds_of_rule each_pair d rows r) name)
    (λ r other. other_number r.number (bounds_of_rule each_pair d rows r) name other (kind_rule d rows r.number (col_of r) (second_col_of r) r.rule)) ruled others)

pub numbers_below : (most n : ℕ) (rules : List Rule) (cols : List ℕ) → n + length rules ≤ most → AllByRecursion (λ (r : Ruled). r.number < most) (with_columns n rules cols)
numbers_below most n [] cols h = tt
numbers_below most n (rule ∷ rules) cols h = (omega (arith, h), numbers_below most (suc n) rules (drop (length (sensor_names rule)) cols) (omega (arith, h)))

pub none_below : (d : ℕ) (rows : List RowView) (name : BoundName) (n : ℕ) (rules : List Rule) (cols : List ℕ) → n + length rules ≤ name.rule → HasNone (flat_map (bounds_of_rule each_pair d rows) (with_columns n rules cols)) name
none_below d rows name n rules cols h =
    none_of_rules d rows name (with_columns n rules cols)
    (all_weaker (λ (r : Ruled). r.number < name.rule) (λ (r : Ruled). r.number ≢ name.rule) (λ r less same. absurd (omega (arith, less, same))) (with_columns n rules cols) (numbers_below name.rule n rules cols h))

pub none_above : (d : ℕ) (rows : List RowView) (name : BoundName) (n : ℕ) (rules : List Rule) (cols : List ℕ) → name.rule < n → HasNone (flat_map (bounds_of_rule each_pair d rows) (with_columns n rules cols)) name
none_above d rows name n rules cols h =
    none_of_rules d rows name (with_columns n rules cols)
    (all_weaker (λ (r : Ruled). suc name.rule ≤ r.number) (λ (r : Ruled). r.number ≢ name.rule) (λ r high same. absurd (omega (arith, high, same))) (with_columns n rules cols) (numbers_from (suc name.rule) n rules cols (omega (arith, h))))

-- ---- the rule of the name

-- the rules before it, it, and those after it
split_at : (d : ℕ) (rows : List RowView) (rules : List Rule) (cols : List ℕ) (k : ℕ) (rule : Rule) (second : ℕ) → slice_get rules k ≡ Some rule → second ≡ get_or cols (suc (named (take k rules))) 0
    → flat_map (bounds_of_rule each_pair d rows) (with_columns 1 rules cols)
    ≡ flat_map (bounds_of_rule each_pair d rows) (with_columns 1 (take k rules) cols)
    ++ (bounds_of_kind each_pair d rows (suc k) (get_or cols (named (take k rules)) 0) second rule
    ++ flat_map (bounds_of_rule each_pair d rows) (with_columns (suc (suc k)) (drop (suc k) rules) (drop (named (take k rules) + length (sensor_names rule)) cols)))
split_at d rows rules cols k rule second found is =
    let f = bounds_of_rule each_pair d rows in
    let place = named (take k rules) in
    let front = with_columns 1 (take k rules) cols in
    let within = slice_get_within rules k rule found in
    let long : 1 + length (take k rules) ≡ suc k = omega (arith, length-take k rules, within) in
    ap (λ (rs : List Rule). flat_map f (with_columns 1 rs cols)) (sym (take-append-drop k rules))
    ∙ (ap (flat_map f) (with_columns-append 1 (take k rules) (drop k rules) cols)
    ∙ (flat_map-append f front (with_columns (1 + length (take k rules)) (drop k rules) (drop place cols))
    ∙ (ap (λ (n : ℕ). flat_map f front ++ flat_map f (with_columns n (drop k rules) (drop place cols))) long
    ∙ ap (λ (bs : List Bound). flat_map f front ++ bs) (bounds_more each_pair d rows rules cols k place rule second found is))))

at_rule : (rules : Rules) (table : TableView) (name : BoundName) (k : ℕ) (rule : Rule) (given col second : ℕ) (found : Option Bound) → name.rule ≡ suc k → IsRuled rules table.header.sensor_cols (suc k) (named_before rules (suc k)) rule given col second
    → Finds (bounds_of_kind each_pair rules.format.decimals table.rows given col second rule) name found → Finds (all_bounds rules table) name found
at_rule rules table name k rule given col second found number is finds =
    let d = rules.format.decimals in
    let rows = table.rows in
    let rs = rules_in_order rules in
    let cols = table.header.sensor_cols in
    let f = bounds_of_rule each_pair d rows in
    let same : suc k - 1 ≡ k = omega arith in
    let place = named (take k rs) in
    let before : named_before rules (suc k) ≡ place = ap (λ (i : ℕ). named (take i rs)) same in
    let next : named_before rules (suc k) + 1 ≡ suc place = omega (arith, before) in
    let second_is : second ≡ get_or cols (suc place) 0 = is.second_is ∙ ap (λ (p : ℕ). get_or cols p 0) next in
    let col_is : col ≡ get_or cols place 0 = is.col_is ∙ ap (λ (p : ℕ). get_or cols p 0) before in
    let sizes = size_bounds (places table) in
    let front = flat_map f (with_columns 1 (take k rs) cols) in
    let here = bounds_of_kind each_pair d rows (suc k) (get_or cols place 0) second rule in
    let after = flat_map f (with_columns (suc (suc k)) (drop (suc k) rs) (drop (place + length (sensor_names rule)) cols)) in
    let within = slice_get_within rs k rule is.rule_is in
    let long = length-take k rs in
    let finds_here : Finds here name found =
    subst (λ (c : ℕ). Finds (bounds_of_kind each_pair d rows (suc k) c second rule) name found) col_is
    (subst (λ (n : ℕ). Finds (bounds_of_kind each_pair d rows n col second rule) name found) is.number_is finds) in
    let some : name.rule ≢ 0 = (λ zero_rule. absurd (omega (arith, number, zero_rule))) in
    let first = all_append (λ (b : Bound). b.name ≢ name) sizes front (no_size_of_rule name (places table) some) (none_below d rows name 1 (take k rs) cols (omega (arith, number, long))) in
    subst (λ (bs : List Bound). Finds (sizes ++ bs) name found) (sym (split_at d rows rs cols k rule second is.rule_is second_is))
    (subst (λ (bs : List Bound). Finds bs name found) (append_assoc sizes front (here ++ after))
    (finds_between (sizes ++ front) here after name found first (none_above d rows name (suc (suc k)) (drop (suc k) rs) (drop (place + length (sensor_names rule)) cols) (omega (arith, number))) finds_here))

numbered_rule : (rules : Rules) (table : TableView) (name : BoundName) (number : ℕ) (rule : Rule) (given col second : ℕ) (found : Option Bound) → name.rule ≡ number → IsRuled rules table.header.sensor_cols number (named_before rules number) rule given col second
    → Finds (bounds_of_kind each_pair rules.format.decimals table.rows given col second rule) name found → Finds (all_bounds rules table) name found
numbered_rule rules table name zero rule given col second found number is finds = absurd (none_is_some rule is.rule_is)
numbered_rule rules table name (suc k) rule given col second found number is finds = at_rule rules table name k rule given col second found number is finds

pub finds_of_rule : (rules : Rules) (table : TableView) (name : BoundName) (rule : Rule) (given col second : ℕ) (found : Option Bound) → IsRuled rules table.header.sensor_cols name.rule (named_before rules name.rule) rule given col second
    → Finds (bounds_of_kind each_pair rules.format.decimals table.rows given col second rule) name found → Finds (all_bounds rules table) name found
finds_of_rule rules table name rule given col second found is finds = numbered_rule rules table name name.rule rule given col second found refl is finds

no_number : (rules : Rules) (table : TableView) (name : BoundName) (number : ℕ) → name.rule ≡ number → number ≢ 0 → rule_of rules number ≡ None → HasNone (all_bounds rules table) name
no_number rules table name zero is some none = absurd (some refl)
no_number rules table name (suc k) is some none =
    let past = past_end (rules_in_order rules) k none in
    all_append (λ (b : Bound). b.name ≢ name) (size_bounds (places table)) (flat_map (bounds_of_rule each_pair rules.format.decimals table.rows) (with_columns 1 (rules_in_order rules) table.header.sensor_cols))
    (no_size_of_rule name (places table) (λ zero_rule. absurd (omega (arith, is, zero_rule))))
    (none_below rules.format.decimals table.rows name 1 (rules_in_order rules) table.header.sensor_cols (omega (arith, is, past)))

pub no_rule : (rules : Rules) (table : TableView) (name : BoundName) → name.rule ≢ 0 → rule_of rules name.rule ≡ None → HasNone (all_bounds rules table) name
no_rule rules table name some none = no_number rules table name name.rule refl some none

pub finds_size : (rules : Rules) (table : TableView) (name : BoundName) (found : Option Bound) → name.rule ≡ 0 → Finds (size_bounds (places table)) name found → Finds (all_bounds rules table) name found
finds_size rules table name found zero_rule finds =
    finds_first (size_bounds (places table)) (flat_map (bounds_of_rule each_pair rules.format.decimals table.rows) (with_columns 1 (rules_in_order rules) table.header.sensor_cols)) name found
    (none_above rules.format.decimals table.rows name 1 (rules_in_order rules) table.header.sensor_cols (omega (arith, zero_rule))) finds

-- as the public call says it
pub is_answer : (rules : Rules) (table : TableView) (name : BoundName) (found : Option Bound) → Finds (all_bounds rules table) name found
    → MatchOption found (Contains (map (λ (bound : Bound). bound.name) (all_bounds rules table)) name → ⊥) (λ bound. Contains (all_bounds rules table) bound × (bound.name ≡ name))
is_answer rules table name (Some bound) finds = finds
is_answer rules table name None none = none_named (all_bounds rules table) name none
