-- One step of what goes over the tables of a file.
use Rattle.std.proofs.Common.{◌≡◌, ℕ, suc, ◌+◌, ◌<◌, List, [], ◌∷◌, ◌++◌, length, map, drop, get_or, Option, Some, None, ap, sym, ◌∙◌, refl, inl, inr, append_assoc, append-nil, add-one, drop-cons, ◌≤◌}
use Rattle.std.specs.Prelude.{Ok, Err, option_map}
use Rattle.toml.specs.Data.{Data, string, integer, float, boolean, datetime, array, table, Items, item, Members, as_table, as_array, get_member}
use Rattle.toml.specs.View.{view, items_view, table_view}
use Rattle.toml.specs.declared.value.Value.{Value}
use Rattle.toml.proofs.Views.{items_view-drop}
use Rattle.rule_keys.specs.declared.key.TableKind.{TableKind}
use Rattle.rule_keys.specs.declared.key.TableKind.TheVariants.{Format}
use Rattle.rule_keys.specs.declared.read.Scale.{Scale}
use Rattle.rule_keys.specs.Table.{Reads}
use Rattle.rule_file.specs.declared.fault.RuleFault.{RuleFault}
use Rattle.rule_keys.specs.declared.cause.KeyCause.{KeyCause}
use Rattle.rule_file.specs.Fault.{of_rule}
use Rattle.rule_file.specs.Document.{kind_text, rule_tables, tables_in, tables_of, joined, ReadsRules}
use Rattle.rule_file.proofs.Continues.{Continues}
use Rattle.rule_file.specs.Meaning.{Entries}
use Rattle.rule_file.specs.Tables.{seen}
use Rattle.rule_file.specs.declared.tables.RuleTable.{RuleTable}
use Rattle.std.proofs.Math.ListN.{drop_of_length-le}

abbrev pub Tables : Type 0
Tables = List (TableKind × Members)

pub joined_one : (front : Tables) (one : TableKind × Members) (rest : Option Tables)
    → joined (Some (front ++ one ∷ [])) rest ≡ joined (Some front) (option_map (λ others. one ∷ others) rest)
joined_one front one None = refl
joined_one front one (Some others) = ap Some (append_assoc front (one ∷ []) others)

pub joined_none : (front : Tables) (rest : Option Tables) → joined (Some front) rest ≡ None → rest ≡ None
joined_none front None none = refl
joined_none front (Some others) none = absurd (cc none)

pub joined_empty : (rest : Option Tables) → joined (Some []) rest ≡ rest
joined_empty None = refl
joined_empty (Some others) = refl

pub joined_twice : (front : Option Tables) (middle rest : Option Tables) → joined (joined front middle) rest ≡ joined front (joined middle rest)
joined_twice None middle rest = refl
joined_twice (Some front) None rest = refl
joined_twice (Some front) (Some middle) None = refl
joined_twice (Some front) (Some middle) (Some rest) = ap Some (append_assoc front middle rest)

pub table_first : (kind : TableKind) (d : Data) (found : Members) (items : Items) → as_table d ≡ Some found
    → tables_in kind (item d items) ≡ option_map (λ others. (kind, found) ∷ others) (tables_in kind items)
table_first kind (string s) found items is = absurd (cc is)
table_first kind (integer z) found items is = absurd (cc is)
table_first kind (float x) found items is = absurd (cc is)
table_first kind (boolean b) found items is = absurd (cc is)
table_first kind (datetime t) found items is = absurd (cc is)
table_first kind (array rows) found items is = absurd (cc is)
table_first kind (table rows) found items is = let same : rows ≡ found = cc is in rw same

pub other_first : (kind : TableKind) (d : Data) (items : Items) → as_table d ≡ None → tables_in kind (item d items) ≡ None
other_first kind (string s) items is = refl
other_first kind (integer z) items is = refl
other_first kind (float x) items is = refl
other_first kind (boolean b) items is = refl
other_first kind (datetime t) items is = refl
other_first kind (array rows) items is = refl
other_first kind (table rows) items is = absurd (cc is)

pub array_there : (kind : TableKind) (d : Data) (items : Items) → as_array d ≡ Some items → tables_of kind (Some d) ≡ tables_in kind items
array_there kind (string s) items is = absurd (cc is)
array_there kind (integer z) items is = absurd (cc is)
array_there kind (float x) items is = absurd (cc is)
array_there kind (boolean b) items is = absurd (cc is)
array_there kind (datetime t) items is = absurd (cc is)
array_there kind (table rows) items is = absurd (cc is)
array_there kind (array rows) items is = let same : rows ≡ items = cc is in rw same

pub no_array_there : (kind : TableKind) (d : Data) → as_array d ≡ None → tables_of kind (Some d) ≡ None
no_array_there kind (string s) is = refl
no_array_there kind (integer z) is = refl
no_array_there kind (float x) is = refl
no_array_there kind (boolean b) is = refl
no_array_there kind (datetime t) is = refl
no_array_there kind (table rows) is = refl
no_array_there kind (array rows) is = absurd (cc is)

-- the members that are left, one by one
pub left_first : (values : List Value) (i : ℕ) (v : Value) → i < length values → v ≡ get_or values i v
    → items_view (drop i values) ≡ item (view v) (items_view (drop (i + 1) values))
left_first values i v within is = items_view-drop values i v within ∙ ap (λ w. item (view w) (items_view (drop (i + 1) values))) (sym is)

pub member_step : (kind : TableKind) (front : Tables) (whole : Option Tables) (values : List Value) (i : ℕ) (v : Value) (found : Members)
    → i < length values → v ≡ get_or values i v → as_table (view v) ≡ Some found
    → joined (Some front) (tables_in kind (items_view (drop i values))) ≡ whole
    → joined (Some (front ++ (kind, found) ∷ [])) (tables_in kind (items_view (drop (i + 1) values))) ≡ whole
member_step kind front whole values i v found within is there so_far =
    joined_one front (kind, found) (tables_in kind (items_view (drop (i + 1) values)))
    ∙ ap (joined (Some front)) (sym (table_first kind (view v) found (items_view (drop (i + 1) values)) there))
    ∙ ap (λ items. joined (Some front) (tables_in kind items)) (sym (left_first values i v within is))
    ∙ so_far

pub member_stop : (kind : TableKind) (front : Tables) (first rest : Tables) (whole : Option Tables) (values : List Value) (i : ℕ) (v : Value)
    → i < length values → v ≡ get_or values i v → as_table (view v) ≡ None
    → joined (Some front) (tables_in kind (items_view (drop i values))) ≡ joined (Some first) whole
    → whole ≡ None
member_stop kind front first rest whole values i v within is there so_far =
    joined_none first whole
    (sym so_far
    ∙ ap (λ items. joined (Some front) (tables_in kind items)) (left_first values i v within is)
    ∙ ap (joined (Some front)) (other_first kind (view v) (items_view (drop (i + 1) values)) there))

-- the kinds that are left, one by one
pub kind_first : (kinds : List TableKind) (i : ℕ) (file : Members) → i < length kinds
    → rule_tables (drop i kinds) file ≡ joined (tables_of (get_or kinds i Format) (get_member (kind_text (get_or kinds i Format)) file)) (rule_tables (drop (i + 1) kinds) file)
kind_first kinds i file within = rw add-one (ap (λ left. rule_tables left file) (drop-cons kinds i Format within))

pub kind_step : (kinds : List TableKind) (i : ℕ) (file : Members) (front now : Tables) (whole : Option Tables) (value : Option Data)
    → i < length kinds → value ≡ get_member (kind_text (get_or kinds i Format)) file
    → joined (Some front) (rule_tables (drop i kinds) file) ≡ whole
    → joined (Some front) (tables_of (get_or kinds i Format) value) ≡ Some now
    → joined (Some now) (rule_tables (drop (i + 1) kinds) file) ≡ whole
kind_step kinds i file front now whole value within is so_far pushed =
    ap (λ done. joined done (rule_tables (drop (i + 1) kinds) file)) (sym pushed)
    ∙ joined_twice (Some front) (tables_of (get_or kinds i Format) value) (rule_tables (drop (i + 1) kinds) file)
    ∙ ap (λ found. joined (Some front) (joined (tables_of (get_or kinds i Format) found) (rule_tables (drop (i + 1) kinds) file))) is
    ∙ ap (joined (Some front)) (sym (kind_first kinds i file within))
    ∙ so_far

pub kind_stop : (kinds : List TableKind) (i : ℕ) (file : Members) (front : Tables) (whole : Option Tables) (value : Option Data)
    → i < length kinds → value ≡ get_member (kind_text (get_or kinds i Format)) file
    → joined (Some front) (rule_tables (drop i kinds) file) ≡ whole
    → tables_of (get_or kinds i Format) value ≡ None
    → whole ≡ None
kind_stop kinds i file front whole value within is so_far none =
    sym so_far
    ∙ ap (joined (Some front)) (kind_first kinds i file within)
    ∙ ap (λ found. joined (Some front) (joined (tables_of (get_or kinds i Format) found) (rule_tables (drop (i + 1) kinds) file))) (sym is)
    ∙ ap (λ found. joined (Some front) (joined found (rule_tables (drop (i + 1) kinds) file))) none

-- a rule is read after those before it
pub read_step : (scale : Scale) (number : ℕ) (rule : TableKind × Members) (left all : Tables) (front : List (TableKind × Entries)) (entries : Entries)
    → Continues scale number (rule ∷ left) front all → Reads scale rule.0 rule.1 (Ok entries) → Continues scale (number + 1) left (front ++ (rule.0, entries) ∷ []) all
read_step scale number rule left all front entries continues reads = record {
  read = λ others rest. rw append_assoc (continues.read ((rule.0, entries) ∷ others) (refl, reads, rest));
  refused = λ fault rest. continues.refused fault (inr (entries, reads, rest));
}

pub refused_here : (scale : Scale) (number : ℕ) (rule : TableKind × Members) (left all : Tables) (front : List (TableKind × Entries)) (fault : RuleFault)
    → Continues scale number (rule ∷ left) front all → (cause : KeyCause) → Reads scale rule.0 rule.1 (Err cause) → fault ≡ of_rule number cause → ReadsRules scale 1 all (Err fault)
refused_here scale number rule left all front fault continues cause reads is = continues.refused fault (inl (cause, reads, is))

pub none_left : (scale : Scale) (number : ℕ) (all : Tables) (front : List (TableKind × Entries)) → Continues scale number [] front all → ReadsRules scale 1 all (Ok front)
none_left scale number all front continues = rw append-nil at (continues.read [] refl)

pub all_left : (scale : Scale) (all : Tables) → Continues scale 1 all [] all
all_left scale all = record { read = λ others rest. rest; refused = λ fault rest. rest }

pub drop_first : {A : Type 0} (xs : List A) (i : ℕ) (x : A) → i < length xs → x ≡ get_or xs i x → drop i xs ≡ x ∷ drop (i + 1) xs
drop_first xs i x within is = rw (add-one, drop-cons xs i x) (ap (λ y. y ∷ drop (suc i) xs) (sym is))

pub seen_first : (tables : List RuleTable) (i : ℕ) (rule : RuleTable) → i < length tables → rule ≡ get_or tables i rule
    → map seen (drop i tables) ≡ seen rule ∷ map seen (drop (i + 1) tables)
seen_first tables i rule within is = ap (map seen) (drop_first tables i rule within is)

pub each_step : (scale : Scale) (place : ℕ) (tables : List RuleTable) (rule : RuleTable) (front : List (TableKind × Entries)) (entries : Entries)
    → place < length tables → rule ≡ get_or tables place rule → Continues scale (place + 1) (map seen (drop place tables)) front (map seen tables)
    → Reads scale rule.kind (table_view rule.table.now) (Ok entries)
    → Continues scale (place + 1 + 1) (map seen (drop (place + 1) tables)) (front ++ (rule.kind, entries) ∷ []) (map seen tables)
each_step scale place tables rule front entries within is continues reads =
    read_step scale (place + 1) (seen rule) (map seen (drop (place + 1) tables)) (map seen tables) front entries
    (rw (seen_first tables place rule within is) at continues) reads

pub each_stop : (scale : Scale) (place : ℕ) (tables : List RuleTable) (rule : RuleTable) (front : List (TableKind × Entries)) (fault : RuleFault)
    → place < length tables → rule ≡ get_or tables place rule → Continues scale (place + 1) (map seen (drop place tables)) front (map seen tables)
    → (cause : KeyCause) → Reads scale rule.kind (table_view rule.table.now) (Err cause) → fault ≡ of_rule (place + 1) cause
    → ReadsRules scale 1 (map seen tables) (Err fault)
each_stop scale place tables rule front fault within is continues cause reads number =
    refused_here scale (place + 1) (seen rule) (map seen (drop (place + 1) tables)) (map seen tables) front fault
    (rw (seen_first tables place rule within is) at continues) cause reads number

pub each_end : (scale : Scale) (place : ℕ) (tables : List RuleTable) (front : List (TableKind × Entries))
    → length tables ≤ place → Continues scale (place + 1) (map seen (drop place tables)) front (map seen tables)
    → ReadsRules scale 1 (map seen tables) (Ok front)
each_end scale place tables front past continues =
    none_left scale (place + 1) (map seen tables) front (rw (drop_of_length-le tables past) at continues)
