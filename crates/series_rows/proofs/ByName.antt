-- Columns by their names.
use Rattle.std.proofs.Common.{◌≡◌, ℕ, zero, suc, ◌+◌, ◌-◌, ◌<◌, ◌≤◌, ◌==◌, ◌≢◌, Bool, true, false, cond, not, ◌&&◌, List, [], ◌∷◌, ◌++◌, length, get_or, drop, Option, Some, None, Result, Ok, Err, refl, sym, ap, subst, ◌∙◌, arith, add-one, append_assoc, append-nil, ◌||◌, ◌⊎◌, inl, inr}
use Rattle.std.specs.Prelude.{slice_get, IsSome, option_map}
use Rattle.std.specs.List.{AllByRecursion, filter, list_any, range_with_len}
use Rattle.std.proofs.lemmas.List.{drop_more, drop_all}
use Rattle.std.proofs.lemmas.Bool.Decides.{nat_tests, eqb_tells}
use Rattle.words.proofs.Lists.{all_weaker}
use Rattle.rule_file.specs.Numbers.{NamedSensor}
use Rattle.series_rows.specs.Header.{bears, columns_named_from, columns_named, columns_of, named_by_sensors, other_than, sensor_column, the_only_column, time_column, with_first}
use Rattle.series_rows.specs.Search.{candidates, is_candidate, is_left_out, left_out}
use Rattle.series_rows.specs.declared.fault.TableFault.{TableFault}

-- ---- the next column with a name

choose_and_true : {A : Type 0} (t : Bool) (a b : A) → cond t a b ≡ cond (t && true) a b
choose_and_true true a b = refl
choose_and_true false a b = refl

choose_and_false : {A : Type 0} (t : Bool) (a b : A) → b ≡ cond (t && false) a b
choose_and_false true a b = refl
choose_and_false false a b = refl

kept_if : (except : Option ℕ) (b : Bool) (col : ℕ) (xs : List ℕ)
    → left_out except (cond b (col ∷ xs) xs) ≡ cond (not (is_left_out except col) && b) (col ∷ left_out except xs) (left_out except xs)
kept_if None true col xs = refl
kept_if None false col xs = refl
kept_if (Some other) true col xs = choose_and_true (not (col == other)) (col ∷ other_than other xs) (other_than other xs)
kept_if (Some other) false col xs = choose_and_false (not (col == other)) (col ∷ other_than other xs) (other_than other xs)

dropped : {A : Type 0} (xs : List A) (i : ℕ) (d : A) → i < length xs → drop i xs ≡ get_or xs i d ∷ drop (suc i) xs
dropped xs i d h = rw add-one at (drop_more xs i d h)

next_is : (except : Option ℕ) (name : List ℕ) (fields : List (List ℕ)) (i : ℕ) → i < length fields
    → candidates except name fields i
    ≡ cond (not (is_left_out except (suc i)) && bears name (get_or fields i [])) (suc i ∷ candidates except name fields (suc i)) (candidates except name fields (suc i))
next_is except name fields i h =
    ap (λ rest. left_out except (columns_named_from (suc i) name rest)) (dropped fields i [] h)
    ∙ kept_if except (bears name (get_or fields i [])) (suc i) (columns_named_from (suc (suc i)) name (drop (suc i) fields))

candidate_is : (except : Option ℕ) (name : List ℕ) (fields : List (List ℕ)) (i col : ℕ) → col ≡ suc i
    → is_candidate except name fields col ≡ (not (is_left_out except (suc i)) && bears name (get_or fields i []))
candidate_is except name fields i col e =
    ap (is_candidate except name fields) e ∙ ap (λ k. not (is_left_out except (suc i)) && bears name (get_or fields k [])) (omega arith)

pub next_misses : (except : Option ℕ) (name : List ℕ) (fields : List (List ℕ)) (i col : ℕ) → i < length fields → col ≡ suc i
    → is_candidate except name fields col ≡ false → candidates except name fields i ≡ candidates except name fields col
next_misses except name fields i col h e missed =
    next_is except name fields i h
    ∙ ap (λ t. cond t (suc i ∷ candidates except name fields (suc i)) (candidates except name fields (suc i))) (sym (candidate_is except name fields i col e) ∙ missed)
    ∙ ap (candidates except name fields) (sym e)

pub next_hits : (except : Option ℕ) (name : List ℕ) (fields : List (List ℕ)) (i col : ℕ) → i < length fields → col ≡ suc i
    → is_candidate except name fields col ≡ true → candidates except name fields i ≡ col ∷ candidates except name fields col
next_hits except name fields i col h e found =
    next_is except name fields i h
    ∙ ap (λ t. cond t (suc i ∷ candidates except name fields (suc i)) (candidates except name fields (suc i))) (sym (candidate_is except name fields i col e) ∙ found)
    ∙ ap (λ c. c ∷ candidates except name fields c) (sym e)

none_left : (except : Option ℕ) → left_out except [] ≡ []
none_left None = refl
none_left (Some other) = refl

pub none_after_last : (except : Option ℕ) (name : List ℕ) (fields : List (List ℕ)) (i : ℕ) → length fields ≤ i → candidates except name fields i ≡ []
none_after_last except name fields i h =
    ap (λ rest. left_out except (columns_named_from (suc i) name rest)) (drop_all i fields h) ∙ none_left except

-- ---- the column of each sensor

-- these columns before the others, where there is no fault
abbrev pub led_by : List ℕ → Result (List ℕ) TableFault → Result (List ℕ) TableFault
led_by cols (Ok others) = Ok (cols ++ others)
led_by cols (Err fault) = Err fault

led_step : (cols : List ℕ) (col : ℕ) (others : Result (List ℕ) TableFault) → led_by cols (with_first (Ok col) others) ≡ led_by (cols ++ col ∷ []) others
led_step cols col (Ok others) = ap Ok (sym (append_assoc cols (col ∷ []) others))
led_step cols col (Err fault) = refl

pub got : {A : Type 0} (xs : List A) (i : ℕ) (x : A) → slice_get xs i ≡ Some x → drop i xs ≡ x ∷ drop (suc i) xs
got [] i x e = absurd cc
got (y ∷ xs) zero x e = let same : y ≡ x = cc in ap (λ z. z ∷ xs) same
got (y ∷ xs) (suc i) x e = got xs i x e

pub led_more : (time : ℕ) (fields : List (List ℕ)) (sensors : List NamedSensor) (i col : ℕ) (cols : List ℕ) (sensor : NamedSensor)
    → slice_get sensors i ≡ Some sensor → sensor_column time fields sensor ≡ Ok col
    → led_by cols (columns_of time fields (drop i sensors)) ≡ led_by (cols ++ col ∷ []) (columns_of time fields (drop (i + 1) sensors))
led_more time fields sensors i col cols sensor here is =
    ap (λ rest. led_by cols (columns_of time fields rest)) (got sensors i sensor here)
    ∙ ap (λ r. led_by cols (with_first r (columns_of time fields (drop (suc i) sensors)))) is
    ∙ led_step cols col (columns_of time fields (drop (suc i) sensors))
    ∙ ap (λ k. led_by (cols ++ col ∷ []) (columns_of time fields (drop k sensors))) (let more : suc i ≡ i + 1 = omega arith in more)

pub led_fault : (time : ℕ) (fields : List (List ℕ)) (sensors : List NamedSensor) (i : ℕ) (cols : List ℕ) (sensor : NamedSensor) (fault : TableFault)
    → slice_get sensors i ≡ Some sensor → sensor_column time fields sensor ≡ Err fault
    → led_by cols (columns_of time fields (drop i sensors)) ≡ Err fault
led_fault time fields sensors i cols sensor fault here is =
    ap (λ rest. led_by cols (columns_of time fields rest)) (got sensors i sensor here)
    ∙ ap (λ r. led_by cols (with_first r (columns_of time fields (drop (suc i) sensors)))) is

pub led_all : (time : ℕ) (fields : List (List ℕ)) (sensors : List NamedSensor) (i : ℕ) (cols : List ℕ) → length sensors ≤ i
    → led_by cols (columns_of time fields (drop i sensors)) ≡ Ok cols
led_all time fields sensors i cols h =
    ap (λ rest. led_by cols (columns_of time fields rest)) (drop_all i sensors h) ∙ ap Ok (append-nil cols)

some_within : {A : Type 0} (xs : List A) (i : ℕ) → i < length xs → IsSome (slice_get xs i)
some_within [] i h = absurd (omega arith)
some_within (x ∷ xs) zero h = refl
some_within (x ∷ xs) (suc i) h = some_within xs i (omega arith)

some_before : {A B : Type 0} (f : A → B) (o : Option A) → IsSome (option_map f o) → IsSome o
some_before f None h = h
some_before f (Some x) h = refl

pub some_sensor : {A B : Type 0} (f : A → B) (o : Option A) (xs : List B) (i : ℕ) → option_map f o ≡ slice_get xs i → i < length xs → IsSome o
some_sensor f o xs i e h = some_before f o (subst IsSome (sym e) (some_within xs i h))

pub sensor_at : {A B : Type 0} (f : A → B) (o : Option A) (x : A) (xs : List B) (i : ℕ) → option_map f o ≡ slice_get xs i → o ≡ Some x → slice_get xs i ≡ Some (f x)
sensor_at f o x xs i e is = sym e ∙ ap (option_map f) is

-- ---- the columns of sensors from the left

-- the columns of sensors after so many
abbrev pub of_sensors_after : List ℕ → ℕ → ℕ → List ℕ
of_sensors_after sensor_cols width after = filter (λ col. list_any (λ sensor. sensor == col) sensor_cols) (range_with_len (after + 1) (width - after))

pub sensors_next : (sensor_cols : List ℕ) (width i : ℕ) → i < width
    → of_sensors_after sensor_cols width i
    ≡ cond (list_any (λ sensor. sensor == (i + 1)) sensor_cols) ((i + 1) ∷ of_sensors_after sensor_cols width (i + 1)) (of_sensors_after sensor_cols width (i + 1))
sensors_next sensor_cols width i h =
    let more : width - i ≡ suc (width - (i + 1)) = omega arith in
    ap (λ n. filter (λ col. list_any (λ sensor. sensor == col) sensor_cols) (range_with_len (i + 1) n)) more

pub sensors_none : (sensor_cols : List ℕ) (width i : ℕ) → width ≤ i → of_sensors_after sensor_cols width i ≡ []
sensors_none sensor_cols width i h =
    let none : width - i ≡ 0 = omega arith in
    ap (λ n. filter (λ col. list_any (λ sensor. sensor == col) sensor_cols) (range_with_len (i + 1) n)) none

pub sensors_all : (sensor_cols : List ℕ) (width : ℕ) → named_by_sensors sensor_cols width ≡ of_sensors_after sensor_cols width 0
sensors_all sensor_cols width =
    let all : width ≡ width - 0 = omega arith in
    ap (λ n. filter (λ col. list_any (λ sensor. sensor == col) sensor_cols) (range_with_len 1 n)) all

step_if : (t : Bool) (cols : List ℕ) (x : ℕ) (rest : List ℕ) → cols ++ cond t (x ∷ rest) rest ≡ (cols ++ cond t (x ∷ []) []) ++ rest
step_if true cols x rest = sym (append_assoc cols (x ∷ []) rest)
step_if false cols x rest = ap (λ xs. xs ++ rest) (sym (append-nil cols))

-- the columns so far, and those that are left
pub sensors_step : (sensor_cols : List ℕ) (width i : ℕ) (all cols next : List ℕ) → i < width → all ≡ cols ++ of_sensors_after sensor_cols width i
    → next ≡ cols ++ cond (list_any (λ sensor. sensor == (i + 1)) sensor_cols) ((i + 1) ∷ []) [] → all ≡ next ++ of_sensors_after sensor_cols width (i + 1)
sensors_step sensor_cols width i all cols next h e is =
    e ∙ ap (λ rest. cols ++ rest) (sensors_next sensor_cols width i h)
    ∙ step_if (list_any (λ sensor. sensor == (i + 1)) sensor_cols) cols (i + 1) (of_sensors_after sensor_cols width (i + 1))
    ∙ ap (λ xs. xs ++ of_sensors_after sensor_cols width (i + 1)) (sym is)

pub sensors_begun : (sensor_cols : List ℕ) (width : ℕ) (cols : List ℕ) → cols ≡ [] → named_by_sensors sensor_cols width ≡ cols ++ of_sensors_after sensor_cols width 0
sensors_begun sensor_cols width cols e = sensors_all sensor_cols width ∙ ap (λ xs. xs ++ of_sensors_after sensor_cols width 0) (sym e)

pub sensors_done : (sensor_cols : List ℕ) (width i : ℕ) (all cols : List ℕ) → width ≤ i → all ≡ cols ++ of_sensors_after sensor_cols width i → cols ≡ all
sensors_done sensor_cols width i all cols h e = sym (e ∙ ap (λ rest. cols ++ rest) (sensors_none sensor_cols width i h) ∙ append-nil cols)

-- ---- columns are within the fields

all_if : {A : Type 0} (P : A → Type 0) (t : Bool) (x : A) (xs : List A) → P x → AllByRecursion P xs → AllByRecursion P (cond t (x ∷ xs) xs)
all_if P true x xs p all = (p, all)
all_if P false x xs p all = all

pub all_filter : {A : Type 0} (P : A → Type 0) (test : A → Bool) (xs : List A) → AllByRecursion P xs → AllByRecursion P (filter test xs)
all_filter P test [] all = tt
all_filter P test (x ∷ xs) all = all_if P (test x) x (filter test xs) all.0 (all_filter P test xs all.1)

named_within : (col : ℕ) (name : List ℕ) (fields : List (List ℕ)) → AllByRecursion (λ c. (col ≤ c) × (c < col + length fields)) (columns_named_from col name fields)
named_within col name [] = tt
named_within col name (field ∷ fields) =
    let rest = all_weaker (λ c. (suc col ≤ c) × (c < suc col + length fields)) (λ c. (col ≤ c) × (c < col + suc (length fields)))
    (λ c h. (omega (arith, h.0), omega (arith, h.1))) (columns_named_from (suc col) name fields) (named_within (suc col) name fields) in
    all_if (λ c. (col ≤ c) × (c < col + suc (length fields))) (bears name field) col (columns_named_from (suc col) name fields) (omega arith, omega arith) rest

pub only_ok : (rule : ℕ) (cols : List ℕ) (col : ℕ) → the_only_column rule cols ≡ Ok col → cols ≡ col ∷ []
only_ok rule [] col e = absurd cc
only_ok rule (x ∷ []) col e = let same : x ≡ col = cc in ap (λ y. y ∷ []) same
only_ok rule (x ∷ y ∷ others) col e = absurd cc

only_within : (rule : ℕ) (cols : List ℕ) (col : ℕ) (P : ℕ → Type 0) → AllByRecursion P cols → the_only_column rule cols ≡ Ok col → P col
only_within rule cols col P all e = (subst (AllByRecursion P) (only_ok rule cols col e) all).0

abbrev pub IsColumn : ℕ → ℕ → Type 0
IsColumn width col = (1 ≤ col) × (col ≤ width)

column_named : (name : List ℕ) (fields : List (List ℕ)) → AllByRecursion (IsColumn (length fields)) (columns_named name fields)
column_named name fields =
    all_weaker (λ c. (1 ≤ c) × (c < 1 + length fields)) (IsColumn (length fields)) (λ c h. (h.0, omega (arith, h.1))) (columns_named name fields) (named_within 1 name fields)

pub time_within : (time : Option (List ℕ)) (fields : List (List ℕ)) (col : ℕ) → time_column time fields ≡ Ok col → IsColumn (length fields) col
time_within (Some name) fields col e = only_within 0 (columns_named name fields) col (IsColumn (length fields)) (column_named name fields) e
time_within None (field ∷ fields) col e = let same : 1 ≡ col = cc in (omega (arith, same), omega (arith, same))
time_within None [] col e = absurd cc

not_same : (a b : ℕ) → not (a == b) ≡ true → a ≢ b
not_same a b h = grind (arith, nat_tests)

others_differ_if : (col : ℕ) (t : Bool) (x : ℕ) (xs : List ℕ) → (t ≡ true → x ≢ col) → AllByRecursion (λ c. c ≢ col) xs → AllByRecursion (λ c. c ≢ col) (cond t (x ∷ xs) xs)
others_differ_if col true x xs differs all = (differs refl, all)
others_differ_if col false x xs differs all = all

others_differ : (col : ℕ) (cols : List ℕ) → AllByRecursion (λ c. c ≢ col) (other_than col cols)
others_differ col [] = tt
others_differ col (x ∷ xs) = others_differ_if col (not (x == col)) x (other_than col xs) (not_same x col) (others_differ col xs)

first_apart : (time : ℕ) (first : Result ℕ TableFault) (rest : Result (List ℕ) TableFault) (cols : List ℕ) → ((col : ℕ) → first ≡ Ok col → col ≢ time) → ((others : List ℕ) → rest ≡ Ok others → AllByRecursion (λ c. c ≢ time) others) → with_first first rest ≡ Ok cols → AllByRecursion (λ c. c ≢ time) cols
first_apart time (Ok col) (Ok others) cols one more e = let same : col ∷ others ≡ cols = cc in subst (AllByRecursion (λ c. c ≢ time)) same (one col refl, more others refl)
first_apart time (Ok col) (Err fault) cols one more e = absurd cc
first_apart time (Err fault) rest cols one more e = absurd cc

-- no sensor column is the time column
pub apart_from_time : (time : ℕ) (fields : List (List ℕ)) (sensors : List NamedSensor) (cols : List ℕ) → columns_of time fields sensors ≡ Ok cols → AllByRecursion (λ c. c ≢ time) cols
apart_from_time time fields [] cols e = let none : [] ≡ cols = cc in subst (AllByRecursion (λ c. c ≢ time)) none tt
apart_from_time time fields (sensor ∷ sensors) cols e =
    first_apart time (sensor_column time fields sensor) (columns_of time fields sensors) cols
    (λ col is. only_within sensor.rule (other_than time (columns_named sensor.name fields)) col (λ c. c ≢ time) (others_differ time (columns_named sensor.name fields)) is)
    (λ others is. apart_from_time time fields sensors others is) e

named_same : (time col x : ℕ) (t : Bool) → x ≢ time → (t || false) ≡ true → ((t ≡ true) × (x ≡ col)) ⊎ ((t ≡ false) × (x ≢ col)) → col ≢ time
named_same time col x true differs h (inl same) = λ e. differs (same.1 ∙ e)
named_same time col x true differs h (inr other) = absurd cc
named_same time col x false differs h either = absurd cc

named_one : (time col x : ℕ) (rest : Bool) → x ≢ time → ((x == col) || rest) ≡ true → (rest ≡ true → col ≢ time) → col ≢ time
named_one time col x true differs h more = more refl
named_one time col x false differs h more = named_same time col x (x == col) differs h (eqb_tells x col)

named_apart : (time col : ℕ) (sensor_cols : List ℕ) → AllByRecursion (λ c. c ≢ time) sensor_cols → list_any (λ sensor. sensor == col) sensor_cols ≡ true → col ≢ time
named_apart time col [] all h = absurd cc
named_apart time col (x ∷ xs) all h = named_one time col x (list_any (λ sensor. sensor == col) xs) all.0 h (named_apart time col xs all.1)

-- so none of the sensor columns from the left
pub left_apart : (time : ℕ) (sensor_cols cols : List ℕ) → AllByRecursion (λ c. c ≢ time) sensor_cols → AllByRecursion (λ c. c ≢ time) (filter (λ col. list_any (λ sensor. sensor == col) sensor_cols) cols)
left_apart time sensor_cols [] all = tt
left_apart time sensor_cols (col ∷ cols) all =
    others_differ_if time (list_any (λ sensor. sensor == col) sensor_cols) col (filter (λ c. list_any (λ sensor. sensor == c) sensor_cols) cols)
    (named_apart time col sensor_cols all) (left_apart time sensor_cols cols all)
