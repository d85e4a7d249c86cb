-- The text of a row, column by column.
use Rattle.std.proofs.Common.{◌≡◌, ◌≢◌, ℕ, zero, suc, ◌+◌, ◌-◌, ◌<◌, ◌≤◌, ◌==◌, ◌⊎◌, inl, inr, true, false, ℤ, pos, List, [], ◌∷◌, ◌++◌, length, get_or, set, drop, refl, sym, ap, subst, ◌∙◌, arith, append_assoc, length-set, to_z, of_z, w64}
use Rattle.std.specs.Prelude.{if◌then◌else◌}
use Rattle.std.specs.Prelude.{OnOk, Result, unsigned_abs}
use Rattle.std.specs.List.{AllByRecursion}
use Rattle.std.proofs.lemmas.Bool.Decides.{nat_tests, eqb_tells, Decides-eqb, not_from_Decides}
use Rattle.std.proofs.lemmas.List.{drop_more, drop_all}
use Rattle.std.proofs.lemmas.Result.{IfOk-equal}
use Rattle.std.proofs.lemmas.Int.{ints}
use Rattle.fix_point.specs.declared.scale.TheConstants.{MOST_UNITS}
use Rattle.fix_point.specs.Text.{text_of_value}
use Rattle.record_cut.specs.Bytes.{line_feed}
use Rattle.record_cut.specs.Row.{text_of_first, text_of_next, text_of_others, text_of_row}
use Rattle.series_rows.specs.Columns.{is_at, left_to_write, text_of_column, text_from, merged}
use Rattle.series_rows.specs.Header.{field_at}
use Rattle.rule_file.specs.declared.rules.Format.{Format}
use Rattle.series_rows.specs.Row.{RowView, columns, Rise}
use Rattle.series_rows.specs.Texts.{replaced}
use Rattle.series_rows.specs.declared.cell.RowReading.{RowReading}
use Rattle.series_rows.proofs.CellOf.{no_reading}
use Rattle.series_rows.proofs.Rising.{rise_lower}

-- ---- from the text of a row to that of its columns

others_from : (sep width c : ℕ) (fields : List (List ℕ)) → text_of_others sep fields ≡ text_from sep width (suc (suc c)) fields
unfolding text_of_others
others_from sep width c [] = refl
others_from sep width c (field ∷ fields) =
    let later : (suc (suc c) == 1) ≡ false = grind (arith, nat_tests) in
    ap (λ s. text_of_next sep field ++ s) (others_from sep width (suc c) fields)
    ∙ ap (λ t. (if t then text_of_first sep field width else text_of_next sep field) ++ text_from sep width (suc (suc (suc c))) fields) (sym later)

pub row_from : (sep width : ℕ) (fields : List (List ℕ)) → 0 < length fields → length fields ≡ width → text_of_row sep fields ≡ text_from sep width 1 fields
unfolding text_of_row
row_from sep width [] some e = absurd (omega arith)
row_from sep width (field ∷ fields) some e =
    ap (λ w. text_of_first sep field w ++ text_of_others sep fields) e ∙ ap (λ s. text_of_first sep field width ++ s) (others_from sep width 0 fields)

-- ---- the readings are replaced one after the other

pub length-replaced : (d : ℕ) (fields : List (List ℕ)) (readings : List RowReading) (values : List ℤ) → length (replaced d fields readings values) ≡ length fields
length-replaced d fields [] values = refl
length-replaced d fields (reading ∷ readings) [] = refl
length-replaced d fields (reading ∷ readings) (value ∷ values) =
    length-replaced d (set fields (reading.col - 1) (text_of_value value d)) readings values ∙ length-set fields (reading.col - 1) (text_of_value value d)

-- the same, where the fields begin after so many columns
replaced_after : ℕ → ℕ → List (List ℕ) → List RowReading → List ℤ → List (List ℕ)
replaced_after b d fields [] values = fields
replaced_after b d fields (reading ∷ readings) [] = fields
replaced_after b d fields (reading ∷ readings) (value ∷ values) = replaced_after b d (set fields (reading.col - suc b) (text_of_value value d)) readings values

replaced_first : (d : ℕ) (fields : List (List ℕ)) (readings : List RowReading) (values : List ℤ) → replaced d fields readings values ≡ replaced_after 0 d fields readings values
unfolding replaced_after
replaced_first d fields [] values = refl
replaced_first d fields (reading ∷ readings) [] = refl
replaced_first d fields (reading ∷ readings) (value ∷ values) = replaced_first d (set fields (reading.col - 1) (text_of_value value d)) readings values

-- the field before them all stays
stays : (b d last : ℕ) (field : List ℕ) (fields : List (List ℕ)) (readings : List RowReading) (values : List ℤ) → Rise (suc b) (columns readings) last
    → replaced_after b d (field ∷ fields) readings values ≡ field ∷ replaced_after (suc b) d fields readings values
unfolding replaced_after
stays b d last field fields [] values rise = refl
stays b d last field fields (reading ∷ readings) [] rise = refl
stays b d last field fields (reading ∷ readings) (value ∷ values) rise =
    let place : reading.col - suc b ≡ suc (reading.col - suc (suc b)) = omega (arith, rise.0) in
    ap (λ k. replaced_after b d (set (field ∷ fields) k (text_of_value value d)) readings values) place
    ∙ stays b d last field (set fields (reading.col - suc (suc b)) (text_of_value value d)) readings values (rise_lower (suc b) reading.col (columns readings) last (omega (arith, rise.0)) rise.2)

merged_none : (d col : ℕ) (fields : List (List ℕ)) (values : List ℤ) → merged d col fields [] values ≡ fields
merged_none d col [] values = refl
merged_none d col (field ∷ fields) values = refl

-- the fields that are left, as they are replaced and as they are merged
abbrev AgreeAfter : ℕ → ℕ → ℕ → List (List ℕ) → Type 0
AgreeAfter b d last fields =
    (readings : List RowReading) (values : List ℤ) → length values ≡ length readings → Rise b (columns readings) last
    → replaced_after b d fields readings values ≡ merged d (suc b) fields readings values

agree_here : (b d last : ℕ) (field : List ℕ) (fields : List (List ℕ)) (reading : RowReading) (readings : List RowReading) (value : ℤ) (values : List ℤ)
    → length values ≡ length readings → Rise b (columns (reading ∷ readings)) last → AgreeAfter (suc b) d last fields
    → ((reading.col == suc b) ≡ true) × (reading.col ≡ suc b) ⊎ ((reading.col == suc b) ≡ false) × (reading.col ≢ suc b)
    → replaced_after b d (field ∷ fields) (reading ∷ readings) (value ∷ values) ≡ merged d (suc b) (field ∷ fields) (reading ∷ readings) (value ∷ values)
unfolding replaced_after
agree_here b d last field fields reading readings value values count rise rest (inl (test, here)) =
    let place : reading.col - suc b ≡ 0 = omega (arith, here) in
    let later : Rise (suc b) (columns readings) last = subst (λ c. Rise c (columns readings) last) here rise.2 in
    ap (λ k. replaced_after b d (set (field ∷ fields) k (text_of_value value d)) readings values) place
    ∙ stays b d last (text_of_value value d) fields readings values later
    ∙ ap (λ fs. text_of_value value d ∷ fs) (rest readings values count later)
    ∙ ap (λ t. if t then text_of_value value d ∷ merged d (suc (suc b)) fields readings values else field ∷ merged d (suc (suc b)) fields (reading ∷ readings) (value ∷ values)) (sym test)
agree_here b d last field fields reading readings value values count rise rest (inr (test, other)) =
    let beyond : suc b < reading.col = omega (arith, rise.0, other) in
    let later : Rise (suc b) (columns (reading ∷ readings)) last = (beyond, rise.1, rise.2) in
    stays b d last field fields (reading ∷ readings) (value ∷ values) later
    ∙ ap (λ fs. field ∷ fs) (rest (reading ∷ readings) (value ∷ values) (ap suc count) later)
    ∙ ap (λ t. if t then text_of_value value d ∷ merged d (suc (suc b)) fields readings values else field ∷ merged d (suc (suc b)) fields (reading ∷ readings) (value ∷ values)) (sym test)

agree_after : (b d last : ℕ) (fields : List (List ℕ)) → b + length fields ≡ last → AgreeAfter b d last fields
unfolding replaced_after
agree_after b d last [] e [] values count rise = refl
agree_after b d last [] e (reading ∷ readings) values count rise = absurd (omega (arith, e, rise.0, rise.1))
agree_after b d last (field ∷ fields) e [] values count rise = refl
agree_after b d last (field ∷ fields) e (reading ∷ readings) [] count rise = absurd (omega (arith, count))
agree_after b d last (field ∷ fields) e (reading ∷ readings) (value ∷ values) count rise =
    agree_here b d last field fields reading readings value values (omega (arith, count)) rise (agree_after (suc b) d last fields (omega (arith, e))) (eqb_tells reading.col (suc b))

-- the text of a row with values is that of its columns
pub text_is : (sep d : ℕ) (fields : List (List ℕ)) (readings : List RowReading) (values : List ℤ) (width : ℕ) → 0 < length fields → length fields ≡ width → length values ≡ length readings → Rise 0 (columns readings) (length fields)
    → text_of_row sep (replaced d fields readings values) ≡ text_from sep width 1 (merged d 1 fields readings values)
text_is sep d fields readings values width some e count rise =
    let long = length-replaced d fields readings values in
    row_from sep width (replaced d fields readings values) (omega (arith, long, some)) (long ∙ e)
    ∙ ap (text_from sep width 1) (replaced_first d fields readings values ∙ agree_after 0 d (length fields) fields (omega arith) readings values count rise)

-- ---- column after column

-- what is left of the text of a row after so many columns and readings
abbrev pub rest_text : ℕ → ℕ → ℕ → ℕ → List (List ℕ) → List RowReading → List ℤ → List ℕ
rest_text sep width d i fields readings values = text_from sep width (suc i) (merged d (suc i) (drop i fields) readings values)

field_here : (fields : List (List ℕ)) (i : ℕ) → i < length fields → drop i fields ≡ field_at fields (suc i) ∷ drop (suc i) fields
field_here fields i h =
    drop_more fields i [] h ∙ ap (λ k. get_or fields k [] ∷ drop (i + 1) fields) (let same : i ≡ suc i - 1 = omega arith in same) ∙ ap (λ k. field_at fields (suc i) ∷ drop k fields) (let same : i + 1 ≡ suc i = omega arith in same)

pub value_next : (sep width d i col : ℕ) (fields : List (List ℕ)) (reading : RowReading) (readings : List RowReading) (value : ℤ) (values : List ℤ) → i < length fields → col ≡ suc i → reading.col ≡ col
    → rest_text sep width d i fields (reading ∷ readings) (value ∷ values) ≡ text_of_column sep width col (text_of_value value d) ++ rest_text sep width d (suc i) fields readings values
value_next sep width d i col fields reading readings value values h e at =
    let test : (reading.col == suc i) ≡ true = let same : reading.col ≡ suc i = at ∙ e in grind (arith, nat_tests) in
    ap (λ fs. text_from sep width (suc i) (merged d (suc i) fs (reading ∷ readings) (value ∷ values))) (field_here fields i h)
    ∙ ap (λ t. text_from sep width (suc i) (if t then text_of_value value d ∷ merged d (suc (suc i)) (drop (suc i) fields) readings values else field_at fields (suc i) ∷ merged d (suc (suc i)) (drop (suc i) fields) (reading ∷ readings) (value ∷ values))) test
    ∙ ap (λ c. text_of_column sep width c (text_of_value value d) ++ rest_text sep width d (suc i) fields readings values) (sym e)

pub field_next : (sep width d i col : ℕ) (fields : List (List ℕ)) (readings : List RowReading) (values : List ℤ) → i < length fields → col ≡ suc i
    → (readings ≡ []) ⊎ ((reading : RowReading) × (others : List RowReading) × (value : ℤ) × (more : List ℤ) × (readings ≡ reading ∷ others) × (values ≡ value ∷ more) × (reading.col ≢ col))
    → rest_text sep width d i fields readings values ≡ text_of_column sep width col (field_at fields col) ++ rest_text sep width d (suc i) fields readings values
field_next sep width d i col fields readings values h e (inl none) =
    ap (λ fs. text_from sep width (suc i) (merged d (suc i) fs readings values)) (field_here fields i h)
    ∙ ap (λ rs. text_from sep width (suc i) (merged d (suc i) (field_at fields (suc i) ∷ drop (suc i) fields) rs values)) none
    ∙ ap (λ fs. text_of_column sep width (suc i) (field_at fields (suc i)) ++ text_from sep width (suc (suc i)) fs) (sym (merged_none d (suc (suc i)) (drop (suc i) fields) values))
    ∙ ap (λ rs. text_of_column sep width (suc i) (field_at fields (suc i)) ++ rest_text sep width d (suc i) fields rs values) (sym none)
    ∙ ap (λ c. text_of_column sep width c (field_at fields c) ++ rest_text sep width d (suc i) fields readings values) (sym e)
field_next sep width d i col fields readings values h e (inr (reading, others, value, more, is, are, differs)) =
    let test : (reading.col == suc i) ≡ false = let other : reading.col ≢ suc i = λ same. differs (same ∙ sym e) in grind (arith, nat_tests) in
    ap (λ fs. text_from sep width (suc i) (merged d (suc i) fs readings values)) (field_here fields i h)
    ∙ ap (λ rs. text_from sep width (suc i) (merged d (suc i) (field_at fields (suc i) ∷ drop (suc i) fields) rs values)) is
    ∙ ap (λ vs. text_from sep width (suc i) (merged d (suc i) (field_at fields (suc i) ∷ drop (suc i) fields) (reading ∷ others) vs)) are
    ∙ ap (λ t. text_from sep width (suc i) (if t then text_of_value value d ∷ merged d (suc (suc i)) (drop (suc i) fields) others more else field_at fields (suc i) ∷ merged d (suc (suc i)) (drop (suc i) fields) (reading ∷ others) (value ∷ more))) test
    ∙ ap (λ rs. text_of_column sep width (suc i) (field_at fields (suc i)) ++ rest_text sep width d (suc i) fields rs (value ∷ more)) (sym is)
    ∙ ap (λ vs. text_of_column sep width (suc i) (field_at fields (suc i)) ++ rest_text sep width d (suc i) fields readings vs) (sym are)
    ∙ ap (λ c. text_of_column sep width c (field_at fields c) ++ rest_text sep width d (suc i) fields readings values) (sym e)

pub none_next : (sep width d i : ℕ) (fields : List (List ℕ)) (readings : List RowReading) (values : List ℤ) → length fields ≤ i → rest_text sep width d i fields readings values ≡ line_feed ∷ []
none_next sep width d i fields readings values h = ap (λ fs. text_from sep width (suc i) (merged d (suc i) fs readings values)) (drop_all i fields h)

-- ---- the column that is written, by the reading that comes next

is_head : (readings : List RowReading) (next col : ℕ) (d : RowReading) → is_at (drop next readings) col ≡ true → (next < length readings) × ((get_or readings next d).col ≡ col)
is_head [] zero col d h = absurd cc
is_head [] (suc next) col d h = absurd cc
is_head (reading ∷ readings) zero col d h = (omega arith, (Decides-eqb reading.col col).0 h)
is_head (reading ∷ readings) (suc next) col d h = let more = is_head readings next col d h in (omega (arith, more.0), more.1)

pub head_none : (readings : List RowReading) (next col : ℕ) → length readings ≤ next → is_at (drop next readings) col ≡ false
head_none readings next col h = ap (λ rs. is_at rs col) (drop_all next readings h)

pub head_some : (readings : List RowReading) (next col : ℕ) (d : RowReading) → next < length readings → is_at (drop next readings) col ≡ ((get_or readings next d).col == col)
head_some readings next col d h = ap (λ rs. is_at rs col) (drop_more readings next d h)

taken : (readings : List RowReading) (values : List ℤ) (next : ℕ) → next < length readings → length values ≡ length readings
    → (drop next readings ≡ get_or readings next no_reading ∷ drop (next + 1) readings) × (drop next values ≡ get_or values next (pos 0) ∷ drop (next + 1) values)
taken readings values next h count = (drop_more readings next no_reading h, drop_more values next (pos 0) (omega (arith, count)))

-- the value of the reading is written
pub value_written : (format : Format) (row : RowView) (values : List ℤ) (col next : ℕ) (value : ℤ) (text pushed : List ℕ) → length values ≡ length row.readings → 1 ≤ col → col ≤ length row.fields
    → is_at (drop next row.readings) col ≡ true → value ≡ get_or values next (pos 0)
    → pushed ≡ text ++ text_of_column format.separator (length row.fields) col (text_of_value value format.decimals)
    → pushed ++ left_to_write format row values col (next + 1) ≡ text ++ left_to_write format row values (col - 1) next
value_written format row values col next value text pushed count least most here is written =
    let head = is_head row.readings next col no_reading here in
    let split = taken row.readings values next head.0 count in
    let before : col ≡ suc (col - 1) = omega arith in
    let sep = format.separator in
    let width = length row.fields in
    let d = format.decimals in
    let step = value_next sep width d (col - 1) col row.fields (get_or row.readings next no_reading) (drop (next + 1) row.readings) (get_or values next (pos 0)) (drop (next + 1) values) (omega arith) before head.1 in
    ap (λ s. s ++ left_to_write format row values col (next + 1)) (written ∙ ap (λ v. text ++ text_of_column sep width col (text_of_value v d)) is)
    ∙ append_assoc text (text_of_column sep width col (text_of_value (get_or values next (pos 0)) d)) (left_to_write format row values col (next + 1))
    ∙ ap (λ k. text ++ (text_of_column sep width col (text_of_value (get_or values next (pos 0)) d) ++ left_to_write format row values k (next + 1))) before
    ∙ ap (λ s. text ++ s) (sym step)
    ∙ ap (λ rs. text ++ rest_text sep width d (col - 1) row.fields rs (get_or values next (pos 0) ∷ drop (next + 1) values)) (sym split.0)
    ∙ ap (λ vs. text ++ rest_text sep width d (col - 1) row.fields (drop next row.readings) vs) (sym split.1)

is_other : (readings : List RowReading) (values : List ℤ) (next col : ℕ) → length values ≡ length readings → is_at (drop next readings) col ≡ false
    → (drop next readings ≡ []) ⊎ ((reading : RowReading) × (others : List RowReading) × (value : ℤ) × (more : List ℤ) × (drop next readings ≡ reading ∷ others) × (drop next values ≡ value ∷ more) × (reading.col ≢ col))
is_other [] values zero col count h = inl refl
is_other [] values (suc next) col count h = inl refl
is_other (reading ∷ readings) [] next col count h = absurd (omega (arith, count))
is_other (reading ∷ readings) (value ∷ values) zero col count h = inr (reading, readings, value, values, refl, refl, not_from_Decides (reading.col == col) (Decides-eqb reading.col col) h)
is_other (reading ∷ readings) (value ∷ values) (suc next) col count h = is_other readings values next col (omega (arith, count)) h

-- the field is written as it was
pub field_written : (format : Format) (row : RowView) (values : List ℤ) (col next : ℕ) (text pushed : List ℕ) → length values ≡ length row.readings → 1 ≤ col → col ≤ length row.fields
    → is_at (drop next row.readings) col ≡ false
    → pushed ≡ text ++ text_of_column format.separator (length row.fields) col (field_at row.fields col)
    → pushed ++ left_to_write format row values col next ≡ text ++ left_to_write format row values (col - 1) next
field_written format row values col next text pushed count least most other written =
    let before : col ≡ suc (col - 1) = omega arith in
    let sep = format.separator in
    let width = length row.fields in
    let d = format.decimals in
    let step = field_next sep width d (col - 1) col row.fields (drop next row.readings) (drop next values) (omega arith) before (is_other row.readings values next col count other) in
    ap (λ s. s ++ left_to_write format row values col next) written
    ∙ append_assoc text (text_of_column sep width col (field_at row.fields col)) (left_to_write format row values col next)
    ∙ ap (λ k. text ++ (text_of_column sep width col (field_at row.fields col) ++ left_to_write format row values k next)) before
    ∙ ap (λ s. text ++ s) (sym step)

-- ---- the whole row

pub all_to_write : (format : Format) (row : RowView) (values : List ℤ) → 1 ≤ length row.fields → length values ≡ length row.readings → Rise 0 (columns row.readings) (length row.fields)
    → left_to_write format row values 0 0 ≡ text_of_row format.separator (replaced format.decimals row.fields row.readings values)
all_to_write format row values some count rise = sym (text_is format.separator format.decimals row.fields row.readings values (length row.fields) (omega (arith, some)) refl count rise)

pub none_to_write : (format : Format) (row : RowView) (values : List ℤ) (col next : ℕ) → length row.fields ≤ col → left_to_write format row values col next ≡ line_feed ∷ []
none_to_write format row values col next h = none_next format.separator (length row.fields) format.decimals col row.fields (drop next row.readings) (drop next values) h

-- a value in the first column, and in a later one
pub value_first : {T E : Type 0} (r : Result T E) (new old text column : List ℕ) → column ≡ text → OnOk r (new ≡ old ++ text) → OnOk r (new ≡ old ++ column)
value_first r new old text column is written = IfOk-equal r new (old ++ text) (old ++ column) written (ap (λ s. old ++ s) (sym is))

pub value_later : {T E : Type 0} (r : Result T E) (new old pushed text column : List ℕ) (sep : ℕ) → column ≡ sep ∷ text → pushed ≡ old ++ sep ∷ [] → OnOk r (new ≡ pushed ++ text) → OnOk r (new ≡ old ++ column)
value_later r new old pushed text column sep is first written =
    IfOk-equal r new (pushed ++ text) (old ++ column) written (ap (λ s. s ++ text) first ∙ append_assoc old (sep ∷ []) text ∙ ap (λ s. old ++ s) (sym is))

-- ---- the loop over the columns

pub begun : (format : Format) (row : RowView) (values : List ℤ) (text : List ℕ) → 1 ≤ length row.fields → length values ≡ length row.readings → Rise 0 (columns row.readings) (length row.fields)
    → text ++ left_to_write format row values 0 0 ≡ text ++ text_of_row format.separator (replaced format.decimals row.fields row.readings values)
begun format row values text some count rise = ap (λ s. text ++ s) (all_to_write format row values some count rise)

pub one_written : (format : Format) (row : RowView) (values : List ℤ) (i next after : ℕ) (text more all : List ℕ) → text ++ left_to_write format row values i next ≡ all
    → more ++ left_to_write format row values (i + 1) after ≡ text ++ left_to_write format row values ((i + 1) - 1) next
    → more ++ left_to_write format row values (i + 1) after ≡ all
one_written format row values i next after text more all so_far rest =
    rest ∙ ap (λ k. text ++ left_to_write format row values k next) (let same : (i + 1) - 1 ≡ i = omega arith in same) ∙ so_far

pub row_ended : {T E : Type 0} (r : Result T E) (format : Format) (row : RowView) (values : List ℤ) (i next : ℕ) (text new all : List ℕ) → length row.fields ≤ i
    → text ++ left_to_write format row values i next ≡ all → OnOk r (new ≡ text ++ line_feed ∷ []) → OnOk r (new ≡ all)
row_ended r format row values i next text new all h so_far written =
    IfOk-equal r new (text ++ line_feed ∷ []) all written (ap (λ s. text ++ s) (sym (none_to_write format row values i next h)) ∙ so_far)

-- the value of the reading that is written
pub value_at : (P : ℤ → Type 0) (values : List ℤ) (i : ℕ) → AllByRecursion P values → i < length values → P (get_or values i (pos 0))
value_at P [] i all h = absurd (omega arith)
value_at P (value ∷ values) zero all h = all.0
value_at P (value ∷ values) (suc i) all h = value_at P values i all.1 (omega arith)

-- there is one
pub value_there : (readings : List RowReading) (values : List ℤ) (next col : ℕ) → length values ≡ length readings → is_at (drop next readings) col ≡ true → next < length values
value_there readings values next col count here = let head = is_head readings next col no_reading here in omega (arith, head.0, count)

-- and it is a number of 64 bits
pub value_fits : (readings : List RowReading) (values : List ℤ) (next col : ℕ) → length values ≡ length readings → AllByRecursion (λ value. unsigned_abs value ≤ unsigned_abs MOST_UNITS) values → is_at (drop next readings) col ≡ true
    → to_z w64 (of_z w64 (get_or values next (pos 0))) ≡ get_or values next (pos 0)
value_fits readings values next col count small here =
    let within = value_at (λ value. unsigned_abs value ≤ unsigned_abs MOST_UNITS) values next small (value_there readings values next col count here) in
    omega (arith, ints, within)
