-- A row whose readings were replaced by the texts of other values is read as the row with these values.
use Rattle.std.proofs.Common.{◌≡◌, ◌≢◌, ℕ, suc, ◌+◌, ◌-◌, ◌^◌, ◌<◌, ◌≤◌, ◌==◌, ℤ, List, [], ◌∷◌, length, set, Option, Some, None, Ok, refl, sym, ap, subst, ◌∙◌, arith, append-nil, length-set, get_or-set_same, get_or-set_other}
use Rattle.std.specs.Prelude.{IsTrue, unsigned_abs}
use Rattle.std.specs.List.{AllByRecursion, list_any, range_with_len}
use Rattle.std.proofs.lemmas.List.{set-set, set_comm}
use Rattle.fix_point.specs.Scaled as Scaled
use Rattle.fix_point.specs.Text.{text_of_value}
use Rattle.fix_point.specs.declared.scale.Extra.{Extra}
use Rattle.fix_point.specs.declared.scale.TheConstants.{MOST_UNITS}
use Rattle.time_text.specs.Ticks as Ticks
use Rattle.words.specs.Separators.{is_separator}
use Rattle.record_cut.specs.Record.{Nothing}
use Rattle.record_cut.specs.Records.{Rest, records}
use Rattle.record_cut.specs.Row.{text_of_row}
use Rattle.record_cut.specs.RoundTrip.{RoundTrip}
use Rattle.record_cut.specs.declared.cutter.TheConstants.{LONGEST}
use Rattle.rule_file.specs.declared.rules.Format.{Format}
use Rattle.rule_file.specs.declared.rules.Rules.{Rules}
use Rattle.rule_file.specs.Numbers.{sensors}
use Rattle.series_rows.specs.Before.{BeforeView}
use Rattle.series_rows.specs.Cells.{ReadsCell}
use Rattle.series_rows.specs.Header.{HeaderView, IsHeader, field_at, sensor_columns}
use Rattle.series_rows.specs.ReadBack.{AreValuesOf, readings_with, IsReadBack}
use Rattle.series_rows.specs.ReadsRow.{AreFew, AreCells, before_cells, HasCells, ReadsRow}
use Rattle.series_rows.specs.Row.{RowView, CellsView, columns, Rise}
use Rattle.series_rows.specs.Texts.{replaced}
use Rattle.series_rows.specs.declared.cell.RowReading.{RowReading}
use Rattle.series_rows.specs.declared.limits.Limits.{Limits}
use Rattle.series_rows.proofs.ByName.{apart_from_time, left_apart, time_within}
use Rattle.series_rows.proofs.CellsRead.{all_columns, readings_rise}
use Rattle.series_rows.proofs.Plain.{plain_text, not_missing}
use Rattle.series_rows.proofs.Rising.{rise_lower, rise_range}
use Rattle.series_rows.proofs.RowTexts.{length-replaced}

-- the text of a number is read as that number
abbrev pub NumbersAreReadBack : Type 0
NumbersAreReadBack = (v most : ℤ) (d : ℕ) (extra : Extra) → d ≤ 6 → unsigned_abs v < 10 ^ 30 → unsigned_abs v ≤ unsigned_abs most → Scaled.Spells (text_of_value v d) d extra most v

-- ---- a field is set

set_elsewhere : (fields : List (List ℕ)) (col other : ℕ) (text : List ℕ) → 1 ≤ col → 1 ≤ other → other ≢ col → field_at (set fields (col - 1) text) other ≡ field_at fields other
set_elsewhere fields col other text h g differs = get_or-set_other fields (col - 1) (other - 1) text [] (λ e. differs (omega (arith, e)))

set_here : (fields : List (List ℕ)) (col : ℕ) (text : List ℕ) → 1 ≤ col → col ≤ length fields → field_at (set fields (col - 1) text) col ≡ text
set_here fields col text h g = get_or-set_same fields (col - 1) text [] (omega arith)

-- the columns are none of these
abbrev Misses : ℕ → List ℕ → Type 0
Misses col cols = AllByRecursion (λ c. (1 ≤ c) × (c ≢ col)) cols

replaced_elsewhere : (d : ℕ) (fields : List (List ℕ)) (readings : List RowReading) (values : List ℤ) (col : ℕ) → 1 ≤ col → Misses col (columns readings) → field_at (replaced d fields readings values) col ≡ field_at fields col
replaced_elsewhere d fields [] values col h misses = refl
replaced_elsewhere d fields (reading ∷ readings) [] col h misses = refl
replaced_elsewhere d fields (reading ∷ readings) (value ∷ values) col h misses =
    replaced_elsewhere d (set fields (reading.col - 1) (text_of_value value d)) readings values col h misses.1
    ∙ set_elsewhere fields reading.col col (text_of_value value d) misses.0.0 h (λ e. misses.0.1 (sym e))

misses_above : (col : ℕ) (cols : List ℕ) (last : ℕ) → Rise col cols last → Misses col cols
misses_above col [] last rise = tt
misses_above col (c ∷ cols) last rise = ((omega (arith, rise.0), λ e. omega (arith, rise.0, e)), misses_above col cols last (rise_lower col c cols last (omega (arith, rise.0)) rise.2))

-- ---- the cells

-- the fields in these columns are the same
abbrev SameIn : List ℕ → List (List ℕ) → List (List ℕ) → Type 0
SameIn cols fields other = AllByRecursion (λ c. field_at fields c ≡ field_at other c) cols

cells_same : (format : Format) (fields other : List (List ℕ)) (cols : List ℕ) (cells : CellsView) → SameIn cols fields other → AreCells format fields cols cells → AreCells format other cols cells
cells_same format fields other [] cells same are = are
cells_same format fields other (col ∷ cols) cells same (reading, others, read, are, is) =
    (reading, others, subst (λ s. ReadsCell format s (Ok reading)) same.0 read, cells_same format fields other cols others same.1 are, is)

same_above : (fields : List (List ℕ)) (col : ℕ) (text : List ℕ) (b : ℕ) (cols : List ℕ) (last : ℕ) → 1 ≤ col → col ≤ b → Rise b cols last → SameIn cols fields (set fields (col - 1) text)
same_above fields col text b [] last h g rise = tt
same_above fields col text b (c ∷ cols) last h g rise =
    (sym (set_elsewhere fields col c text h (omega (arith, rise.0)) (λ e. omega (arith, rise.0, e))), same_above fields col text c cols last h (omega (arith, rise.0)) rise.2)

abbrev AreSmall : List ℤ → Type 0
AreSmall values = AllByRecursion (λ value. unsigned_abs value ≤ unsigned_abs MOST_UNITS) values

value_read : (law : NumbersAreReadBack) (format : Format) (value : ℤ) → unsigned_abs value ≤ unsigned_abs MOST_UNITS → ReadsCell format (text_of_value value format.decimals) (Ok (Some value))
value_read law format value small =
    let less : unsigned_abs value < 10 ^ 30 = omega (arith, small) in
    (not_missing (text_of_value value format.decimals) (plain_text value format.decimals (omega (arith, small))), law value MOST_UNITS format.decimals format.extra format.limits.decimals less small)

abbrev with_values : CellsView → List ℤ → CellsView
with_values cells values = record { readings = readings_with cells.readings values; missing = cells.missing }

-- the cells of the columns from one on, after their readings were replaced
abbrev AreReplaced : Format → List (List ℕ) → List ℕ → CellsView → List ℤ → Type 0
AreReplaced format fields cols cells values = AreCells format (replaced format.decimals fields cells.readings values) cols (with_values cells values)

none_with : (values : List ℤ) → with_values (record { readings = []; missing = [] }) values ≡ record { readings = []; missing = [] }
none_with [] = refl
none_with (value ∷ values) = refl

module _ (law : NumbersAreReadBack) (format : Format) where
  one_replaced : (fields : List (List ℕ)) (col : ℕ) (cols : List ℕ) (reading : Option ℤ) (others : CellsView) (values : List ℤ)
      → 1 ≤ col → col ≤ length fields → Rise col cols (length fields) → Rise col (columns others.readings) (length fields)
      → ReadsCell format (field_at fields col) (Ok reading) → AreCells format fields cols others
      → ((given : List (List ℕ)) (vs : List ℤ) → length given ≡ length fields → AreCells format given cols others → length vs ≡ length others.readings → AreSmall vs → AreReplaced format given cols others vs)
      → length values ≡ length (before_cells col reading others).readings → AreSmall values
      → AreReplaced format fields (col ∷ cols) (before_cells col reading others) values
  one_replaced fields col cols None others values least most rise readings read are rest count small =
      (None, with_values others values, subst (λ s. ReadsCell format s (Ok None)) (sym (replaced_elsewhere format.decimals fields others.readings values col least (misses_above col (columns others.readings) (length fields) readings))) read, rest fields values refl are count small, refl)
  one_replaced fields col cols (Some old) others [] least most rise readings read are rest count small = absurd (omega (arith, count))
  one_replaced fields col cols (Some old) others (value ∷ values) least most rise readings read are rest count small =
      let text = text_of_value value format.decimals in
      let next = set fields (col - 1) text in
      let long : length next ≡ length fields = length-set fields (col - 1) text in
      let here : field_at (replaced format.decimals next others.readings values) col ≡ text =
      replaced_elsewhere format.decimals next others.readings values col least (misses_above col (columns others.readings) (length fields) readings) ∙ set_here fields col text least most in (
        Some value,
        with_values others values,
        subst (λ s. ReadsCell format s (Ok (Some value))) (sym here) (value_read law format value small.0),
        rest next values long (cells_same format fields next cols others (same_above fields col text col cols (length fields) least (omega arith) rise) are) (omega (arith, count)) small.1,
        refl,
      )

  cells_replaced : (fields : List (List ℕ)) (b : ℕ) (cols : List ℕ) (last : ℕ) (cells : CellsView) (values : List ℤ)
      → length fields ≡ last → Rise b cols last → AreCells format fields cols cells → length values ≡ length cells.readings → AreSmall values → AreReplaced format fields cols cells values
  cells_replaced fields b [] last cells values e rise are count small =
      subst (λ (c : CellsView). AreCells format (replaced format.decimals fields c.readings values) [] (with_values c values)) (sym are) (none_with values)
  cells_replaced fields b (col ∷ cols) last cells values e rise (reading, others, read, are, is) count small =
      let within : Rise col cols (length fields) = subst (Rise col cols) (sym e) rise.2 in
      subst (λ (c : CellsView). AreReplaced format fields (col ∷ cols) c values) (sym is)
      (one_replaced fields col cols reading others values (omega (arith, rise.0)) (omega (arith, rise.1, e)) within (readings_rise format fields col cols (length fields) others are within) read are
      (λ given vs long are' count' small'. cells_replaced given col cols last others vs (long ∙ e) rise.2 are' count' small')
      (subst (λ (c : CellsView). length values ≡ length c.readings) is count) small)

-- ---- replaced again

set_before : (d : ℕ) (fields : List (List ℕ)) (readings : List RowReading) (values : List ℤ) (col last : ℕ) (text : List ℕ) → 1 ≤ col → Rise col (columns readings) last
    → set (replaced d fields readings values) (col - 1) text ≡ replaced d (set fields (col - 1) text) readings values
set_before d fields [] values col last text h rise = refl
set_before d fields (reading ∷ readings) [] col last text h rise = refl
set_before d fields (reading ∷ readings) (value ∷ values) col last text h rise =
    let apart : reading.col - 1 ≢ col - 1 = λ e. omega (arith, rise.0, h, e) in
    set_before d (set fields (reading.col - 1) (text_of_value value d)) readings values col last text h (rise_lower col reading.col (columns readings) last (omega (arith, rise.0)) rise.2)
    ∙ ap (λ fs. replaced d fs readings values) (set_comm fields (reading.col - 1) (col - 1) (text_of_value value d) text apart)

no_readings : (values : List ℤ) → readings_with [] values ≡ []
no_readings [] = refl
no_readings (value ∷ values) = refl

replaced_again : (d : ℕ) (fields : List (List ℕ)) (b : ℕ) (readings : List RowReading) (values others : List ℤ) (last : ℕ) → length values ≡ length readings → length others ≡ length readings → Rise b (columns readings) last
    → replaced d (replaced d fields readings values) (readings_with readings values) others ≡ replaced d fields readings others
replaced_again d fields b [] values others last count same rise = ap (λ rs. replaced d fields rs others) (no_readings values)
replaced_again d fields b (reading ∷ readings) [] others last count same rise = absurd (omega (arith, count))
replaced_again d fields b (reading ∷ readings) (value ∷ values) [] last count same rise = absurd (omega (arith, same))
replaced_again d fields b (reading ∷ readings) (value ∷ values) (other ∷ others) last count same rise =
    let first = text_of_value value d in
    let second = text_of_value other d in
    let least : 1 ≤ reading.col = omega (arith, rise.0) in
    ap (λ fs. replaced d fs (readings_with readings values) others) (set_before d (set fields (reading.col - 1) first) readings values reading.col last second least rise.2)
    ∙ ap (λ fs. replaced d (replaced d fs readings values) (readings_with readings values) others) (set-set fields (reading.col - 1) first second)
    ∙ replaced_again d (set fields (reading.col - 1) second) reading.col readings values others last (omega (arith, count)) (omega (arith, same)) rise.2

length-readings_with : (readings : List RowReading) (values : List ℤ) → length (readings_with readings values) ≡ length readings
length-readings_with [] [] = refl
length-readings_with [] (value ∷ values) = refl
length-readings_with (reading ∷ readings) [] = refl
length-readings_with (reading ∷ readings) (value ∷ values) = ap suc (length-readings_with readings values)

-- ---- the whole row

one_text : (cutting : RoundTrip) (sep : ℕ) (fields : List (List ℕ)) → IsTrue (is_separator sep) → 0 < length fields → length (text_of_row sep fields) ≤ LONGEST → records sep (text_of_row sep fields) ≡ record { records = fields ∷ []; onward = Rest Nothing }
one_text cutting sep fields separates some short =
    ap (records sep) (sym (append-nil (text_of_row sep fields))) ∙ cutting sep (fields ∷ []) separates (some, short, tt)

misses_time : (time : ℕ) (cols : List ℕ) → AllByRecursion (λ c. c ≢ time) cols → (b last : ℕ) → Rise b cols last → Misses time cols
misses_time time [] apart b last rise = tt
misses_time time (c ∷ cols) apart b last rise = ((omega (arith, rise.0), apart.0), misses_time time cols apart.1 c last rise.2)

pub read_again : (law : NumbersAreReadBack) (cutting : RoundTrip) (rules : Rules) (names : List (List ℕ)) (header : HeaderView) (limits : Limits) (before : BeforeView) (fields : List (List ℕ)) (row : RowView) (values : List ℤ)
    → IsHeader rules names header → ReadsRow rules header limits before fields (Ok row) → AreValuesOf row values → IsReadBack rules header limits before row values
read_again law cutting rules names header limits before fields row values is reads are =
    let cells : CellsView = record { readings = row.readings; missing = row.missing } in
    let d = rules.format.decimals in
    let cols = sensor_columns header in
    let same : fields ≡ row.fields = sym reads.fields_are in
    let has = subst (λ fs. HasCells rules header limits before fs row.ticks cells) same reads.has_cells in
    let wide : length row.fields ≡ length header.fields = has.timed.fits.width in
    let rise : Rise 0 cols (length row.fields) = subst (Rise 0 cols) (sym wide) (rise_range (λ col. list_any (λ sensor. sensor == col) header.sensor_cols) 0 (length header.fields) (length header.fields) (omega arith)) in
    let readings : Rise 0 (columns row.readings) (length row.fields) = readings_rise rules.format row.fields 0 cols (length row.fields) cells has.cells_are rise in
    let from_time = left_apart header.time_col header.sensor_cols (range_with_len 1 (length header.fields)) (apart_from_time header.time_col names (sensors rules) header.sensor_cols is.sensors_are) in
    let apart = all_columns (λ c. c ≢ header.time_col) rules.format row.fields cols cells has.cells_are from_time in
    let time = time_within rules.format.time names header.time_col is.time in
    let next = replaced d row.fields row.readings values in
    let long : length next ≡ length row.fields = length-replaced d row.fields row.readings values in
    let kept : field_at next header.time_col ≡ field_at row.fields header.time_col = replaced_elsewhere d row.fields row.readings values header.time_col time.0 (misses_time header.time_col (columns row.readings) apart 0 (length row.fields) readings) in
    let some : 0 < length next = omega (arith, long, wide, ap length is.fields_are, time.0, time.1) in
    record {
      cut = λ short. one_text cutting rules.format.separator next rules.format.limits.separator some short;
      read = record {
        fields_are = refl;
        time_col_is = reads.time_col_is;
        has_cells = record {
          timed = record {
            fits = record { room = has.timed.fits.room; width = long ∙ wide };
            time = subst (λ s. Ticks.Spells rules.format.form s row.ticks) (sym kept) has.timed.time;
            later = has.timed.later;
          };
          cells_are = cells_replaced law rules.format row.fields 0 cols (length row.fields) cells values refl rise has.cells_are are.count are.small;
        };
        few = subst (λ n. AreFew limits (before.readings + n)) (sym (length-readings_with row.readings values)) reads.few;
      };
      texts = λ others count. ap (text_of_row rules.format.separator) (replaced_again d row.fields 0 row.readings values others (length row.fields) are.count count readings);
    }
