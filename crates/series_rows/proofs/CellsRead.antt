-- The cells of the sensor columns, one after the other.
use Rattle.std.proofs.Common.{◌≡◌, ℕ, zero, suc, ◌+◌, ◌<◌, ◌≤◌, ℤ, List, [], ◌∷◌, ◌++◌, length, get_or, drop, Option, Some, None, Ok, Err, inl, inr, refl, sym, ap, subst, ◌∙◌, arith, append_assoc, append-nil}
use Rattle.std.specs.List.{AllByRecursion}
use Rattle.std.proofs.lemmas.List.{drop_more, drop_all}
use Rattle.fix_point.specs.declared.scale.NumFault.{NumFault}
use Rattle.rule_file.specs.declared.rules.Format.{Format}
use Rattle.series_rows.specs.Cells.{ReadsCell}
use Rattle.series_rows.specs.Faults.{fault_at}
use Rattle.series_rows.specs.Header.{field_at}
use Rattle.series_rows.specs.Parts.{no_cells, with_last, IsFirstRefused}
use Rattle.series_rows.specs.ReadsRow.{AreCells, RefusesFirst, before_cells}
use Rattle.series_rows.specs.Row.{CellsView, columns, Rise}
use Rattle.series_rows.specs.declared.fault.TableCause.TheVariants.{Value}
use Rattle.series_rows.specs.declared.fault.TableFault.{TableFault}
use Rattle.series_rows.proofs.Rising.{rise_lower}

-- the cells of columns, and those of the columns to the right of them
abbrev pub joined : CellsView → CellsView → CellsView
joined cells others = record { readings = cells.readings ++ others.readings; missing = cells.missing ++ others.missing }

-- the answer for the columns that are left is the answer for all
pub record AreCellsSoFar (format : Format) (fields : List (List ℕ)) (cols : List ℕ) (count : ℕ) (done : CellsView) : Type 0 where
  pub accepted : (others : CellsView) → AreCells format fields (drop count cols) others → AreCells format fields cols (joined done others)
  pub refused : (at : ℕ) (fault : NumFault) → RefusesFirst format fields (drop count cols) at fault → RefusesFirst format fields cols at fault

pub none_so_far : (format : Format) (fields : List (List ℕ)) (cols : List ℕ) (done : CellsView) → done ≡ no_cells → AreCellsSoFar format fields cols 0 done
none_so_far format fields cols done none = record {
  accepted = λ others are. subst (λ d. AreCells format fields cols (joined d others)) (sym none) are;
  refused = λ at fault is. is;
}

join_step : (cells : CellsView) (col : ℕ) (reading : Option ℤ) (others : CellsView) → joined cells (before_cells col reading others) ≡ joined (with_last cells col reading) others
join_step cells col (Some value) others =
    ap (λ readings. let all : CellsView = record { readings = readings; missing = cells.missing ++ others.missing } in all) (sym (append_assoc cells.readings (record { col = col; value = value } ∷ []) others.readings))
join_step cells col None others =
    ap (λ missing. let all : CellsView = record { readings = cells.readings ++ others.readings; missing = missing } in all) (sym (append_assoc cells.missing (col ∷ []) others.missing))

pub one_more : (format : Format) (fields : List (List ℕ)) (cols : List ℕ) (count col : ℕ) (done next : CellsView) (reading : Option ℤ)
    → count < length cols → get_or cols count 0 ≡ col → AreCellsSoFar format fields cols count done → ReadsCell format (field_at fields col) (Ok reading) → next ≡ with_last done col reading
    → AreCellsSoFar format fields cols (count + 1) next
one_more format fields cols count col done next reading h here so_far read is =
    let rest : drop count cols ≡ col ∷ drop (count + 1) cols = drop_more cols count 0 h ∙ ap (λ c. c ∷ drop (count + 1) cols) here in
    record {
      accepted = λ others are.
          subst (λ cells. AreCells format fields cols (joined cells others)) (sym is)
          (subst (AreCells format fields cols) (join_step done col reading others)
          (so_far.accepted (before_cells col reading others) (subst (λ cs. AreCells format fields cs (before_cells col reading others)) (sym rest) (reading, others, read, are, refl))));
      refused = λ at fault refuses.
          so_far.refused at fault (subst (λ cs. RefusesFirst format fields cs at fault) (sym rest) (inr (reading, read, refuses)));
    }

pub first_refused : (format : Format) (fields : List (List ℕ)) (cols : List ℕ) (count col : ℕ) (done : CellsView) (fault : NumFault)
    → count < length cols → get_or cols count 0 ≡ col → AreCellsSoFar format fields cols count done → ReadsCell format (field_at fields col) (Err fault)
    → RefusesFirst format fields cols col fault
first_refused format fields cols count col done fault h here so_far read =
    let rest : drop count cols ≡ col ∷ drop (count + 1) cols = drop_more cols count 0 h ∙ ap (λ c. c ∷ drop (count + 1) cols) here in
    so_far.refused col fault (subst (λ cs. RefusesFirst format fields cs col fault) (sym rest) (inl (refl, read)))

join_none : (cells : CellsView) → joined cells no_cells ≡ cells
join_none cells =
    ap (λ readings. let all : CellsView = record { readings = readings; missing = cells.missing ++ [] } in all) (append-nil cells.readings)
    ∙ ap (λ missing. let all : CellsView = record { readings = cells.readings; missing = missing } in all) (append-nil cells.missing)

pub all_read : (format : Format) (fields : List (List ℕ)) (cols : List ℕ) (count : ℕ) (done : CellsView) → length cols ≤ count → AreCellsSoFar format fields cols count done → AreCells format fields cols done
all_read format fields cols count done h so_far =
    subst (AreCells format fields cols) (join_none done) (so_far.accepted no_cells (subst (λ cs. AreCells format fields cs no_cells) (sym (drop_all count cols h)) refl))

-- the fault of the field that is refused, in the row of this number
pub refused_at : (row : ℕ) (format : Format) (fields : List (List ℕ)) (cols : List ℕ) (col : ℕ) (refusal : NumFault) (fault : TableFault) → fault ≡ fault_at row col (Value refusal)
    → RefusesFirst format fields cols col refusal → IsFirstRefused row format fields cols fault
refused_at row format fields cols col refusal fault is first = subst (IsFirstRefused row format fields cols) (sym is) (refusal, refl, first)

-- what holds of each column holds of one of them
pub all_here : (P : ℕ → Type 0) (cols : List ℕ) (i : ℕ) → AllByRecursion P cols → i < length cols → P (get_or cols i 0)
all_here P [] i all h = absurd (omega arith)
all_here P (col ∷ cols) zero all h = all.0
all_here P (col ∷ cols) (suc i) all h = all_here P cols i all.1 (omega arith)

-- ---- the columns of the readings

all_one : (P : ℕ → Type 0) (col : ℕ) (reading : Option ℤ) (others : CellsView) → P col → AllByRecursion P (columns others.readings) → AllByRecursion P (columns (before_cells col reading others).readings)
all_one P col (Some value) others here rest = (here, rest)
all_one P col None others here rest = rest

-- what holds of each column holds of those of the readings
pub all_columns : (P : ℕ → Type 0) (format : Format) (fields : List (List ℕ)) (cols : List ℕ) (cells : CellsView) → AreCells format fields cols cells → AllByRecursion P cols → AllByRecursion P (columns cells.readings)
all_columns P format fields [] cells are all = subst (λ (c : CellsView). AllByRecursion P (columns c.readings)) (sym are) tt
all_columns P format fields (col ∷ cols) cells (reading, others, read, rest, is) all =
    subst (λ (c : CellsView). AllByRecursion P (columns c.readings)) (sym is) (all_one P col reading others all.0 (all_columns P format fields cols others rest all.1))

rise_one : (b col : ℕ) (reading : Option ℤ) (others : CellsView) (last : ℕ) → b < col → col ≤ last → Rise col (columns others.readings) last → Rise b (columns (before_cells col reading others).readings) last
rise_one b col (Some value) others last above within rest = (above, within, rest)
rise_one b col None others last above within rest = rise_lower b col (columns others.readings) last (omega (arith, above)) rest

pub readings_rise : (format : Format) (fields : List (List ℕ)) (b : ℕ) (cols : List ℕ) (last : ℕ) (cells : CellsView) → AreCells format fields cols cells → Rise b cols last → Rise b (columns cells.readings) last
readings_rise format fields b [] last cells are r = subst (λ (c : CellsView). Rise b (columns c.readings) last) (sym are) tt
readings_rise format fields b (col ∷ cols) last cells (reading, others, read, rest, is) r =
    subst (λ (c : CellsView). Rise b (columns c.readings) last) (sym is) (rise_one b col reading others last r.0 r.1 (readings_rise format fields col cols last others rest r.2))
