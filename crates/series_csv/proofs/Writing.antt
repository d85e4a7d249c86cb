-- How the text of rows is written.
use Rattle.std.proofs.Common.{◌≡◌, ℕ, ◌+◌, ◌<◌, ◌≤◌, ℤ, List, ◌∷◌, ◌++◌, length, take, drop, get_or, sym, ap, ◌∙◌, append_assoc, arith}
use Rattle.std.specs.List.{AllByRecursion}
use Rattle.std.proofs.lemmas.List.{drop_more}
use Rattle.rule_file.specs.declared.rules.Rules.{Rules}
use Rattle.series_rows.specs.Row.{RowView}
use Rattle.series_rows.specs.Texts.{row_text_with}
use Rattle.series_csv.specs.Readings.{values_of, IsSmall}
use Rattle.series_csv.specs.Text.{rows_text}
use Rattle.series_csv.proofs.Indexing.{length-values_of}
use Rattle.series_csv.proofs.ReadingBack.{AreSplit, split}

-- the rows from an index on are yet to be written, with the values that are left
pub record IsWriting (rules : Rules) (rows : List RowView) (index : ℕ) (rest : List ℤ) (text all : List ℕ) : Type 0 where
  pub text_is : text ++ rows_text rules (drop index rows) rest ≡ all
  pub count : length rest ≡ length (values_of (drop index rows))
  pub small : AllByRecursion IsSmall rest

-- the row at the index comes next
pub next_row : (rules : Rules) (rows : List RowView) (index : ℕ) (rest : List ℤ) (text all : List ℕ) (row : RowView) → index < length rows → row ≡ get_or rows index row → IsWriting rules rows index rest text all → AreSplit row (drop (index + 1) rows) rest
next_row rules rows index rest text all row within is writing =
    let front : drop index rows ≡ row ∷ drop (index + 1) rows = drop_more rows index row within ∙ ap (λ r. r ∷ drop (index + 1) rows) (sym is) in
    split row (drop (index + 1) rows) rest (writing.count ∙ ap (λ rs. length (values_of rs)) front) writing.small

pub next_fits : (rules : Rules) (rows : List RowView) (index : ℕ) (rest : List ℤ) (text all : List ℕ) (row : RowView) → index < length rows → row ≡ get_or rows index row → IsWriting rules rows index rest text all → length row.readings ≤ length rest
next_fits rules rows index rest text all row within is writing =
    let front : drop index rows ≡ row ∷ drop (index + 1) rows = drop_more rows index row within ∙ ap (λ r. r ∷ drop (index + 1) rows) (sym is) in
    omega (arith, writing.count ∙ ap (λ rs. length (values_of rs)) front, length-values_of row (drop (index + 1) rows))

pub written : (rules : Rules) (rows : List RowView) (index : ℕ) (rest : List ℤ) (text new all : List ℕ) (row : RowView) → index < length rows → row ≡ get_or rows index row → IsWriting rules rows index rest text all → new ≡ text ++ row_text_with rules row (take (length row.readings) rest) → IsWriting rules rows (index + 1) (drop (length row.readings) rest) new all
written rules rows index rest text new all row within is writing push =
    let front : drop index rows ≡ row ∷ drop (index + 1) rows = drop_more rows index row within ∙ ap (λ r. r ∷ drop (index + 1) rows) (sym is) in
    let parts = next_row rules rows index rest text all row within is writing in
    let here = row_text_with rules row (take (length row.readings) rest) in
    let later = rows_text rules (drop (index + 1) rows) (drop (length row.readings) rest) in
    record {
      text_is = ap (λ t. t ++ later) push ∙ (append_assoc text here later ∙ (ap (λ rs. text ++ rows_text rules rs rest) (sym front) ∙ writing.text_is));
      count = parts.count;
      small = parts.small;
    }
