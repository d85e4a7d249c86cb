use Rattle.std.proofs.Common.{◌+◌, ◌++◌, List, [], ◌∷◌, length, map, ap, ◌∙◌, subst}
use Rattle.series_rows.specs.Row.{columns, Rise}
use Rattle.series_rows.specs.declared.cell.RowReading.{RowReading}
use Rattle.series_csv.specs.Readings.{places_in}
use Rattle.series_csv.proofs.Indexing.{pushed}
use Rattle.series_csv.proofs.rows.Rows.push.Goals as goal

pub returns-clause-indexed : goal.returns-clause-indexed
returns-clause-indexed c =
    let old = c.args.self.now in
    let row = c.args.row in
    let readings = c.readings.ensures.readings in
    let places = c.in_ok-push_readings.ensures.places
    ∙ (ap (λ n. old.places ++ places_in (n + 1) (columns c.readings.result.now)) c.len.ensures
    ∙ ap (λ (xs : List RowReading). old.places ++ places_in (length old.rows + 1) (columns xs)) readings) in
    let values = c.in_ok-push_readings.ensures.values ∙ ap (λ (xs : List RowReading). old.values ++ map (λ (reading : RowReading). reading.value) xs) readings in
    pushed old _ row c.requires.indexed
    (record {
      rows = c.in_ok-push-2.ensures.ok;
      places = places;
      values = values;
      starts = c.in_ok-push.ensures.ok ∙ ap (λ n. old.starts ++ n ∷ []) c.len-2.ensures;
    })
    (subst (λ (xs : List RowReading). Rise 0 (columns xs) (length row.fields)) readings c.readings.ensures.rise)
    c.requires.rows c.requires.readings c.requires.small c.requires.times
