-- The text at the end of a file.
use Rattle.std.proofs.Common.{◌≡◌, ℕ, suc, ◌+◌, Bool, true, false, cond, List, [], ◌∷◌, ◌++◌, length, reverse, refl, sym, ap, ◌∙◌, subst, arith, append_assoc, append-nil, length-append}
use Rattle.std.specs.Prelude.{Option, Some, None, Result, Ok, Err, option_map}
use Rattle.std.specs.Option.{option_or}
use Rattle.std.proofs.lemmas.List.{length-reverse, reverse-append, reverse-reverse}
use Rattle.rule_file.specs.declared.rules.Rules.{Rules}
use Rattle.series_rows.specs.Header.{HeaderView}
use Rattle.series_rows.specs.Row.{RowView}
use Rattle.series_rows.specs.Texts.{row_text_with}
use Rattle.series_rows.specs.declared.cell.RowReading.{RowReading}
use Rattle.online_repair.specs.Engines.{Stands, WritesRows}
use Rattle.online_repair.specs.Keeping.{EndStops, Ends, EndsWell, KeepsRows}
use Rattle.online_repair.specs.Output.{leaving, texts, too_large}
use Rattle.online_repair.specs.Rows.{repaired_row}
use Rattle.online_repair.specs.Shown.{AreShown, AreSmallRows}
use Rattle.online_repair.specs.Storing.{onto, rows_text}
use Rattle.online_repair.specs.declared.engine.Engine.{Engine}
use Rattle.online_repair.specs.declared.fault.OnlineFault.{OnlineFault}
use Rattle.online_repair.specs.declared.fault.OnlineFault.TheVariants.{LeavesRange}
use Rattle.online_repair.proofs.Stopped.{IsStop, all_none, is_stop, not_all, onto_append, value_of}
use Rattle.online_repair.proofs.Stored.{are_written, length_onto}
use Rattle.online_repair.proofs.Texts.{onto_is, onto_reverse, small_append, text_append, text_shown}

texts_all : (rules : Rules) (header : HeaderView) (before rows rest : List RowView) → AreSmallRows rules header before rows rest → texts rules header true before (rows ++ rest) ≡ rows_text rules header before rows rest ++ texts rules header true (onto rows before) rest
texts_all rules header before [] rest small = refl
texts_all rules header before (row ∷ rows) rest small =
    let values = repaired_row rules header before row (rows ++ rest) in
    let here = row_text_with rules row values in
    ap (λ (b : Bool). cond b (here ++ texts rules header true (row ∷ before) (rows ++ rest)) []) small.0
    ∙ ap (λ (bytes : List ℕ). here ++ bytes) (texts_all rules header (row ∷ before) rows rest small.1)
    ∙ sym (append_assoc here (rows_text rules header (row ∷ before) rows rest) (texts rules header true (onto rows (row ∷ before)) rest))

leaving_all : (rules : Rules) (header : HeaderView) (number : ℕ) (before rows rest : List RowView) → AreSmallRows rules header before rows rest → leaving rules header true number before (rows ++ rest) ≡ leaving rules header true (number + length rows) (onto rows before) rest
leaving_all rules header number before [] rest small =
    let n : number ≡ number + 0 = omega arith in
    ap (λ (k : ℕ). leaving rules header true k before rest) n
leaving_all rules header number before (row ∷ rows) rest small =
    let others = leaving rules header true (suc number) (row ∷ before) (rows ++ rest) in
    let n : suc number + length rows ≡ number + length (row ∷ rows) = omega arith in
    ap (λ (o : Option RowReading). option_or (option_map (λ (r : RowReading). LeavesRange number r.col) o) others) (all_none (value_of rules header before row (rows ++ rest)) row.readings small.0)
    ∙ leaving_all rules header (suc number) (row ∷ before) rows rest small.1
    ∙ ap (λ (k : ℕ). leaving rules header true k (onto rows (row ∷ before)) rest) n

-- the rows that were written already, and those that are written now
written_then : (rules : Rules) (header : HeaderView) (before done rest : List RowView) → AreShown rules header before (done ++ rest) → AreSmallRows rules header before done rest
    → texts rules header true [] (reverse before ++ (done ++ rest)) ≡ (texts rules header false [] (reverse before ++ (done ++ rest)) ++ rows_text rules header before done rest) ++ texts rules header true (onto done before) rest
written_then rules header before done rest shown small =
    let front = reverse before in
    let O : List RowView → Type 0 = λ rs. AreSmallRows rules header rs done rest in
    let T : List RowView → Type 0 = λ rs. texts rules header true (onto done rs) rest ≡ texts rules header true (onto done before) rest in
    let both = small_append rules header [] front done rest shown.small (subst O (sym (onto_reverse before)) small) in
    ap (texts rules header true []) (sym (append_assoc front done rest))
    ∙ texts_all rules header [] (front ++ done) rest both
    ∙ ap (λ (bytes : List ℕ). bytes ++ texts rules header true (onto (front ++ done) []) rest)
    (text_append rules header [] front done rest
    ∙ ap (λ (rs : List RowView). rows_text rules header [] front (done ++ rest) ++ rows_text rules header rs done rest) (onto_reverse before)
    ∙ ap (λ (bytes : List ℕ). bytes ++ rows_text rules header before done rest) (sym (text_shown rules header before (done ++ rest) shown)))
    ∙ ap (λ (rs : List RowView). (texts rules header false [] (front ++ (done ++ rest)) ++ rows_text rules header before done rest) ++ texts rules header true rs rest) (onto_append front done [] ∙ ap (onto done) (onto_reverse before))

leaves_then : (rules : Rules) (header : HeaderView) (before done rest : List RowView) → AreShown rules header before (done ++ rest) → AreSmallRows rules header before done rest
    → leaving rules header true 1 [] (reverse before ++ (done ++ rest)) ≡ leaving rules header true (suc (length (onto done before))) (onto done before) rest
leaves_then rules header before done rest shown small =
    let front = reverse before in
    let O : List RowView → Type 0 = λ rs. AreSmallRows rules header rs done rest in
    let both = small_append rules header [] front done rest shown.small (subst O (sym (onto_reverse before)) small) in
    let number : 1 + length (front ++ done) ≡ suc (length (onto done before)) = omega (arith, length-append front done, length-reverse before, length_onto done before) in
    ap (leaving rules header true 1 []) (sym (append_assoc front done rest))
    ∙ leaving_all rules header 1 [] (front ++ done) rest both
    ∙ ap (λ (n : ℕ). leaving rules header true n (onto (front ++ done) []) rest) number
    ∙ ap (λ (rs : List RowView). leaving rules header true (suc (length (onto done before))) rs rest) (onto_append front done [] ∙ ap (onto done) (onto_reverse before))

texts_large : (rules : Rules) (header : HeaderView) (before : List RowView) (row : RowView) (later : List RowView) (reading : RowReading) → too_large rules header before row later ≡ Some reading → texts rules header true before (row ∷ later) ≡ []
texts_large rules header before row later reading large =
    ap (λ (b : Bool). cond b (row_text_with rules row (repaired_row rules header before row later) ++ texts rules header true (row ∷ before) later) []) (not_all (value_of rules header before row later) row.readings reading large)

leaving_large : (rules : Rules) (header : HeaderView) (number : ℕ) (before : List RowView) (row : RowView) (later : List RowView) (reading : RowReading) → too_large rules header before row later ≡ Some reading → leaving rules header true number before (row ∷ later) ≡ Some (LeavesRange number reading.col)
leaving_large rules header number before row later reading large =
    ap (λ (o : Option RowReading). option_or (option_map (λ (r : RowReading). LeavesRange number r.col) o) (leaving rules header true (suc number) (row ∷ before) later)) large

-- all rows, the latest first
onto_all : (before items accepted : List RowView) → accepted ≡ reverse before ++ items → onto items before ≡ reverse accepted
onto_all before items accepted e =
    onto_is items before ∙ sym (ap reverse e ∙ reverse-append (reverse before) items ∙ ap (λ (rs : List RowView). reverse items ++ rs) (reverse-reverse before))

ends_well : (rules : Rules) (header : HeaderView) (accepted before items : List RowView) (engine : Engine) (text now : List ℕ) → accepted ≡ reverse before ++ items → AreShown rules header before items → AreSmallRows rules header before items [] → now ≡ text ++ rows_text rules header before items [] → Stands rules header (onto items before) engine → engine.held.items ≡ []
    → EndsWell rules header accepted engine text now
ends_well rules header accepted before items engine text now joined shown small text_is stands none_held =
    let added = rows_text rules header before items [] in
    let H : List RowView → Type 0 = λ rs. AreShown rules header before rs in
    let there = subst H (sym (append-nil items)) shown in
    let T : List RowView → Type 0 = λ rs. texts rules header true [] (reverse before ++ rs) ≡ (texts rules header false [] (reverse before ++ rs) ++ added) ++ [] in
    let L : List RowView → Type 0 = λ rs. leaving rules header true 1 [] (reverse before ++ rs) ≡ None in
    let A : List RowView → Type 0 = λ rs. texts rules header true [] rs ≡ texts rules header false [] rs ++ added in
    let B : List RowView → Type 0 = λ rs. leaving rules header true 1 [] rs ≡ None in
    let S : List RowView → Type 0 = λ rs. Stands rules header rs engine in
    record {
      added = added;
      texts_are = subst A (sym joined) (subst T (append-nil items) (written_then rules header before items [] there small) ∙ append-nil (texts rules header false [] (reverse before ++ items) ++ added));
      text_is = text_is;
      none_leaves = subst B (sym joined) (subst L (append-nil items) (leaves_then rules header before items [] there small));
      stands = subst S (onto_all before items accepted joined) stands;
      none_held = none_held;
    }

end_stops : (rules : Rules) (header : HeaderView) (accepted before items : List RowView) (fault : OnlineFault) (text now : List ℕ) → accepted ≡ reverse before ++ items → AreShown rules header before items → IsStop rules header before items [] fault text now → EndStops rules header accepted fault text now
end_stops rules header accepted before items fault text now joined shown stop =
    let rest = stop.row ∷ (stop.others ++ []) in
    let whole : items ≡ stop.done ++ rest = stop.due_is ∙ ap (λ (rs : List RowView). stop.done ++ (stop.row ∷ rs)) (sym (append-nil stop.others)) in
    let H : List RowView → Type 0 = λ rs. AreShown rules header before rs in
    let there = subst H whole shown in
    let added = rows_text rules header before stop.done rest in
    let all_is = joined ∙ ap (λ (rs : List RowView). reverse before ++ rs) whole in
    let A : List RowView → Type 0 = λ rs. texts rules header true [] rs ≡ (texts rules header false [] rs ++ added) ++ texts rules header true (onto stop.done before) rest in
    record {
      added = added;
      more = texts rules header true (onto stop.done before) rest;
      texts_are = subst A (sym all_is) (written_then rules header before stop.done rest there stop.small);
      text_is = stop.text_is;
      refused = λ other.
          let large = stop.refused other in (
            texts_large rules header (onto stop.done before) stop.row (stop.others ++ []) large.reading large.is,
            ap (leaving rules header true 1 []) all_is
                ∙ leaves_then rules header before stop.done rest there stop.small
                ∙ leaving_large rules header (suc (length (onto stop.done before))) (onto stop.done before) stop.row (stop.others ++ []) large.reading large.is
                ∙ ap (λ (f : OnlineFault). Some f) (sym large.fault_is),
          );
    }

pub ends : (rules : Rules) (header : HeaderView) (accepted : List RowView) (engine new : Engine) (result : Result (Unit {0}) OnlineFault) (text now : List ℕ) → (keeps : KeepsRows rules header accepted engine) → WritesRows rules header keeps.before engine.held.items [] result engine new text now → Ends rules header accepted result new text now
ends rules header accepted engine new (Ok done) text now keeps writes =
    let are = are_written rules header keeps.before engine.held.items [] done engine new text now writes in
    ends_well rules header accepted keeps.before engine.held.items new text now keeps.joined keeps.shown are.small are.text_is are.stands are.held
ends rules header accepted engine new (Err fault) text now keeps writes =
    end_stops rules header accepted keeps.before engine.held.items fault text now keeps.joined keeps.shown (is_stop rules header keeps.before engine.held.items [] fault engine new text now writes)
