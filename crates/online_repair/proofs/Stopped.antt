-- Where a row that is due is refused, or memory runs out at it.
use Rattle.std.proofs.Common.{◌≡◌, ℕ, suc, ◌+◌, ◌&&◌, not, Bool, true, false, cond, ◌⊎◌, inl, inr, ℤ, ◌-ℤ◌, ◌<ℤ◌, List, [], ◌∷◌, ◌++◌, length, map, reverse, refl, sym, ap, ◌∙◌, subst, arith, append_assoc, append-nil, length-append}
use Rattle.std.specs.Prelude.{Option, Some, None, Result, Ok, Err, option_map}
use Rattle.std.specs.List.{find, list_all}
use Rattle.std.specs.Option.{option_or}
use Rattle.std.proofs.lemmas.List.{length-reverse}
use Rattle.words.proofs.Lists.{all_of_append, all_reverse}
use Rattle.rule_file.specs.declared.rules.Rules.{Rules}
use Rattle.series_rows.specs.Header.{HeaderView}
use Rattle.series_rows.specs.Row.{RowView}
use Rattle.series_rows.specs.Texts.{row_text_with}
use Rattle.series_rows.specs.declared.cell.RowReading.{RowReading}
use Rattle.online_repair.specs.Accepted.{greatest_window, is_ready}
use Rattle.online_repair.specs.Engines.{IsStopped, IsTooLarge, IsWritten, WritesRows, due_part, rest_part}
use Rattle.online_repair.specs.Keeping.{IsNext, KeepsRows, Stops}
use Rattle.online_repair.specs.Output.{is_small, leaving, texts, too_large}
use Rattle.online_repair.specs.Rows.{repaired, repaired_row, rule_in}
use Rattle.online_repair.specs.Shown.{AreReady, AreShown, AreSmallRows}
use Rattle.online_repair.specs.Storing.{ArePast, onto, rows_text}
use Rattle.online_repair.specs.declared.engine.Engine.{Engine}
use Rattle.online_repair.specs.declared.fault.OnlineFault.{OnlineFault}
use Rattle.online_repair.specs.declared.fault.OnlineFault.TheVariants.{LeavesRange, Memory}
use Rattle.online_repair.proofs.Round.{due_whole}
use Rattle.online_repair.proofs.Steps.{find_alike}
use Rattle.online_repair.proofs.Stored.{due_past, length_onto, past_onto}
use Rattle.online_repair.proofs.Texts.{onto_reverse, ready_append, ready_due, ready_more, reading_far, rows_far, small_append, small_far, text_append, text_shown, texts_ready}

-- ---- the row

pub record IsStop (rules : Rules) (header : HeaderView) (before due rest : List RowView) (fault : OnlineFault) (text now : List ℕ) : Type 0 where
  pub done : List RowView
  pub row : RowView
  pub others : List RowView
  pub due_is : due ≡ done ++ row ∷ others
  pub small : AreSmallRows rules header before done (row ∷ others ++ rest)
  pub text_is : now ≡ text ++ rows_text rules header before done (row ∷ others ++ rest)
  pub refused : (fault ≡ Memory → ⊥) → IsTooLarge rules header (onto done before) row (others ++ rest) fault

err_ok : (done : Unit {0}) (fault : OnlineFault) → ◌≡◌ {A = Result (Unit {0}) OnlineFault} (Err fault) (Ok done) → ⊥
err_ok done fault e = cc

same_fault : (a b : OnlineFault) → ◌≡◌ {A = Result (Unit {0}) OnlineFault} (Err a) (Err b) → b ≡ a
same_fault a b e = cc

stop_more : (rules : Rules) (header : HeaderView) (before : List RowView) (row : RowView) (due rest : List RowView) (old middle : Engine) (fault : OnlineFault) (text more now : List ℕ) → IsWritten rules header before row (due ++ rest) old middle text more → IsStop rules header (row ∷ before) due rest fault more now → IsStop rules header before (row ∷ due) rest fault text now
stop_more rules header before row due rest old middle fault text more now is stop =
    let whole = ap (λ (rs : List RowView). rs ++ rest) stop.due_is ∙ append_assoc stop.done (stop.row ∷ stop.others) rest in
    let S : List RowView → Type 0 = λ later. list_all is_small (repaired_row rules header before row later) ≡ true in
    record {
      done = row ∷ stop.done;
      row = stop.row;
      others = stop.others;
      due_is = ap (λ (rs : List RowView). row ∷ rs) stop.due_is;
      small = (subst S whole is.small, stop.small);
      text_is = stop.text_is
          ∙ ap (λ (bytes : List ℕ). bytes ++ rows_text rules header (row ∷ before) stop.done (stop.row ∷ stop.others ++ rest)) (is.text_is ∙ ap (λ (later : List RowView). text ++ row_text_with rules row (repaired_row rules header before row later)) whole)
          ∙ append_assoc text (row_text_with rules row (repaired_row rules header before row (stop.done ++ (stop.row ∷ stop.others ++ rest)))) (rows_text rules header (row ∷ before) stop.done (stop.row ∷ stop.others ++ rest));
      refused = stop.refused;
    }

stop_here : (rules : Rules) (header : HeaderView) (before : List RowView) (row : RowView) (due rest : List RowView) (fault : OnlineFault) (text now : List ℕ) → IsStopped rules header before row (due ++ rest) (Err fault) text now → IsStop rules header before (row ∷ due) rest fault text now
stop_here rules header before row due rest fault text now stopped =
    let F : OnlineFault → Type 0 = λ f. (f ≡ Memory → ⊥) → IsTooLarge rules header before row (due ++ rest) f in
    record {
      done = [];
      row = row;
      others = due;
      due_is = refl;
      small = tt;
      text_is = stopped.text_is ∙ sym (append-nil text);
      refused = subst F (same_fault fault stopped.fault stopped.result_is) stopped.refused;
    }

stop_by : (rules : Rules) (header : HeaderView) (before : List RowView) (row : RowView) (due rest : List RowView) (fault : OnlineFault) (old new : Engine) (text now : List ℕ)
    → ((middle : Engine) (more : List ℕ) → WritesRows rules header (row ∷ before) due rest (Err fault) middle new more now → IsStop rules header (row ∷ before) due rest fault more now)
    → ((middle : Engine) × (more : List ℕ) × IsWritten rules header before row (due ++ rest) old middle text more × WritesRows rules header (row ∷ before) due rest (Err fault) middle new more now) ⊎ IsStopped rules header before row (due ++ rest) (Err fault) text now
    → IsStop rules header before (row ∷ due) rest fault text now
stop_by rules header before row due rest fault old new text now later (inl w) = stop_more rules header before row due rest old w.0 fault text w.1 now w.2 (later w.0 w.1 w.3)
stop_by rules header before row due rest fault old new text now later (inr stopped) = stop_here rules header before row due rest fault text now stopped

pub is_stop : (rules : Rules) (header : HeaderView) (before due rest : List RowView) (fault : OnlineFault) (old new : Engine) (text now : List ℕ) → WritesRows rules header before due rest (Err fault) old new text now → IsStop rules header before due rest fault text now
is_stop rules header before [] rest fault old new text now w = absurd (err_ok tt fault w.result_is)
is_stop rules header before (row ∷ due) rest fault old new text now w =
    stop_by rules header before row due rest fault old new text now (λ middle more. is_stop rules header (row ∷ before) due rest fault middle new more now) w

-- ---- a value that is too large

no_reading : (a : RowReading) → None ≡ Some a → ⊥
no_reading a e = cc

not_all_by : (b all : Bool) (reading first : RowReading) (found : Option RowReading) → cond (not b) (Some first) found ≡ Some reading → (found ≡ Some reading → all ≡ false) → (b && all) ≡ false
not_all_by true all reading first found e rest = rest e
not_all_by false all reading first found e rest = refl

pub not_all : (value : RowReading → ℤ) (readings : List RowReading) (reading : RowReading) → find (λ (other : RowReading). not (is_small (value other))) readings ≡ Some reading → list_all is_small (map value readings) ≡ false
not_all value [] reading e = absurd (no_reading reading e)
not_all value (first ∷ readings) reading e =
    not_all_by (is_small (value first)) (list_all is_small (map value readings)) reading first (find (λ (other : RowReading). not (is_small (value other))) readings) e (not_all value readings reading)

false_true : false ≡ true → ⊥
false_true e = cc

all_none_by : (b all : Bool) (first : RowReading) (found : Option RowReading) → (b && all) ≡ true → (all ≡ true → found ≡ None) → cond (not b) (Some first) found ≡ None
all_none_by true all first found e rest = rest e
all_none_by false all first found e rest = absurd (false_true e)

pub all_none : (value : RowReading → ℤ) (readings : List RowReading) → list_all is_small (map value readings) ≡ true → find (λ (other : RowReading). not (is_small (value other))) readings ≡ None
all_none value [] e = refl
all_none value (first ∷ readings) e =
    all_none_by (is_small (value first)) (list_all is_small (map value readings)) first (find (λ (other : RowReading). not (is_small (value other))) readings) e (all_none value readings)

abbrev pub value_of : Rules → HeaderView → List RowView → RowView → List RowView → RowReading → ℤ
value_of rules header before row later reading = repaired (rule_in rules header reading.col) rules.format.decimals before row later reading

large_far : (rules : Rules) (header : HeaderView) (before : List RowView) (row : RowView) (later : List RowView) (far : RowView) → ArePast (greatest_window rules.speeds) far.ticks (row ∷ before) → too_large rules header before row (later ++ far ∷ []) ≡ too_large rules header before row later
large_far rules header before row later far past =
    find_alike (λ (reading : RowReading). not (is_small (value_of rules header before row (later ++ far ∷ []) reading))) (λ (reading : RowReading). not (is_small (value_of rules header before row later reading))) row.readings
    (λ reading. ap (λ (v : ℤ). not (is_small v)) (reading_far rules header before row later far reading past))

texts_here : (rules : Rules) (header : HeaderView) (before : List RowView) (row : RowView) (later : List RowView) (reading : RowReading) → is_ready (greatest_window rules.speeds) row later ≡ true → too_large rules header before row later ≡ Some reading → texts rules header false before (row ∷ later) ≡ []
texts_here rules header before row later reading ready large =
    let values = repaired_row rules header before row later in
    let more = texts rules header false (row ∷ before) later in
    ap (λ (b : Bool). cond b (cond (list_all is_small values) (row_text_with rules row values ++ more) []) more) ready
    ∙ ap (λ (b : Bool). cond b (row_text_with rules row values ++ more) []) (not_all (value_of rules header before row later) row.readings reading large)

leaving_here : (rules : Rules) (header : HeaderView) (number : ℕ) (before : List RowView) (row : RowView) (later : List RowView) (reading : RowReading) → is_ready (greatest_window rules.speeds) row later ≡ true → too_large rules header before row later ≡ Some reading
    → leaving rules header false number before (row ∷ later) ≡ Some (LeavesRange number reading.col)
leaving_here rules header number before row later reading ready large =
    let others = leaving rules header false (suc number) (row ∷ before) later in
    ap (λ (b : Bool). cond b (option_or (option_map (λ (r : RowReading). LeavesRange number r.col) (too_large rules header before row later)) others) others) ready
    ∙ ap (λ (o : Option RowReading). option_or (option_map (λ (r : RowReading). LeavesRange number r.col) o) others) large

pub leaving_ready : (rules : Rules) (header : HeaderView) (number : ℕ) (before rows rest : List RowView) → AreReady (greatest_window rules.speeds) rows rest → AreSmallRows rules header before rows rest
    → leaving rules header false number before (rows ++ rest) ≡ leaving rules header false (number + length rows) (onto rows before) rest
leaving_ready rules header number before [] rest ready small =
    let n : number ≡ number + 0 = omega arith in
    ap (λ (k : ℕ). leaving rules header false k before rest) n
leaving_ready rules header number before (row ∷ rows) rest ready small =
    let others = leaving rules header false (suc number) (row ∷ before) (rows ++ rest) in
    let n : suc number + length rows ≡ number + length (row ∷ rows) = omega arith in
    ap (λ (b : Bool). cond b (option_or (option_map (λ (r : RowReading). LeavesRange number r.col) (too_large rules header before row (rows ++ rest))) others) others) ready.0
    ∙ ap (λ (o : Option RowReading). option_or (option_map (λ (r : RowReading). LeavesRange number r.col) o) others) (all_none (value_of rules header before row (rows ++ rest)) row.readings small.0)
    ∙ leaving_ready rules header (suc number) (row ∷ before) rows rest ready.1 small.1
    ∙ ap (λ (k : ℕ). leaving rules header false k (onto rows (row ∷ before)) rest) n

-- ---- what was written until then

ready_split : (most : ℤ) (rows due rest : List RowView) → AreReady most (rows ++ due) rest → AreReady most rows (due ++ rest) × AreReady most due rest
ready_split most [] due rest ready = (tt, ready)
ready_split most (row ∷ rows) due rest ready =
    let more = ready_split most rows due rest ready.1 in
    ((ap (is_ready most row) (sym (append_assoc rows due rest)) ∙ ready.0, more.0), more.1)

pub onto_append : (rows more before : List RowView) → onto (rows ++ more) before ≡ onto more (onto rows before)
onto_append [] more before = refl
onto_append (row ∷ rows) more before = onto_append rows more (row ∷ before)

stops_at : (rules : Rules) (header : HeaderView) (accepted : List RowView) (before items : List RowView) (row : RowView) (fault : OnlineFault) (text now : List ℕ) → accepted ≡ reverse before ++ items → AreShown rules header before items → ArePast (greatest_window rules.speeds) row.ticks before
    → IsStop rules header before (due_part (greatest_window rules.speeds) row.ticks items) (rest_part (greatest_window rules.speeds) row.ticks items) fault text now → Stops rules header accepted row fault text now
stops_at rules header accepted before items row fault text now joined shown past stop =
    let most = greatest_window rules.speeds in
    let due = due_part most row.ticks items in
    let rest = rest_part most row.ticks items in
    let front = reverse before in
    let at = stop.row in
    let tail = stop.others ++ (rest ++ row ∷ []) in
    let tail_is : tail ≡ (stop.others ++ rest) ++ row ∷ [] = sym (append_assoc stop.others rest (row ∷ [])) in
    let whole : stop.done ++ (at ∷ (stop.others ++ rest)) ≡ items = sym (append_assoc stop.done (at ∷ stop.others) rest) ∙ ap (λ (rs : List RowView). rs ++ rest) (sym stop.due_is) ∙ due_whole most row.ticks items in
    let longer : items ++ row ∷ [] ≡ stop.done ++ (at ∷ tail) = ap (λ (rs : List RowView). rs ++ row ∷ []) (sym whole) ∙ append_assoc stop.done (at ∷ (stop.others ++ rest)) (row ∷ []) ∙ ap (λ (rs : List RowView). stop.done ++ (at ∷ rs)) (sym tail_is) in
    let D : List RowView → Type 0 = λ rs. ArePast most row.ticks rs in
    let past_due = all_of_append (λ (other : RowView). most <ℤ (row.ticks -ℤ other.ticks)) stop.done (at ∷ stop.others) (subst D stop.due_is (due_past most row.ticks items)) in
    let past_front = all_reverse (λ (other : RowView). most <ℤ (row.ticks -ℤ other.ticks)) before past in
    let R : List RowView → Type 0 = λ rs. AreReady most rs (rest ++ row ∷ []) in
    let ready_parts = ready_split most stop.done (at ∷ stop.others) (rest ++ row ∷ []) (subst R stop.due_is (ready_due most items rest row)) in
    let F : List RowView → Type 0 = λ rs. AreReady most front rs in
    let ready = ready_append most front stop.done (at ∷ tail) (subst F longer (ready_more most front items (row ∷ []) shown.ready)) ready_parts.0 in
    let S : List RowView → Type 0 = λ rs. AreSmallRows rules header [] front rs in
    let T : List RowView → Type 0 = λ rs. AreSmallRows rules header before stop.done (at ∷ rs) in
    let O : List RowView → Type 0 = λ rs. AreSmallRows rules header rs stop.done (at ∷ tail) in
    let small_front = subst S longer (small_far rules header [] front items row tt past_front shown.small) in
    let small_done = subst T (sym tail_is) (small_far rules header before stop.done (at ∷ (stop.others ++ rest)) row past past_due.0 stop.small) in
    let small = small_append rules header [] front stop.done (at ∷ tail) small_front (subst O (sym (onto_reverse before)) small_done) in
    let last = onto (front ++ stop.done) [] in
    let last_is : last ≡ onto stop.done before = onto_append front stop.done [] ∙ ap (onto stop.done) (onto_reverse before) in
    let added = rows_text rules header before stop.done (at ∷ (stop.others ++ rest)) in
    let all_is : accepted ++ row ∷ [] ≡ (front ++ stop.done) ++ (at ∷ tail) = ap (λ (rs : List RowView). rs ++ row ∷ []) joined ∙ append_assoc front items (row ∷ []) ∙ ap (λ (rs : List RowView). front ++ rs) longer ∙ sym (append_assoc front stop.done (at ∷ tail)) in
    let before_is = rows_far rules header [] front items row tt past_front ∙ sym (text_shown rules header before items shown) ∙ ap (texts rules header false []) (sym joined) in
    let added_is = ap (λ (rs : List RowView). rows_text rules header rs stop.done (at ∷ tail)) (onto_reverse before) ∙ ap (λ (rs : List RowView). rows_text rules header before stop.done (at ∷ rs)) tail_is ∙ rows_far rules header before stop.done (at ∷ (stop.others ++ rest)) row past past_due.0 in
    record {
      added = added;
      more = texts rules header false last (at ∷ tail);
      texts_are = ap (texts rules header false []) all_is
          ∙ texts_ready rules header [] (front ++ stop.done) (at ∷ tail) ready small
          ∙ ap (λ (bytes : List ℕ). bytes ++ texts rules header false last (at ∷ tail))
          (text_append rules header [] front stop.done (at ∷ tail)
          ∙ ap (λ (bytes : List ℕ). rows_text rules header [] front (stop.done ++ (at ∷ tail)) ++ bytes) added_is
          ∙ ap (λ (rs : List RowView). rows_text rules header [] front rs ++ added) (sym longer)
          ∙ ap (λ (bytes : List ℕ). bytes ++ added) before_is);
      text_is = stop.text_is;
      refused = λ other.
          let large = stop.refused other in
          let L : List RowView → Type 0 = λ rs. too_large rules header rs at tail ≡ Some large.reading in
          let large_is = subst L (sym last_is) (ap (too_large rules header (onto stop.done before) at) tail_is ∙ large_far rules header (onto stop.done before) at (stop.others ++ rest) row (past_due.1.0, past_onto most row.ticks stop.done before past_due.0 past) ∙ large.is) in
          let number : 1 + length (front ++ stop.done) ≡ suc (length (onto stop.done before)) = omega (arith, length-append front stop.done, length-reverse before, length_onto stop.done before) in (
            texts_here rules header last at tail large.reading ready_parts.1.0 large_is,
            ap (leaving rules header false 1 []) all_is
                ∙ leaving_ready rules header 1 [] (front ++ stop.done) (at ∷ tail) ready small
                ∙ leaving_here rules header (1 + length (front ++ stop.done)) last at tail large.reading ready_parts.1.0 large_is
                ∙ ap (λ (n : ℕ). Some (LeavesRange n large.reading.col)) number
                ∙ ap (λ (f : OnlineFault). Some f) (sym large.fault_is),
          );
    }

pub stops : (rules : Rules) (header : HeaderView) (accepted : List RowView) (row : RowView) (engine old new : Engine) (fault : OnlineFault) (text now : List ℕ) → (keeps : KeepsRows rules header accepted engine) → IsNext accepted row
    → WritesRows rules header keeps.before (due_part engine.most row.ticks engine.held.items) (rest_part engine.most row.ticks engine.held.items) (Err fault) old new text now → Stops rules header accepted row fault text now
stops rules header accepted row engine old new fault text now keeps next writes =
    let items = engine.held.items in
    let P : ℤ → Type 0 = λ m. ArePast m row.ticks keeps.before in
    let W : ℤ → Type 0 = λ m. WritesRows rules header keeps.before (due_part m row.ticks items) (rest_part m row.ticks items) (Err fault) old new text now in
    let most = greatest_window rules.speeds in
    let stop = is_stop rules header keeps.before (due_part most row.ticks items) (rest_part most row.ticks items) fault old new text now (subst W keeps.most_is writes) in
    stops_at rules header accepted keeps.before items row fault text now keeps.joined keeps.shown (subst P keeps.most_is (keeps.past row.ticks next.later)) stop
