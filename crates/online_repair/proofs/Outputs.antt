-- The output by the definition, as rows are accepted one after the other.
use Rattle.std.proofs.Common.{◌≡◌, ℕ, suc, ◌+◌, Bool, false, cond, ℤ, List, [], ◌∷◌, ◌++◌, length, reverse, refl, sym, ap, ◌∙◌, append_assoc, append-nil}
use Rattle.std.specs.Prelude.{Option, Some, None, option_map}
use Rattle.std.specs.Option.{option_or}
use Rattle.rule_file.specs.declared.rules.Rules.{Rules}
use Rattle.series_rows.specs.Header.{HeaderView}
use Rattle.series_rows.specs.Row.{RowView}
use Rattle.series_rows.specs.Texts.{header_text}
use Rattle.series_rows.specs.declared.cell.RowReading.{RowReading}
use Rattle.online_repair.specs.Accepted.{Accepted, accept, greatest_window, held, refusal, unless_refused}
use Rattle.online_repair.specs.Keeping.{KeepsRows}
use Rattle.online_repair.specs.Output.{leaving, output_of, texts, too_large}
use Rattle.online_repair.specs.Shown.{AreWaiting}
use Rattle.online_repair.specs.Storing.{onto}
use Rattle.online_repair.specs.declared.engine.Engine.{Engine}
use Rattle.online_repair.specs.declared.fault.OnlineFault.{OnlineFault}
use Rattle.online_repair.specs.declared.fault.OnlineFault.TheVariants.{LeavesRange}
use Rattle.online_repair.proofs.Stopped.{leaving_ready}

-- ---- which rows are accepted

abbrev pub all_of : List RowView → Accepted
all_of rows = record { rows = rows; fault = None }

pub fault_none : (f : OnlineFault) → Some f ≡ None → ⊥
fault_none f e = cc

one_by : (rules : Rules) (header : HeaderView) (before : List RowView) (first : RowView) (rows : List RowView) (row : RowView) (last : Option OnlineFault) (o : Option OnlineFault) → unless_refused before o (accept rules header (before ++ first ∷ []) rows None) ≡ all_of (before ++ first ∷ rows)
    → (accept rules header (before ++ first ∷ []) rows None ≡ all_of (before ++ first ∷ [] ++ rows) → accept rules header (before ++ first ∷ []) (rows ++ row ∷ []) last ≡ unless_refused (before ++ first ∷ [] ++ rows) (refusal rules header (before ++ first ∷ [] ++ rows) row) (record { rows = before ++ first ∷ [] ++ rows ++ row ∷ []; fault = last }))
    → unless_refused before o (accept rules header (before ++ first ∷ []) (rows ++ row ∷ []) last) ≡ unless_refused (before ++ first ∷ rows) (refusal rules header (before ++ first ∷ rows) row) (record { rows = (before ++ first ∷ rows) ++ row ∷ []; fault = last })
one_by rules header before first rows row last (Some f) e rest = absurd (fault_none f (ap (λ (a : Accepted). a.fault) e))
one_by rules header before first rows row last None e rest =
    let same = append_assoc before (first ∷ []) rows in
    rest (e ∙ ap all_of (sym same))
    ∙ ap (λ (rs : List RowView). unless_refused rs (refusal rules header rs row) (record { rows = rs ++ row ∷ []; fault = last })) same

-- one row more is accepted or refused by `refusal`
pub accept_push : (rules : Rules) (header : HeaderView) (before rows : List RowView) (row : RowView) (last : Option OnlineFault) → accept rules header before rows None ≡ all_of (before ++ rows)
    → accept rules header before (rows ++ row ∷ []) last ≡ unless_refused (before ++ rows) (refusal rules header (before ++ rows) row) (record { rows = (before ++ rows) ++ row ∷ []; fault = last })
accept_push rules header before [] row last e =
    ap (λ (rs : List RowView). unless_refused rs (refusal rules header rs row) (record { rows = rs ++ row ∷ []; fault = last })) (sym (append-nil before))
accept_push rules header before (first ∷ rows) row last e =
    one_by rules header before first rows row last (refusal rules header before first) e (accept_push rules header (before ++ first ∷ []) rows row last)

-- ---- no row that was written left the range

pub leaving_waiting : (rules : Rules) (header : HeaderView) (number : ℕ) (before rows : List RowView) → AreWaiting (greatest_window rules.speeds) rows → leaving rules header false number before rows ≡ None
leaving_waiting rules header number before [] waiting = refl
leaving_waiting rules header number before (row ∷ rows) waiting =
    let others = leaving rules header false (suc number) (row ∷ before) rows in
    ap (λ (b : Bool). cond b (option_or (option_map (λ (r : RowReading). LeavesRange number r.col) (too_large rules header before row rows)) others) others) waiting.0
    ∙ leaving_waiting rules header (suc number) (row ∷ before) rows waiting.1

pub none_leaves : (rules : Rules) (header : HeaderView) (accepted : List RowView) (engine : Engine) → KeepsRows rules header accepted engine → leaving rules header false 1 [] accepted ≡ None
none_leaves rules header accepted engine keeps =
    ap (leaving rules header false 1 []) keeps.joined
    ∙ leaving_ready rules header 1 [] (reverse keeps.before) engine.held.items keeps.shown.ready keeps.shown.small
    ∙ leaving_waiting rules header (1 + length (reverse keeps.before)) (onto (reverse keeps.before) []) engine.held.items keeps.shown.waiting

-- what the engine keeps is the output of the definition, while no row is refused
pub output_kept : (rules : Rules) (header : HeaderView) (accepted : List RowView) (engine : Engine) → KeepsRows rules header accepted engine
    → output_of rules header false (all_of accepted) ≡ record { text = header_text rules header ++ texts rules header false [] accepted; held = engine.held.items; fault = None }
output_kept rules header accepted engine keeps =
    let text = header_text rules header ++ texts rules header false [] accepted in
    let here : held (greatest_window rules.speeds) accepted ≡ engine.held.items = ap (λ (m : ℤ). held m accepted) (sym keeps.most_is) ∙ sym keeps.held_is in
    ap (λ (o : Option OnlineFault). record { text = text; held = held (greatest_window rules.speeds) accepted; fault = option_or o None }) (none_leaves rules header accepted engine keeps)
    ∙ ap (λ (rows : List RowView). record { text = text; held = rows; fault = None }) here
