-- The output for a file that goes on begins with the output so far.
use Rattle.std.proofs.Common.{◌≡◌, ◌&&◌, ℕ, Bool, false, List, [], ◌∷◌, ◌++◌, refl, sym, ap, ◌∙◌, subst, append_assoc, append-nil}
use Rattle.std.specs.Prelude.{IsSome, Option, Some, None, is_none, option_map}
use Rattle.rule_file.specs.declared.rules.Rules.{Rules}
use Rattle.series_rows.specs.Header.{HeaderView}
use Rattle.series_rows.specs.Row.{RowView}
use Rattle.series_rows.specs.Texts.{header_text}
use Rattle.series_rows.specs.declared.fault.TableFault.{TableFault}
use Rattle.series_csv.specs.Read.{Read}
use Rattle.series_csv.specs.Stays.{Continues}
use Rattle.online_repair.specs.Accepted.{Accepted, accept, refusal, unless_refused}
use Rattle.online_repair.specs.Output.{Reads, output, output_of, output_with, texts}
use Rattle.online_repair.specs.StandsFor.{EngineKeeps}
use Rattle.online_repair.specs.declared.engine.Engine.{Engine}
use Rattle.online_repair.specs.declared.fault.OnlineFault.{OnlineFault}
use Rattle.online_repair.specs.declared.fault.OnlineFault.TheVariants.{Table}
use Rattle.online_repair.proofs.FromFile.{read_placed}
use Rattle.online_repair.proofs.Grown.{Begins, Placed, placed_front, texts_grow}
use Rattle.online_repair.proofs.Outputs.{all_of, fault_none}

-- ---- the rows that are accepted

skip_by : (rules : Rules) (header : HeaderView) (before : List RowView) (first : RowView) (rows more : List RowView) (last : Option OnlineFault) (o : Option OnlineFault) → unless_refused before o (accept rules header (before ++ first ∷ []) rows None) ≡ all_of (before ++ (first ∷ rows))
    → (accept rules header (before ++ first ∷ []) rows None ≡ all_of ((before ++ first ∷ []) ++ rows) → accept rules header (before ++ first ∷ []) (rows ++ more) last ≡ accept rules header ((before ++ first ∷ []) ++ rows) more last)
    → unless_refused before o (accept rules header (before ++ first ∷ []) (rows ++ more) last) ≡ accept rules header (before ++ (first ∷ rows)) more last
skip_by rules header before first rows more last (Some f) e rest = absurd (fault_none f (ap (λ (a : Accepted). a.fault) e))
skip_by rules header before first rows more last None e rest =
    let same = append_assoc before (first ∷ []) rows in
    rest (e ∙ ap all_of (sym same)) ∙ ap (λ (rs : List RowView). accept rules header rs more last) same

-- where no row is refused, the rows after them decide
pub accept_skip : (rules : Rules) (header : HeaderView) (before rows more : List RowView) (last : Option OnlineFault) → accept rules header before rows None ≡ all_of (before ++ rows) → accept rules header before (rows ++ more) last ≡ accept rules header (before ++ rows) more last
accept_skip rules header before [] more last e = ap (λ (rs : List RowView). accept rules header rs more last) (sym (append-nil before))
accept_skip rules header before (first ∷ rows) more last e =
    skip_by rules header before first rows more last (refusal rules header before first) e (accept_skip rules header (before ++ first ∷ []) rows more last)

-- the rows before and some of the others, from the first on, are accepted
pub record TakesFront (before rows : List RowView) (accepted : Accepted) : Type 0 where
  pub taken : List RowView
  pub left : List RowView
  pub rows_are : rows ≡ taken ++ left
  pub accepted_are : accepted.rows ≡ before ++ taken

front_by : (before : List RowView) (row : RowView) (rows : List RowView) (o : Option OnlineFault) (others : Accepted) → TakesFront (before ++ row ∷ []) rows others → TakesFront before (row ∷ rows) (unless_refused before o others)
front_by before row rows None others front = record {
  taken = row ∷ front.taken;
  left = front.left;
  rows_are = ap (λ (rs : List RowView). row ∷ rs) front.rows_are;
  accepted_are = front.accepted_are ∙ append_assoc before (row ∷ []) front.taken;
}
front_by before row rows (Some f) others front = record { taken = []; left = row ∷ rows; rows_are = refl; accepted_are = sym (append-nil before) }

pub accept_front : (rules : Rules) (header : HeaderView) (before rows : List RowView) (last : Option OnlineFault) → TakesFront before rows (accept rules header before rows last)
accept_front rules header before [] last = record { taken = []; left = []; rows_are = refl; accepted_are = sym (append-nil before) }
accept_front rules header before (row ∷ rows) last =
    front_by before row rows (refusal rules header before row) (accept rules header (before ++ row ∷ []) rows last) (accept_front rules header (before ++ row ∷ []) rows last)

-- ---- the text

-- what is accepted of a longer file, of which no row was refused so far
pub record GoesFurther (rules : Rules) (header : HeaderView) (rows later : List RowView) (last : Option OnlineFault) : Type 0 where
  pub taken : List RowView
  pub accepted_are : (accept rules header [] (rows ++ later) last).rows ≡ rows ++ taken
  pub placed : Placed [] (rows ++ taken)

pub goes_further : (rules : Rules) (header : HeaderView) (rows later : List RowView) (last : Option OnlineFault) → accept rules header [] rows None ≡ all_of rows → Placed [] (rows ++ later) → GoesFurther rules header rows later last
goes_further rules header rows later last none placed =
    let front = accept_front rules header rows later last in
    let P : List RowView → Type 0 = λ rs. Placed [] rs in
    let whole = ap (λ (rs : List RowView). rows ++ rs) front.rows_are ∙ sym (append_assoc rows front.taken front.left) in
    record {
      taken = front.taken;
      accepted_are = ap (λ (a : Accepted). a.rows) (accept_skip rules header [] rows later last none) ∙ front.accepted_are;
      placed = placed_front [] (rows ++ front.taken) front.left (subst P whole placed);
    }

begins_after : (front short longer : List ℕ) → Begins short longer → Begins (front ++ short) (front ++ longer)
begins_after front short longer begins = record { rest = begins.rest; is = ap (λ (bytes : List ℕ). front ++ bytes) begins.is ∙ sym (append_assoc front short begins.rest) }

pub text_longer : (rules : Rules) (header : HeaderView) (ended : Bool) (rows later : List RowView) (last : Option OnlineFault) → accept rules header [] rows None ≡ all_of rows → Placed [] (rows ++ later)
    → Begins (header_text rules header ++ texts rules header false [] rows) (output_of rules header ended (accept rules header [] (rows ++ later) last)).text
text_longer rules header ended rows later last none placed =
    let accepted = accept rules header [] (rows ++ later) last in
    let all = ended && is_none accepted.fault in
    let further = goes_further rules header rows later last none placed in
    let B : List RowView → Type 0 = λ rs. Begins (header_text rules header ++ texts rules header false [] rows) (header_text rules header ++ texts rules header all [] rs) in
    subst B (sym further.accepted_are)
    (begins_after (header_text rules header) (texts rules header false [] rows) (texts rules header all [] (rows ++ further.taken)) (texts_grow rules header all [] rows further.taken further.placed))

-- ---- the output

-- no row was refused, if the header is there
abbrev pub NoneRefused : Rules → Option HeaderView → List RowView → Type 0
NoneRefused rules None rows = Unit {0}
NoneRefused rules (Some header) rows = accept rules header [] rows None ≡ all_of rows

pub kept_none_refused : (rules : Rules) (header : Option HeaderView) (rows : List RowView) (engine : Option Engine) → EngineKeeps rules header rows engine → NoneRefused rules header rows
kept_none_refused rules None rows engine keeps = tt
kept_none_refused rules (Some header) rows None keeps = absurd keeps
kept_none_refused rules (Some header) rows (Some engine) keeps = keeps.1

output_longer : (rules : Rules) (ended : Bool) (header longer : Option HeaderView) (rows later : List RowView) (fault : Option OnlineFault) → NoneRefused rules header rows → (IsSome header → longer ≡ header) → Placed [] (rows ++ later)
    → Begins (output_with rules false header rows None).text (output_with rules ended longer (rows ++ later) fault).text
output_longer rules ended None longer rows later fault none same placed = record { rest = (output_with rules ended longer (rows ++ later) fault).text; is = refl }
output_longer rules ended (Some header) longer rows later fault none same placed =
    let H : Option HeaderView → Type 0 = λ h. Begins (output_with rules false (Some header) rows None).text (output_with rules ended h (rows ++ later) fault).text in
    let A : Accepted → Type 0 = λ a. Begins (output_of rules header false a).text (output_of rules header ended (accept rules header [] (rows ++ later) fault)).text in
    subst H (sym (same refl)) (subst A (sym none) (text_longer rules header ended rows later fault none placed))

-- the text of a file that goes on begins with the text so far
pub grown : (rules : Rules) (read longer : Read) (ended : Bool) (bytes : List ℕ) → read.fault ≡ None → NoneRefused rules read.header read.rows → Reads rules ended bytes longer → Continues read longer → Begins (output rules false read).text (output rules ended longer).text
grown rules read longer ended bytes not_refused none reads goes =
    let P : List RowView → Type 0 = λ rs. Placed [] rs in
    let F : Option TableFault → Type 0 = λ f. Begins (output_with rules false read.header read.rows (option_map Table f)).text (output rules ended longer).text in
    let R : List RowView → Type 0 = λ rs. Begins (output_with rules false read.header read.rows None).text (output_with rules ended longer.header rs (option_map Table longer.fault)).text in
    subst F (sym not_refused)
    (subst R (sym goes.rows.1)
    (output_longer rules ended read.header longer.header read.rows goes.rows.0 (option_map Table longer.fault) none goes.header (subst P goes.rows.1 (read_placed rules ended bytes longer reads))))
