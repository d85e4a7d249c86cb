-- A file has an output, and one only; and what is refused at a front of it is refused whatever follows.
use Rattle.std.proofs.Common.{◌≡◌, ◌&&◌, ℕ, Bool, true, false, cond, List, [], ◌∷◌, ◌++◌, refl, sym, ap, ◌∙◌, subst, append_assoc, append-nil}
use Rattle.std.specs.Prelude.{IsSome, Option, Some, None, is_none, option_map}
use Rattle.std.specs.Option.{option_or}
use Rattle.rule_file.specs.declared.rules.Rules.{Rules}
use Rattle.series_rows.specs.Header.{HeaderView}
use Rattle.series_rows.specs.Row.{RowView}
use Rattle.series_rows.specs.Texts.{header_text}
use Rattle.series_rows.specs.declared.fault.TableFault.{TableFault}
use Rattle.series_rows.specs.declared.limits.Limits.TheVariants.{Endless}
use Rattle.series_csv.specs.Read.{Read}
use Rattle.series_csv.specs.Stays.{Continues, FilesHaveAnswers, FilesHaveOneAnswer, ReadStays}
use Rattle.online_repair.specs.Accepted.{Accepted, accept, greatest_window, held, refusal, unless_refused}
use Rattle.online_repair.specs.Laws.{OutputsAreOne, OutputsExist, RefusalsStay}
use Rattle.online_repair.specs.Output.{IsOutput, Output, Reads, leaving, output, output_of, output_with, texts}
use Rattle.online_repair.specs.declared.fault.OnlineFault.{OnlineFault}
use Rattle.online_repair.specs.declared.fault.OnlineFault.TheVariants.{Table}
use Rattle.online_repair.proofs.FromFile.{read_placed}
use Rattle.online_repair.proofs.Grown.{Placed}
use Rattle.online_repair.proofs.Outputs.{all_of}
use Rattle.online_repair.proofs.Pieces.{same_output}
use Rattle.online_repair.proofs.Taking.{and_false, kept_text, large_output}

pub outputs_are_one : FilesHaveOneAnswer → OutputsAreOne
outputs_are_one one = λ rules ended bytes first other is_first is_other.
    is_first.is ∙ sym (same_output one rules ended bytes is_first.read other is_first.reads is_other)

some_read : FilesHaveAnswers → (rules : Rules) (ended : Bool) (bytes : List ℕ) → (read : Read) × Reads rules ended bytes read
some_read files rules true bytes = (files rules Endless bytes).ended
some_read files rules false bytes = (files rules Endless bytes).so_far

pub outputs_exist : FilesHaveAnswers → OutputsExist
outputs_exist files = λ rules ended bytes.
    let found = some_read files rules ended bytes in
    (output rules ended found.0, record { read = found.0; reads = found.1; is = refl })

-- ---- which rows are accepted

true_false : true ≡ false → ⊥
true_false e = cc

last_by : (before : List RowView) (o : Option OnlineFault) (others : Accepted) → is_none others.fault ≡ false → is_none (unless_refused before o others).fault ≡ false
last_by before None others e = e
last_by before (Some refused) others e = refl

-- where a fault comes after all rows, there is one
accept_last : (rules : Rules) (header : HeaderView) (before rows : List RowView) (last : OnlineFault) → is_none (accept rules header before rows (Some last)).fault ≡ false
accept_last rules header before [] last = refl
accept_last rules header before (row ∷ rows) last =
    last_by before (refusal rules header before row) (accept rules header (before ++ row ∷ []) rows (Some last)) (accept_last rules header (before ++ row ∷ []) rows last)

stays_by : (before : List RowView) (o : Option OnlineFault) (short longer : Accepted) → (is_none short.fault ≡ false → longer ≡ short) → is_none (unless_refused before o short).fault ≡ false → unless_refused before o longer ≡ unless_refused before o short
stays_by before None short longer rest e = rest e
stays_by before (Some refused) short longer rest e = refl

-- after a row that is refused, more rows change nothing
accept_stays : (rules : Rules) (header : HeaderView) (before rows more : List RowView) (last : Option OnlineFault) → is_none (accept rules header before rows None).fault ≡ false → accept rules header before (rows ++ more) last ≡ accept rules header before rows None
accept_stays rules header before [] more last e = absurd (true_false e)
accept_stays rules header before (row ∷ rows) more last e =
    let next = before ++ row ∷ [] in
    stays_by before (refusal rules header before row) (accept rules header next rows None) (accept rules header next (rows ++ more) last) (accept_stays rules header next rows more last) e

whole_by : (before : List RowView) (row : RowView) (rows : List RowView) (o : Option OnlineFault) (others : Accepted) → (is_none others.fault ≡ true → others ≡ all_of ((before ++ row ∷ []) ++ rows)) → is_none (unless_refused before o others).fault ≡ true → unless_refused before o others ≡ all_of (before ++ row ∷ rows)
whole_by before row rows None others rest e = rest e ∙ ap all_of (append_assoc before (row ∷ []) rows)
whole_by before row rows (Some refused) others rest e = absurd (true_false (sym e))

-- where no row is refused, all are accepted
accept_whole : (rules : Rules) (header : HeaderView) (before rows : List RowView) → is_none (accept rules header before rows None).fault ≡ true → accept rules header before rows None ≡ all_of (before ++ rows)
accept_whole rules header before [] e = ap all_of (sym (append-nil before))
accept_whole rules header before (row ∷ rows) e =
    whole_by before row rows (refusal rules header before row) (accept rules header (before ++ row ∷ []) rows None) (accept_whole rules header (before ++ row ∷ []) rows) e

-- ---- the output

-- it has this fault, and the same text
abbrev Remains : Output → Output → OnlineFault → Type 0
Remains out now fault = (now.fault ≡ Some fault) × (now.text ≡ out.text)

same_remains : (out now : Output) (fault : OnlineFault) → now ≡ out → out.fault ≡ Some fault → Remains out now fault
same_remains out now fault e is = (ap (λ (o : Output). o.fault) e ∙ is, ap (λ (o : Output). o.text) e)

abbrev by_all : Rules → HeaderView → Accepted → Bool → Output
by_all rules header accepted all = record {
  text = header_text rules header ++ texts rules header all [] accepted.rows;
  held = cond all [] (held (greatest_window rules.speeds) accepted.rows);
  fault = option_or (leaving rules header all 1 [] accepted.rows) accepted.fault;
}

-- where something was refused, the end of the file changes nothing
refused_ended : (rules : Rules) (header : HeaderView) (ended : Bool) (accepted : Accepted) → is_none accepted.fault ≡ false → output_of rules header ended accepted ≡ output_of rules header false accepted
refused_ended rules header ended accepted e =
    ap (by_all rules header accepted) (ap (λ (b : Bool). ended && b) e ∙ and_false ended)

no_fault : (o : Option OnlineFault) → option_or o None ≡ o
no_fault None = refl
no_fault (Some fault) = refl

rows_by : (rules : Rules) (header : HeaderView) (ended : Bool) (rows later : List RowView) (last : Option OnlineFault) (fault : OnlineFault) (none : Bool) → is_none (accept rules header [] rows None).fault ≡ none → Placed [] (rows ++ later) → (output_of rules header false (accept rules header [] rows None)).fault ≡ Some fault
    → Remains (output_of rules header false (accept rules header [] rows None)) (output_of rules header ended (accept rules header [] (rows ++ later) last)) fault
rows_by rules header ended rows later last fault false e placed is =
    let accepted = accept rules header [] rows None in
    same_remains (output_of rules header false accepted) (output_of rules header ended (accept rules header [] (rows ++ later) last)) fault
    (ap (output_of rules header ended) (accept_stays rules header [] rows later last e) ∙ refused_ended rules header ended accepted e) is
rows_by rules header ended rows later last fault true e placed is =
    let whole = accept_whole rules header [] rows e in
    let F : Accepted → Type 0 = λ a. (output_of rules header false a).fault ≡ Some fault in
    let leaves = sym (no_fault (leaving rules header false 1 [] rows)) ∙ subst F whole is in
    let large = large_output rules header ended rows later last fault whole placed leaves in
    (large.fault_is, large.text_is ∙ sym (kept_text rules header rows whole))

header_by : (rules : Rules) (ended : Bool) (header longer : Option HeaderView) (rows later : List RowView) (last : Option OnlineFault) (fault : OnlineFault) → (IsSome header → longer ≡ header) → Placed [] (rows ++ later) → (output_with rules false header rows None).fault ≡ Some fault
    → Remains (output_with rules false header rows None) (output_with rules ended longer (rows ++ later) last) fault
header_by rules ended None longer rows later last fault same placed is = absurd (let none : None ≡ Some fault = is in let wrong : ⊥ = cc in wrong)
header_by rules ended (Some header) longer rows later last fault same placed is =
    let H : Option HeaderView → Type 0 = λ h. Remains (output_with rules false (Some header) rows None) (output_with rules ended h (rows ++ later) last) fault in
    subst H (sym (same refl)) (rows_by rules header ended rows later last fault (is_none (accept rules header [] rows None).fault) refl placed is)

-- ---- the file

table_ended : (rules : Rules) (ended : Bool) (header : Option HeaderView) (rows : List RowView) (last : OnlineFault) → output_with rules ended header rows (Some last) ≡ output_with rules false header rows (Some last)
table_ended rules ended None rows last = refl
table_ended rules ended (Some header) rows last = refused_ended rules header ended (accept rules header [] rows (Some last)) (accept_last rules header [] rows last)

continues : ReadStays → (rules : Rules) (ended : Bool) (front rest : List ℕ) (read longer : Read) → Reads rules false front read → Reads rules ended (front ++ rest) longer → Continues read longer
continues stay rules false front rest read longer reads more = (stay rules Endless front rest read reads).so_far longer more
continues stay rules true front rest read longer reads more = (stay rules Endless front rest read reads).ended longer more

refused_reads : ReadStays → (rules : Rules) (ended : Bool) (front rest : List ℕ) (read : Read) → Reads rules false front read → IsSome read.fault → Reads rules ended (front ++ rest) read
refused_reads stay rules false front rest read reads refused = ((stay rules Endless front rest read reads).refused refused).0
refused_reads stay rules true front rest read reads refused = ((stay rules Endless front rest read reads).refused refused).1

file_by : FilesHaveOneAnswer → ReadStays → (rules : Rules) (ended : Bool) (front rest : List ℕ) (read : Read) (now : Output) (fault : OnlineFault) (found : Option TableFault) → read.fault ≡ found → Reads rules false front read → (output rules false read).fault ≡ Some fault → IsOutput rules ended (front ++ rest) now
    → Remains (output rules false read) now fault
file_by one stay rules ended front rest read now fault (Some table) e reads is is_now =
    let S : Option TableFault → Type 0 = λ f. IsSome f in
    let T : Option TableFault → Type 0 = λ f. output_with rules ended read.header read.rows (option_map Table f) ≡ output_with rules false read.header read.rows (option_map Table f) in
    let again = refused_reads stay rules ended front rest read reads (subst S (sym e) refl) in
    same_remains (output rules false read) now fault
    (same_output one rules ended (front ++ rest) read now again is_now ∙ subst T (sym e) (table_ended rules ended read.header read.rows (Table table))) is
file_by one stay rules ended front rest read now fault None e reads is is_now =
    let goes = continues stay rules ended front rest read is_now.read reads is_now.reads in
    let F : Option TableFault → Type 0 = λ f. (output_with rules false read.header read.rows (option_map Table f)).fault ≡ Some fault in
    let P : List RowView → Type 0 = λ rs. Placed [] rs in
    let O : Option TableFault → Type 0 = λ f. Remains (output_with rules false read.header read.rows (option_map Table f)) now fault in
    let R : List RowView → Type 0 = λ rs. Remains (output_with rules false read.header read.rows None) (output_with rules ended is_now.read.header rs (option_map Table is_now.read.fault)) fault in
    let N : Output → Type 0 = λ o. Remains (output_with rules false read.header read.rows None) o fault in
    let placed = subst P goes.rows.1 (read_placed rules ended (front ++ rest) is_now.read is_now.reads) in
    let remains = header_by rules ended read.header is_now.read.header read.rows goes.rows.0 (option_map Table is_now.read.fault) fault goes.header placed (subst F e is) in
    subst O (sym e) (subst N (sym is_now.is) (subst R (sym goes.rows.1) remains))

pub refusals_stay : FilesHaveOneAnswer → ReadStays → RefusalsStay
refusals_stay one stay = λ rules ended front rest out now fault is_out is is_now.
    let F : Output → Type 0 = λ o. o.fault ≡ Some fault in
    let O : Output → Type 0 = λ o. Remains o now fault in
    subst O (sym is_out.is) (file_by one stay rules ended front rest is_out.read now fault is_out.read.fault refl is_out.reads (subst F is_out.is is) is_now)
