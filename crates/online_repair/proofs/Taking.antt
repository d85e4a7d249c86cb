-- What the header or a row does with the output.
use Rattle.std.proofs.Common.{◌≡◌, ◌&&◌, ℕ, Bool, true, false, List, [], ◌∷◌, ◌++◌, refl, sym, ap, ◌∙◌, subst, append_assoc, append-nil}
use Rattle.std.specs.Prelude.{Option, Some, None, Result, Ok, Err, is_none, option_map}
use Rattle.std.specs.Option.{option_or}
use Rattle.rule_file.specs.declared.rules.Rules.{Rules}
use Rattle.series_rows.specs.Header.{HeaderView}
use Rattle.series_rows.specs.Row.{RowView}
use Rattle.series_rows.specs.Texts.{header_text}
use Rattle.series_rows.specs.declared.fault.TableFault.{TableFault}
use Rattle.series_csv.specs.Read.{Read}
use Rattle.series_csv.specs.Feeds.{with_event}
use Rattle.series_csv.specs.Stays.{Continues}
use Rattle.series_csv.specs.declared.event.Event.TheVariants.{Header, Row}
use Rattle.series_csv.proofs.OneRead.{same_read}
use Rattle.online_repair.specs.Accepted.{Accepted, accept, refusal, unless_refused}
use Rattle.online_repair.specs.Feeds.{Appends, AppendsPart}
use Rattle.online_repair.specs.Keeping.{Accepts, AcceptsBy, Holds, IsNext, KeepsRows, Stops}
use Rattle.online_repair.specs.Output.{Output, Reads, leaving, output, output_of, output_with, texts}
use Rattle.online_repair.specs.StandsFor.{EngineKeeps}
use Rattle.online_repair.specs.Storing.{rows_text}
use Rattle.online_repair.specs.Streams.{MayTake, StopsAll, StopsBy, TakesEvent}
use Rattle.online_repair.specs.declared.engine.Engine.{Engine}
use Rattle.online_repair.specs.declared.fault.OnlineFault.{OnlineFault}
use Rattle.online_repair.specs.declared.fault.OnlineFault.TheVariants.{Memory, Table}
use Rattle.online_repair.proofs.FromFile.{header_first, read_placed, row_next}
use Rattle.online_repair.proofs.Grown.{Placed, leaving_grow}
use Rattle.online_repair.proofs.Longer.{accept_skip, goes_further, text_longer}
use Rattle.online_repair.proofs.Outputs.{accept_push, all_of, none_leaves}

-- ---- the header

abbrev pub read_as : Option HeaderView → List RowView → Option TableFault → Read
read_as header rows fault = record { header = header; rows = rows; fault = fault }

abbrev pub nothing : Read
nothing = record { header = None; rows = []; fault = None }

pub appends_part : (before now : Output) (old new : List ℕ) → Appends before now old new → AppendsPart before now old new
appends_part before now old new appends = record { added = appends.added; rest = []; output_is = appends.output_is ∙ sym (append-nil (before.text ++ appends.added)); text_is = appends.text_is }

header_none : (rules : Rules) (header : Option HeaderView) (rows : List RowView) (engine : Option Engine) → header ≡ None → EngineKeeps rules header rows engine → rows ≡ []
header_none rules None rows None e keeps = keeps
header_none rules None rows (Some engine) e keeps = absurd keeps
header_none rules (Some header) rows engine e keeps = absurd (let f : Some header ≡ None = e in let g : ⊥ = cc in g)

-- nothing was read before a header
pub is_nothing : (rules : Rules) (read : Read) (header : HeaderView) (engine : Option Engine) → MayTake rules read (Header header) engine → read ≡ nothing
is_nothing rules read header engine may =
    same_read read nothing (record { headers = may.is_new; rows = header_none rules read.header read.rows engine may.is_new may.keeps; faults = may.not_refused })

begun_nothing : (rules : Rules) (header : HeaderView) (engine : Engine) (old new : List ℕ) → KeepsRows rules header [] engine → new ≡ old ++ header_text rules header → TakesEvent rules nothing (Header header) (Ok tt) (Some engine) old new
begun_nothing rules header engine old new keeps text = ((keeps, refl), record { added = header_text rules header; output_is = append-nil (header_text rules header); text_is = text })

pub header_taken : (rules : Rules) (read : Read) (header : HeaderView) (engine : Option Engine) (begun : Engine) (old new : List ℕ) → MayTake rules read (Header header) engine → KeepsRows rules header [] begun → new ≡ old ++ header_text rules header → TakesEvent rules read (Header header) (Ok tt) (Some begun) old new
header_taken rules read header engine begun old new may keeps text =
    let T : Read → Type 0 = λ r. TakesEvent rules r (Header header) (Ok tt) (Some begun) old new in
    subst T (sym (is_nothing rules read header engine may)) (begun_nothing rules header begun old new keeps text)

nothing_stops : (rules : Rules) (after : Read) (fault : OnlineFault) (old new : List ℕ) → fault ≡ Memory → new ≡ old → StopsAll rules nothing after fault old new
nothing_stops rules after fault old new memory text = λ ended bytes longer reads goes. (
  λ other. absurd (other memory),
  λ is. record { added = []; rest = (output rules ended longer).text; output_is = refl; text_is = text ∙ sym (append-nil old) },
)

pub header_stops : (rules : Rules) (read : Read) (header : HeaderView) (engine new_engine : Option Engine) (fault : OnlineFault) (old new : List ℕ) → MayTake rules read (Header header) engine → fault ≡ Memory → new ≡ old → TakesEvent rules read (Header header) (Err fault) new_engine old new
header_stops rules read header engine new_engine fault old new may memory text =
    let T : Read → Type 0 = λ r. StopsAll rules r (with_event r (Header header)) fault old new in
    subst T (sym (is_nothing rules read header engine may)) (nothing_stops rules (with_event nothing (Header header)) fault old new memory text)

-- ---- a row that is refused

pub and_false : (a : Bool) → (a && false) ≡ false
and_false true = refl
and_false false = refl

-- the text stays, and the output has a fault
pub record IsStopped (rules : Rules) (header : HeaderView) (rows : List RowView) (fault : OnlineFault) (out : Output) : Type 0 where
  pub fault_is : out.fault ≡ Some fault
  pub text_is : out.text ≡ header_text rules header ++ texts rules header false [] rows

pub stopped_output : (rules : Rules) (header : HeaderView) (ended : Bool) (rows : List RowView) (fault : OnlineFault) → leaving rules header false 1 [] rows ≡ None → IsStopped rules header rows fault (output_of rules header ended (record { rows = rows; fault = Some fault }))
stopped_output rules header ended rows fault none =
    let B : Bool → Type 0 = λ all. IsStopped rules header rows fault (record { text = header_text rules header ++ texts rules header all [] rows; held = (output_of rules header ended (record { rows = rows; fault = Some fault })).held; fault = option_or (leaving rules header all 1 [] rows) (Some fault) }) in
    let here = subst B (sym (and_false ended)) (record { fault_is = ap (λ (o : Option OnlineFault). option_or o (Some fault)) none; text_is = refl }) in
    record { fault_is = here.fault_is; text_is = here.text_is }

refused_rows : (rules : Rules) (header : HeaderView) (rows : List RowView) (row : RowView) (more : List RowView) (last : Option OnlineFault) (fault : OnlineFault) → accept rules header [] rows None ≡ all_of rows → refusal rules header rows row ≡ Some fault
    → accept rules header [] ((rows ++ row ∷ []) ++ more) last ≡ record { rows = rows; fault = Some fault }
refused_rows rules header rows row more last fault none refused =
    ap (λ (rs : List RowView). accept rules header [] rs last) (append_assoc rows (row ∷ []) more)
    ∙ accept_skip rules header [] rows (row ∷ more) last none
    ∙ ap (λ (o : Option OnlineFault). unless_refused rows o (accept rules header (rows ++ row ∷ []) more last)) refused

-- of a file that goes on with these rows
abbrev pub Whole : Rules → HeaderView → Bool → List RowView → Option OnlineFault → Output
Whole rules header ended rows last = output_of rules header ended (accept rules header [] rows last)

abbrev pub so_far : Rules → HeaderView → List RowView → List ℕ
so_far rules header rows = header_text rules header ++ texts rules header false [] rows

pub row_refused : (rules : Rules) (header : HeaderView) (ended : Bool) (rows : List RowView) (row : RowView) (more : List RowView) (last : Option OnlineFault) (fault : OnlineFault) (engine : Engine) → KeepsRows rules header rows engine → accept rules header [] rows None ≡ all_of rows → refusal rules header rows row ≡ Some fault
    → IsStopped rules header rows fault (Whole rules header ended ((rows ++ row ∷ []) ++ more) last)
row_refused rules header ended rows row more last fault engine keeps none refused =
    let S : Accepted → Type 0 = λ a. IsStopped rules header rows fault (output_of rules header ended a) in
    subst S (sym (refused_rows rules header rows row more last fault none refused)) (stopped_output rules header ended rows fault (none_leaves rules header rows engine keeps))

-- ---- a row that makes one ready that leaves the range, or at which memory runs out

pub large_output : (rules : Rules) (header : HeaderView) (ended : Bool) (rows more : List RowView) (last : Option OnlineFault) (fault : OnlineFault) → accept rules header [] rows None ≡ all_of rows → Placed [] (rows ++ more) → leaving rules header false 1 [] rows ≡ Some fault
    → IsStopped rules header rows fault (Whole rules header ended (rows ++ more) last)
large_output rules header ended rows more last fault none placed leaves =
    let accepted = accept rules header [] (rows ++ more) last in
    let all = ended && is_none accepted.fault in
    let further = goes_further rules header rows more last none placed in
    let grow = leaving_grow rules header all 1 [] rows further.taken fault further.placed leaves in
    let L : List RowView → Type 0 = λ rs. option_or (leaving rules header all 1 [] rs) accepted.fault ≡ Some fault in
    let T : List RowView → Type 0 = λ rs. header_text rules header ++ texts rules header all [] rs ≡ so_far rules header rows in
    record {
      fault_is = subst L (sym further.accepted_are) (ap (λ (o : Option OnlineFault). option_or o accepted.fault) grow.leaves);
      text_is = subst T (sym further.accepted_are) (ap (λ (bytes : List ℕ). header_text rules header ++ bytes) grow.text);
    }

-- ---- the row

pub accepted_next : (rules : Rules) (header : HeaderView) (rows : List RowView) (row : RowView) → accept rules header [] rows None ≡ all_of rows → refusal rules header rows row ≡ None → accept rules header [] (rows ++ row ∷ []) None ≡ all_of (rows ++ row ∷ [])
accepted_next rules header rows row none accepts =
    accept_push rules header [] rows row None none ∙ ap (λ (o : Option OnlineFault). unless_refused rows o (record { rows = rows ++ row ∷ []; fault = None })) accepts

abbrev kept_read : HeaderView → List RowView → Read
kept_read header rows = record { header = Some header; rows = rows; fault = None }

-- the output of what was kept
pub kept_text : (rules : Rules) (header : HeaderView) (rows : List RowView) → accept rules header [] rows None ≡ all_of rows → (output rules false (kept_read header rows)).text ≡ so_far rules header rows
kept_text rules header rows none = ap (λ (a : Accepted). (output_of rules header false a).text) none

-- of a longer file the header is the same, and its rows go on
longer_is : (rules : Rules) (header : HeaderView) (rows : List RowView) (ended : Bool) (bytes : List ℕ) (longer : Read) (P : Output → Type 0) → Reads rules ended bytes longer → Continues (kept_read header rows) longer
    → ((more : List RowView) → Placed [] (rows ++ more) → P (Whole rules header ended (rows ++ more) (option_map Table longer.fault))) → P (output rules ended longer)
longer_is rules header rows ended bytes longer P reads goes holds =
    let H : Option HeaderView → Type 0 = λ h. P (output_with rules ended h longer.rows (option_map Table longer.fault)) in
    let R : List RowView → Type 0 = λ rs. P (Whole rules header ended rs (option_map Table longer.fault)) in
    let Q : List RowView → Type 0 = λ rs. Placed [] rs in
    subst H (sym (goes.header refl)) (subst R (sym goes.rows.1) (holds goes.rows.0 (subst Q goes.rows.1 (read_placed rules ended bytes longer reads))))

-- the text was not changed, and the output has a fault
stopped_same : (rules : Rules) (header : HeaderView) (rows : List RowView) (fault : OnlineFault) (now : Output) (old new : List ℕ) → accept rules header [] rows None ≡ all_of rows → IsStopped rules header rows fault now → new ≡ old → StopsBy fault (output rules false (kept_read header rows)) now old new
stopped_same rules header rows fault now old new none stopped text =
    let before = output rules false (kept_read header rows) in
    let appends : Appends before now old new = record { added = []; output_is = stopped.text_is ∙ sym (kept_text rules header rows none) ∙ sym (append-nil before.text); text_is = text ∙ sym (append-nil old) } in
    (λ other. (stopped.fault_is, appends), λ memory. appends_part before now old new appends)

row_refused_all : (rules : Rules) (header : HeaderView) (rows : List RowView) (row : RowView) (fault : OnlineFault) (engine : Engine) (old new : List ℕ) → KeepsRows rules header rows engine → accept rules header [] rows None ≡ all_of rows → refusal rules header rows row ≡ Some fault → new ≡ old
    → StopsAll rules (kept_read header rows) (kept_read header (rows ++ row ∷ [])) fault old new
row_refused_all rules header rows row fault engine old new keeps none refused text = λ ended bytes longer reads goes.
    longer_is rules header (rows ++ row ∷ []) ended bytes longer (λ out. StopsBy fault (output rules false (kept_read header rows)) out old new) reads goes
    (λ more placed. stopped_same rules header rows fault (Whole rules header ended ((rows ++ row ∷ []) ++ more) (option_map Table longer.fault)) old new none (row_refused rules header ended rows row more (option_map Table longer.fault) fault engine keeps none refused) text)

-- the text of the row, joined to what was there
added_text : (rules : Rules) (header : HeaderView) (rows longer : List RowView) (added : List ℕ) → texts rules header false [] longer ≡ texts rules header false [] rows ++ added → so_far rules header longer ≡ so_far rules header rows ++ added
added_text rules header rows longer added e =
    ap (λ (bytes : List ℕ). header_text rules header ++ bytes) e ∙ sym (append_assoc (header_text rules header) (texts rules header false [] rows) added)

part_text : (front added more rest whole now : List ℕ) → whole ≡ (front ++ added) ++ more → now ≡ whole ++ rest → now ≡ (front ++ added) ++ (more ++ rest)
part_text front added more rest whole now e f = f ∙ ap (λ (bytes : List ℕ). bytes ++ rest) e ∙ append_assoc (front ++ added) more rest

pub stops_texts : (front head added more short : List ℕ) → short ≡ (head ++ added) ++ more → front ++ short ≡ ((front ++ head) ++ added) ++ more
stops_texts front head added more short e =
    ap (λ (bytes : List ℕ). front ++ bytes) e ∙ sym (append_assoc front (head ++ added) more) ∙ ap (λ (bytes : List ℕ). bytes ++ more) (sym (append_assoc front head added))

row_stops : (rules : Rules) (header : HeaderView) (rows : List RowView) (row : RowView) (fault : OnlineFault) (now : Output) (ended : Bool) (more : List RowView) (last : Option OnlineFault) (old new : List ℕ) → accept rules header [] rows None ≡ all_of rows → accept rules header [] (rows ++ row ∷ []) None ≡ all_of (rows ++ row ∷ [])
    → Stops rules header rows row fault old new → Placed [] ((rows ++ row ∷ []) ++ more) → now ≡ Whole rules header ended ((rows ++ row ∷ []) ++ more) last → StopsBy fault (output rules false (kept_read header rows)) now old new
row_stops rules header rows row fault now ended more last old new none next stops placed is =
    let before = output rules false (kept_read header rows) in
    let longer = rows ++ row ∷ [] in
    let whole = stops_texts (header_text rules header) (texts rules header false [] rows) stops.added stops.more (texts rules header false [] longer) stops.texts_are in
    let K : List ℕ → Type 0 = λ front. so_far rules header longer ≡ (front ++ stops.added) ++ stops.more in
    let from_before = subst K (sym (kept_text rules header rows none)) whole in (
      λ other.
          let found = stops.refused other in
          let large = large_output rules header ended longer more last fault next placed found.1 in
          let text = ap (λ (o : Output). o.text) is ∙ large.text_is ∙ from_before ∙ ap (λ (bytes : List ℕ). (before.text ++ stops.added) ++ bytes) found.0 ∙ append-nil (before.text ++ stops.added) in
          (ap (λ (o : Output). o.fault) is ∙ large.fault_is, record { added = stops.added; output_is = text; text_is = stops.text_is }),
      λ memory.
          let begins = text_longer rules header ended longer more last next placed in
          record {
            added = stops.added;
            rest = stops.more ++ begins.rest;
            output_is = part_text before.text stops.added stops.more begins.rest (so_far rules header longer) now.text from_before (ap (λ (o : Output). o.text) is ∙ begins.is);
            text_is = stops.text_is;
          },
    )

row_stops_all : (rules : Rules) (header : HeaderView) (rows : List RowView) (row : RowView) (fault : OnlineFault) (old new : List ℕ) → accept rules header [] rows None ≡ all_of rows → accept rules header [] (rows ++ row ∷ []) None ≡ all_of (rows ++ row ∷ []) → Stops rules header rows row fault old new
    → StopsAll rules (kept_read header rows) (kept_read header (rows ++ row ∷ [])) fault old new
row_stops_all rules header rows row fault old new none next stops = λ ended bytes longer reads goes.
    longer_is rules header (rows ++ row ∷ []) ended bytes longer (λ out. StopsBy fault (output rules false (kept_read header rows)) out old new) reads goes
    (λ more placed. row_stops rules header rows row fault (Whole rules header ended ((rows ++ row ∷ []) ++ more) (option_map Table longer.fault)) ended more (option_map Table longer.fault) old new none next stops placed refl)

row_holds : (rules : Rules) (header : HeaderView) (rows before due rest : List RowView) (row : RowView) (result : Result (Unit {0}) OnlineFault) (new_engine : Engine) (old new : List ℕ) → accept rules header [] rows None ≡ all_of rows → refusal rules header rows row ≡ None → Holds rules header rows before due rest row result new_engine old new
    → TakesEvent rules (kept_read header rows) (Row row) result (Some new_engine) old new
row_holds rules header rows before due rest row (Ok done) new_engine old new none accepts holds =
    let next = accepted_next rules header rows row none accepts in
    let added = rows_text rules header before due rest in
    let text = kept_text rules header (rows ++ row ∷ []) next ∙ added_text rules header rows (rows ++ row ∷ []) added holds.1.texts_are ∙ ap (λ (bytes : List ℕ). bytes ++ added) (sym (kept_text rules header rows none)) in
    ((holds.0, next), record { added = added; output_is = text; text_is = holds.1.text_is })
row_holds rules header rows before due rest row (Err fault) new_engine old new none accepts holds =
    row_stops_all rules header rows row fault old new none (accepted_next rules header rows row none accepts) holds

row_by : (rules : Rules) (header : HeaderView) (rows before due rest : List RowView) (row : RowView) (result : Result (Unit {0}) OnlineFault) (engine new_engine : Engine) (old new : List ℕ) (o : Option OnlineFault) → KeepsRows rules header rows engine → accept rules header [] rows None ≡ all_of rows → refusal rules header rows row ≡ o
    → AcceptsBy o rules header rows before due rest row result new_engine old new → TakesEvent rules (kept_read header rows) (Row row) result (Some new_engine) old new
row_by rules header rows before due rest row result engine new_engine old new (Some fault) keeps none refused accepts =
    let T : Result (Unit {0}) OnlineFault → Type 0 = λ r. TakesEvent rules (kept_read header rows) (Row row) r (Some new_engine) old new in
    subst T (sym accepts.0) (row_refused_all rules header rows row fault engine old new keeps none refused accepts.1)
row_by rules header rows before due rest row result engine new_engine old new None keeps none refused accepts =
    row_holds rules header rows before due rest row result new_engine old new none refused accepts

-- by the engine's contract
abbrev pub AcceptsAll : Rules → RowView → Result (Unit {0}) OnlineFault → Engine → Engine → List ℕ → List ℕ → Type 0
AcceptsAll rules row result engine new_engine old new =
    (header : HeaderView) (accepted : List RowView) (keeps : KeepsRows rules header accepted engine) → IsNext accepted row → Accepts rules header accepted row result engine keeps new_engine old new

row_with : (rules : Rules) (header : Option HeaderView) (rows : List RowView) (fault : Option TableFault) (row : RowView) (result : Result (Unit {0}) OnlineFault) (engine new_engine : Engine) (old new : List ℕ) → fault ≡ None → EngineKeeps rules header rows (Some engine) → IsNext rows row → AcceptsAll rules row result engine new_engine old new
    → TakesEvent rules (read_as header rows fault) (Row row) result (Some new_engine) old new
row_with rules None rows fault row result engine new_engine old new e keeps next accepts = absurd keeps
row_with rules (Some header) rows fault row result engine new_engine old new e keeps next accepts =
    let T : Option TableFault → Type 0 = λ f. TakesEvent rules (read_as (Some header) rows f) (Row row) result (Some new_engine) old new in
    subst T (sym e) (row_by rules header rows _ _ _ row result engine new_engine old new (refusal rules header rows row) keeps.0 keeps.1 refl (accepts header rows keeps.0 next))

pub row_taken : (rules : Rules) (read : Read) (row : RowView) (result : Result (Unit {0}) OnlineFault) (engine new_engine : Engine) (old new : List ℕ) → MayTake rules read (Row row) (Some engine) → AcceptsAll rules row result engine new_engine old new
    → TakesEvent rules read (Row row) result (Some new_engine) old new
row_taken rules read row result engine new_engine old new may accepts =
    row_with rules read.header read.rows read.fault row result engine new_engine old new may.not_refused may.keeps (row_next rules may.ended may.bytes read row may.reads) accepts

-- what the engine needs to accept it
pub record AcceptsRow (rules : Rules) (rows : List RowView) (engine : Engine) : Type 0 where
  pub header : HeaderView
  pub keeps : KeepsRows rules header rows engine

pub kept_header : (rules : Rules) (header : Option HeaderView) (rows : List RowView) (engine : Engine) → EngineKeeps rules header rows (Some engine) → AcceptsRow rules rows engine
kept_header rules None rows engine keeps = absurd keeps
kept_header rules (Some header) rows engine keeps = record { header = header; keeps = keeps.0 }

no_row_by : (rules : Rules) (header : Option HeaderView) (rows : List RowView) (fault : Option TableFault) (row : RowView) (ended : Bool) (bytes : List ℕ) → EngineKeeps rules header rows None → Reads rules ended bytes (with_event (read_as header rows fault) (Row row)) → ⊥
no_row_by rules None rows fault row ended bytes keeps reads = header_first rules ended bytes rows row fault reads
no_row_by rules (Some header) rows fault row ended bytes keeps reads = keeps

-- no row comes before the header
pub no_row : (rules : Rules) (read : Read) (row : RowView) → MayTake rules read (Row row) None → ⊥
no_row rules read row may = no_row_by rules read.header read.rows read.fault row may.ended may.bytes may.keeps may.reads
