-- What is answered to the end of a file.
use Rattle.std.proofs.Common.{◌≡◌, ℕ, true, false, List, [], ◌++◌, refl, sym, ap, ◌∙◌, subst, append_assoc, append-nil}
use Rattle.std.specs.Prelude.{Option, Some, None, Result, Ok, Err, option_map}
use Rattle.std.specs.Option.{option_or}
use Rattle.rule_file.specs.declared.rules.Rules.{Rules}
use Rattle.series_rows.specs.Header.{HeaderView}
use Rattle.series_rows.specs.Row.{RowView}
use Rattle.series_rows.specs.Texts.{header_text}
use Rattle.series_rows.specs.declared.fault.TableFault.{TableFault}
use Rattle.series_rows.specs.declared.limits.Limits.TheVariants.{Endless}
use Rattle.series_csv.specs.Feeds as reader
use Rattle.series_csv.specs.Feeds.{refused_by, with_event}
use Rattle.series_csv.specs.File.{ReadsEnded}
use Rattle.series_csv.specs.Read.{Read}
use Rattle.series_csv.specs.Stays.{FilesHaveOneAnswer, ReadStays}
use Rattle.series_csv.specs.declared.event.Event.{Event}
use Rattle.online_repair.specs.Accepted.{Accepted, accept}
use Rattle.online_repair.specs.Faults.{fault_of}
use Rattle.online_repair.specs.Feeds.{Answers, Appends, AppendsPart}
use Rattle.online_repair.specs.Keeping.{Ends, HasKept, KeepsRows}
use Rattle.online_repair.specs.Output.{IsOutput, Output, leaving, output, output_of, output_with, texts}
use Rattle.online_repair.specs.StandsFor.{EngineEnded, EngineKeeps, GoesOn}
use Rattle.online_repair.specs.Streams.{Finishes, HasReadLast, MayTake, ReadsLast, StopsAll, StopsBy, TakesEvent}
use Rattle.online_repair.specs.declared.engine.Engine.{Engine}
use Rattle.online_repair.specs.declared.fault.OnlineFault.{OnlineFault}
use Rattle.online_repair.specs.declared.fault.OnlineFault.TheVariants.{Table}
use Rattle.online_repair.specs.declared.stream.Stream.{Stream}
use Rattle.online_repair.proofs.FromFile.{ended_header}
use Rattle.online_repair.proofs.Joined.{appends_none, appends_nothing, join_appends, join_part}
use Rattle.online_repair.proofs.Outputs.{all_of}
use Rattle.online_repair.proofs.Pieces.{IsRefused, event_fault, goes_same, grown_output, is_refused, not_memory, refused_appends, same_output}
use Rattle.online_repair.proofs.Taking.{so_far, stops_texts}

-- ---- the end is an empty piece

at_end : (rules : Rules) (bytes : List ℕ) (out : Output) → IsOutput rules true (bytes ++ []) out → IsOutput rules true bytes out
at_end rules bytes out is =
    let I : List ℕ → Type 0 = λ bs. IsOutput rules true bs out in
    subst I (append-nil bytes) is

from_end : (rules : Rules) (bytes : List ℕ) (out : Output) → IsOutput rules true bytes out → IsOutput rules true (bytes ++ []) out
from_end rules bytes out is =
    let I : List ℕ → Type 0 = λ bs. IsOutput rules true bs out in
    subst I (sym (append-nil bytes)) is

-- the output at the end has this fault, and the text of it is appended, or a part
pub end_stops : FilesHaveOneAnswer → (rules : Rules) (bytes : List ℕ) (read : Read) (fault : OnlineFault) (old new : List ℕ) → ReadsEnded rules Endless bytes read → ((before : Output) → IsOutput rules false bytes before → StopsBy fault before (output rules true read) old new)
    → Answers rules true bytes [] (Err fault) old new
end_stops one rules bytes read fault old new reads stops =
    let later : (before out : Output) → IsOutput rules false bytes before → IsOutput rules true (bytes ++ []) out → StopsBy fault before out old new =
    λ before out is is_out.
    let S : Output → Type 0 = λ o. StopsBy fault before o old new in
    subst S (sym (same_output one rules true bytes read out reads (at_end rules bytes out is_out))) (stops before is) in (
      λ other before is.
          let at = (stops before is).0 other in
          record {
            front = [];
            rest = [];
            piece_is = refl;
            at_front = record { now = output rules true read; is_output = from_end rules bytes (output rules true read) (record { read = read; reads = reads; is = refl }); fault_is = at.0; appends = at.1 };
            stays = λ out is_out. (later before out is is_out).0 other;
          },
      λ memory before out is is_out. (later before out is is_out).1 memory,
      λ memory before is. record {
        front = [];
        rest = [];
        piece_is = refl;
        over = true;
        over_is = λ ended. (refl, refl);
        now = output rules true read;
        is_output = from_end rules bytes (output rules true read) (record { read = read; reads = reads; is = refl });
        part = (stops before is).1 memory;
      },
    )

-- ---- the last record

pub last_none : FilesHaveOneAnswer → (rules : Rules) (bytes : List ℕ) (old new : Stream) (text : List ℕ) → (goes : GoesOn old rules bytes) → reader.Ends rules Endless bytes (Ok None) → new.rules ≡ old.rules → new.engine ≡ old.engine → HasReadLast rules bytes new text text
last_none one rules bytes old new text goes ends same_rules same_engine =
    let E : Option Engine → Type 0 = λ e. EngineKeeps rules goes.read.header goes.read.rows e in
    record {
      rules_are = ap (λ r. r.now) same_rules ∙ goes.rules_are;
      read = goes.read;
      reads = ends goes.read goes.reads;
      not_refused = goes.not_refused;
      keeps = subst E (sym same_engine) goes.engine;
      appends = λ before is.
          let A : Output → Type 0 = λ o. Appends before o text text in
          subst A (same_output one rules false bytes goes.read before goes.reads is) (appends_none before text);
    }

pub last_may : (rules : Rules) (bytes : List ℕ) (event : Event) (old : Stream) → (goes : GoesOn old rules bytes) → reader.Ends rules Endless bytes (Ok (Some event)) → MayTake rules goes.read event old.engine
last_may rules bytes event old goes ends =
    let last = ends goes.read goes.reads in
    record { not_refused = goes.not_refused; keeps = goes.engine; is_new = last.0; ended = true; bytes = bytes; reads = last.1 }

pub last_event : FilesHaveOneAnswer → (rules : Rules) (bytes : List ℕ) (event : Event) (old new : Stream) (text now : List ℕ) → (goes : GoesOn old rules bytes) → reader.Ends rules Endless bytes (Ok (Some event)) → new.rules ≡ old.rules → TakesEvent rules goes.read event (Ok tt) new.engine text now
    → HasReadLast rules bytes new text now
last_event one rules bytes event old new text now goes ends same_rules takes =
    let read = with_event goes.read event in
    record {
      rules_are = ap (λ r. r.now) same_rules ∙ goes.rules_are;
      read = read;
      reads = (ends goes.read goes.reads).1;
      not_refused = event_fault goes.read event ∙ goes.not_refused;
      keeps = takes.0;
      appends = λ before is.
          let A : Output → Type 0 = λ o. Appends o (output rules false read) text now in
          subst A (sym (same_output one rules false bytes goes.read before goes.reads is)) takes.1;
    }

pub last_stops : FilesHaveOneAnswer → (rules : Rules) (bytes : List ℕ) (event : Event) (old : Stream) (fault : OnlineFault) (text now : List ℕ) → (goes : GoesOn old rules bytes) → reader.Ends rules Endless bytes (Ok (Some event)) → StopsAll rules goes.read (with_event goes.read event) fault text now
    → Answers rules true bytes [] (Err fault) text now
last_stops one rules bytes event old fault text now goes ends stops =
    let read = with_event goes.read event in
    let reads = (ends goes.read goes.reads).1 in
    end_stops one rules bytes read fault text now reads (λ before is.
    let S : Output → Type 0 = λ o. StopsBy fault o (output rules true read) text now in
    subst S (sym (same_output one rules false bytes goes.read before goes.reads is)) (stops true bytes read reads (goes_same read)))

-- the answer to the event
pub last_taken : FilesHaveOneAnswer → (rules : Rules) (bytes : List ℕ) (event : Event) (old new : Stream) (result : Result (Unit {0}) OnlineFault) (text now : List ℕ) → (goes : GoesOn old rules bytes) → reader.Ends rules Endless bytes (Ok (Some event)) → new.rules ≡ old.rules → TakesEvent rules goes.read event result new.engine text now
    → ReadsLast rules bytes result new text now
last_taken one rules bytes event old new (Ok done) text now goes ends same takes = last_event one rules bytes event old new text now goes ends same takes
last_taken one rules bytes event old new (Err fault) text now goes ends same takes = last_stops one rules bytes event old fault text now goes ends takes

pub last_refused : FilesHaveOneAnswer → ReadStays → (rules : Rules) (bytes : List ℕ) (fault : TableFault) (old : Stream) (text : List ℕ) → (goes : GoesOn old rules bytes) → reader.Ends rules Endless bytes (Err fault) → Answers rules true bytes [] (Err (fault_of fault)) text text
last_refused one stay rules bytes fault old text goes ends =
    let read = refused_by goes.read fault in
    let first : (before : Output) → IsOutput rules false bytes before → before ≡ output rules false goes.read = λ before is. same_output one rules false bytes goes.read before goes.reads is in
    let refused = is_refused rules true goes.read old.engine fault goes.not_refused goes.engine in (
      λ other before is.
          let reads = ends (not_memory fault other) goes.read goes.reads in
          let at = refused_appends rules goes.read fault before (output rules true read) text (first before is) refused other in
          let I : Output → Type 0 = λ o. IsRefused rules goes.read fault o in
          record {
            front = [];
            rest = [];
            piece_is = refl;
            at_front = record { now = output rules true read; is_output = from_end rules bytes (output rules true read) (record { read = read; reads = reads; is = refl }); fault_is = at.0; appends = at.1 };
            stays = λ out is_out. refused_appends rules goes.read fault before out text (first before is) (subst I (sym (same_output one rules true bytes read out reads (at_end rules bytes out is_out))) refused) other;
          },
      λ memory before out is is_out.
          grown_output rules true (bytes ++ []) goes.read is_out.read old.engine before out text goes.not_refused goes.engine is_out.reads ((stay rules Endless bytes [] goes.read goes.reads).ended is_out.read is_out.reads) (first before is) is_out.is,
      λ memory before is. appends_nothing rules true bytes [] text before is,
    )

-- ---- all rows are written

-- of what was read to the end there is a header, and the engine keeps its rows
pub record IsAll (rules : Rules) (read : Read) (engine : Engine) : Type 0 where
  pub header : HeaderView
  pub header_is : read.header ≡ Some header
  pub keeps : KeepsRows rules header read.rows engine
  pub none_refused : accept rules header [] read.rows None ≡ all_of read.rows

all_by : (rules : Rules) (header found : Option HeaderView) (rows : List RowView) (read : Read) (engine : Engine) → read.header ≡ found → read.rows ≡ rows → EngineKeeps rules found rows (Some engine) → IsAll rules read engine
all_by rules header None rows read engine e f keeps = absurd keeps
all_by rules header (Some found) rows read engine e f keeps =
    let K : List RowView → Type 0 = λ rs. KeepsRows rules found rs engine in
    let N : List RowView → Type 0 = λ rs. accept rules found [] rs None ≡ all_of rs in
    record { header = found; header_is = e; keeps = subst K (sym f) keeps.0; none_refused = subst N (sym f) keeps.1 }

pub is_all : (rules : Rules) (read : Read) (engine : Engine) → EngineKeeps rules read.header read.rows (Some engine) → IsAll rules read engine
is_all rules read engine keeps = all_by rules read.header read.header read.rows read engine refl refl keeps

no_engine_by : (rules : Rules) (bytes : List ℕ) (header : Option HeaderView) (rows : List RowView) (fault : Option TableFault) → fault ≡ None → ReadsEnded rules Endless bytes (record { header = header; rows = rows; fault = fault }) → EngineKeeps rules header rows None → ⊥
no_engine_by rules bytes None rows fault e reads keeps =
    let R : Option TableFault → Type 0 = λ f. ReadsEnded rules Endless bytes (record { header = None; rows = rows; fault = f }) in
    ended_header rules bytes rows (subst R e reads)
no_engine_by rules bytes (Some header) rows fault e reads keeps = keeps

pub no_engine : (rules : Rules) (bytes : List ℕ) (read : Read) → read.fault ≡ None → ReadsEnded rules Endless bytes read → EngineKeeps rules read.header read.rows None → ⊥
no_engine rules bytes read e reads keeps = no_engine_by rules bytes read.header read.rows read.fault e reads keeps

-- the output at the end, where nothing is refused
abbrev last_output : Rules → HeaderView → List RowView → Output
last_output rules header rows = record { text = header_text rules header ++ texts rules header true [] rows; held = []; fault = option_or (leaving rules header true 1 [] rows) None }

output_all : (rules : Rules) (read : Read) (header : HeaderView) → read.header ≡ Some header → read.fault ≡ None → accept rules header [] read.rows None ≡ all_of read.rows → output rules true read ≡ last_output rules header read.rows
output_all rules read header e f none =
    ap (λ (h : Option HeaderView). output_with rules true h read.rows (option_map Table read.fault)) e
    ∙ ap (λ (o : Option TableFault). output_with rules true (Some header) read.rows (option_map Table o)) f
    ∙ ap (λ (a : Accepted). output_of rules header true a) none

output_kept : (rules : Rules) (read : Read) (header : HeaderView) → read.header ≡ Some header → read.fault ≡ None → accept rules header [] read.rows None ≡ all_of read.rows → (output rules false read).text ≡ so_far rules header read.rows
output_kept rules read header e f none =
    ap (λ (h : Option HeaderView). (output_with rules false h read.rows (option_map Table read.fault)).text) e
    ∙ ap (λ (o : Option TableFault). (output_with rules false (Some header) read.rows (option_map Table o)).text) f
    ∙ ap (λ (a : Accepted). (output_of rules header false a).text) none

ended_by : (rules : Rules) (found : Option HeaderView) (header : HeaderView) (rows : List RowView) (engine : Engine) → found ≡ Some header → EngineEnded rules (Some header) rows (Some engine) → EngineEnded rules found rows (Some engine)
ended_by rules found header rows engine e ended =
    let E : Option HeaderView → Type 0 = λ h. EngineEnded rules h rows (Some engine) in
    subst E (sym e) ended

closes : FilesHaveOneAnswer → (rules : Rules) (bytes : List ℕ) (middle new : Stream) (engine closed : Engine) (result : Result (Unit {0}) OnlineFault) (old text now : List ℕ) → (last : HasReadLast rules bytes middle old text) → (all : IsAll rules last.read engine) → new.engine ≡ Some closed → Ends rules all.header last.read.rows result closed text now
    → Finishes rules bytes result new old now
closes one rules bytes middle new engine closed (Ok done) old text now last all same ends =
    let E : Option Engine → Type 0 = λ e. EngineEnded rules last.read.header last.read.rows e in
    let out = output rules true last.read in
    let out_is = output_all rules last.read all.header all.header_is last.not_refused all.none_refused in
    let before_is = output_kept rules last.read all.header all.header_is last.not_refused all.none_refused in
    let text_is = ap (λ (o : Output). o.text) out_is
    ∙ ap (λ (bytes : List ℕ). header_text rules all.header ++ bytes) ends.texts_are
    ∙ sym (append_assoc (header_text rules all.header) (texts rules all.header false [] last.read.rows) ends.added)
    ∙ ap (λ (bytes : List ℕ). bytes ++ ends.added) (sym before_is) in
    let appends : Appends (output rules false last.read) out text now = record { added = ends.added; output_is = text_is; text_is = ends.text_is } in (
      record {
        read = last.read;
        reads = last.reads;
        not_refused = last.not_refused;
        engine = subst E (sym same) (ended_by rules last.read.header all.header last.read.rows closed all.header_is (ends.stands, ends.none_held, all.none_refused));
      },
      λ before is. record {
        now = out;
        is_output = from_end rules bytes out (record { read = last.read; reads = last.reads; is = refl });
        fault_is = ap (λ (o : Output). o.fault) out_is ∙ ap (λ (o : Option OnlineFault). option_or o None) ends.none_leaves;
        appends = join_appends before (output rules false last.read) out old text now (last.appends before is) appends;
      },
    )
closes one rules bytes middle new engine closed (Err fault) old text now last all same ends =
    let out = output rules true last.read in
    let first = output rules false last.read in
    let out_is = output_all rules last.read all.header all.header_is last.not_refused all.none_refused in
    let before_is = output_kept rules last.read all.header all.header_is last.not_refused all.none_refused in
    let whole = stops_texts (header_text rules all.header) (texts rules all.header false [] last.read.rows) ends.added ends.more (texts rules all.header true [] last.read.rows) ends.texts_are in
    let text_is = ap (λ (o : Output). o.text) out_is ∙ whole ∙ ap (λ (bytes : List ℕ). (bytes ++ ends.added) ++ ends.more) (sym before_is) in (
      tt,
      end_stops one rules bytes last.read fault old now last.reads (λ before is. (
        λ other.
            let found = ends.refused other in
            let appends : Appends first out text now = record { added = ends.added; output_is = text_is ∙ ap (λ (bytes : List ℕ). (first.text ++ ends.added) ++ bytes) found.0 ∙ append-nil (first.text ++ ends.added); text_is = ends.text_is } in
            (ap (λ (o : Output). o.fault) out_is ∙ ap (λ (o : Option OnlineFault). option_or o None) found.1, join_appends before first out old text now (last.appends before is) appends),
        λ memory.
            let part : AppendsPart first out text now = record { added = ends.added; rest = ends.more; output_is = text_is; text_is = ends.text_is } in
            join_part before first out old text now (last.appends before is) part,
      )),
    )

-- ---- by the stream's own rules

pub last_own : (rules : Rules) (bytes : List ℕ) (stream : Stream) (old text : List ℕ) → HasReadLast rules bytes stream old text → HasReadLast stream.rules.now bytes stream old text
last_own rules bytes stream old text last =
    let L : Rules → Type 0 = λ r. HasReadLast r bytes stream old text in
    subst L (sym last.rules_are) last

pub has_kept : (rules : Rules) (bytes : List ℕ) (stream : Stream) (engine : Engine) (old text : List ℕ) → HasReadLast rules bytes stream old text → stream.engine ≡ Some engine → HasKept stream.rules.now engine
has_kept rules bytes stream engine old text last same =
    let own = last_own rules bytes stream old text last in
    let E : Option Engine → Type 0 = λ e. EngineKeeps stream.rules.now own.read.header own.read.rows e in
    let all = is_all stream.rules.now own.read engine (subst E same own.keeps) in
    record { header = all.header; accepted = own.read.rows; keeps = all.keeps }

-- by the engine's contract
abbrev pub EndsAll : Rules → Result (Unit {0}) OnlineFault → Engine → Engine → List ℕ → List ℕ → Type 0
EndsAll rules result engine closed text now = (header : HeaderView) (accepted : List RowView) → KeepsRows rules header accepted engine → Ends rules header accepted result closed text now

pub closed : FilesHaveOneAnswer → (rules : Rules) (bytes : List ℕ) (middle new : Stream) (engine closed_engine : Engine) (result : Result (Unit {0}) OnlineFault) (old text now : List ℕ) → HasReadLast rules bytes middle old text → middle.engine ≡ Some engine → new.engine ≡ Some closed_engine → EndsAll middle.rules.now result engine closed_engine text now
    → Finishes rules bytes result new old now
closed one rules bytes middle new engine closed_engine result old text now last same closes_to ends =
    let own = last_own rules bytes middle old text last in
    let E : Option Engine → Type 0 = λ e. EngineKeeps middle.rules.now own.read.header own.read.rows e in
    let all = is_all middle.rules.now own.read engine (subst E same own.keeps) in
    let F : Rules → Type 0 = λ r. Finishes r bytes result new old now in
    subst F last.rules_are (closes one middle.rules.now bytes middle new engine closed_engine result old text now own all closes_to (ends all.header own.read.rows all.keeps))

pub never_closed : (rules : Rules) (bytes : List ℕ) (stream : Stream) (old text : List ℕ) → HasReadLast rules bytes stream old text → stream.engine ≡ None → ⊥
never_closed rules bytes stream old text last none =
    let E : Option Engine → Type 0 = λ e. EngineKeeps rules last.read.header last.read.rows e in
    no_engine rules bytes last.read last.not_refused last.reads (subst E none last.keeps)
