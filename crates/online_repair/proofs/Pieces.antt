-- What is answered to bytes of a piece, up to the end of a record.
use Rattle.std.proofs.Common.{◌≡◌, ℕ, Bool, true, false, List, [], ◌++◌, take, drop, refl, sym, ap, ◌∙◌, subst, append_assoc, append-nil}
use Rattle.std.specs.Prelude.{Option, Some, None, Ok, Err, option_map}
use Rattle.std.specs.Option.{option_or}
use Rattle.std.proofs.lemmas.List.{take-append-drop}
use Rattle.rule_file.specs.declared.rules.Rules.{Rules}
use Rattle.series_rows.specs.Faults.{of_memory}
use Rattle.series_rows.specs.Header.{HeaderView}
use Rattle.series_rows.specs.Row.{RowView}
use Rattle.series_rows.specs.declared.fault.TableCause.{TableCause}
use Rattle.series_rows.specs.declared.fault.TableCause.TheVariants as cause
use Rattle.series_rows.specs.declared.fault.TableFault.{TableFault}
use Rattle.series_rows.specs.declared.limits.Limits.TheVariants.{Endless}
use Rattle.series_csv.specs.Feeds as reader
use Rattle.series_csv.specs.Feeds.{refused_by, with_event}
use Rattle.series_csv.specs.File.{ReadsSoFar}
use Rattle.series_csv.specs.Read.{Read}
use Rattle.series_csv.specs.Stays.{Continues, FilesHaveOneAnswer, ReadStays}
use Rattle.series_csv.specs.declared.event.Event.{Event}
use Rattle.series_csv.specs.declared.event.Event.TheVariants.{Header, Row}
use Rattle.series_csv.specs.declared.reader.RowReader.{RowReader}
use Rattle.online_repair.specs.Accepted.{Accepted, accept}
use Rattle.online_repair.specs.Faults.{fault_by, fault_of}
use Rattle.online_repair.specs.Feeds.{Answers, Appends, AppendsPart}
use Rattle.online_repair.specs.Output.{IsOutput, Output, Reads, output, output_of, output_with}
use Rattle.online_repair.specs.StandsFor.{EngineKeeps, GoesOn}
use Rattle.online_repair.specs.Streams.{FeedsSome, MayTake, StopsAll, StopsBy, TakesEvent}
use Rattle.online_repair.specs.declared.engine.Engine.{Engine}
use Rattle.online_repair.specs.declared.fault.OnlineFault.{OnlineFault}
use Rattle.online_repair.specs.declared.fault.OnlineFault.TheVariants.{Memory, Table}
use Rattle.online_repair.specs.declared.stream.Stream.{Stream}
use Rattle.online_repair.proofs.Grown.{Begins}
use Rattle.online_repair.proofs.Joined.{appends_none, appends_nothing, never_over}
use Rattle.online_repair.proofs.Longer.{accept_skip, grown, kept_none_refused}
use Rattle.online_repair.proofs.Outputs.{none_leaves}
use Rattle.online_repair.proofs.Taking.{IsStopped, kept_text, stopped_output}

-- ---- a file has one output

pub same_output : FilesHaveOneAnswer → (rules : Rules) (ended : Bool) (bytes : List ℕ) (read : Read) (out : Output) → Reads rules ended bytes read → IsOutput rules ended bytes out → out ≡ output rules ended read
same_output one rules false bytes read out reads is = is.is ∙ ap (output rules false) ((one rules Endless bytes).so_far is.read read is.reads reads)
same_output one rules true bytes read out reads is = is.is ∙ ap (output rules true) ((one rules Endless bytes).ended is.read read is.reads reads)

-- ---- what was kept has no fault

kept_fault : (rules : Rules) (header : Option HeaderView) (rows : List RowView) (engine : Option Engine) → EngineKeeps rules header rows engine → (output_with rules false header rows None).fault ≡ None
kept_fault rules None rows engine keeps = refl
kept_fault rules (Some header) rows None keeps = absurd keeps
kept_fault rules (Some header) rows (Some engine) keeps =
    ap (λ (a : Accepted). (output_of rules header false a).fault) keeps.1 ∙ ap (λ (o : Option OnlineFault). option_or o None) (none_leaves rules header rows engine keeps.0)

pub read_fault : (rules : Rules) (read : Read) (engine : Option Engine) → read.fault ≡ None → EngineKeeps rules read.header read.rows engine → (output rules false read).fault ≡ None
read_fault rules read engine none keeps =
    ap (λ (f : Option TableFault). (output_with rules false read.header read.rows (option_map Table f)).fault) none ∙ kept_fault rules read.header read.rows engine keeps

pub event_fault : (read : Read) (event : Event) → (with_event read event).fault ≡ read.fault
event_fault read (Header header) = refl
event_fault read (Row row) = refl

pub goes_same : (read : Read) → Continues read read
goes_same read = record { header = λ some. refl; rows = ([], sym (append-nil read.rows)) }

-- ---- the rules

pub by_own_rules : (stream : Stream) (rules : Rules) (bytes : List ℕ) → GoesOn stream rules bytes → GoesOn stream stream.rules.now bytes
by_own_rules stream rules bytes goes =
    let G : Rules → Type 0 = λ r. GoesOn stream r bytes in
    subst G (sym goes.rules_are) goes

-- ---- nothing was added

pub fed_none : FilesHaveOneAnswer → (rules : Rules) (bytes rest : List ℕ) (count : ℕ) (old new : Stream) (text : List ℕ) → (goes : GoesOn old rules bytes) → reader.GoesOn rules Endless bytes (take count rest) new.reader → new.rules ≡ old.rules → new.engine ≡ old.engine
    → FeedsSome rules bytes rest (Ok count) new text text
fed_none one rules bytes rest count old new text goes added same_rules same_engine =
    let E : Option Engine → Type 0 = λ e. EngineKeeps rules goes.read.header goes.read.rows e in (
      record {
        rules_are = ap (λ r. r.now) same_rules ∙ goes.rules_are;
        read = goes.read;
        reads = added.same goes.read goes.reads;
        not_refused = goes.not_refused;
        reader = added.stands;
        engine = subst E (sym same_engine) goes.engine;
      },
      λ before is. record {
        now = before;
        is_output = record { read = is.read; reads = added.same is.read is.reads; is = is.is };
        fault_is = ap (λ (o : Output). o.fault) (same_output one rules false bytes goes.read before goes.reads is) ∙ read_fault rules goes.read old.engine goes.not_refused goes.engine;
        appends = appends_none before text;
      },
    )

-- ---- the header or a row

pub may_take : (rules : Rules) (bytes piece : List ℕ) (event : Event) (old : Stream) (new : RowReader) → (goes : GoesOn old rules bytes) → reader.Adds rules Endless bytes piece event new → MayTake rules goes.read event old.engine
may_take rules bytes piece event old new goes adds =
    let last = adds.at_last goes.read goes.reads in
    record { not_refused = goes.not_refused; keeps = goes.engine; is_new = last.0; ended = false; bytes = bytes ++ piece; reads = last.1 }

pub fed_event : FilesHaveOneAnswer → (rules : Rules) (bytes rest : List ℕ) (count : ℕ) (event : Event) (old new : Stream) (text now : List ℕ) → (goes : GoesOn old rules bytes) → reader.Adds rules Endless bytes (take count rest) event new.reader → new.rules ≡ old.rules → TakesEvent rules goes.read event (Ok tt) new.engine text now
    → FeedsSome rules bytes rest (Ok count) new text now
fed_event one rules bytes rest count event old new text now goes adds same_rules takes =
    let read = with_event goes.read event in
    let reads = (adds.at_last goes.read goes.reads).1 in
    let none = event_fault goes.read event ∙ goes.not_refused in
    let A : Output → Type 0 = λ before. Appends before (output rules false read) text now in (
      record {
        rules_are = ap (λ r. r.now) same_rules ∙ goes.rules_are;
        read = read;
        reads = reads;
        not_refused = none;
        reader = adds.stands;
        engine = takes.0;
      },
      λ before is. record {
        now = output rules false read;
        is_output = record { read = read; reads = reads; is = refl };
        fault_is = read_fault rules read new.engine none takes.0;
        appends = subst A (sym (same_output one rules false bytes goes.read before goes.reads is)) takes.1;
      },
    )

-- what was read goes on with the rest of a piece
goes_on : ReadStays → (rules : Rules) (bytes rest : List ℕ) (count : ℕ) (read longer : Read) → ReadsSoFar rules Endless (bytes ++ take count rest) read → ReadsSoFar rules Endless (bytes ++ rest) longer → Continues read longer
goes_on stay rules bytes rest count read longer reads more =
    let R : List ℕ → Type 0 = λ bs. ReadsSoFar rules Endless bs longer in
    let whole : (bytes ++ take count rest) ++ drop count rest ≡ bytes ++ rest = append_assoc bytes (take count rest) (drop count rest) ∙ ap (λ (bs : List ℕ). bytes ++ bs) (take-append-drop count rest) in
    (stay rules Endless (bytes ++ take count rest) (drop count rest) read reads).so_far longer (subst R (sym whole) more)

-- the outputs by the definition
by_outputs : (fault : OnlineFault) (before now first last : Output) (old new : List ℕ) → before ≡ first → now ≡ last → StopsBy fault first last old new → StopsBy fault before now old new
by_outputs fault before now first last old new e f stops =
    let B : Output → Type 0 = λ o. StopsBy fault o now old new in
    let N : Output → Type 0 = λ o. StopsBy fault first o old new in
    subst B (sym e) (subst N (sym f) stops)

pub fed_stops : FilesHaveOneAnswer → ReadStays → (rules : Rules) (bytes rest : List ℕ) (count : ℕ) (event : Event) (old : Stream) (new : RowReader) (fault : OnlineFault) (text now : List ℕ) → (goes : GoesOn old rules bytes) → reader.Adds rules Endless bytes (take count rest) event new
    → StopsAll rules goes.read (with_event goes.read event) fault text now → Answers rules false bytes rest (Err fault) text now
fed_stops one stay rules bytes rest count event old new fault text now goes adds stops =
    let read = with_event goes.read event in
    let front = take count rest in
    let reads = (adds.at_last goes.read goes.reads).1 in
    let first : (before : Output) → IsOutput rules false bytes before → before ≡ output rules false goes.read = λ before is. same_output one rules false bytes goes.read before goes.reads is in
    let here : (before : Output) → IsOutput rules false bytes before → StopsBy fault before (output rules false read) text now =
    λ before is. by_outputs fault before (output rules false read) (output rules false goes.read) (output rules false read) text now (first before is) refl (stops false (bytes ++ front) read reads (goes_same read)) in
    let later : (before out : Output) → IsOutput rules false bytes before → IsOutput rules false (bytes ++ rest) out → StopsBy fault before out text now =
    λ before out is is_out. by_outputs fault before out (output rules false goes.read) (output rules false is_out.read) text now (first before is) is_out.is (stops false (bytes ++ rest) is_out.read is_out.reads (goes_on stay rules bytes rest count read is_out.read reads is_out.reads)) in (
      λ other before is.
          let at = (here before is).0 other in
          record {
            front = front;
            rest = drop count rest;
            piece_is = sym (take-append-drop count rest);
            at_front = record { now = output rules false read; is_output = record { read = read; reads = reads; is = refl }; fault_is = at.0; appends = at.1 };
            stays = λ out is_out. (later before out is is_out).0 other;
          },
      λ memory before out is is_out. (later before out is is_out).1 memory,
      λ memory before is. record {
        front = front;
        rest = drop count rest;
        piece_is = sym (take-append-drop count rest);
        over = false;
        over_is = never_over;
        now = output rules false read;
        is_output = record { read = read; reads = reads; is = refl };
        part = (here before is).1 memory;
      },
    )

-- ---- the file is refused

pub table_fault : (fault : TableFault) (why : TableCause) → (fault_by fault why ≡ Memory → ⊥) → fault_by fault why ≡ Table fault
table_fault fault cause.NoHeader other = refl
table_fault fault cause.TooManyColumns other = refl
table_fault fault cause.NameTwice other = refl
table_fault fault (cause.NoSuchSensor rule) other = refl
table_fault fault cause.Width other = refl
table_fault fault (cause.Time why) other = refl
table_fault fault cause.TimeNotRising other = refl
table_fault fault (cause.Value why) other = refl
table_fault fault cause.TooManyRows other = refl
table_fault fault cause.TooManyReadings other = refl
table_fault fault (cause.Cut why) other = refl
table_fault fault cause.FileTooLong other = refl
table_fault fault cause.Memory other = absurd (other refl)

pub not_memory : (fault : TableFault) → (fault_of fault ≡ Memory → ⊥) → fault ≡ of_memory → ⊥
not_memory fault other e = other (ap fault_of e)

-- the text stays, and the output has the fault of the file
pub record IsRefused (rules : Rules) (read : Read) (fault : TableFault) (out : Output) : Type 0 where
  pub fault_is : out.fault ≡ Some (Table fault)
  pub text_is : out.text ≡ (output rules false read).text

refused_by_table : (rules : Rules) (ended : Bool) (header : Option HeaderView) (rows : List RowView) (engine : Option Engine) (fault : TableFault) → EngineKeeps rules header rows engine
    → IsRefused rules (record { header = header; rows = rows; fault = None }) fault (output_with rules ended header rows (Some (Table fault)))
refused_by_table rules ended None rows engine fault keeps = record { fault_is = refl; text_is = refl }
refused_by_table rules ended (Some header) rows None fault keeps = absurd keeps
refused_by_table rules ended (Some header) rows (Some engine) fault keeps =
    let accepted : accept rules header [] rows (Some (Table fault)) ≡ record { rows = rows; fault = Some (Table fault) } =
    ap (λ (rs : List RowView). accept rules header [] rs (Some (Table fault))) (sym (append-nil rows)) ∙ accept_skip rules header [] rows [] (Some (Table fault)) keeps.1 in
    let S : Accepted → Type 0 = λ a. IsStopped rules header rows (Table fault) (output_of rules header ended a) in
    let stopped = subst S (sym accepted) (stopped_output rules header ended rows (Table fault) (none_leaves rules header rows engine keeps.0)) in
    record { fault_is = stopped.fault_is; text_is = stopped.text_is ∙ sym (kept_text rules header rows keeps.1) }

pub is_refused : (rules : Rules) (ended : Bool) (read : Read) (engine : Option Engine) (fault : TableFault) → read.fault ≡ None → EngineKeeps rules read.header read.rows engine → IsRefused rules read fault (output rules ended (refused_by read fault))
is_refused rules ended read engine fault none keeps =
    let F : Option TableFault → Type 0 = λ f. IsRefused rules (record { header = read.header; rows = read.rows; fault = f }) fault (output_with rules ended read.header read.rows (Some (Table fault))) in
    subst F (sym none) (refused_by_table rules ended read.header read.rows engine fault keeps)

-- the text is appended, which is none
pub refused_appends : (rules : Rules) (read : Read) (fault : TableFault) (before now : Output) (text : List ℕ) → before ≡ output rules false read → IsRefused rules read fault now → (fault_of fault ≡ Memory → ⊥) → (now.fault ≡ Some (fault_of fault)) × Appends before now text text
refused_appends rules read fault before now text e refused other = (
  refused.fault_is ∙ ap (λ (f : OnlineFault). Some f) (sym (table_fault fault fault.cause other)),
  record { added = []; output_is = refused.text_is ∙ sym (ap (λ (o : Output). o.text) e) ∙ sym (append-nil before.text); text_is = sym (append-nil text) },
)

-- after want of memory the text is a part
pub memory_part : (before now : Output) (text : List ℕ) → Begins before.text now.text → AppendsPart before now text text
memory_part before now text begins = record { added = []; rest = begins.rest; output_is = begins.is ∙ ap (λ (bytes : List ℕ). bytes ++ begins.rest) (sym (append-nil before.text)); text_is = sym (append-nil text) }

pub grown_output : (rules : Rules) (ended : Bool) (bytes : List ℕ) (read longer : Read) (engine : Option Engine) (before now : Output) (text : List ℕ) → read.fault ≡ None → EngineKeeps rules read.header read.rows engine → Reads rules ended bytes longer → Continues read longer → before ≡ output rules false read → now ≡ output rules ended longer
    → AppendsPart before now text text
grown_output rules ended bytes read longer engine before now text none keeps reads goes e f =
    let B : Output → Type 0 = λ o. AppendsPart o now text text in
    let N : Output → Type 0 = λ o. AppendsPart (output rules false read) o text text in
    subst B (sym e) (subst N (sym f) (memory_part (output rules false read) (output rules ended longer) text (grown rules read longer ended bytes none (kept_none_refused rules read.header read.rows engine keeps) reads goes)))

pub fed_refused : FilesHaveOneAnswer → ReadStays → (rules : Rules) (bytes rest : List ℕ) (count : ℕ) (fault : TableFault) (old : Stream) (new : RowReader) (text : List ℕ) → (goes : GoesOn old rules bytes) → reader.Feeds rules Endless bytes (take count rest) (Err fault) new
    → Answers rules false bytes rest (Err (fault_of fault)) text text
fed_refused one stay rules bytes rest count fault old new text goes feeds =
    let read = refused_by goes.read fault in
    let front = take count rest in
    let first : (before : Output) → IsOutput rules false bytes before → before ≡ output rules false goes.read = λ before is. same_output one rules false bytes goes.read before goes.reads is in
    let refused = is_refused rules false goes.read old.engine fault goes.not_refused goes.engine in (
      λ other before is.
          let reads = (feeds (not_memory fault other)).at_last goes.read goes.reads in
          let R : List ℕ → Type 0 = λ bs. ReadsSoFar rules Endless bs read in
          let whole : (bytes ++ front) ++ drop count rest ≡ bytes ++ rest = append_assoc bytes front (drop count rest) ∙ ap (λ (bs : List ℕ). bytes ++ bs) (take-append-drop count rest) in
          let all = subst R whole ((stay rules Endless (bytes ++ front) (drop count rest) read reads).refused refl).0 in
          let at = refused_appends rules goes.read fault before (output rules false read) text (first before is) refused other in
          let I : Output → Type 0 = λ o. IsRefused rules goes.read fault o in
          record {
            front = front;
            rest = drop count rest;
            piece_is = sym (take-append-drop count rest);
            at_front = record { now = output rules false read; is_output = record { read = read; reads = reads; is = refl }; fault_is = at.0; appends = at.1 };
            stays = λ out is_out. refused_appends rules goes.read fault before out text (first before is) (subst I (sym (same_output one rules false (bytes ++ rest) read out all is_out)) refused) other;
          },
      λ memory before out is is_out.
          grown_output rules false (bytes ++ rest) goes.read is_out.read old.engine before out text goes.not_refused goes.engine is_out.reads ((stay rules Endless bytes rest goes.read goes.reads).so_far is_out.read is_out.reads) (first before is) is_out.is,
      λ memory before is. appends_nothing rules false bytes rest text before is,
    )
