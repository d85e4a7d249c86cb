-- What a stream answers, by what its reader and its engine answered.
use Rattle.std.proofs.Common.{◌≡◌, true, ℕ, List, [], take, refl, sym, subst}
use Rattle.std.specs.Prelude.{IsOk, Option, Some, None, Result, Ok, Err}
use Rattle.rule_file.specs.declared.rules.Rules.{Rules}
use Rattle.series_rows.specs.declared.fault.TableFault.{TableFault}
use Rattle.series_rows.specs.declared.limits.Limits.{Limits}
use Rattle.series_rows.specs.declared.limits.Limits.TheVariants.{Endless}
use Rattle.series_csv.specs.Feeds as reader
use Rattle.series_csv.specs.Feeds.{with_event}
use Rattle.series_csv.specs.Read.{Read}
use Rattle.series_csv.specs.StandsFor as reads
use Rattle.series_csv.specs.Stays.{FilesHaveOneAnswer, ReadStays}
use Rattle.series_csv.specs.declared.event.Event.{Event}
use Rattle.series_csv.specs.declared.reader.RowReader.{RowReader}
use Rattle.online_repair.specs.Faults.{fault_of}
use Rattle.online_repair.specs.Feeds.{Answers}
use Rattle.online_repair.specs.StandsFor.{CanGoOn, GoesOn}
use Rattle.online_repair.specs.Streams.{CanTake, FeedsSome, HasReadLast, MayTake, ReadsLast, TakesEvent}
use Rattle.online_repair.specs.declared.engine.Engine.{Engine}
use Rattle.online_repair.specs.declared.fault.OnlineFault.{OnlineFault}
use Rattle.online_repair.specs.declared.stream.Stream.{Stream}
use Rattle.online_repair.proofs.Finishing.{last_may, last_none, last_refused, last_taken}
use Rattle.online_repair.proofs.Pieces.{by_own_rules, fed_event, fed_none, fed_refused, fed_stops, may_take}

-- a reader that stands for bytes may go on
pub not_ended : (old : RowReader) (rules : Rules) (limits : Limits) (bytes : List ℕ) → reads.StandsFor old rules limits bytes → reads.HasEnded old → ⊥
not_ended old rules limits bytes stands ended = let is_open = stands.is_open in cc

pub can_read : (stream : Stream) → CanGoOn stream → reads.HasEnded stream.reader → ⊥
can_read stream can = not_ended stream.reader can.0 Endless can.1 can.2.reader

pub ok_is : {A : Type 0} (answer : Result A TableFault) (value : A) → answer ≡ Ok value → IsOk answer
ok_is {A = A} answer value e =
    let O : Result A TableFault → Type 0 = λ r. IsOk r in
    subst O (sym e) refl

-- ---- a piece

-- by the reader's contract
abbrev pub ReaderFeeds : RowReader → RowReader → List ℕ → Result (Option Event) TableFault → Type 0
ReaderFeeds old new piece answer = (rules : Rules) (limits : Limits) (before : List ℕ) → reads.StandsFor old rules limits before → reader.Feeds rules limits before piece answer new

-- and by that of `take`
abbrev pub Taken : Stream → Event → Result (Unit {0}) OnlineFault → Option Engine → List ℕ → List ℕ → Type 0
Taken old event result engine text now = (read : Read) → MayTake old.rules.now read event old.engine → TakesEvent old.rules.now read event result engine text now

feeds_at : (old new : RowReader) (piece : List ℕ) (answer found : Result (Option Event) TableFault) (rules : Rules) (before : List ℕ) → answer ≡ found → ReaderFeeds old new piece answer → reads.StandsFor old rules Endless before → reader.Feeds rules Endless before piece found new
feeds_at old new piece answer found rules before is feeds stands =
    let F : Result (Option Event) TableFault → Type 0 = λ a. reader.Feeds rules Endless before piece a new in
    subst F is (feeds rules Endless before stands)

pub own_none : FilesHaveOneAnswer → (old new : Stream) (rest : List ℕ) (count : ℕ) (answer : Result (Option Event) TableFault) (text : List ℕ) → answer ≡ Ok None → ReaderFeeds old.reader new.reader (take count rest) answer → new.rules ≡ old.rules → new.engine ≡ old.engine
    → (rules : Rules) (before : List ℕ) → GoesOn old rules before → FeedsSome rules before rest (Ok count) new text text
own_none one old new rest count answer text is feeds same_rules same_engine rules before goes =
    fed_none one rules before rest count old new text goes (feeds_at old.reader new.reader (take count rest) answer (Ok None) rules before is feeds goes.reader) same_rules same_engine

pub own_may : (old : Stream) (new : RowReader) (piece : List ℕ) (answer : Result (Option Event) TableFault) (event : Event) → answer ≡ Ok (Some event) → ReaderFeeds old.reader new piece answer → CanGoOn old → CanTake old.rules.now event old.engine
own_may old new piece answer event is feeds can =
    let own = by_own_rules old can.0 can.1 can.2 in
    (own.read, may_take old.rules.now can.1 piece event old new own (feeds_at old.reader new piece answer (Ok (Some event)) old.rules.now can.1 is feeds own.reader))

pub own_event : FilesHaveOneAnswer → (old new : Stream) (rest : List ℕ) (count : ℕ) (answer : Result (Option Event) TableFault) (event : Event) (text now : List ℕ) → answer ≡ Ok (Some event) → ReaderFeeds old.reader new.reader (take count rest) answer → new.rules ≡ old.rules → Taken old event (Ok tt) new.engine text now
    → (rules : Rules) (before : List ℕ) → GoesOn old rules before → FeedsSome rules before rest (Ok count) new text now
own_event one old new rest count answer event text now is feeds same_rules taken rules before goes =
    let own = by_own_rules old rules before goes in
    let adds = feeds_at old.reader new.reader (take count rest) answer (Ok (Some event)) old.rules.now before is feeds own.reader in
    let F : Rules → Type 0 = λ r. FeedsSome r before rest (Ok count) new text now in
    subst F goes.rules_are (fed_event one old.rules.now before rest count event old new text now own adds same_rules (taken own.read (may_take old.rules.now before (take count rest) event old new.reader own adds)))

pub own_stops : FilesHaveOneAnswer → ReadStays → (old : Stream) (new_reader : RowReader) (new : Stream) (rest : List ℕ) (count : ℕ) (answer : Result (Option Event) TableFault) (event : Event) (fault : OnlineFault) (engine : Option Engine) (text now : List ℕ) → answer ≡ Ok (Some event) → ReaderFeeds old.reader new_reader (take count rest) answer → Taken old event (Err fault) engine text now
    → (rules : Rules) (before : List ℕ) → GoesOn old rules before → FeedsSome rules before rest (Err fault) new text now
own_stops one stay old new_reader new rest count answer event fault engine text now is feeds taken rules before goes =
    let own = by_own_rules old rules before goes in
    let adds = feeds_at old.reader new_reader (take count rest) answer (Ok (Some event)) old.rules.now before is feeds own.reader in
    let F : Rules → Type 0 = λ r. FeedsSome r before rest (Err fault) new text now in
    subst F goes.rules_are (fed_stops one stay old.rules.now before rest count event old new_reader fault text now own adds (taken own.read (may_take old.rules.now before (take count rest) event old new_reader own adds)))

pub own_refused : FilesHaveOneAnswer → ReadStays → (old : Stream) (new_reader : RowReader) (new : Stream) (rest : List ℕ) (count : ℕ) (answer : Result (Option Event) TableFault) (fault : TableFault) (given : OnlineFault) (text : List ℕ) → answer ≡ Err fault → given ≡ fault_of fault → ReaderFeeds old.reader new_reader (take count rest) answer
    → (rules : Rules) (before : List ℕ) → GoesOn old rules before → FeedsSome rules before rest (Err given) new text text
own_refused one stay old new_reader new rest count answer fault given text is e feeds rules before goes =
    let F : OnlineFault → Type 0 = λ f. FeedsSome rules before rest (Err f) new text text in
    subst F (sym e) (fed_refused one stay rules before rest count fault old new_reader text goes (feeds_at old.reader new_reader (take count rest) answer (Err fault) rules before is feeds goes.reader))

-- ---- the end

abbrev pub ReaderEnds : RowReader → Result (Option Event) TableFault → Type 0
ReaderEnds old answer = (rules : Rules) (limits : Limits) (bytes : List ℕ) → reads.StandsFor old rules limits bytes → reader.Ends rules limits bytes answer

ends_at : (old : RowReader) (answer found : Result (Option Event) TableFault) (rules : Rules) (bytes : List ℕ) → answer ≡ found → ReaderEnds old answer → reads.StandsFor old rules Endless bytes → reader.Ends rules Endless bytes found
ends_at old answer found rules bytes is ends stands =
    let E : Result (Option Event) TableFault → Type 0 = λ a. reader.Ends rules Endless bytes a in
    subst E is (ends rules Endless bytes stands)

pub own_last_none : FilesHaveOneAnswer → (old new : Stream) (answer : Result (Option Event) TableFault) (text : List ℕ) → answer ≡ Ok None → ReaderEnds old.reader answer → new.rules ≡ old.rules → new.engine ≡ old.engine
    → (rules : Rules) (bytes : List ℕ) → GoesOn old rules bytes → HasReadLast rules bytes new text text
own_last_none one old new answer text is ends same_rules same_engine rules bytes goes =
    last_none one rules bytes old new text goes (ends_at old.reader answer (Ok None) rules bytes is ends goes.reader) same_rules same_engine

pub own_last_may : (old : Stream) (answer : Result (Option Event) TableFault) (event : Event) → answer ≡ Ok (Some event) → ReaderEnds old.reader answer → CanGoOn old → CanTake old.rules.now event old.engine
own_last_may old answer event is ends can =
    let own = by_own_rules old can.0 can.1 can.2 in
    (own.read, last_may old.rules.now can.1 event old own (ends_at old.reader answer (Ok (Some event)) old.rules.now can.1 is ends own.reader))

pub own_last_event : FilesHaveOneAnswer → (old new : Stream) (answer : Result (Option Event) TableFault) (event : Event) (result : Result (Unit {0}) OnlineFault) (text now : List ℕ) → answer ≡ Ok (Some event) → ReaderEnds old.reader answer → new.rules ≡ old.rules → Taken old event result new.engine text now
    → (rules : Rules) (bytes : List ℕ) → GoesOn old rules bytes → ReadsLast rules bytes result new text now
own_last_event one old new answer event result text now is ends same_rules taken rules bytes goes =
    let own = by_own_rules old rules bytes goes in
    let last = ends_at old.reader answer (Ok (Some event)) old.rules.now bytes is ends own.reader in
    let F : Rules → Type 0 = λ r. ReadsLast r bytes result new text now in
    subst F goes.rules_are (last_taken one old.rules.now bytes event old new result text now own last same_rules (taken own.read (last_may old.rules.now bytes event old own last)))

pub own_last_refused : FilesHaveOneAnswer → ReadStays → (old : Stream) (answer : Result (Option Event) TableFault) (fault : TableFault) (given : OnlineFault) (text : List ℕ) → answer ≡ Err fault → given ≡ fault_of fault → ReaderEnds old.reader answer
    → (rules : Rules) (bytes : List ℕ) → GoesOn old rules bytes → Answers rules true bytes [] (Err given) text text
own_last_refused one stay old answer fault given text is e ends rules bytes goes =
    let F : OnlineFault → Type 0 = λ f. Answers rules true bytes [] (Err f) text text in
    subst F (sym e) (last_refused one stay rules bytes fault old text goes (ends_at old.reader answer (Err fault) rules bytes is ends goes.reader))
