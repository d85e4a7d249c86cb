use Rattle.std.proofs.Common.{◌≡◌, ℕ, List, sym, subst, refl}
use Rattle.std.specs.Prelude.{Option, Some, None, Result, Ok, Err}
use Rattle.std.proofs.lemmas.Result.{err_from_is_err_and}
use Rattle.rule_file.specs.declared.rules.Rules.{Rules}
use Rattle.series_csv.specs.Read.{Read}
use Rattle.series_csv.specs.declared.event.Event.{Event}
use Rattle.series_csv.specs.declared.event.Event.TheVariants.{Header, Row}
use Rattle.online_repair.specs.Streams.{MayTake, TakesEvent}
use Rattle.online_repair.specs.declared.engine.Engine.{Engine}
use Rattle.online_repair.specs.declared.fault.OnlineFault.{OnlineFault}
use Rattle.online_repair.proofs.FromFile.{row_next}
use Rattle.online_repair.proofs.Taking.{header_stops, header_taken, kept_header, no_row, row_taken}
use Rattle.online_repair.proofs.stream.take.Goals as goal

-- the event and the engine by their cases
may_at : (rules : Rules) (read : Read) (event other : Event) (engine found : Option Engine) → event ≡ other → engine ≡ found → MayTake rules read event engine → MayTake rules read other found
may_at rules read event other engine found e f may =
    let M : Event → Type 0 = λ x. MayTake rules read x engine in
    let N : Option Engine → Type 0 = λ x. MayTake rules read other x in
    subst N f (subst M e may)

takes_at : (rules : Rules) (read : Read) (event other : Event) (result : Result (Unit {0}) OnlineFault) (engine : Option Engine) (old new : List ℕ) → event ≡ other → TakesEvent rules read other result engine old new → TakesEvent rules read event result engine old new
takes_at rules read event other result engine old new e takes =
    let T : Event → Type 0 = λ x. TakesEvent rules read x result engine old new in
    subst T (sym e) takes

pub returns-in_err-begin-in-Header : goal.returns-in_err-begin-in-Header
returns-in_err-begin-in-Header c =
    let given = err_from_is_err_and c.from_residual.result c.from_residual.ensures.1 in
    rw (given.1, given.2)
    (λ read may. takes_at c.args.rules.now read c.args.event (Header c.in-Header.header) (Err c.in_err-begin-in-Header.field-0.0) c.args.engine.now c.args.out.now.items c.begin.new.out.items c.in-Header.is
    (header_stops c.args.rules.now read c.in-Header.header c.args.engine.now c.args.engine.now c.in_err-begin-in-Header.field-0.0 c.args.out.now.items c.begin.new.out.items (may_at c.args.rules.now read c.args.event (Header c.in-Header.header) c.args.engine.now c.args.engine.now c.in-Header.is refl may) c.in_err-begin-in-Header.ensures.memory.0 c.in_err-begin-in-Header.ensures.memory.1))

pub returns-in_ok-begin-in-Header : goal.returns-in_ok-begin-in-Header
returns-in_ok-begin-in-Header c = λ read may.
    takes_at c.args.rules.now read c.args.event (Header c.in-Header.header) (Ok tt) (Some c.in_ok-begin-in-Header.field-0) c.args.out.now.items c.begin.new.out.items c.in-Header.is
    (header_taken c.args.rules.now read c.in-Header.header c.args.engine.now c.in_ok-begin-in-Header.field-0 c.args.out.now.items c.begin.new.out.items (may_at c.args.rules.now read c.args.event (Header c.in-Header.header) c.args.engine.now c.args.engine.now c.in-Header.is refl may) c.in_ok-begin-in-Header.ensures.begun.0 c.in_ok-begin-in-Header.ensures.begun.1)

pub accept-requires : goal.accept-requires
accept-requires c =
    let read = c.requires.0 in
    let may = may_at c.args.rules.now read c.args.event (Row c.in-Row.row) c.args.engine.now (Some c.in-Some.engine) c.in-Row.is c.in-Some.is c.requires.1 in
    let kept = kept_header c.args.rules.now read.header read.rows c.in-Some.engine may.keeps in
    record { header = kept.header; accepted = read.rows; keeps = kept.keeps; next = row_next c.args.rules.now may.ended may.bytes read c.in-Row.row may.reads }

pub returns-in-Some : goal.returns-in-Some
returns-in-Some c = λ read may.
    takes_at c.args.rules.now read c.args.event (Row c.in-Row.row) c.accept.result (Some c.accept.new.engine) c.args.out.now.items c.accept.new.out.items c.in-Row.is
    (row_taken c.args.rules.now read c.in-Row.row c.accept.result c.in-Some.engine c.accept.new.engine c.args.out.now.items c.accept.new.out.items (may_at c.args.rules.now read c.args.event (Row c.in-Row.row) c.args.engine.now (Some c.in-Some.engine) c.in-Row.is c.in-Some.is may) c.accept.ensures)

pub returns-in-None : goal.returns-in-None
returns-in-None c = λ read may.
    absurd (no_row c.args.rules.now read c.in-Row.row (may_at c.args.rules.now read c.args.event (Row c.in-Row.row) c.args.engine.now None c.in-Row.is c.in-None.is may))
