-- What the output of a file is refused for, is a fault of its readings.
use Rattle.std.proofs.Common.{◌≡◌, ℕ, suc, Bool, true, false, ◌&&◌, List, [], ◌∷◌, ◌++◌, length, Option, Some, None, IfSome, if◌then◌else◌, subst, sym}
use Rattle.std.specs.Prelude.{is_none, option_map}
use Rattle.std.specs.Option.{option_or}
use Rattle.online_repair.specs.Accepted.{Accepted, accept, greatest_window, held, is_full, refusal, unless_refused, without_step}
use Rattle.online_repair.specs.Output.{IsOutput, Output, is_due, leaving, output_with, too_large}
use Rattle.online_repair.specs.declared.fault.OnlineFault.{OnlineFault}
use Rattle.online_repair.specs.declared.fault.OnlineFault.TheVariants.{NotOnline, Table, WindowFull, NoWholeStep, LeavesRange, Memory}
use Rattle.rule_file.specs.declared.rules.Rules.{Rules}
use Rattle.series_rows.specs.Header.{HeaderView}
use Rattle.series_rows.specs.Row.{RowView}
use Rattle.series_rows.specs.declared.cell.RowReading.{RowReading}
use Rattle.series_rows.specs.declared.fault.TableFault.{TableFault}

-- it is a fault of readings, not of rules
abbrev pub OfReadings : OnlineFault → Type 0
OfReadings (NotOnline rule) = ⊥
OfReadings (Table fault) = Unit {0}
OfReadings (WindowFull row) = Unit {0}
OfReadings (NoWholeStep row col) = Unit {0}
OfReadings (LeavesRange row col) = Unit {0}
OfReadings Memory = Unit {0}

abbrev AllOf : Option OnlineFault → Type 0
AllOf fault = IfSome fault OfReadings

if_all : (b : Bool) (one other : Option OnlineFault) → AllOf one → AllOf other → AllOf (if b then one else other)
if_all true one other p q = p
if_all false one other p q = q

or_all : (one other : Option OnlineFault) → AllOf one → AllOf other → AllOf (option_or one other)
or_all (Some fault) other p q = p
or_all None other p q = q

leaves_all : (number : ℕ) (reading : Option RowReading) → AllOf (option_map (λ (r : RowReading). LeavesRange number r.col) reading)
leaves_all number (Some reading) = tt
leaves_all number None = tt

steps_all : (number : ℕ) (reading : Option RowReading) → AllOf (option_map (λ (r : RowReading). NoWholeStep number r.col) reading)
steps_all number (Some reading) = tt
steps_all number None = tt

table_all : (fault : Option TableFault) → AllOf (option_map Table fault)
table_all (Some fault) = tt
table_all None = tt

leaving_step : (due : Bool) (number : ℕ) (reading : Option RowReading) (others : Option OnlineFault) → AllOf others
    → AllOf (if due then option_or (option_map (λ (r : RowReading). LeavesRange number r.col) reading) others else others)
leaving_step due number reading others p =
    let first = option_map (λ (r : RowReading). LeavesRange number r.col) reading in
    if_all due (option_or first others) others (or_all first others (leaves_all number reading) p) p

leaving_all : (rules : Rules) (header : HeaderView) (all : Bool) (number : ℕ) (before rows : List RowView) → AllOf (leaving rules header all number before rows)
leaving_all rules header all number before [] = tt
leaving_all rules header all number before (row ∷ later) =
    leaving_step (is_due rules header all row later) number (too_large rules header before row later) (leaving rules header all (suc number) (row ∷ before) later)
    (leaving_all rules header all (suc number) (row ∷ before) later)

refusal_step : (full : Bool) (number : ℕ) (reading : Option RowReading) → AllOf (if full then Some (WindowFull number) else option_map (λ (r : RowReading). NoWholeStep number r.col) reading)
refusal_step full number reading = if_all full (Some (WindowFull number)) (option_map (λ (r : RowReading). NoWholeStep number r.col) reading) tt (steps_all number reading)

refusal_all : (rules : Rules) (header : HeaderView) (before : List RowView) (row : RowView) → AllOf (refusal rules header before row)
refusal_all rules header before row =
    refusal_step (is_full rules.format.hold (greatest_window rules.speeds) (held (greatest_window rules.speeds) before) row) (suc (length before)) (without_step rules header before row)

unless_all : (before : List RowView) (fault : Option OnlineFault) (others : Accepted) → AllOf fault → AllOf others.fault → AllOf (unless_refused before fault others).fault
unless_all before None others p q = q
unless_all before (Some fault) others p q = p

accept_all : (rules : Rules) (header : HeaderView) (before rows : List RowView) (last : Option OnlineFault) → AllOf last → AllOf (accept rules header before rows last).fault
accept_all rules header before [] last p = p
accept_all rules header before (row ∷ rows) last p =
    unless_all before (refusal rules header before row) (accept rules header (before ++ row ∷ []) rows last) (refusal_all rules header before row) (accept_all rules header (before ++ row ∷ []) rows last p)

with_all : (rules : Rules) (ended : Bool) (header : Option HeaderView) (rows : List RowView) (fault : Option OnlineFault) → AllOf fault → AllOf (output_with rules ended header rows fault).fault
with_all rules ended None rows fault p = p
with_all rules ended (Some header) rows fault p =
    let accepted = accept rules header [] rows fault in
    let all = ended && is_none accepted.fault in
    or_all (leaving rules header all 1 [] accepted.rows) accepted.fault (leaving_all rules header all 1 [] accepted.rows) (accept_all rules header [] rows fault p)

pub of_readings : (rules : Rules) (ended : Bool) (bytes : List ℕ) (out : Output) (fault : OnlineFault) → IsOutput rules ended bytes out → out.fault ≡ Some fault → OfReadings fault
of_readings rules ended bytes out fault is refused =
    let all : AllOf (output_with rules ended is.read.header is.read.rows (option_map Table is.read.fault)).fault = with_all rules ended is.read.header is.read.rows (option_map Table is.read.fault) (table_all is.read.fault) in
    subst AllOf refused (subst (λ (o : Output). AllOf o.fault) (sym is.is) all)
