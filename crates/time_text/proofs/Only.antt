-- A time text has one answer.
use Rattle.std.proofs.Common.{◌≡◌, ◌≢◌, ℕ, ◌≤◌, ℤ, List, Result, Ok, Err, IfOk, IfErr, length, unsigned_abs, IsUtf8, inl, inr, refl, sym, ap, ◌∙◌, arith}
use Rattle.jiff_fmt.specs.Temporal.{DateParts, TimeParts}
use Rattle.jiff.specs.Words.{Error, parse_datetime}
use Rattle.fix_point.specs.Scaled as Scaled
use Rattle.fix_point.specs.declared.scale.NumFault.{NumFault}
use Rattle.fix_point.specs.declared.scale.Extra.{Extra}
use Rattle.time_text.specs.Trimmed.{trimmed}
use Rattle.time_text.specs.Calendar.{with_designator, civil_nanos_of, IsInstant, IsNoInstant, IsCivil, IsNoCivil}
use Rattle.time_text.specs.Ticks.{IsNumber, NumberRefuses, IsCalendar, CalendarRefuses, IsTrimmedTicks, RefusesTrimmed, Reads}
use Rattle.time_text.specs.declared.calendar.TheConstants.{LONGEST}
use Rattle.time_text.specs.declared.form.TheConstants.{MOST_TICKS}
use Rattle.time_text.specs.declared.form.TimeForm.{TimeForm}
use Rattle.time_text.specs.declared.form.TimeForm.TheVariants.{Sec, Milli, Micro, Nano, Instant, Civil}
use Rattle.time_text.specs.declared.form.TimeFault.{TimeFault}
use Rattle.time_text.specs.declared.form.TimeFault.TheVariants.{NotTime, TimeTooFine, TimeOutOfRange, Memory}

-- what is proved of decimal texts
abbrev pub HasOneNumber : Type 0
HasOneNumber = (text : List ℕ) (d : ℕ) (extra : Extra) (most : ℤ) (one other : Result ℤ NumFault) → Scaled.Reads text d extra most one → Scaled.Reads text d extra most other → one ≡ other

-- values and reasons of a text exclude one another, and there is one at most
pub record HasOneAnswer (Reads : ℤ → Type 0) (Fails : TimeFault → Type 0) : Type 0 where
  pub value : (one other : ℤ) → Reads one → Reads other → one ≡ other
  pub apart : (one : ℤ) (fault : TimeFault) → Reads one → fault ≢ Memory → Fails fault → ⊥
  pub fault : (one other : TimeFault) → one ≢ Memory → Fails one → other ≢ Memory → Fails other → one ≡ other

-- ---- numbers

number_or_fault : HasOneNumber → (d : ℕ) (text : List ℕ) (ticks : ℤ) (fault : NumFault) → IsNumber d text ticks → Scaled.Refuses text d Extra.Refuse MOST_TICKS fault → ⊥
number_or_fault law d text ticks fault p q =
    let same : Ok ticks ≡ Err fault = law text d Extra.Refuse MOST_TICKS (Ok ticks) (Err fault) p q in
    absurd cc

one_number : HasOneNumber → (d : ℕ) (text : List ℕ) (one other : ℤ) → IsNumber d text one → IsNumber d text other → one ≡ other
one_number law d text one other p q =
    let same = law text d Extra.Refuse MOST_TICKS (Ok one) (Ok other) p q in
    cc

same_fault : HasOneNumber → (d : ℕ) (text : List ℕ) (one other : NumFault) → Scaled.Refuses text d Extra.Refuse MOST_TICKS one → Scaled.Refuses text d Extra.Refuse MOST_TICKS other → one ≡ other
same_fault law d text one other p q =
    let same = law text d Extra.Refuse MOST_TICKS (Err one) (Err other) p q in
    cc

-- what number refuses as it does
num_fault : (fault : TimeFault) → fault ≢ Memory → NumFault
num_fault NotTime some = NumFault.NotNumber
num_fault TimeTooFine some = NumFault.TooFine
num_fault TimeOutOfRange some = NumFault.OutOfRange
num_fault Memory some = absurd (some refl)

time_fault : NumFault → TimeFault
time_fault NumFault.NotNumber = NotTime
time_fault NumFault.TooFine = TimeTooFine
time_fault NumFault.OutOfRange = TimeOutOfRange

as_number : (d : ℕ) (text : List ℕ) (fault : TimeFault) (some : fault ≢ Memory) → NumberRefuses d text fault → Scaled.Refuses text d Extra.Refuse MOST_TICKS (num_fault fault some)
unfolding num_fault
as_number d text NotTime some p = p
as_number d text TimeTooFine some p = p
as_number d text TimeOutOfRange some p = p
as_number d text Memory some p = absurd (some refl)

and_back : (fault : TimeFault) (some : fault ≢ Memory) → time_fault (num_fault fault some) ≡ fault
unfolding time_fault num_fault
and_back NotTime some = refl
and_back TimeTooFine some = refl
and_back TimeOutOfRange some = refl
and_back Memory some = absurd (some refl)

number_answer : HasOneNumber → (d : ℕ) (text : List ℕ) → HasOneAnswer (IsNumber d text) (NumberRefuses d text)
number_answer law d text = record {
  value = λ one other p q. one_number law d text one other p q;
  apart = λ ticks fault p some q. number_or_fault law d text ticks (num_fault fault some) p (as_number d text fault some q);
  fault = λ one other some p more q.
      let same = same_fault law d text (num_fault one some) (num_fault other more) (as_number d text one some p) (as_number d text other more q) in
      sym (and_back one some) ∙ (ap time_fault same ∙ and_back other more);
}

-- ---- calendars

one_instant : (text : List ℕ) (one other : ℤ) → IsInstant text one → IsInstant text other → one ≡ other
one_instant text one other p q = cc

instant_or_none : (text : List ℕ) (one : ℤ) → IsInstant text one → IsNoInstant text → ⊥
instant_or_none text one p q = let other = q.1 in cc

same_success : {P : Type 0} (read : Result P Error) (one other : P) → read ≡ Ok one → read ≡ Ok other → one ≡ other
same_success read one other p q = cc

one_civil : (text : List ℕ) (one other : ℤ) → IsCivil text one → IsCivil text other → one ≡ other
one_civil text one other p q =
    let same = same_success (parse_datetime text) (p.date, p.time) (q.date, q.time) p.read q.read in
    p.in_utc ∙ (ap (λ (parts : DateParts × TimeParts). civil_nanos_of parts.0 parts.1) same ∙ sym q.in_utc)

civil_or_none : (text : List ℕ) (one : ℤ) → IsCivil text one → IsNoCivil text → ⊥
civil_or_none text one p q = let this = p.read in let other = q.1 in cc

not_time : (Reads : List ℕ → ℤ → Type 0) (Fails : List ℕ → Type 0) → ((text : List ℕ) (one : ℤ) → Reads text one → Fails text → ⊥) → (text : List ℕ) (one : ℤ) → length text ≤ LONGEST → IsUtf8 (with_designator text) → Reads (with_designator text) one → CalendarRefuses Reads Fails text NotTime → ⊥
not_time Reads Fails read_or_none text one short utf8 read (inl long) = omega (arith, short, long)
not_time Reads Fails read_or_none text one short utf8 read (inr (inl other)) = other utf8
not_time Reads Fails read_or_none text one short utf8 read (inr (inr fails)) = read_or_none (with_designator text) one read fails

calendar_apart : (Reads : List ℕ → ℤ → Type 0) (Fails : List ℕ → Type 0) → ((text : List ℕ) (one other : ℤ) → Reads text one → Reads text other → one ≡ other) → ((text : List ℕ) (one : ℤ) → Reads text one → Fails text → ⊥) → (text : List ℕ) (one : ℤ) (fault : TimeFault) → IsCalendar Reads text one → fault ≢ Memory → CalendarRefuses Reads Fails text fault → ⊥
calendar_apart Reads Fails one_read read_or_none text one NotTime p some q = not_time Reads Fails read_or_none text one p.short p.utf8 p.read q
calendar_apart Reads Fails one_read read_or_none text one TimeTooFine p some q = q
calendar_apart Reads Fails one_read read_or_none text one TimeOutOfRange p some q =
    let same = one_read (with_designator text) one q.0 p.read q.1.read in
    omega (arith, ap unsigned_abs same, p.small, q.1.large)
calendar_apart Reads Fails one_read read_or_none text one Memory p some q = some refl

calendar_fault : (Reads : List ℕ → ℤ → Type 0) (Fails : List ℕ → Type 0) → ((text : List ℕ) (one other : ℤ) → Reads text one → Reads text other → one ≡ other) → ((text : List ℕ) (one : ℤ) → Reads text one → Fails text → ⊥) → (text : List ℕ) (one other : TimeFault) → one ≢ Memory → CalendarRefuses Reads Fails text one → other ≢ Memory → CalendarRefuses Reads Fails text other → one ≡ other
calendar_fault Reads Fails one_read read_or_none text NotTime NotTime some p more q = refl
calendar_fault Reads Fails one_read read_or_none text NotTime TimeTooFine some p more q = absurd q
calendar_fault Reads Fails one_read read_or_none text NotTime TimeOutOfRange some p more q = absurd (not_time Reads Fails read_or_none text q.0 q.1.short q.1.utf8 q.1.read p)
calendar_fault Reads Fails one_read read_or_none text NotTime Memory some p more q = absurd (more refl)
calendar_fault Reads Fails one_read read_or_none text TimeTooFine other some p more q = absurd p
calendar_fault Reads Fails one_read read_or_none text TimeOutOfRange NotTime some p more q = absurd (not_time Reads Fails read_or_none text p.0 p.1.short p.1.utf8 p.1.read q)
calendar_fault Reads Fails one_read read_or_none text TimeOutOfRange TimeTooFine some p more q = absurd q
calendar_fault Reads Fails one_read read_or_none text TimeOutOfRange TimeOutOfRange some p more q = refl
calendar_fault Reads Fails one_read read_or_none text TimeOutOfRange Memory some p more q = absurd (more refl)
calendar_fault Reads Fails one_read read_or_none text Memory other some p more q = absurd (some refl)

calendar_answer :
    (Reads : List ℕ → ℤ → Type 0) (Fails : List ℕ → Type 0)
    → ((text : List ℕ) (one other : ℤ) → Reads text one → Reads text other → one ≡ other)
    → ((text : List ℕ) (one : ℤ) → Reads text one → Fails text → ⊥)
    → (text : List ℕ)
    → HasOneAnswer (IsCalendar Reads text) (CalendarRefuses Reads Fails text)
calendar_answer Reads Fails one_read read_or_none text = record {
  value = λ one other p q. one_read (with_designator text) one other p.read q.read;
  apart = λ one fault p some q. calendar_apart Reads Fails one_read read_or_none text one fault p some q;
  fault = λ one other some p more q. calendar_fault Reads Fails one_read read_or_none text one other some p more q;
}

-- ---- all forms

trimmed_answer : HasOneNumber → (form : TimeForm) (text : List ℕ) → HasOneAnswer (IsTrimmedTicks form text) (RefusesTrimmed form text)
trimmed_answer law Sec text = number_answer law 9 text
trimmed_answer law Milli text = number_answer law 6 text
trimmed_answer law Micro text = number_answer law 3 text
trimmed_answer law Nano text = number_answer law 0 text
trimmed_answer law Instant text = calendar_answer IsInstant IsNoInstant one_instant instant_or_none text
trimmed_answer law Civil text = calendar_answer IsCivil IsNoCivil one_civil civil_or_none text

number_not_memory : (d : ℕ) (text : List ℕ) (fault : TimeFault) → NumberRefuses d text fault → fault ≢ Memory
number_not_memory d text NotTime p e = cc
number_not_memory d text TimeTooFine p e = cc
number_not_memory d text TimeOutOfRange p e = cc
number_not_memory d text Memory p e = p

calendar_not_memory : (Reads : List ℕ → ℤ → Type 0) (Fails : List ℕ → Type 0) (text : List ℕ) (fault : TimeFault) → CalendarRefuses Reads Fails text fault → fault ≢ Memory
calendar_not_memory Reads Fails text NotTime p e = cc
calendar_not_memory Reads Fails text TimeTooFine p e = cc
calendar_not_memory Reads Fails text TimeOutOfRange p e = cc
calendar_not_memory Reads Fails text Memory p e = p

not_memory : (form : TimeForm) (text : List ℕ) (fault : TimeFault) → RefusesTrimmed form text fault → fault ≢ Memory
not_memory Sec text fault p = number_not_memory 9 text fault p
not_memory Milli text fault p = number_not_memory 6 text fault p
not_memory Micro text fault p = number_not_memory 3 text fault p
not_memory Nano text fault p = number_not_memory 0 text fault p
not_memory Instant text fault p = calendar_not_memory IsInstant IsNoInstant text fault p
not_memory Civil text fault p = calendar_not_memory IsCivil IsNoCivil text fault p

pub one_answer_only : HasOneNumber → (form : TimeForm) (text : List ℕ) (one other : Result ℤ TimeFault) → Reads form text one → Reads form text other → one ≡ other
one_answer_only law form text (Ok one) (Ok other) p q = ap Ok ((trimmed_answer law form (trimmed text)).value one other p q)
one_answer_only law form text (Ok one) (Err fault) p q = absurd ((trimmed_answer law form (trimmed text)).apart one fault p (not_memory form (trimmed text) fault q) q)
one_answer_only law form text (Err fault) (Ok other) p q = absurd ((trimmed_answer law form (trimmed text)).apart other fault q (not_memory form (trimmed text) fault p) p)
one_answer_only law form text (Err one) (Err other) p q = ap Err ((trimmed_answer law form (trimmed text)).fault one other (not_memory form (trimmed text) one p) p (not_memory form (trimmed text) other q) q)

-- what a reader answers is what the text is read as
pub is_read : (form : TimeForm) (text : List ℕ) (result : Result ℤ TimeFault) → IfOk result (IsTrimmedTicks form (trimmed text)) → IfErr result (RefusesTrimmed form (trimmed text)) → Reads form text result
is_read form text (Ok ticks) spells refuses = spells
is_read form text (Err fault) spells refuses = refuses
