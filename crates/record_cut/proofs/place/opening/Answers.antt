use Rattle.std.proofs.Common.{◌≡◌, ℕ, sym, subst, IsTrue}
use Rattle.words.specs.Separators.{is_separator}
use Rattle.record_cut.specs.Drafted.{Drafted}
use Rattle.record_cut.specs.Resumed.{Fits}
use Rattle.record_cut.specs.Moves.{Opens}
use Rattle.record_cut.specs.declared.phase.Phase.{Phase}
use Rattle.record_cut.specs.declared.phase.Phase.TheVariants.{Input, MarkOne, MarkTwo, Record, RecordCr}
use Rattle.record_cut.specs.declared.phase.Opening.{Opening}
use Rattle.record_cut.specs.declared.phase.Opening.TheVariants.{Read, Skip}
use Rattle.record_cut.specs.declared.phase.Place.TheVariants.{Plain}
use Rattle.record_cut.proofs.Openings.{record_cr-at_line_feed, record_cr-at_other, mark_one-at_other, mark_two-at_other, mark_two-at_last, input-opens}
use Rattle.record_cut.proofs.place.opening.Goals as goal

-- what is so of a phase is so of one that is that phase
at_phase : (byte : ℕ) (x : Opening) (phase is : Phase) → phase ≡ is → ((sep : ℕ) (draft : Drafted) (count : ℕ) → IsTrue (is_separator sep) → Fits is draft count → Opens sep is draft count byte x) → (sep : ℕ) (draft : Drafted) (count : ℕ) → IsTrue (is_separator sep) → Fits phase draft count → Opens sep phase draft count byte x
at_phase byte x phase is e opens =
    let P : Phase → Type 0 = λ p. (sep : ℕ) (draft : Drafted) (count : ℕ) → IsTrue (is_separator sep) → Fits p draft count → Opens sep p draft count byte x in
    subst P (sym e) opens

pub returns-in-Record : goal.returns-in-Record
returns-in-Record c = at_phase c.args.byte c.at_record.result c.args.phase Record c.in-Record.is c.at_record.ensures

pub returns-in-RecordCr : goal.returns-in-RecordCr
returns-in-RecordCr c = at_phase c.args.byte Skip c.args.phase RecordCr c.in-RecordCr.is (λ sep draft count is fits. record_cr-at_line_feed sep c.args.byte count draft fits c.if-byte-eq-LINE_FEED.true)

pub returns-in-RecordCr-2 : goal.returns-in-RecordCr-2
returns-in-RecordCr-2 c = at_phase c.args.byte (Read Plain) c.args.phase RecordCr c.in-RecordCr.is (λ sep draft count is fits. record_cr-at_other sep c.args.byte count draft is fits c.if-byte-eq-LINE_FEED.false)

pub returns-in-Input-2 : goal.returns-in-Input-2
returns-in-Input-2 c = at_phase c.args.byte c.at_record-in-Input-2.result c.args.phase Input c.in-Input.is (λ sep draft count is fits. input-opens sep c.args.byte count draft c.at_record-in-Input-2.result fits c.if-byte.false (c.at_record-in-Input-2.ensures sep draft count is fits))

pub returns-in-MarkOne-2 : goal.returns-in-MarkOne-2
returns-in-MarkOne-2 c = at_phase c.args.byte (Read Plain) c.args.phase MarkOne c.in-MarkOne.is (λ sep draft count is fits. mark_one-at_other sep c.args.byte count draft is fits c.if-byte-2.false)

pub returns-in-MarkTwo : goal.returns-in-MarkTwo
returns-in-MarkTwo c = at_phase c.args.byte Skip c.args.phase MarkTwo c.in-MarkTwo.is (λ sep draft count is fits. mark_two-at_last sep c.args.byte count draft fits c.if-byte-3.true)

pub returns-in-MarkTwo-2 : goal.returns-in-MarkTwo-2
returns-in-MarkTwo-2 c = at_phase c.args.byte (Read Plain) c.args.phase MarkTwo c.in-MarkTwo.is (λ sep draft count is fits. mark_two-at_other sep c.args.byte count draft is fits c.if-byte-3.false)
