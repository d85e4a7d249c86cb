use Rattle.std.proofs.Common.{◌≡◌, inl, inr, ℕ, ◌≤◌, IsTrue, subst}
use Rattle.words.specs.Separators.{is_separator}
use Rattle.record_cut.specs.Drafted.{Drafted}
use Rattle.record_cut.specs.Resumed.{Fits}
use Rattle.record_cut.specs.Moves.{Leaves}
use Rattle.record_cut.specs.declared.phase.Phase.{Phase}
use Rattle.record_cut.specs.declared.phase.Phase.TheVariants.{Input, MarkOne, MarkTwo, Record, RecordCr}
use Rattle.record_cut.proofs.Endings.{phase-ending, phase-leaves}
use Rattle.record_cut.proofs.place.ending.Goals as goal

at_phase : (phase is : Phase) → phase ≡ is → (sep : ℕ) (draft : Drafted) (count : ℕ) → IsTrue (is_separator sep) → count ≤ 65536 → Fits phase draft count → Leaves sep phase draft count (phase-ending is)
at_phase phase is e sep draft count sure h fits =
    let P : Phase → Type 0 = λ p. Leaves sep phase draft count (phase-ending p) in
    subst P e (phase-leaves sep count phase draft sure h fits)

pub returns-in-Input : goal.returns-in-Input
returns-in-Input c = elim c.in-Input.is [
  | inl e ↦ at_phase c.args.phase Input e
  | inr e ↦ at_phase c.args.phase Record e
]

pub returns-in-MarkOne : goal.returns-in-MarkOne
returns-in-MarkOne c = elim c.in-MarkOne.is [
  | inl e ↦ at_phase c.args.phase MarkOne e
  | inr (inl e) ↦ at_phase c.args.phase MarkTwo e
  | inr (inr e) ↦ at_phase c.args.phase RecordCr e
]
