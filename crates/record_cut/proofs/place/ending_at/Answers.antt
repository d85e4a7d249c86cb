use Rattle.std.proofs.Common.{◌≡◌, inl, inr, ℕ, ◌≤◌, IsTrue, subst}
use Rattle.words.specs.Separators.{is_separator}
use Rattle.record_cut.specs.Drafted.{Drafted}
use Rattle.record_cut.specs.Resumed.{FitsPlace}
use Rattle.record_cut.specs.Moves.{Leaves}
use Rattle.record_cut.specs.declared.phase.Place.{Place}
use Rattle.record_cut.specs.declared.phase.Place.TheVariants.{Field, Plain, PlainCr, Quoted, QuoteInQuoted, ClosedCr}
use Rattle.record_cut.specs.declared.phase.Phase.TheVariants.{Inside}
use Rattle.record_cut.proofs.Endings.{place-ending, place-leaves}
use Rattle.record_cut.proofs.place.ending_at.Goals as goal

at_place : (place is : Place) → place ≡ is → (sep : ℕ) (draft : Drafted) (count : ℕ) → IsTrue (is_separator sep) → count ≤ 65536 → FitsPlace place draft → Leaves sep (Inside place) draft count (place-ending is)
at_place place is e sep draft count sure h fits =
    let P : Place → Type 0 = λ p. Leaves sep (Inside place) draft count (place-ending p) in
    subst P e (place-leaves sep count place draft sure h fits)

pub returns-in-Field : goal.returns-in-Field
returns-in-Field c = elim c.in-Field.is [
  | inl e ↦ at_place c.args.place Field e
  | inr (inl e) ↦ at_place c.args.place Plain e
  | inr (inr e) ↦ at_place c.args.place QuoteInQuoted e
]

pub returns-in-PlainCr : goal.returns-in-PlainCr
returns-in-PlainCr c = at_place c.args.place PlainCr c.in-PlainCr.is

pub returns-in-Quoted : goal.returns-in-Quoted
returns-in-Quoted c = at_place c.args.place Quoted c.in-Quoted.is

pub returns-in-ClosedCr : goal.returns-in-ClosedCr
returns-in-ClosedCr c = at_place c.args.place ClosedCr c.in-ClosedCr.is
