use Rattle.std.proofs.Common.{rules, refl, ◌∙◌, w64}
use Rattle.std.proofs.lemmas.Int.{to_z-of_z}
use mir.Val.{SFits}
use Rattle.bound_maker.proofs.Lookups.{found_as, none_in_row, none_without_row}
use Rattle.bound_maker.proofs.name.reading_at.Goals as goal

pub returns-in-Some-reading_in : goal.returns-in-Some-reading_in
returns-in-Some-reading_in c =
    let ticks : SFits w64 c.ticks.result = search rules in
    let value : SFits w64 c.in-Some-reading_in.value = search rules in
    record {
      found = (found_as c.args.table.now c.args.row c.args.col c.in-Some.found.now c.in-Some-reading_in.value _ _ c.in-Some.ensures c.in-Some-reading_in.ensures (to_z-of_z w64 c.ticks.result ticks ∙ c.ticks.ensures) (to_z-of_z w64 c.in-Some-reading_in.value value), refl);
    }

pub returns-in-None-reading_in : goal.returns-in-None-reading_in
returns-in-None-reading_in c = record { found = none_in_row c.args.table.now c.args.row c.args.col c.in-Some.found.now c.in-Some.ensures c.in-None-reading_in.ensures }

pub returns-in-None : goal.returns-in-None
returns-in-None c = record { found = none_without_row c.args.table.now c.args.row c.args.col c.in-None.ensures }
