use Rattle.std.proofs.Common.{◌≡◌, ℤ, List, length, refl, sym, ap, ◌∙◌, subst}
use Rattle.std.specs.Prelude.{None}
use Rattle.series_rows.specs.declared.cell.RowReading.{RowReading}
use Rattle.online_repair.specs.Engines.{first_large}
use Rattle.online_repair.proofs.Large.{none_large, row_length, too_large_is, values_of_row}
use Rattle.online_repair.proofs.Standing.{all_ready}
use Rattle.online_repair.proofs.Written.{is_written, values_are}
use Rattle.online_repair.proofs.engine.write_row.Goals as goal

pub repair_row-requires : goal.repair_row-requires
repair_row-requires c = all_ready c.args.rules.now c.requires.header c.requires.before c.args.engine.now.held.items c.args.row.now c.args.engine.now.tracks.items c.requires.leaves.about c.requires.leaves.tracks

pub too_large-requires : goal.too_large-requires
too_large-requires c =
    let long = row_length c.args.row.now.ticks c.args.engine.now.held.items c.args.row.now.readings _ c.repair_row.new.tracks.items c.repair_row.new.values.items c.in_ok-repair_row.ensures in
    ap length c.as_slice.ensures.value ∙ long ∙ sym (ap length c.readings.ensures.readings)

pub returns-in-Some : goal.returns-in-Some
returns-in-Some c = λ header before leaves. (
  refl,
  λ other.
      too_large_is c.args.rules.now header before c.args.engine.now.held.items c.args.row.now c.repair_row.new.values.items c.as_slice.result.now c.readings.result.now c.in-Some.col c.args.engine.now.written
      (values_are c.args.rules.now header before c.args.row.now c.args.engine.now c.repair_row.new.tracks.items c.repair_row.new.values.items leaves c.in_ok-repair_row.ensures)
      c.as_slice.ensures.value c.readings.ensures.readings leaves.written_is c.in-Some.ensures,
)

pub push_row_with-requires : goal.push_row_with-requires
push_row_with-requires c =
    let long = row_length c.args.row.now.ticks c.args.engine.now.held.items c.args.row.now.readings _ c.repair_row.new.tracks.items c.repair_row.new.values.items c.in_ok-repair_row.ensures in
    let F : List RowReading → Type 0 = λ rs. first_large rs c.as_slice.result.now ≡ None in
    let G : List ℤ → Type 0 = λ vs. first_large c.args.row.now.readings vs ≡ None in
    let none = subst G c.as_slice.ensures.value (subst F c.readings.ensures.readings (sym c.in_default.ensures)) in
    values_of_row c.args.row.now c.repair_row.new.values.items c.as_slice-2.result.now c.as_slice-2.ensures.value long (none_large c.args.row.now.readings c.repair_row.new.values.items long none)

pub returns : goal.returns
returns c = λ header before leaves.
    let long = row_length c.args.row.now.ticks c.args.engine.now.held.items c.args.row.now.readings _ c.repair_row.new.tracks.items c.repair_row.new.values.items c.in_ok-repair_row.ensures in
    let F : List RowReading → Type 0 = λ rs. first_large rs c.as_slice.result.now ≡ None in
    let G : List ℤ → Type 0 = λ vs. first_large c.args.row.now.readings vs ≡ None in
    let none = subst G c.as_slice.ensures.value (subst F c.readings.ensures.readings (sym c.in_default.ensures)) in
    is_written c.args.rules.now header before c.args.row.now c.args.engine.now _ c.repair_row.new.values.items c.as_slice-2.result.now c.args.out.now.items c.push_row_with.new.text.items leaves c.in_ok-repair_row.ensures
    (none_large c.args.row.now.readings c.repair_row.new.values.items long none)
    refl refl refl leaves.few c.as_slice-2.ensures.value c.in_ok-push_row_with.ensures.ok
