use Rattle.std.proofs.Common.{rules, sym, ap, ◌≡◌, ◌∙◌, not, w64, of_z, to_z}
use Rattle.std.specs.Ordering.{int_eq}
use Rattle.std.proofs.lemmas.Int.{to_z-of_z}
use Rattle.series_csv.specs.Readings.{places, values}
use Rattle.cert_check.proofs.Placed.{change_found, change_none, change_short}
use Rattle.cert_check.proofs.sets.is_change.Goals as goal

pub returns-in-Some-reading : goal.returns-in-Some-reading
returns-in-Some-reading c =
    let line : to_z w64 (of_z w64 c.args.line.now.value) ≡ c.args.line.now.value = to_z-of_z w64 c.args.line.now.value (search rules) in
    let value : to_z w64 (of_z w64 c.in-Some-reading.value) ≡ c.in-Some-reading.value = to_z-of_z w64 c.in-Some-reading.value (search rules) in
    c.differs.ensures
    ∙ (ap (λ z. not (int_eq z (to_z w64 (of_z w64 c.in-Some-reading.value)))) line
    ∙ (ap (λ z. not (int_eq c.args.line.now.value z)) value
    ∙ sym (change_found (places c.args.table.now) (values c.args.table.now) c.in-Some.i c.args.line.now c.in-Some-reading.value c.places-places.ensures.distinct c.in-Some.ensures (sym c.in-Some-reading.ensures))))

pub returns-in-None-reading : goal.returns-in-None-reading
returns-in-None-reading c = sym (change_short (places c.args.table.now) (values c.args.table.now) c.in-Some.i c.args.line.now c.places-places.ensures.distinct c.in-Some.ensures (sym c.in-None-reading.ensures))

pub returns-in-None : goal.returns-in-None
returns-in-None c = sym (change_none (places c.args.table.now) (values c.args.table.now) c.args.line.now c.in-None.ensures)
