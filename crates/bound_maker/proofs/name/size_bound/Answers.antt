use Rattle.std.proofs.Common.{refl}
use Rattle.series_csv.specs.Readings.{places}
use Rattle.bound_maker.proofs.Found.{contains_at}
use Rattle.bound_maker.proofs.Lookups.{no_size_of_two, no_size_there, size_found}
use Rattle.bound_maker.proofs.name.size_bound.Goals as goal

pub returns-then-name : goal.returns-then-name
returns-then-name c = no_size_of_two c.args.name (places c.args.table.now) c.if-name.true

pub returns-in-Some : goal.returns-in-Some
returns-in-Some c =
    let name = c.args.name in
    let ps = places c.args.table.now in
    size_found name ps (record { row = name.from_row; col = name.col }) c.value_bound.result c.requires refl c.if-name.false (contains_at ps c.in-Some.field-0 (record { row = name.from_row; col = name.col }) c.in-Some.ensures) c.value_bound.ensures

pub returns-in-None : goal.returns-in-None
returns-in-None c = no_size_there c.args.name (places c.args.table.now) c.in-None.ensures
