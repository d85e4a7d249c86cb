use Rattle.std.proofs.Common.{ℤ, length, FitsSigned, rules, refl, ap, ◌∙◌, subst, arith}
use Rattle.std.specs.Prelude.{Ok, Err}
use Rattle.std.specs.Int.{w64}
use Rattle.std.proofs.lemmas.Int.{to_z-of_z}
use Rattle.circular_buffer.specs.Buffer.{Buffer}
use Rattle.series_rows.specs.Row.{RowView}
use Rattle.online_repair.specs.Engines.{WritesRows, due_part, rest_part}
use Rattle.online_repair.specs.declared.engine.Engine.{Engine}
use Rattle.online_repair.proofs.Stored.{are_written, is_stored, rest_room, started}
use Rattle.online_repair.proofs.engine.store.Goals as goal

pub write_ready-requires : goal.write_ready-requires
write_ready-requires c =
    let may = c.requires.may in
    record { header = c.requires.header; before = c.requires.before; stands = started c.args.rules.now c.requires.header c.requires.before c.args.row c.args.engine.now _ may.stands c.see.ensures.seen refl refl }

pub returns-in-Err : goal.returns-in-Err
returns-in-Err c = λ header before may.
    let most = c.args.engine.now.most in
    let items = c.args.engine.now.held.items in
    let start : Engine = record c.args.engine.now { tracks = c.see.new.tracks } in
    let fits : FitsSigned w64 c.ticks.result = search rules in
    let time = to_z-of_z w64 c.ticks.result fits ∙ c.ticks.ensures in
    let W : ℤ → Type 0 = λ t. WritesRows c.args.rules.now header before (due_part most t items) (rest_part most t items) (Err c.in-Err.fault) start c.write_ready.new.engine c.args.out.now.items c.write_ready.new.out.items in
    (start, c.write_ready.new.engine, subst W time (c.in-Err.ensures header before (started c.args.rules.now header before c.args.row c.args.engine.now start may.stands c.see.ensures.seen refl refl)))

pub hold-requires : goal.hold-requires
hold-requires c =
    let header = c.requires.header in
    let before = c.requires.before in
    let may = c.requires.may in
    let most = c.args.engine.now.most in
    let items = c.args.engine.now.held.items in
    let start : Engine = record c.args.engine.now { tracks = c.see.new.tracks } in
    let fits : FitsSigned w64 c.ticks.result = search rules in
    let time = to_z-of_z w64 c.ticks.result fits ∙ c.ticks.ensures in
    let W : ℤ → Type 0 = λ t. WritesRows c.args.rules.now header before (due_part most t items) (rest_part most t items) (Ok c.in-Ok.field-0) start c.write_ready.new.engine c.args.out.now.items c.write_ready.new.out.items in
    let writes = subst W time (c.in-Ok.ensures header before (started c.args.rules.now header before c.args.row c.args.engine.now start may.stands c.see.ensures.seen refl refl)) in
    let are = are_written c.args.rules.now header before (due_part most c.args.row.ticks items) (rest_part most c.args.row.ticks items) c.in-Ok.field-0 start c.write_ready.new.engine c.args.out.now.items c.write_ready.new.out.items writes in
    omega (arith, ap length are.held, are.same.capacity, may.room_is, rest_room c.args.rules.now.format.hold most c.args.row.ticks items may.hold_least may.held_fits may.not_full)

pub returns : goal.returns
returns c = λ header before may.
    let most = c.args.engine.now.most in
    let items = c.args.engine.now.held.items in
    let start : Engine = record c.args.engine.now { tracks = c.see.new.tracks } in
    let fits : FitsSigned w64 c.ticks.result = search rules in
    let time = to_z-of_z w64 c.ticks.result fits ∙ c.ticks.ensures in
    let W : ℤ → Type 0 = λ t. WritesRows c.args.rules.now header before (due_part most t items) (rest_part most t items) (Ok c.in-Ok.field-0) start c.write_ready.new.engine c.args.out.now.items c.write_ready.new.out.items in
    let writes = subst W time (c.in-Ok.ensures header before (started c.args.rules.now header before c.args.row c.args.engine.now start may.stands c.see.ensures.seen refl refl)) in
    let are = are_written c.args.rules.now header before (due_part most c.args.row.ticks items) (rest_part most c.args.row.ticks items) c.in-Ok.field-0 start c.write_ready.new.engine c.args.out.now.items c.write_ready.new.out.items writes in
    let new : Engine = record c.write_ready.new.engine { held = c.hold.new.held } in
    is_stored c.args.rules.now header before c.args.row c.args.engine.now start c.write_ready.new.engine new c.args.out.now.items c.write_ready.new.out.items may (record { most = refl; capacity = refl }) c.see.ensures.seen are
    refl (ap (λ (h : Buffer RowView). h.items) c.hold.ensures) (ap (λ (h : Buffer RowView). h.capacity) c.hold.ensures) refl refl
