use Rattle.std.proofs.Common.{[], sym}
use Rattle.online_repair.proofs.Round.{all_parts, can_go_on, goes_on, none_held, some_held, stops, through}
use Rattle.online_repair.proofs.engine.write_all.Goals as goal

pub rows-preserved : goal.rows-preserved
rows-preserved c =
    let items = c.rows.engine.held.items in
    let some = some_held items c.is_empty.result c.is_empty.ensures c.rows-test.true in
    record {
      can = (can_go_on c.args.rules.now c.rows.engine c.write_oldest.new.engine c.rows.out.items c.write_oldest.new.out.items tt some c.rows.invariant.can c.in-Ok.ensures).0;
      goes = goes_on c.args.rules.now (λ rows. rows) (λ rows. []) c.args.engine.now c.rows.engine c.write_oldest.new.engine c.args.out.now.items c.rows.out.items c.write_oldest.new.out.items tt some (λ row rows e. all_parts row rows) c.rows.invariant.goes c.in-Ok.ensures;
    }

pub rows-smaller : goal.rows-smaller
rows-smaller c =
    let some = some_held c.rows.engine.held.items c.is_empty.result c.is_empty.ensures c.rows-test.true in
    (can_go_on c.args.rules.now c.rows.engine c.write_oldest.new.engine c.rows.out.items c.write_oldest.new.out.items tt some c.rows.invariant.can c.in-Ok.ensures).1

pub returns-in-Err : goal.returns-in-Err
returns-in-Err c = λ header before stands.
    let some = some_held c.rows.engine.held.items c.is_empty.result c.is_empty.ensures c.rows-test.true in
    stops c.args.rules.now (λ rows. rows) (λ rows. []) c.args.engine.now c.rows.engine c.write_oldest.new.engine c.args.out.now.items c.rows.out.items c.write_oldest.new.out.items c.in-Err.fault some (λ row rows e. all_parts row rows) c.rows.invariant.goes c.in-Err.ensures header before stands

pub returns : goal.returns
returns c = λ header before stands.
    let none = none_held c.rows.engine.held.items c.is_empty.result c.is_empty.ensures c.rows-test.false in
    through c.args.rules.now (λ rows. rows) (λ rows. []) c.args.engine.now c.rows.engine c.args.out.now.items c.rows.out.items none (sym none) c.rows.invariant.goes header before stands
