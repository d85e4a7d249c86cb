use Rattle.std.proofs.Common.{◌≡◌, ℤ, List, ◌∷◌, FitsSigned, to_z, of_z, rules, sym, ap, ◌∙◌, subst}
use Rattle.std.specs.Int.{w64}
use Rattle.std.proofs.lemmas.Int.{to_z-of_z}
use Rattle.std.specs.Prelude.{Ok, Err}
use Rattle.series_rows.specs.Row.{RowView}
use Rattle.online_repair.specs.Engines.{WritesRows, due_part, first_due, rest_part}
use Rattle.online_repair.proofs.Round.{all_rest, can_go_on, due_parts, due_some, goes_on, none_due, stops, through}
use Rattle.online_repair.proofs.engine.write_ready.Goals as goal

pub rows-preserved : goal.rows-preserved
rows-preserved c =
    let most = c.args.engine.now.most in
    let now = to_z w64 (of_z w64 c.args.now) in
    let items = c.rows.engine.held.items in
    let fits : FitsSigned w64 c.rows.engine.most = search rules in
    let same = (c.rows.invariant.goes c.requires.header c.requires.before c.requires.stands).same.most in
    let due = ap (λ (m : ℤ). first_due m now items) (sym (to_z-of_z w64 c.rows.engine.most fits ∙ same)) ∙ sym c.rows-test.ensures in
    let some = due_some most now items due in
    let parts = λ (row : RowView) (rows : List RowView) (e : items ≡ row ∷ rows). due_parts most now items row rows due e in
    record {
      can = (can_go_on c.args.rules.now c.rows.engine c.write_oldest.new.engine c.rows.out.items c.write_oldest.new.out.items tt some c.rows.invariant.can c.in-Ok.ensures).0;
      goes = goes_on c.args.rules.now (due_part most now) (rest_part most now) c.args.engine.now c.rows.engine c.write_oldest.new.engine c.args.out.now.items c.rows.out.items c.write_oldest.new.out.items tt some parts c.rows.invariant.goes c.in-Ok.ensures;
    }

pub rows-smaller : goal.rows-smaller
rows-smaller c =
    let most = c.args.engine.now.most in
    let now = to_z w64 (of_z w64 c.args.now) in
    let items = c.rows.engine.held.items in
    let fits : FitsSigned w64 c.rows.engine.most = search rules in
    let same = (c.rows.invariant.goes c.requires.header c.requires.before c.requires.stands).same.most in
    let due = ap (λ (m : ℤ). first_due m now items) (sym (to_z-of_z w64 c.rows.engine.most fits ∙ same)) ∙ sym c.rows-test.ensures in
    let some = due_some most now items due in
    let parts = λ (row : RowView) (rows : List RowView) (e : items ≡ row ∷ rows). due_parts most now items row rows due e in
    (can_go_on c.args.rules.now c.rows.engine c.write_oldest.new.engine c.rows.out.items c.write_oldest.new.out.items tt some c.rows.invariant.can c.in-Ok.ensures).1

pub returns-in-Err : goal.returns-in-Err
returns-in-Err c = λ header before stands.
    let most = c.args.engine.now.most in
    let now = to_z w64 (of_z w64 c.args.now) in
    let items = c.rows.engine.held.items in
    let fits : FitsSigned w64 c.rows.engine.most = search rules in
    let same = (c.rows.invariant.goes c.requires.header c.requires.before c.requires.stands).same.most in
    let due = ap (λ (m : ℤ). first_due m now items) (sym (to_z-of_z w64 c.rows.engine.most fits ∙ same)) ∙ sym c.rows-test.ensures in
    let some = due_some most now items due in
    let parts = λ (row : RowView) (rows : List RowView) (e : items ≡ row ∷ rows). due_parts most now items row rows due e in
    let N : ℤ → Type 0 = λ t. WritesRows c.args.rules.now header before (due_part most t c.args.engine.now.held.items) (rest_part most t c.args.engine.now.held.items) (Err c.in-Err.fault) c.args.engine.now c.write_oldest.new.engine c.args.out.now.items c.write_oldest.new.out.items in
    subst N (to_z-of_z w64 c.args.now c.ranges.now)
    (stops c.args.rules.now (due_part most now) (rest_part most now) c.args.engine.now c.rows.engine c.write_oldest.new.engine c.args.out.now.items c.rows.out.items c.write_oldest.new.out.items c.in-Err.fault some parts c.rows.invariant.goes c.in-Err.ensures header before stands)

pub returns : goal.returns
returns c = λ header before stands.
    let most = c.args.engine.now.most in
    let now = to_z w64 (of_z w64 c.args.now) in
    let items = c.rows.engine.held.items in
    let fits : FitsSigned w64 c.rows.engine.most = search rules in
    let same = (c.rows.invariant.goes c.requires.header c.requires.before c.requires.stands).same.most in
    let done = ap (λ (m : ℤ). first_due m now items) (sym (to_z-of_z w64 c.rows.engine.most fits ∙ same)) ∙ sym c.rows-test.ensures in
    let N : ℤ → Type 0 = λ t. WritesRows c.args.rules.now header before (due_part most t c.args.engine.now.held.items) (rest_part most t c.args.engine.now.held.items) (Ok tt) c.args.engine.now c.rows.engine c.args.out.now.items c.rows.out.items in
    subst N (to_z-of_z w64 c.args.now c.ranges.now)
    (through c.args.rules.now (due_part most now) (rest_part most now) c.args.engine.now c.rows.engine c.args.out.now.items c.rows.out.items (none_due most now items done) (all_rest most now items done) c.rows.invariant.goes header before stands)
