use Rattle.std.proofs.Common.{◌≡◌, ◌≢◌, ◌==◌, ◌&&◌, false, ap, sym, ◌∙◌, subst, arith}
use Rattle.std.specs.List.{AllByRecursion}
use Rattle.std.proofs.lemmas.List.{take_more, take_all}
use Rattle.std.proofs.lemmas.Bool.Decides.{nat_tests}
use Rattle.screen_model.specs.declared.place.Place.{Place}
use Rattle.words.proofs.Lists.{all_push}
use Rattle.tests_solver.proofs.bound_graph_tests.is_new.Goals as goal

-- places that differ by the test of rows and columns differ
differ : (p q : Place) → ((p.row == q.row) && (p.col == q.col)) ≡ false → q ≢ p
differ p q other same =
    let row : q.row ≡ p.row = ap (λ (r : Place). r.row) same in
    let col : q.col ≡ p.col = ap (λ (r : Place). r.col) same in
    grind (arith, nat_tests)

pub loop-other-preserved : goal.loop-other-preserved
loop-other-preserved c =
    let places = c.args.places.now in
    let i = c.loop-other.other-index in
    let none : Place = record { row = 0; col = 0 } in
    rw (take_more places i none c.loop-other-test.true) (all_push (λ other. c.args.place ≢ other) _ _ c.loop-other.invariant (differ _ c.args.place (sym c.eq.ensures ∙ c.if-eq.false)))

pub returns : goal.returns
returns c = λ _. subst (AllByRecursion (λ other. c.args.place ≢ other)) (take_all c.loop-other.other-index c.args.places.now c.loop-other-test.false) c.loop-other.invariant
