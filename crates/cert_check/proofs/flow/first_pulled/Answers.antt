use Rattle.std.proofs.Common.{rules, ◌≡◌, ◌∙◌, pos, true, false, None, List, ℕ, length, ap, sym, arith, get_or, of_z, to_z}
use Rattle.std.specs.Prelude.{nat_lt, slice_get, unsigned_abs}
use Rattle.std.specs.Int.{w128}
use Rattle.std.proofs.lemmas.Int.{to_z-of_z}
use Rattle.series_csv.specs.Readings.{places}
use Rattle.series_csv.proofs.Indexing.{some_within}
use Rattle.bound_maker.specs.Costs.{weights}
use Rattle.cert_check.specs.Repair.{first_pulled}
use Rattle.cert_check.proofs.Pulled.{all_within, pulled_at, pulled_nowhere, pulls_light}
use Rattle.cert_check.proofs.flow.first_pulled.Goals as goal

pub returns-then-is_pulled-clause-first : goal.returns-then-is_pulled-clause-first
returns-then-is_pulled-clause-first c =
    let pulls = c.args.pulls.now in
    let heavy = weights c.args.rules.now c.args.table.now in
    let whole = places c.args.table.now in
    let j = c.loop-pull.pull-index in
    let same : to_z w128 (of_z w128 (get_or pulls j (pos 0))) ≡ get_or pulls j (pos 0) = to_z-of_z w128 (get_or pulls j (pos 0)) (search rules) in
    let found = ap (slice_get heavy) (sym c.loop-pull.invariant.place) ∙ (ap (λ (ws : List ℕ). slice_get ws c.loop-pull.i) (sym c.requires.allowed) ∙ c.number_at.ensures) in
    let test = ap (λ z. nat_lt c.number_at.result (unsigned_abs z)) (sym same) ∙ (sym c.is_pulled.ensures ∙ c.if-is_pulled.true) in
    c.place.ensures
    ∙ (ap (slice_get whole) c.loop-pull.invariant.place
    ∙ (sym (pulled_at pulls heavy whole j c.number_at.result true c.loop-pull-test.true c.requires.long found test)
    ∙ c.loop-pull.invariant.rest))

pub returns-then-is_pulled-clause-within : goal.returns-then-is_pulled-clause-within
returns-then-is_pulled-clause-within c =
    λ none. absurd (some_within (places c.args.table.now) c.loop-pull.i (omega (arith, c.loop-pull-test.true, c.requires.long, c.loop-pull.invariant.place)) (sym c.place.ensures ∙ none))

pub loop-pull-preserved : goal.loop-pull-preserved
loop-pull-preserved c =
    let pulls = c.args.pulls.now in
    let heavy = weights c.args.rules.now c.args.table.now in
    let whole = places c.args.table.now in
    let j = c.loop-pull.pull-index in
    let same : to_z w128 (of_z w128 (get_or pulls j (pos 0))) ≡ get_or pulls j (pos 0) = to_z-of_z w128 (get_or pulls j (pos 0)) (search rules) in
    let found = ap (slice_get heavy) (sym c.loop-pull.invariant.place) ∙ (ap (λ (ws : List ℕ). slice_get ws c.loop-pull.i) (sym c.requires.allowed) ∙ c.number_at.ensures) in
    let test = ap (λ z. nat_lt c.number_at.result (unsigned_abs z)) (sym same) ∙ (sym c.is_pulled.ensures ∙ c.if-is_pulled.false) in
    record {
      place = omega (arith, c.loop-pull.invariant.place);
      rest = sym (pulled_at pulls heavy whole j c.number_at.result false c.loop-pull-test.true c.requires.long found test) ∙ c.loop-pull.invariant.rest;
    }

pub returns-clause-within : goal.returns-clause-within
returns-clause-within c =
    let none : first_pulled c.args.pulls.now (weights c.args.rules.now c.args.table.now) (places c.args.table.now) ≡ None =
    sym c.loop-pull.invariant.rest ∙ pulled_nowhere c.args.pulls.now (weights c.args.rules.now c.args.table.now) (places c.args.table.now) c.loop-pull.pull-index c.loop-pull-test.false in
    λ _. pulls_light c.args.pulls.now (weights c.args.rules.now c.args.table.now)
    (all_within c.args.pulls.now (weights c.args.rules.now c.args.table.now) (places c.args.table.now) c.requires.long c.problem_is_sound.ensures.weighted none)
    c.problem_is_sound.ensures.weights

pub number_at-requires : goal.number_at-requires
number_at-requires c =
    let long = ap (λ (ws : List ℕ). length ws) c.requires.allowed in
    omega (arith, long, c.requires.long, c.problem_is_sound.ensures.weighted, c.loop-pull-test.true, c.loop-pull.invariant.place)
