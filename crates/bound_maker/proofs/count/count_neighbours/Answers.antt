use Rattle.std.proofs.Common.{◌≡◌, ℕ, ◌+◌, Bool, List, cond, refl, ap, ◌∙◌, arith}
use Rattle.std.specs.List.{count_by}
use Rattle.bound_maker.specs.declared.reading.Reading.{Reading}
use Rattle.bound_maker.specs.Readings.{neighbours}
use Rattle.bound_maker.specs.Windows.{is_pair_within}
use Rattle.bound_maker.proofs.Steps.{bit_is, neighbours_step, none_left}
use Rattle.bound_maker.proofs.count.count_neighbours.Goals as goal

pub loop-from-preserved : goal.loop-from-preserved
loop-from-preserved c =
    let next = neighbours_step (is_pair_within c.args.window) c.loop-from.rest.now c.later_of-later.result.now c.in-Some.from c.loop-from.count c.from-count.result (c.loop-from.count + c.from-count.result) _ _ c.in-Some.ensures c.later_of-later.ensures
    (record { few = c.loop-from.invariant.few; count_is = c.loop-from.invariant.count }) (c.from-count.ensures ∙ (bit_is c.has_next.result ∙ ap (λ (b : Bool). cond b 1 0) c.has_next.ensures)) refl in
    record { few = next.few; count = next.count_is }

pub returns : goal.returns
returns c =
    let none : ◌≡◌ {A = ℕ} (count_by (is_pair_within c.args.window) (neighbours c.loop-from.rest.now)) 0 =
    ap (λ (rest : List Reading). count_by (is_pair_within c.args.window) (neighbours rest)) (none_left c.loop-from.rest.now c.in_default.ensures) in
    omega (arith, none, c.capped.ensures, c.loop-from.invariant.count)
