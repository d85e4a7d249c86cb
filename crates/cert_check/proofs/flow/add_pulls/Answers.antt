use Rattle.std.proofs.Common.{rules, ◌≡◌, ◌^◌, ◌≤◌, ◌∙◌, ap, sym, subst, neg_ℤ, of_z, to_z, w64, ℤ}
use Rattle.std.specs.Prelude.{unsigned_abs}
use Rattle.std.specs.Int.{w128}
use Rattle.std.proofs.lemmas.Int.{to_z-of_z}
use Rattle.series_csv.specs.Readings.{places}
use Rattle.cert_check.proofs.Added.{added_after, mid_long, mid_small}
use Rattle.cert_check.proofs.flow.add_pulls.Goals as goal

pub add_at-requires-2-clause-long : goal.add_at-requires-2-clause-long
add_at-requires-2-clause-long c = mid_long (places c.args.table.now) c.args.pulls.now c.add_at.new.pulls c.args.bound.now.first _ c.requires.long c.add_at.ensures

pub add_at-requires-2-clause-small : goal.add_at-requires-2-clause-small
add_at-requires-2-clause-small c =
    let wide : to_z w128 (of_z w128 c.wide.result) ≡ c.wide.result = to_z-of_z w128 c.wide.result (search rules) in
    let same : to_z w64 (of_z w64 c.args.amount) ≡ c.args.amount = to_z-of_z w64 c.args.amount c.ranges.amount in
    let is : to_z w128 (of_z w128 c.wide.result) ≡ c.args.amount = wide ∙ (c.wide.ensures ∙ same) in
    mid_small (places c.args.table.now) c.args.pulls.now c.add_at.new.pulls c.args.bound.now.first (to_z w128 (of_z w128 c.wide.result)) c.requires.small
    (subst (λ (z : ℤ). unsigned_abs z ≤ 10 ^ 15) (sym is) c.requires.amount) c.add_at.ensures

pub returns : goal.returns
returns c =
    let wide : to_z w128 (of_z w128 c.wide.result) ≡ c.wide.result = to_z-of_z w128 c.wide.result (search rules) in
    let other : to_z w128 (of_z w128 c.opposite.result) ≡ c.opposite.result = to_z-of_z w128 c.opposite.result (search rules) in
    let same : to_z w64 (of_z w64 c.args.amount) ≡ c.args.amount = to_z-of_z w64 c.args.amount c.ranges.amount in
    added_after (places c.args.table.now) c.args.pulls.now c.add_at.new.pulls c.add_at-2.new.pulls c.args.bound.now (to_z w128 (of_z w128 c.wide.result)) (to_z w128 (of_z w128 c.opposite.result)) c.args.amount
    (wide ∙ (c.wide.ensures ∙ same)) (other ∙ (c.opposite.ensures ∙ ap neg_ℤ same)) c.add_at.ensures c.add_at-2.ensures
