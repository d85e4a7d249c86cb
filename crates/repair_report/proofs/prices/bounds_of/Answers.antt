use Rattle.std.proofs.Common.{ℕ, rules, ltb, leb, drop, sym}
use Rattle.std.proofs.lemmas.List.Sorted.{IsNonDecreasingBy-drop, IsPartitionPoint-from_clause, IsPartitionedBy-leb, IsPartitionedBy-ltb}
use Rattle.screen_model.specs.declared.bound.Bound.{Bound}
use Rattle.repair_report.proofs.Runs.{bounds_between}
use Rattle.repair_report.proofs.prices.bounds_of.Goals as goal

pub returns : goal.returns
returns c =
    let rule_in : Bound → ℕ = λ bound. bound.name.rule in
    let bounds = c.args.bounds.now in
    let number = c.args.number in
    let before = c.partition_point-before.result in
    let first = IsPartitionPoint-from_clause (λ (bound : Bound). ltb bound.name.rule number) bounds before c.partition_point-before.ensures.partitioned
    (IsPartitionedBy-ltb rule_in bounds number c.requires) (λ a r f' called. search rules) in
    let last = IsPartitionPoint-from_clause (λ (bound : Bound). leb bound.name.rule number) c.after-later.result.now c.partition_point-count.result c.partition_point-count.ensures.partitioned
    (rw c.after-later.ensures (IsPartitionedBy-leb rule_in (drop before bounds) number (IsNonDecreasingBy-drop rule_in before bounds c.requires))) (λ a r f' called. search rules) in
    let of_rule = bounds_between bounds number before c.partition_point-count.result c.partition_point-before.ensures.bound (rw c.after-later.ensures at c.partition_point-count.ensures.bound) first (rw c.after-later.ensures at last) in
    rw c.after-later.ensures (sym of_rule)
