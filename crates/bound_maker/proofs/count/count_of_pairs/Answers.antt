use Rattle.std.proofs.Common.{◌≡◌, ℕ, Bool, cond, min, length, ap, ◌∙◌, arith}
use Rattle.std.specs.List.{count_by}
use Rattle.rule_file.specs.Numbers.{seen_rule}
use Rattle.bound_maker.specs.Bounds.{bounds_of_pairs}
use Rattle.bound_maker.specs.Pairs.{pair_bound, pairs_of}
use Rattle.bound_maker.specs.Readings.{all_pairs, neighbours}
use Rattle.bound_maker.specs.Windows.{is_pair_within}
use Rattle.bound_maker.proofs.Counts.{capped_two, no_pairs, pairs_count}
use Rattle.bound_maker.proofs.count.count_of_pairs.Goals as goal

pub returns-in-Some : goal.returns-in-Some
returns-in-Some c = λ number d col.
    let rule = seen_rule c.args.rule in
    let readings = c.args.readings.now in
    let window = c.in-Some.window in
    capped_two (count_by (is_pair_within window) (pairs_of rule readings)) c.count_in_window.result (length (bounds_of_pairs (pair_bound number rule d col) (pairs_of rule readings))) 4000001
    (pairs_count number d col rule window (pairs_of rule readings) c.in-Some.ensures)
    (c.count_in_window.ensures ∙ ap (λ (b : Bool). min (count_by (is_pair_within window) (cond b (neighbours readings) (all_pairs readings))) 4000001) c.is_of_neighbours.ensures)

pub returns-in-None : goal.returns-in-None
returns-in-None c = λ number d col.
    let rule = seen_rule c.args.rule in
    let readings = c.args.readings.now in
    let none : ◌≡◌ {A = ℕ} (length (bounds_of_pairs (pair_bound number rule d col) (pairs_of rule readings))) 0 = ap length (no_pairs number d col rule (pairs_of rule readings) c.in-None.ensures) in
    omega (arith, none)
