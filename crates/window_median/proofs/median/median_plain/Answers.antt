use Rattle.std.proofs.Common.{◌≡◌, ◌/◌, length, rules, sym, subst, ℤ, FitsSigned, arith}
use Rattle.std.proofs.lemmas.Int.{to_z-of_z}
use Rattle.std.proofs.lemmas.List.Sorted.{length_permutation}
use Rattle.std.specs.Int.{w64}
use Rattle.window_median.specs.Median.{IsMedian}
use Rattle.window_median.proofs.Ranks.{middle_is_median}
use Rattle.window_median.proofs.median.median_plain.Goals as goal

pub returns-clause-median : goal.returns-clause-median
returns-clause-median c =
    let fits : FitsSigned w64 c.index.result.now = search rules in
    let P : ℤ → Type 0 = λ m. IsMedian c.args.keys.now.items m in
    let same = length_permutation c.args.keys.now.items c.sort_unstable.new.self.items c.sort_unstable.ensures.permutation in
    let long : c.len.result ≡ length c.sort_unstable.new.self.items = search rules in
    subst P (sym (to_z-of_z w64 c.index.result.now fits)) (middle_is_median c.args.keys.now.items c.sort_unstable.new.self.items (c.len.result / 2) c.index.result.now c.requires c.sort_unstable.ensures.permutation c.sort_unstable.ensures.sorted (omega (arith, same, long)) c.index.ensures)
