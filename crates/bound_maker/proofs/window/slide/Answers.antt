use Rattle.std.proofs.Common.{◌≡◌, ℤ, arith, pos, ◌+ℤ◌, ap, ◌∙◌, w64}
use Rattle.std.proofs.lemmas.Int.{to_z-of_z}
use Rattle.bound_maker.specs.Windows.{count_before}
use Rattle.bound_maker.proofs.Windows.{begins_first, count_bound}
use Rattle.bound_maker.proofs.window.slide.Goals as goal

pub returns-clause-ordered : goal.returns-clause-ordered
returns-clause-ordered c =
    let from = to_z-of_z w64 c.args.from c.ranges.from in
    let readings = c.args.readings.now in
    let window = c.args.window in
    let start : c.start_of.result ≡ count_before c.args.from window.least readings = c.start_of.ensures ∙ ap (λ (t : ℤ). count_before t window.least readings) from in
    let end : c.end_of.result ≡ count_before c.args.from (window.most +ℤ pos 1) readings = c.end_of.ensures ∙ ap (λ (t : ℤ). count_before t (window.most +ℤ pos 1) readings) from in
    let first = begins_first c.args.from window.least window.most readings c.requires.window.ordered in
    omega (arith, start, end, first)

pub returns-clause-within : goal.returns-clause-within
returns-clause-within c =
    let from = to_z-of_z w64 c.args.from c.ranges.from in
    let readings = c.args.readings.now in
    let window = c.args.window in
    let end : c.end_of.result ≡ count_before c.args.from (window.most +ℤ pos 1) readings = c.end_of.ensures ∙ ap (λ (t : ℤ). count_before t (window.most +ℤ pos 1) readings) from in
    let most = count_bound c.args.from (window.most +ℤ pos 1) readings in
    omega (arith, end, most)
