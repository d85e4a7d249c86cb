use Rattle.std.proofs.Common.{rules, ℕ, ◌≡◌, ◌+◌, ◌∙◌, ap, Bool, false, List, length, replicate, arith}
use Rattle.series_csv.specs.Readings.{places}
use Rattle.cert_check.specs.Marks.{ends_of}
use Rattle.cert_check.proofs.Marked.{length-ends_of, unmarked}
use Rattle.cert_check.proofs.marks.no_marks.Goals as goal

pub returns : goal.returns
returns c =
    let long : c.len.result + 1 ≡ length (ends_of (places c.args.table.now)) = omega (arith, length-ends_of (places c.args.table.now), c.len.ensures.len, c.places-places.ensures.len) in
    let unset : (n : ℕ) → List Bool = λ n. replicate n false in
    let marks : c.in_ok-marks.marks.items ≡ unset (c.len.result + 1) = search rules in
    c.from_vec.ensures ∙ (marks ∙ (ap unset long ∙ unmarked (ends_of (places c.args.table.now))))
