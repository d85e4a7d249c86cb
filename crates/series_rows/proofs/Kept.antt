-- What stood in a text stands there still, whatever was added.
use Rattle.std.proofs.Common.{◌≡◌, ℕ, List, ◌++◌, length, take, Result, Ok, Err, ap, ◌∙◌}
use Rattle.std.specs.Prelude.{OnErr}
use Rattle.std.proofs.Math.Seq.{take-append_seam, take-length}
use Rattle.std.specs.Io.{StartsWith}

pub front_begun : (text : List ℕ) → StartsWith text text
front_begun text = take-length text

pub front_added : (before now more : List ℕ) → now ≡ before ++ more → StartsWith now before
front_added before now more is = ap (take (length before)) is ∙ take-append_seam before more

-- what was added is taken away again
pub cut_back : {T E : Type 0} (r : Result T E) (before pushed now : List ℕ) (count : ℕ) → count ≡ length before → StartsWith pushed before → now ≡ take count pushed → OnErr r (now ≡ before)
cut_back (Ok value) before pushed now count here front cut = tt
cut_back (Err fault) before pushed now count here front cut = cut ∙ ap (λ n. take n pushed) here ∙ front
