-- A line more is written.
use Rattle.std.proofs.Common.{◌≡◌, ℕ, suc, ◌+◌, ℤ, List, ◌++◌, sym, ap, ◌∙◌, arith}
use Rattle.std.proofs.lemmas.List.{append_assoc}
use Rattle.sample_maker.specs.Walk.{reading_of}
use Rattle.sample_maker.specs.Texts.{line_text, lines_text}

pub line_more : (header text pushed : List ℕ) (seed time : ℕ) (reading : ℤ)
    → text ≡ header ++ lines_text time seed → pushed ≡ text ++ line_text time reading → reading ≡ reading_of seed (time + 1)
    → pushed ≡ header ++ lines_text (time + 1) seed
unfolding lines_text
line_more header text pushed seed time reading before added is =
    let next : suc time ≡ time + 1 = omega arith in
    added
    ∙ ap (λ t. t ++ line_text time reading) before
    ∙ append_assoc header (lines_text time seed) (line_text time reading)
    ∙ ap (λ r. header ++ (lines_text time seed ++ line_text time r)) (is ∙ ap (reading_of seed) (sym next))
    ∙ ap (λ n. header ++ lines_text n seed) next
