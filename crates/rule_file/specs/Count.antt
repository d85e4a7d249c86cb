-- To be believed: the number of rules.
use Rattle.std.specs.Prelude.{ℕ, ◌+◌, List, length}

abbrev pub count_of : {A B C D E F G : Type 0} → List A → List B → List C → List D → List E → List F → List G → ℕ
count_of speeds swings drifts ranges trusts weights betweens =
    length speeds + length swings + length drifts + length ranges + length trusts + length weights + length betweens
