use Rattle.std.proofs.Common.{◌≡◌, drop}
use Rattle.std.specs.List.{find}
use Rattle.series_rows.specs.Header.{bears, field_at}
use Rattle.series_rows.proofs.header.Header.col_of.Given as goal

abbrev pub invariant-loop-col : goal.invariant-loop-col
invariant-loop-col l =
    find (λ col. bears l.name (field_at l.self-inside.fields col)) l.self-inside.from_left ≡ find (λ col. bears l.name (field_at l.self-inside.fields col)) (drop l.col-index l.self-inside.from_left)
