use Rattle.std.proofs.Common.{◌≡◌, ◌+◌, drop}
use Rattle.std.specs.Prelude.{not}
use Rattle.cert_format.specs.declared.cert.SetLine.{SetLine}
use Rattle.series_csv.specs.Readings.{places, values}
use Rattle.cert_check.specs.Repair.{first_line, is_change}
use Rattle.cert_check.proofs.sets.first_outside.Given as goal

abbrev pub invariant-loop-line : goal.invariant-loop-line
invariant-loop-line l = record {
  number : l.number ≡ l.before + l.line-index;
  rest : first_line (λ (line : SetLine). not (is_change (places l.table) (values l.table) line)) l.number (drop l.line-index l.sets)
      ≡ first_line (λ (line : SetLine). not (is_change (places l.table) (values l.table) line)) l.before l.sets;
}
