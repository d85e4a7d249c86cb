use Rattle.std.proofs.Common.{◌≡◌, ◌++◌, ◌*◌, ◌^◌, ◌≤◌, ◌+ℤ◌, drop, map}
use Rattle.std.specs.Prelude.{unsigned_abs}
use Rattle.words.specs.Lists.{total}
use Rattle.screen_model.specs.declared.bound.Bound.{Bound}
use Rattle.cert_format.specs.Words.{text_of_lines}
use Rattle.cert_check.specs.Cycle.{cycle_of}
use Rattle.repair_report.specs.Lines.{step_line}
use Rattle.repair_report.proofs.cycle.push_steps.Given as goal

abbrev pub invariant-loop-name : goal.invariant-loop-name
invariant-loop-name l = record {
  text : l.text.items ++ text_of_lines (map (step_line l.rules.format.decimals) (cycle_of l.rules l.table (drop l.name-index l.cycle)))
      ≡ l.initial.text.items ++ text_of_lines (map (step_line l.rules.format.decimals) (cycle_of l.rules l.table l.cycle));
  sum : (l.sum +ℤ total (map (λ (bound : Bound). bound.limit) (cycle_of l.rules l.table (drop l.name-index l.cycle)))) ≡ total (map (λ (bound : Bound). bound.limit) (cycle_of l.rules l.table l.cycle));
  small : unsigned_abs l.sum ≤ l.name-index * 2 ^ 63;
}
