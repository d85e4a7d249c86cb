use Rattle.std.proofs.Common.{◌≡◌, ◌+◌, drop}
use Rattle.std.specs.Prelude.{◌==◌, not}
use Rattle.screen_model.specs.declared.bound.BoundName.{BoundName}
use Rattle.bound_maker.specs.Bounds.{price_of_number}
use Rattle.cert_check.specs.declared.cycle.TheConstants.{BEFORE_STEPS}
use Rattle.cert_check.specs.Repair.{first_line}
use Rattle.cert_check.proofs.cycle.first_priced.Given as goal

abbrev pub invariant-loop-name : goal.invariant-loop-name
invariant-loop-name l = record {
  number : l.number ≡ BEFORE_STEPS + l.name-index;
  rest : first_line (λ (name : BoundName). not (price_of_number l.rules name.rule == 0)) l.number (drop l.name-index l.steps)
      ≡ first_line (λ (name : BoundName). not (price_of_number l.rules name.rule == 0)) BEFORE_STEPS l.steps;
}
