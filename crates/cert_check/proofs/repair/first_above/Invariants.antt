use Rattle.std.proofs.Common.{◌≡◌, ◌+◌, drop}
use Rattle.screen_model.specs.declared.bound.FlowItem.{FlowItem}
use Rattle.bound_maker.specs.Bounds.{price_of_number}
use Rattle.cert_check.specs.Repair.{first_line, is_above}
use Rattle.cert_check.proofs.repair.first_above.Given as goal

abbrev pub invariant-loop-item : goal.invariant-loop-item
invariant-loop-item l = record {
  number : l.number ≡ l.before + l.item-index;
  rest : first_line (λ (item : FlowItem). is_above (price_of_number l.rules item.name.rule) item.amount) l.number (drop l.item-index l.flow)
      ≡ first_line (λ (item : FlowItem). is_above (price_of_number l.rules item.name.rule) item.amount) l.before l.flow;
}
