use Rattle.std.proofs.Common.{[], ◌∷◌, ap, sym}
use Rattle.std.specs.Prelude.{option_map}
use Rattle.cert_check.specs.declared.fault.CertFault.TheVariants.{PricedStep, UnknownBound}
use Rattle.cert_check.specs.Cycle.{cycle_open, cycle_sum, priced_step, unknown_step}
use Rattle.cert_check.proofs.Faults.{fault_2}
use Rattle.cert_check.proofs.cycle.check_steps.Goals as goal

pub returns-in-Some : goal.returns-in-Some
returns-in-Some c =
    let rules = c.args.rules.now in
    let table = c.args.table.now in
    let steps = c.args.steps.now in
    record {
      passed = tt;
      refused = λ _. fault_2 {a = unknown_step rules table steps} {b = priced_step rules table steps} (cycle_open rules table steps ∷ cycle_sum rules table steps ∷ []) (PricedStep c.in-Some.line)
          (ap (option_map UnknownBound) c.in_ok-cycle.ensures.known) (ap (option_map PricedStep) (sym c.in-Some.ensures));
    }
