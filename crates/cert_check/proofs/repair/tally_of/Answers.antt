use Rattle.std.proofs.Common.{◌≡◌, ◌≢◌, ℕ, Bool, not, List, Some, Result, subst}
use Rattle.std.specs.Prelude.{IfErr, option_map}
use Rattle.screen_model.specs.declared.bound.FlowItem.{FlowItem}
use Rattle.bound_maker.specs.Costs.{whole_problem}
use Rattle.cert_check.specs.declared.fault.CertFault.{CertFault}
use Rattle.cert_check.specs.declared.fault.CertFault.TheVariants.{Memory, UnknownBound}
use Rattle.cert_check.specs.declared.flow.Tally.{Tally}
use Rattle.cert_check.specs.Repair.{first_line, is_known}
use Rattle.cert_check.proofs.repair.tally_of.Goals as goal

abbrev Unknown : (FlowItem → Bool) → Result Tally CertFault → ℕ → List FlowItem → Type 0
Unknown test result before flow = IfErr result (λ fault. fault ≢ Memory → option_map UnknownBound (first_line test before flow) ≡ Some fault)

moved : (test : FlowItem → Bool) (result : Result Tally CertFault) (before n : ℕ) (flow items : List FlowItem) → before ≡ n → flow ≡ items → Unknown test result before flow → Unknown test result n items
moved test result before n flow items e f h = subst (λ (m : ℕ). Unknown test result m items) e (subst (λ (xs : List FlowItem). Unknown test result before xs) f h)

pub returns-clause-unknown : goal.returns-clause-unknown
returns-clause-unknown c =
    moved (λ (item : FlowItem). not (is_known (whole_problem c.args.rules.now c.args.table.now).bounds item.name)) c.tally_flow.result _ _ _ _ c.before_flow.ensures c.as_slice.ensures c.tally_flow.ensures.unknown
