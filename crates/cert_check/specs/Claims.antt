-- For proofs: what a text that is not too long keeps of a claim, and the faults of a repair in three parts.
use Rattle.std.specs.Prelude.{◌≡◌, ◌+◌, ◌*◌, ◌≤◌, ℤ, pos, List, [], ◌∷◌, ◌++◌, length, Option, Some, None}
use Rattle.std.specs.List.{AllByRecursion}
use Rattle.screen_model.specs.Cost.{paid}
use Rattle.cert_format.specs.Line.{IsItem}
use Rattle.cert_format.specs.declared.limits.TheConstants.{LONGEST}
use Rattle.rule_file.specs.declared.rules.Rules.{Rules}
use Rattle.series_csv.specs.File.{TableView}
use Rattle.bound_maker.specs.Costs.{whole_problem}
use Rattle.cert_check.specs.declared.fault.CertFault.{CertFault}
use Rattle.cert_check.specs.declared.repair.Claim.{Claim}
use Rattle.cert_check.specs.Repair.{broken, over_price, paid_wrong, pull_too_great, series_of, set_outside, total_wrong, unknown_item, value_differs}

-- There are few enough lines, and each amount is one that a flow line may have. A flow line has eleven bytes or more.
pub record IsFit (claim : Claim) : Type 0 where
  pub before : claim.before ≤ 4
  pub lines : length claim.sets + length claim.flow ≤ LONGEST
  pub items : 11 * length claim.flow ≤ LONGEST
  pub each : AllByRecursion IsItem claim.flow

-- the first of the faults that are there
abbrev pub first_fault : List (Option CertFault) → Option CertFault
first_fault [] = None
first_fault (Some fault ∷ faults) = Some fault
first_fault (None ∷ faults) = first_fault faults

-- of the lines, each by itself
abbrev pub line_faults : Rules → TableView → Claim → List (Option CertFault)
line_faults rules table claim = set_outside rules table claim ∷ unknown_item rules table claim ∷ over_price rules table claim ∷ []

-- of the series
abbrev pub series_faults : Rules → TableView → Claim → List (Option CertFault)
series_faults rules table claim = broken rules table claim ∷ total_wrong rules table claim ∷ paid_wrong rules table claim ∷ []

-- of the flow as a whole
abbrev pub flow_faults : Rules → TableView → Claim → List (Option CertFault)
flow_faults rules table claim = pull_too_great rules table claim ∷ value_differs rules table claim ∷ []

abbrev pub number_faults : Rules → TableView → Claim → List (Option CertFault)
number_faults rules table claim = series_faults rules table claim ++ flow_faults rules table claim

-- the series of a claim, and what it pays
pub record IsSeriesAndPaid (rules : Rules) (table : TableView) (claim : Claim) (series : List ℤ) (part : ℤ) : Type 0 where
  pub series_is : series ≡ series_of table claim
  pub paid_is : part ≡ pos (paid (whole_problem rules table) (series_of table claim))
