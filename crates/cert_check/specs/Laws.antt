-- To be believed: laws of what texts are accepted as.
use Rattle.std.specs.Prelude.{◌≡◌, ◌⊎◌, ℕ, ◌≤◌, ℤ, pos, List, length, Result, Ok}
use Rattle.cert_format.specs.declared.cert.Cert.{Cert}
use Rattle.cert_format.specs.declared.cert.Cert.TheVariants as cert
use Rattle.cert_format.specs.declared.limits.TheConstants.{LONGEST}
use Rattle.cert_format.specs.Cert.{HasText, text_of_cert}
use Rattle.cert_format.specs.Sets.{sets_of}
use Rattle.screen_model.specs.declared.bound.BoundName.{BoundName}
use Rattle.screen_model.specs.declared.bound.FlowItem.{FlowItem}
use Rattle.screen_model.specs.Best.{IsBestByItems, IsBlockedByNames}
use Rattle.screen_model.specs.Cost.{IsSeries, cost, paid}
use Rattle.screen_model.specs.Obeys.{Obeys}
use Rattle.rule_file.specs.declared.rules.Rules.{Rules}
use Rattle.series_csv.specs.File.{TableView}
use Rattle.series_csv.specs.Readings.{places, values}
use Rattle.bound_maker.specs.declared.maker.TheConstants.{MOST_BOUNDS}
use Rattle.bound_maker.specs.Costs.{whole_problem}
use Rattle.cert_check.specs.declared.accepted.Accepted.{Accepted}
use Rattle.cert_check.specs.declared.accepted.Accepted.TheVariants.{Repair, NoSeries}
use Rattle.cert_check.specs.declared.fault.CertFault.{CertFault}
use Rattle.cert_check.specs.Judges.{Judges}

-- A text has one answer only.
abbrev pub OneAnswer : Type 0
OneAnswer = (rules : Rules) (table : TableView) (bytes : List ℕ) (one other : Result Accepted CertFault) → Judges rules table bytes one → Judges rules table bytes other → one ≡ other

-- Every text has an answer.
abbrev pub AnAnswer : Type 0
AnAnswer = (rules : Rules) (table : TableView) (bytes : List ℕ) → (answer : Result Accepted CertFault) × Judges rules table bytes answer

-- The series is best among those that obey all bounds, as the flow shows, and these are what it costs and pays; and no
-- other one that obeys costs less.
pub record IsTrueRepair (rules : Rules) (table : TableView) (series : List ℤ) (flow : List FlowItem) (total paid_part : ℤ) : Type 0 where
  pub best : IsBestByItems (whole_problem rules table) series flow
  pub total_is : total ≡ pos (cost (whole_problem rules table) series)
  pub paid_is : paid_part ≡ pos (paid (whole_problem rules table) series)
  pub least : (other : List ℤ) → IsSeries (whole_problem rules table) other → Obeys (places table) other (whole_problem rules table).bounds
      → cost (whole_problem rules table) series ≤ cost (whole_problem rules table) other

-- The names are those of bounds that may not be broken and stand in a ring with a negative sum; and no series obeys.
pub record IsTrueCycle (rules : Rules) (table : TableView) (cycle : List BoundName) : Type 0 where
  pub blocked : IsBlockedByNames (whole_problem rules table).bounds cycle
  pub none : (series : List ℤ) → Obeys (places table) series (whole_problem rules table).bounds → ⊥

abbrev pub IsTrueClaim : Rules → TableView → Accepted → Type 0
IsTrueClaim rules table (Repair series flow total paid_part) = IsTrueRepair rules table series flow total paid_part
IsTrueClaim rules table (NoSeries cycle) = IsTrueCycle rules table cycle

-- What is accepted is true.
abbrev pub AcceptedIsTrue : Rules → TableView → Type 0
AcceptedIsTrue rules table = (bytes : List ℕ) (accepted : Accepted) → Judges rules table bytes (Ok accepted) → IsTrueClaim rules table accepted

-- The flow shows that the series is best, and these are what it costs and pays; or the cycle shows that no series obeys.
abbrev pub IsShown : Rules → TableView → Accepted → Type 0
IsShown rules table (Repair series flow total paid_part) =
    IsBestByItems (whole_problem rules table) series flow
    × (total ≡ pos (cost (whole_problem rules table) series))
    × (paid_part ≡ pos (paid (whole_problem rules table) series))
IsShown rules table (NoSeries cycle) = IsBlockedByNames (whole_problem rules table).bounds cycle

-- It is a certificate of the claim. That of a repair tells the total, the readings that the series changes, and the flow;
-- it may also tell what is paid. That of a cycle tells the names.
abbrev pub IsCertOf : TableView → Accepted → Cert → Type 0
IsCertOf table (Repair series flow total paid_part) given =
    (given ≡ cert.Repair total (sets_of (places table) (values table) series) flow)
    ⊎ (given ≡ cert.Priced total paid_part (sets_of (places table) (values table) series) flow)
IsCertOf table (NoSeries cycle) given = given ≡ cert.NoSeries cycle

-- What is shown is accepted: the text of each certificate of it, if it has one that is not too long.
abbrev pub TruthIsAccepted : Rules → TableView → Type 0
TruthIsAccepted rules table = (claim : Accepted) (given : Cert) → IsShown rules table claim → IsCertOf table claim given
    → HasText given → length (text_of_cert given) ≤ LONGEST → Judges rules table (text_of_cert given) (Ok claim)

-- of a repair: its flow has at most as many items as bounds may be made
abbrev pub HasFewItems : Accepted → Type 0
HasFewItems (Repair series flow total paid_part) = length flow ≤ MOST_BOUNDS
HasFewItems (NoSeries cycle) = Unit {0}

-- A certificate of what is shown by few items has no text that is too long.
abbrev pub ShownIsShort : Rules → TableView → Type 0
ShownIsShort rules table = (claim : Accepted) (given : Cert) → IsShown rules table claim → IsCertOf table claim given → HasFewItems claim
    → HasText given → length (text_of_cert given) ≤ LONGEST
