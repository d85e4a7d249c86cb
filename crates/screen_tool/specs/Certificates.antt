-- To be believed: the certificate that is written of what was found for a table.
use Rattle.std.specs.Prelude.{ℤ, Bool, nat_lt, List, if◌then◌else◌}
use Rattle.std.specs.List.{list_any}
use Rattle.cert_check.specs.declared.accepted.Accepted.{Accepted}
use Rattle.cert_check.specs.declared.accepted.Accepted.TheVariants as accepted
use Rattle.cert_format.specs.declared.cert.Cert.{Cert}
use Rattle.cert_format.specs.declared.cert.Cert.TheVariants as cert
use Rattle.cert_format.specs.declared.cert.SetLine.{SetLine}
use Rattle.cert_format.specs.Sets.{sets_of}
use Rattle.least_cost.specs.declared.outcome.Outcome.{Outcome}
use Rattle.least_cost.specs.declared.outcome.Outcome.TheVariants.{Repaired, NoSeries}
use Rattle.rule_file.specs.Numbers.{price_of, rules_in_order}
use Rattle.rule_file.specs.declared.rules.Rules.{Rules}
use Rattle.screen_model.specs.declared.bound.FlowItem.{FlowItem}
use Rattle.series_csv.specs.File.{TableView}
use Rattle.series_csv.specs.Readings.{places, values}

-- some rule has a price
abbrev pub has_price : Rules → Bool
has_price rules = list_any (λ rule. nat_lt 0 (price_of rule)) (rules_in_order rules)

-- The certificate of a repair. Where some rule has a price it also says what is paid.
abbrev pub repair_cert : Rules → ℤ → ℤ → List SetLine → List FlowItem → Cert
repair_cert rules total paid sets flow = if has_price rules then cert.Priced total paid sets flow else cert.Repair total sets flow

-- what is claimed of what was found: a repair, or the cycle of bounds
abbrev pub claim_of : Outcome → Accepted
claim_of (Repaired series flow total paid changes) = accepted.Repair series flow total paid
claim_of (NoSeries cycle) = accepted.NoSeries cycle

-- the certificate of it
abbrev pub cert_of : Rules → TableView → Outcome → Cert
cert_of rules table (Repaired series flow total paid changes) = repair_cert rules total paid (sets_of (places table) (values table) series) flow
cert_of rules table (NoSeries cycle) = cert.NoSeries cycle
