use Rattle.std.proofs.Common.{◌≡◌, ◌≤◌, length, None, Some, Ok, refl, sym, ap, ◌∙◌, inl, inr}
use Rattle.cert_format.specs.declared.cert.Cert.{Cert}
use Rattle.cert_format.specs.declared.limits.TheConstants.{LONGEST}
use Rattle.cert_format.specs.Cert.{HasText, text_of_cert}
use Rattle.rule_file.specs.declared.rules.Rules.{Rules}
use Rattle.series_csv.specs.File.{TableView}
use Rattle.cert_check.specs.declared.accepted.Accepted.{Accepted}
use Rattle.cert_check.specs.declared.accepted.Accepted.TheVariants.{NoSeries, Repair}
use Rattle.cert_check.specs.Judges.{Judges, answer_to}
use Rattle.cert_check.specs.Laws.{IsCertOf, IsShown}
use Rattle.cert_check.proofs.Ringed.{shown_cycle}
use Rattle.cert_check.proofs.Shown.{IsRead, no_difference, shown_repair}
use Rattle.cert_check.specs.declared.fault.CertFault.TheVariants.{PaidWrong}
use Rattle.cert_check.proofs.laws.truth_is_accepted.Goals as goal

module _ (rules : Rules) (table : TableView) (read : IsRead rules table) where
  answered : (claim : Accepted) (given : Cert) → IsShown rules table claim → IsCertOf table claim given → Ok claim ≡ answer_to rules table given
  answered (Repair series flow total part) given shown (inl is) =
      shown_repair rules table read series flow shown.0 3 total part None shown.1 shown.2 refl ∙ ap (answer_to rules table) (sym is)
  answered (Repair series flow total part) given shown (inr is) =
      shown_repair rules table read series flow shown.0 4 total part (Some part) shown.1 shown.2 (no_difference part part (PaidWrong part part) refl) ∙ ap (answer_to rules table) (sym is)
  answered (NoSeries cycle) given shown is = shown_cycle rules table read.distinct cycle shown ∙ ap (answer_to rules table) (sym is)

  judged : (claim : Accepted) (given : Cert) → IsShown rules table claim → IsCertOf table claim given → HasText given → length (text_of_cert given) ≤ LONGEST → Judges rules table (text_of_cert given) (Ok claim)
  judged claim given shown is has short = inr (short, (Ok given, record { has = has; text = refl }, answered claim given shown is))

pub returns : goal.returns
returns c =
    let read : IsRead c.args.rules.now c.args.table.now = record {
      apart = c.places-places.ensures.distinct;
      valued = sym c.places-places.ensures.len;
      distinct = c.names_are_distinct.ensures;
      part = c.made_is_a_part.ensures c.args.rules.now c.args.table.now;
      carried = c.items_within_prices.ensures;
      tell = c.sets_tell_series.ensures;
    } in
    judged c.args.rules.now c.args.table.now read
