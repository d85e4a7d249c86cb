use Rattle.std.proofs.Common.{◌≡◌, ℕ, List, Some, None, Result, Ok, Err, sym, subst, inl, inr}
use Rattle.screen_model.specs.Best.{BlockedForbids}
use Rattle.screen_model.specs.Cost.{paid}
use Rattle.std.specs.Prelude.{pos}
use Rattle.cert_format.specs.declared.cert.Cert.{Cert}
use Rattle.cert_format.specs.declared.cert.Cert.TheVariants as cert
use Rattle.cert_format.specs.declared.fault.CertRead.{CertRead}
use Rattle.cert_format.specs.Cert.{AreLists, HasText}
use Rattle.cert_format.specs.Reads.{Reads}
use Rattle.rule_file.specs.declared.rules.Rules.{Rules}
use Rattle.series_csv.specs.File.{TableView}
use Rattle.bound_maker.specs.Costs.{whole_problem}
use Rattle.cert_check.specs.declared.accepted.Accepted.{Accepted}
use Rattle.cert_check.specs.declared.accepted.Accepted.TheVariants.{NoSeries, Repair}
use Rattle.cert_check.specs.declared.repair.Claim.{Claim}
use Rattle.cert_check.specs.Cycle.{cycle_faults}
use Rattle.cert_check.specs.Judges.{Judges, answer_to, answer_to_read, answer_to_repair}
use Rattle.cert_check.specs.Laws.{IsTrueClaim}
use Rattle.cert_check.specs.Repair.{repair_faults, series_of}
use Rattle.cert_check.proofs.Passed.{passed}
use Rattle.cert_check.proofs.Rings.{true_cycle}
use Rattle.cert_check.proofs.Truths.{IsKnown, true_repair}
use Rattle.cert_check.proofs.laws.accepted_is_true.Goals as goal

module _ (rules : Rules) (table : TableView) (known : IsKnown rules table) (forbids : BlockedForbids) where
  of_repair : (claim : Claim) (accepted : Accepted) → AreLists claim.sets claim.flow → Ok accepted ≡ answer_to_repair rules table claim → IsTrueClaim rules table accepted
  of_repair claim accepted lists is =
      let series = series_of table claim in
      let all = passed (repair_faults rules table claim) accepted (Repair series claim.flow claim.total (pos (paid (whole_problem rules table) series))) is in
      subst (λ (a : Accepted). IsTrueClaim rules table a) (sym all.same) (true_repair rules table known claim lists all.none)

  of_cert : (given : Cert) (accepted : Accepted) → HasText given → Ok accepted ≡ answer_to rules table given → IsTrueClaim rules table accepted
  of_cert (cert.Repair total sets flow) accepted has is = of_repair (record { before = 3; total = total; paid = None; sets = sets; flow = flow }) accepted has.1 is
  of_cert (cert.Priced total paid_part sets flow) accepted has is = of_repair (record { before = 4; total = total; paid = Some paid_part; sets = sets; flow = flow }) accepted has.2 is
  of_cert (cert.NoSeries steps) accepted has is =
      let all = passed (cycle_faults rules table steps) accepted (NoSeries steps) is in
      subst (λ (a : Accepted). IsTrueClaim rules table a) (sym all.same) (true_cycle rules table known.distinct forbids steps has.0 all.none)

  of_read : (bytes : List ℕ) (given : Result Cert CertRead) (accepted : Accepted) → Reads bytes given → Ok accepted ≡ answer_to_read rules table given → IsTrueClaim rules table accepted
  of_read bytes (Ok given) accepted reads is = of_cert given accepted reads.has is
  of_read bytes (Err fault) accepted reads is = absurd (cc)

  of_text : (bytes : List ℕ) (accepted : Accepted) → Judges rules table bytes (Ok accepted) → IsTrueClaim rules table accepted
  of_text bytes accepted (inl long) = absurd (cc (long.1))
  of_text bytes accepted (inr short) = of_read bytes short.1.0 accepted short.1.1 short.1.2

pub returns : goal.returns
returns c =
    let known : IsKnown c.args.rules.now c.args.table.now = record {
      apart = c.places-places.ensures.distinct;
      valued = c.places-places.ensures.len;
      distinct = c.names_are_distinct.ensures;
      sound = c.problem_is_sound.ensures;
      bind = c.made_bind_all.ensures;
      carried = c.items_within_prices.ensures;
      least = c.best_costs_least.ensures;
    } in
    λ bytes accepted judged. of_text c.args.rules.now c.args.table.now known c.blocked_forbids.ensures bytes accepted judged
