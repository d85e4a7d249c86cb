use Rattle.std.proofs.Common.{◌≡◌, ◌+◌, ◌*◌, ◌^◌, ◌≤◌, ◌+ℤ◌, drop, length, map, not}
use Rattle.std.specs.Prelude.{unsigned_abs}
use Rattle.screen_model.specs.declared.bound.FlowItem.{FlowItem}
use Rattle.screen_model.specs.declared.place.Place.{Place}
use Rattle.series_csv.specs.Readings.{places}
use Rattle.bound_maker.specs.Costs.{whole_problem}
use Rattle.cert_check.specs.Repair.{first_line, is_known}
use Rattle.cert_check.specs.Tally.{AreWithin}
use Rattle.cert_check.proofs.Tallied.{limit_worth, pull_worth, pulls_with, worth_of}
use Rattle.cert_check.proofs.flow.tally_flow.Given as goal

abbrev pub invariant-loop-item : goal.invariant-loop-item
invariant-loop-item l = record {
  number : l.number ≡ l.before + l.item-index;
  lines : first_line (λ (item : FlowItem). not (is_known (whole_problem l.rules l.table).bounds item.name)) l.number (drop l.item-index l.flow)
      ≡ first_line (λ (item : FlowItem). not (is_known (whole_problem l.rules l.table).bounds item.name)) l.before l.flow;
  pulls : pulls_with (whole_problem l.rules l.table).bounds (drop l.item-index l.flow) (places l.table) l.tally.pulls
      ≡ map (λ (place : Place). worth_of (pull_worth place) (whole_problem l.rules l.table).bounds l.flow) (places l.table);
  limits : (l.tally.limits +ℤ worth_of limit_worth (whole_problem l.rules l.table).bounds (drop l.item-index l.flow)) ≡ worth_of limit_worth (whole_problem l.rules l.table).bounds l.flow;
  long : length l.tally.pulls ≡ length (places l.table);
  small : AreWithin (l.item-index * (2 * 10 ^ 15)) l.tally.pulls;
  small_limits : unsigned_abs l.tally.limits ≤ l.item-index * (4 * 10 ^ 30);
}
