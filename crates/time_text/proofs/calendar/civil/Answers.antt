use Rattle.std.proofs.Common.{◌≡◌, refl, rules, sym, ◌∙◌, FitsSigned}
use Rattle.std.proofs.lemmas.Int.{to_z-of_z}
use Rattle.jiff.specs.Types.{DateTime}
use Rattle.jiff.specs.Words.{date_parts, time_parts, civil_nanos}
use Rattle.time_text.specs.Calendar.{civil_nanos_of}
use mir.Syntax.{w128}
use Rattle.time_text.proofs.calendar.civil.Goals as goal

nanos_of_parts : (shown : DateTime) → civil_nanos shown ≡ civil_nanos_of (date_parts shown.date) (time_parts shown.time)
unfolding civil_nanos
nanos_of_parts shown = refl

pub returns-in-Ok-clause-read : goal.returns-in-Ok-clause-read
returns-in-Ok-clause-read c =
    let fits : FitsSigned w128 c.to_nanosecond.result = search rules in
    record {
      date = date_parts c.in-Ok.datetime.date;
      time = time_parts c.in-Ok.datetime.time;
      read = sym c.in-Ok.ensures.value;
      in_utc = to_z-of_z w128 _ fits ∙ (search rules ∙ nanos_of_parts c.in-Ok.datetime);
    }
