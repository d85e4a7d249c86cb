-- What each check of the first record says of its answer.
use Rattle.std.proofs.Common.{◌≡◌, ℕ, ◌<◌, ◌≤◌, inl, inr, List, length, Ok, Err, refl, sym, ap, subst, ◌∙◌}
use Rattle.rule_file.specs.declared.rules.Rules.{Rules}
use Rattle.rule_file.specs.Numbers.{sensors}
use Rattle.series_rows.specs.Faults.{fault_at}
use Rattle.series_rows.specs.Header.{IsHeader, RefusesHeader, HeaderView, columns_of, named_by_sensors, time_column}
use Rattle.series_rows.specs.Kept.{header_view, KeepsHeader}
use Rattle.series_rows.specs.declared.fault.TableCause.TheVariants.{TooManyColumns}
use Rattle.series_rows.specs.declared.fault.TableFault.{TableFault}
use Rattle.screen_model.specs.declared.limits.TheConstants.{MOST_COLUMNS}
use Rattle.series_rows.proofs.ByName.{time_within}

pub too_many_fields : (rules : Rules) (fields : List (List ℕ)) (fault : TableFault) → MOST_COLUMNS < length fields → fault ≡ fault_at 0 0 TooManyColumns → RefusesHeader rules fields fault
too_many_fields rules fields fault many is = inl (many, is)

pub time_fails : (rules : Rules) (fields : List (List ℕ)) (fault : TableFault) → length fields ≤ MOST_COLUMNS → time_column rules.format.time fields ≡ Err fault → RefusesHeader rules fields fault
time_fails rules fields fault few is = inr (few, inl is)

pub sensor_fails : (rules : Rules) (fields : List (List ℕ)) (fault : TableFault) (time : ℕ) → length fields ≤ MOST_COLUMNS → time_column rules.format.time fields ≡ Ok time → columns_of time fields (sensors rules) ≡ Err fault → RefusesHeader rules fields fault
sensor_fails rules fields fault time few is fails = inr (few, inr (time, is, fails))

pub header_read : (rules : Rules) (fields : List (List ℕ)) (time : ℕ) (cols : List ℕ) (header : HeaderView) → header ≡ header_view fields time cols → length fields ≤ MOST_COLUMNS
    → time_column rules.format.time fields ≡ Ok time → columns_of time fields (sensors rules) ≡ Ok cols → IsHeader rules fields header
header_read rules fields time cols header is few time_is cols_are = subst (IsHeader rules fields) (sym is) (record { fields_are = refl; few = few; time = time_is; sensors_are = cols_are })

pub header_keeps : (rules : Rules) (fields : List (List ℕ)) (time : ℕ) (cols given from_left : List ℕ) (width : ℕ) → length fields ≤ MOST_COLUMNS → time_column rules.format.time fields ≡ Ok time
    → width ≡ length fields → given ≡ cols → from_left ≡ named_by_sensors given width → KeepsHeader (header_view fields time cols) from_left
header_keeps rules fields time cols given from_left width few is wide same are =
    let within = time_within rules.format.time fields time is in
    record { time_least = within.0; time_most = within.1; few = few; from_left_are = are ∙ ap (λ cs. named_by_sensors cs width) same ∙ ap (named_by_sensors cols) wide }
