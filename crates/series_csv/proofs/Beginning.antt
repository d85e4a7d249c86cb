-- What a reader that has read nothing stands for.
use Rattle.std.proofs.Common.{◌≡◌, ℕ, List, [], Option, None, refl, sym, ap, subst}
use Rattle.record_cut.specs.Ended.{Ended, so_far}
use Rattle.record_cut.specs.Records.{records_within, records_from, without_mark, text_from, records}
use Rattle.record_cut.specs.StandsFor as Cut
use Rattle.rule_file.specs.declared.rules.Rules.{Rules}
use Rattle.series_rows.specs.Before.{BeforeView, nothing_before}
use Rattle.series_rows.specs.Header.{HeaderView}
use Rattle.series_rows.specs.Row.{RowView}
use Rattle.series_rows.specs.declared.limits.Limits.{Limits}
use Rattle.series_csv.specs.File.{cut_fault, ReadsSoFar}
use Rattle.series_csv.specs.Read.{Read, ReadsRecords}
use Rattle.series_csv.specs.StandsFor.{StandsFor, HasRead}
use Rattle.series_csv.specs.declared.reader.RowReader.{RowReader}
use Rattle.series_csv.specs.declared.reader.Stage.TheVariants.{Open}

-- no bytes are cut into no records
no_bytes : (sep : ℕ) → so_far sep [] ≡ record { records = []; fault = None }
unfolding records text_from records_from records_within without_mark
no_bytes sep = refl

nothing_read : (rules : Rules) (limits : Limits) (header : Option HeaderView) (before : BeforeView) → header ≡ None → before ≡ nothing_before → HasRead rules limits [] header before []
nothing_read rules limits header before no_header none =
    subst (λ h. HasRead rules limits [] h before []) (sym no_header) (record { reads = refl; before_is = none })

-- nothing is read of no bytes
pub nothing_reads : (rules : Rules) (limits : Limits) (rows : List RowView) → rows ≡ [] → ReadsSoFar rules limits [] (record { header = None; rows = rows; fault = None })
nothing_reads rules limits rows none =
    let read : Read = record { header = None; rows = rows; fault = None } in
    subst (λ (c : Ended). ReadsRecords rules limits c.records (cut_fault c.records c.fault) read) (sym (no_bytes rules.format.separator)) (ap (λ rs. record { header = None; rows = rs; fault = None }) none)

-- a reader as it is made
pub record IsNew (reader : RowReader) (rules : Rules) (limits : Limits) : Type 0 where
  pub rules_are : reader.rules.now ≡ rules
  pub limits_are : reader.limits ≡ limits
  pub is_open : reader.stage ≡ Open
  pub cuts : Cut.StandsFor reader.cutter rules.format.separator []
  pub no_header : reader.progress.header ≡ None
  pub none_before : reader.progress.before ≡ nothing_before

pub new_stands : (reader : RowReader) (rules : Rules) (limits : Limits) → IsNew reader rules limits → StandsFor reader rules limits []
new_stands reader rules limits new =
    let sep = rules.format.separator in
    let read = nothing_read rules limits reader.progress.header reader.progress.before new.no_header new.none_before in
    record {
      rules_are = new.rules_are;
      limits_are = new.limits_are;
      is_open = new.is_open;
      cuts = new.cuts;
      no_fault = ap (λ (c : Ended). c.fault) (no_bytes sep);
      rows = [];
      read = subst (λ (c : Ended). HasRead rules limits c.records reader.progress.header reader.progress.before []) (sym (no_bytes sep)) read;
    }
