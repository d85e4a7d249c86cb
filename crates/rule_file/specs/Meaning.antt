-- To be believed: what the entries of a table mean as a rule.
use Rattle.std.specs.Prelude.{◌≡◌, ℕ, pos, ◌==◌, List, map, filter, Some, unsigned_abs, unwrap_or}
use Rattle.std.specs.List.{AllZip}
use Rattle.fix_point.specs.declared.rate.Rate.{Rate}
use Rattle.time_text.specs.declared.form.TimeForm.TheVariants.{Sec}
use Rattle.rule_keys.specs.declared.key.KeyName.{KeyName}
use Rattle.rule_keys.specs.declared.key.KeyName.TheVariants.{Decimals, Time, Form, Separator, Extra, Hold, Sensor, Min, Max, Per, Window, Most, Over, From, To, Weight, First, Second, Price}
use Rattle.rule_keys.specs.declared.key.TableKind.{TableKind}
use Rattle.rule_keys.specs.declared.key.TableKind.TheVariants as table
use Rattle.rule_keys.specs.declared.read.Scale.{Scale}
use Rattle.rule_keys.specs.Entries.{Meaning, number_at, name_at, form_at, separator_at, extra_at}
use Rattle.rule_file.specs.declared.rules.Format.{Format}
use Rattle.rule_file.specs.declared.rules.SpeedRule.{SpeedRule}
use Rattle.rule_file.specs.declared.rules.SwingRule.{SwingRule}
use Rattle.rule_file.specs.declared.rules.DriftRule.{DriftRule}
use Rattle.rule_file.specs.declared.rules.RangeRule.{RangeRule}
use Rattle.rule_file.specs.declared.rules.TrustRule.{TrustRule}
use Rattle.rule_file.specs.declared.rules.WeightRule.{WeightRule}
use Rattle.rule_file.specs.declared.rules.BetweenRule.{BetweenRule}
use Rattle.rule_file.specs.declared.rules.Rules.{Rules}

-- what was read from a table
abbrev pub Entries : Type 0
Entries = List (KeyName × Meaning)

-- the values and times in the rules are counted as the format says
abbrev pub scale_of : Entries → Scale
scale_of format = record { decimals = unsigned_abs (number_at Decimals format); form = unwrap_or (form_at Form format) Sec }

pub record IsFormatOf (entries : Entries) (read : Format) : Type 0 where
  pub decimals : number_at Decimals entries ≡ pos read.decimals
  pub time : name_at Time entries ≡ read.time
  pub form : form_at Form entries ≡ Some read.form
  pub separator : separator_at Separator entries ≡ Some read.separator
  pub extra : extra_at Extra entries ≡ Some read.extra
  pub hold : number_at Hold entries ≡ pos read.hold

-- the rate at a key, for each `per` seconds
abbrev pub IsRateAt : KeyName → Entries → Rate → Type 0
IsRateAt key entries rate = (number_at key entries ≡ rate.millionths) × (number_at Per entries ≡ pos rate.per)

pub record IsSpeed (entries : Entries) (rule : SpeedRule) : Type 0 where
  pub sensor : name_at Sensor entries ≡ Some rule.sensor
  pub min : IsRateAt Min entries rule.min
  pub max : IsRateAt Max entries rule.max
  pub window : number_at Window entries ≡ rule.window
  pub price : number_at Price entries ≡ pos rule.price

pub record IsSwing (entries : Entries) (rule : SwingRule) : Type 0 where
  pub sensor : name_at Sensor entries ≡ Some rule.sensor
  pub most : number_at Most entries ≡ rule.most
  pub window : number_at Window entries ≡ rule.window
  pub price : number_at Price entries ≡ pos rule.price

pub record IsDrift (entries : Entries) (rule : DriftRule) : Type 0 where
  pub sensor : name_at Sensor entries ≡ Some rule.sensor
  pub min : IsRateAt Min entries rule.min
  pub max : IsRateAt Max entries rule.max
  pub over : number_at Over entries ≡ rule.over
  pub window : number_at Window entries ≡ rule.window
  pub price : number_at Price entries ≡ pos rule.price

pub record IsRange (entries : Entries) (rule : RangeRule) : Type 0 where
  pub sensor : name_at Sensor entries ≡ Some rule.sensor
  pub min : number_at Min entries ≡ rule.min
  pub max : number_at Max entries ≡ rule.max
  pub from : number_at From entries ≡ rule.from
  pub to : number_at To entries ≡ rule.to
  pub price : number_at Price entries ≡ pos rule.price

pub record IsTrust (entries : Entries) (rule : TrustRule) : Type 0 where
  pub sensor : name_at Sensor entries ≡ Some rule.sensor
  pub from : number_at From entries ≡ rule.from
  pub to : number_at To entries ≡ rule.to

pub record IsWeight (entries : Entries) (rule : WeightRule) : Type 0 where
  pub sensor : name_at Sensor entries ≡ Some rule.sensor
  pub weight : number_at Weight entries ≡ pos rule.weight
  pub from : number_at From entries ≡ rule.from
  pub to : number_at To entries ≡ rule.to

pub record IsBetween (entries : Entries) (rule : BetweenRule) : Type 0 where
  pub first : name_at First entries ≡ Some rule.first
  pub second : name_at Second entries ≡ Some rule.second
  pub min : number_at Min entries ≡ rule.min
  pub max : number_at Max entries ≡ rule.max
  pub price : number_at Price entries ≡ pos rule.price

abbrev pub kind_number : TableKind → ℕ
kind_number table.Format = 0
kind_number table.Speed = 1
kind_number table.Swing = 2
kind_number table.Drift = 3
kind_number table.Range = 4
kind_number table.Trust = 5
kind_number table.Weight = 6
kind_number table.Between = 7

-- those of a kind, in their order
abbrev pub of_kind : TableKind → List (TableKind × Entries) → List Entries
of_kind kind read = map (λ rule. rule.1) (filter (λ rule. kind_number kind == kind_number rule.0) read)

-- The rules are what was read, kind by kind, in its order.
pub record AreRulesOf (read : List (TableKind × Entries)) (rules : Rules) : Type 0 where
  pub speeds : AllZip IsSpeed (of_kind table.Speed read) rules.speeds
  pub swings : AllZip IsSwing (of_kind table.Swing read) rules.swings
  pub drifts : AllZip IsDrift (of_kind table.Drift read) rules.drifts
  pub ranges : AllZip IsRange (of_kind table.Range read) rules.ranges
  pub trusts : AllZip IsTrust (of_kind table.Trust read) rules.trusts
  pub weights : AllZip IsWeight (of_kind table.Weight read) rules.weights
  pub betweens : AllZip IsBetween (of_kind table.Between read) rules.betweens
