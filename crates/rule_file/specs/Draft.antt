-- For proofs: the rules of a rule file, while its tables are read.
use Rattle.std.specs.Prelude.{ℕ, List, [], ◌∷◌, ◌++◌, Ok}
use Rattle.std.specs.List.{AllZip}
use Rattle.toml.specs.Data.{Members}
use Rattle.rule_keys.specs.declared.key.TableKind.{TableKind}
use Rattle.rule_keys.specs.declared.key.TableKind.TheVariants as table
use Rattle.rule_keys.specs.declared.read.Scale.{Scale}
use Rattle.rule_keys.specs.Table.{Reads}
use Rattle.rule_file.specs.declared.draft.Draft.{Draft}
use Rattle.rule_file.specs.Count.{count_of}
use Rattle.rule_file.specs.Meaning.{Entries, of_kind, IsSpeed, IsSwing, IsDrift, IsRange, IsTrust, IsWeight, IsBetween}

-- some table of this kind is read as these entries
abbrev pub IsRead : TableKind → Entries → Type 0
IsRead kind entries = (scale : Scale) × (found : Members) × Reads scale kind found (Ok entries)

abbrev pub count_in : Draft → ℕ
count_in draft = count_of draft.speeds draft.swings draft.drifts draft.ranges draft.trusts draft.weights draft.betweens

-- The rules are what was read, kind by kind, in its order.
pub record AreDraftOf (read : List (TableKind × Entries)) (draft : Draft) : Type 0 where
  pub speeds : AllZip IsSpeed (of_kind table.Speed read) draft.speeds
  pub swings : AllZip IsSwing (of_kind table.Swing read) draft.swings
  pub drifts : AllZip IsDrift (of_kind table.Drift read) draft.drifts
  pub ranges : AllZip IsRange (of_kind table.Range read) draft.ranges
  pub trusts : AllZip IsTrust (of_kind table.Trust read) draft.trusts
  pub weights : AllZip IsWeight (of_kind table.Weight read) draft.weights
  pub betweens : AllZip IsBetween (of_kind table.Between read) draft.betweens

-- The rule that these entries mean comes to the rules so far.
abbrev pub AddsRule : TableKind → Entries → Draft → Draft → Type 0
AddsRule kind entries old new = (read : List (TableKind × Entries)) → AreDraftOf read old → AreDraftOf (read ++ (kind, entries) ∷ []) new
