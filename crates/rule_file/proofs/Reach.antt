-- What was read passes the checks of its kind, so the rates of the rules reach no further than they may.
use Rattle.std.proofs.Common.{◌≡◌, ℕ, ◌+◌, ℤ, pos, List, [], ◌∷◌, subst}
use Rattle.std.specs.Prelude.{Result, Ok, All}
use Rattle.std.specs.List.{AllZip, AllByRecursion}
use Rattle.std.proofs.lemmas.List.Elements.{All-from_recursion}
use Rattle.toml.specs.Data.{Members}
use Rattle.fix_point.specs.declared.rate.Rate.{Rate}
use Rattle.rule_keys.specs.declared.key.TableKind.{TableKind}
use Rattle.rule_keys.specs.declared.key.TableKind.TheVariants.{Speed, Drift}
use Rattle.rule_keys.specs.declared.read.Scale.{Scale}
use Rattle.rule_keys.specs.Keys.{checks_of}
use Rattle.rule_keys.specs.Table.{Passes, rate_of}
use Rattle.rule_file.specs.declared.fault.RuleFault.{RuleFault}
use Rattle.rule_file.specs.declared.draft.Draft.{Draft}
use Rattle.rule_file.specs.declared.rules.Format.{Format}
use Rattle.rule_file.specs.declared.rules.SpeedRule.{SpeedRule}
use Rattle.rule_file.specs.declared.rules.DriftRule.{DriftRule}
use Rattle.rule_file.specs.Document.{ReadsRules}
use Rattle.rule_file.specs.Draft.{AreDraftOf}
use Rattle.fix_point.specs.Rates.{IsInReach}
use Rattle.rule_file.specs.Limits.{AreInReach}
use Rattle.rule_file.specs.Meaning.{Entries, of_kind, scale_of, IsFormatOf, IsSpeed, IsDrift}
use Rattle.rule_file.proofs.Checks.{reads_passes}
use Rattle.rule_file.proofs.ByKind.{of_speeds, of_drifts}

-- the entries pass the checks of the kind
abbrev pub PassesAll : ℕ → TableKind → Entries → Type 0
PassesAll d kind entries = AllByRecursion (Passes d entries) (checks_of kind)

abbrev pub AllPass : ℕ → List (TableKind × Entries) → Type 0
AllPass d read = AllByRecursion (λ rule. PassesAll d rule.0 rule.1) read

pub rules_pass : (scale : Scale) (number : ℕ) (tables : List (TableKind × Members)) (read : List (TableKind × Entries))
    → ReadsRules scale number tables (Ok read) → AllPass scale.decimals read
rules_pass scale number [] [] reads = tt
rules_pass scale number [] (entry ∷ read) reads = absurd (cc reads)
rules_pass scale number (rule ∷ tables) [] reads = absurd reads
rules_pass scale number (rule ∷ tables) (entry ∷ read) reads =
    (rw reads.0 (reads_passes scale rule.0 rule.1 entry.1 reads.1), rules_pass scale (number + 1) tables read reads.2)

pub within_reach : (d : ℕ) (z per window span : ℤ) (rate : Rate) → z ≡ rate.millionths → per ≡ pos rate.per → window ≡ span
    → IsInReach d (rate_of z per) window → IsInReach d rate span
within_reach d z per window span rate is_z is_per is_window reaches = rw (is_z, is_per, is_window) at reaches

pub speed_reaches : (d : ℕ) (entries : Entries) (rule : SpeedRule) → IsSpeed entries rule → PassesAll d Speed entries → AreInReach d rule.min rule.max rule.window
speed_reaches d entries rule means passes = (
  within_reach d _ _ _ rule.window rule.min means.min.0 means.min.1 means.window passes.1.0,
  within_reach d _ _ _ rule.window rule.max means.max.0 means.max.1 means.window passes.1.1.0,
)

pub drift_reaches : (d : ℕ) (entries : Entries) (rule : DriftRule) → IsDrift entries rule → PassesAll d Drift entries → AreInReach d rule.min rule.max rule.window
drift_reaches d entries rule means passes = (
  within_reach d _ _ _ rule.window rule.min means.min.0 means.min.1 means.window passes.1.1.0,
  within_reach d _ _ _ rule.window rule.max means.max.0 means.max.1 means.window passes.1.1.1.0,
)

-- a fact of the entries that holds of their rules too
pub carried : {R : Type 0} (Is : Entries → R → Type 0) (P : Entries → Type 0) (Q : R → Type 0) → ((entries : Entries) (rule : R) → Is entries rule → P entries → Q rule)
    → (read : List Entries) (rules : List R) → AllZip Is read rules → AllByRecursion P read → AllByRecursion Q rules
carried Is P Q one [] [] zip all = tt
carried Is P Q one [] (rule ∷ rules) zip all = absurd zip
carried Is P Q one (entries ∷ read) [] zip all = absurd zip
carried Is P Q one (entries ∷ read) (rule ∷ rules) zip all = (one entries rule zip.0 all.0, carried Is P Q one read rules zip.1 all.1)

pub speeds_reach : (scale : Scale) (d : ℕ) (tables : List (TableKind × Members)) (read : List (TableKind × Entries)) (draft : Draft)
    → scale.decimals ≡ d → ReadsRules scale 1 tables (Ok read) → AreDraftOf read draft → All (λ rule. AreInReach d rule.min rule.max rule.window) draft.speeds
speeds_reach scale d tables read draft same reads kept =
    rw (← same)
    (All-from_recursion (λ (rule : SpeedRule). AreInReach scale.decimals rule.min rule.max rule.window) draft.speeds
    (carried IsSpeed (PassesAll scale.decimals Speed) (λ (rule : SpeedRule). AreInReach scale.decimals rule.min rule.max rule.window)
    (speed_reaches scale.decimals) (of_kind Speed read) draft.speeds kept.speeds (of_speeds (PassesAll scale.decimals) read (rules_pass scale 1 tables read reads))))

pub drifts_reach : (scale : Scale) (d : ℕ) (tables : List (TableKind × Members)) (read : List (TableKind × Entries)) (draft : Draft)
    → scale.decimals ≡ d → ReadsRules scale 1 tables (Ok read) → AreDraftOf read draft → All (λ rule. AreInReach d rule.min rule.max rule.window) draft.drifts
drifts_reach scale d tables read draft same reads kept =
    rw (← same)
    (All-from_recursion (λ (rule : DriftRule). AreInReach scale.decimals rule.min rule.max rule.window) draft.drifts
    (carried IsDrift (PassesAll scale.decimals Drift) (λ (rule : DriftRule). AreInReach scale.decimals rule.min rule.max rule.window)
    (drift_reaches scale.decimals) (of_kind Drift read) draft.drifts kept.drifts (of_drifts (PassesAll scale.decimals) read (rules_pass scale 1 tables read reads))))

-- what the rules are counted in
pub same_scale : (entries : Entries) (format : Format) (scale : Scale) → IsFormatOf entries format → scale.decimals ≡ format.decimals → scale.form ≡ format.form
    → scale ≡ scale_of entries
same_scale entries format scale is decimals form = rw (is.decimals, is.form, ← decimals, ← form)

pub reads_scaled : (scale other : Scale) (tables : List (TableKind × Members)) (answer : Result (List (TableKind × Entries)) RuleFault)
    → scale ≡ other → ReadsRules scale 1 tables answer → ReadsRules other 1 tables answer
reads_scaled scale other tables answer same reads = subst (λ (s : Scale). ReadsRules s 1 tables answer) same reads
