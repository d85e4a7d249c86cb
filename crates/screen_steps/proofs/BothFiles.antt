-- What is answered after the rules and the readings: by what was read of both.
use Rattle.std.proofs.Common.{◌≡◌, ◌≢◌, inl, inr, ℕ, ◌≤◌, ◌+◌, List, length, Ok, refl, sym, ap, subst, ◌∙◌}
use Rattle.bound_maker.specs.declared.maker.TheConstants.{MOST_BOUNDS}
use Rattle.bound_maker.specs.Bounds.{made_bounds}
use Rattle.rule_file.specs.File.{ReadsFile}
use Rattle.rule_file.specs.declared.fault.RuleFault.{RuleFault}
use Rattle.rule_file.specs.declared.read.TheConstants.{LONGEST as longest_rules}
use Rattle.rule_file.specs.declared.rules.Rules.{Rules}
use Rattle.series_csv.specs.File.{TableView, ReadsTable}
use Rattle.series_csv.specs.declared.table.TheConstants.{LONGEST as longest_readings}
use Rattle.series_rows.specs.declared.fault.TableFault.{TableFault}
use Rattle.screen_words.specs.declared.ends.Inputs.{Inputs}
use Rattle.screen_steps.specs.Answer.{Extent, Whole, Begun, Unread, Answer, AreFront, AreFronts}
use Rattle.screen_steps.specs.Files.{RulesAreOne, ReadingsAreOne, AfterRules, AfterReadings, AfterBoth, AfterBounds, HasFewBounds, rules_too_long, rules_refused, readings_too_long, readings_refused, too_many_bounds}
use Rattle.screen_steps.proofs.AfterFile.{more_and_not, after_accepted, after_follows, after_has, after_one, after_rests}

pub whole_not_unread : Whole ≢ Unread
whole_not_unread e = cc

pub begun_not_unread : {count : ℕ} → Begun count ≢ Unread
begun_not_unread e = cc

pub whole_is_read : (extent : Extent) → extent ≡ Whole → extent ≢ Unread
whole_is_read extent p e = whole_not_unread (sym p ∙ e)

-- ---- the bounds

module _ (rules : Rules) (table : TableView) where
  pub bounds_have : (P : Answer → Type 0) (Follows : Answer → Type 0) (answer : Answer) → P too_many_bounds → (Follows answer → P answer) → AfterBounds rules table Follows answer → P answer
  bounds_have P Follows answer at_many at_few (inl p) = subst P (sym p.1) at_many
  bounds_have P Follows answer at_many at_few (inr p) = at_few p.1

  pub bounds_few : (Follows : Answer → Type 0) (answer : Answer) → HasFewBounds rules table → AfterBounds rules table Follows answer → Follows answer
  bounds_few Follows answer few (inl p) = absurd (more_and_not MOST_BOUNDS (length (made_bounds rules table)) p.0 few)
  bounds_few Follows answer few (inr p) = p.1

  pub bounds_follow : (Follows Next : Answer → Type 0) (answer : Answer) → (Follows answer → Next answer) → AfterBounds rules table Follows answer → AfterBounds rules table Next answer
  bounds_follow Follows Next answer next (inl p) = inl p
  bounds_follow Follows Next answer next (inr p) = inr (p.0, next p.1)

  pub bounds_one : {B : Type 0} (part : Answer → B) (Follows : Answer → Type 0) → ((one other : Answer) → Follows one → Follows other → part one ≡ part other)
      → (one other : Answer) → AfterBounds rules table Follows one → AfterBounds rules table Follows other → part one ≡ part other
  bounds_one part Follows follow one other (inl p) (inl q) = ap part (p.1 ∙ sym q.1)
  bounds_one part Follows follow one other (inl p) (inr q) = absurd (more_and_not MOST_BOUNDS (length (made_bounds rules table)) p.0 q.0)
  bounds_one part Follows follow one other (inr p) (inl q) = absurd (more_and_not MOST_BOUNDS (length (made_bounds rules table)) q.0 p.0)
  bounds_one part Follows follow one other (inr p) (inr q) = follow one other p.1 q.1

-- ---- both files

-- every answer has a property that those of the refusals and of what follows have
pub both_have : (P : Answer → Type 0) (Follows : Rules → TableView → List ℕ → Answer → Type 0) (bytes : Inputs (List ℕ)) (answer : Answer)
    → P rules_too_long → ((fault : RuleFault) → P (rules_refused fault)) → P readings_too_long → ((fault : TableFault) → P (readings_refused fault))
    → ((rules : Rules) (table : TableView) → Follows rules table bytes.cert answer → P answer) → AfterBoth Follows bytes answer → P answer
both_have P Follows bytes answer at_long at_refused table_long table_refused at_both =
    after_has longest_rules ReadsFile rules_too_long rules_refused P bytes.rules (λ rules. AfterReadings rules bytes.readings (λ table. Follows rules table bytes.cert)) answer at_long at_refused
    (λ rules. after_has longest_readings (ReadsTable rules) readings_too_long readings_refused P bytes.readings (λ table. Follows rules table bytes.cert) answer table_long table_refused (at_both rules))

pub both_follow : (Follows Next : Rules → TableView → List ℕ → Answer → Type 0) (bytes : Inputs (List ℕ)) (answer : Answer)
    → ((rules : Rules) (table : TableView) → Follows rules table bytes.cert answer → Next rules table bytes.cert answer) → AfterBoth Follows bytes answer → AfterBoth Next bytes answer
both_follow Follows Next bytes answer next =
    after_follows longest_rules ReadsFile rules_too_long rules_refused bytes.rules
    (λ rules. AfterReadings rules bytes.readings (λ table. Follows rules table bytes.cert)) (λ rules. AfterReadings rules bytes.readings (λ table. Next rules table bytes.cert)) answer
    (λ rules. after_follows longest_readings (ReadsTable rules) readings_too_long readings_refused bytes.readings (λ table. Follows rules table bytes.cert) (λ table. Next rules table bytes.cert) answer (next rules))

pub both_one : {B : Type 0} (part : Answer → B) (Follows : Rules → TableView → List ℕ → Answer → Type 0) → RulesAreOne → ReadingsAreOne → (bytes : Inputs (List ℕ))
    → ((rules : Rules) (table : TableView) (one other : Answer) → Follows rules table bytes.cert one → Follows rules table bytes.cert other → part one ≡ part other)
    → (one other : Answer) → AfterBoth Follows bytes one → AfterBoth Follows bytes other → part one ≡ part other
both_one part Follows rules_one readings_one bytes same =
    after_one longest_rules ReadsFile rules_too_long rules_refused part rules_one bytes.rules (λ rules. AfterReadings rules bytes.readings (λ table. Follows rules table bytes.cert))
    (λ rules. after_one longest_readings (ReadsTable rules) readings_too_long readings_refused part (readings_one rules) bytes.readings (λ table. Follows rules table bytes.cert) (same rules))

-- over accepted files it is an answer by these rules and this table
pub both_accepted : (Follows : Rules → TableView → List ℕ → Answer → Type 0) → RulesAreOne → ReadingsAreOne → (bytes : Inputs (List ℕ)) (rules : Rules) (table : TableView) (answer : Answer)
    → length bytes.rules ≤ longest_rules → ReadsFile bytes.rules (Ok rules) → length bytes.readings ≤ longest_readings → ReadsTable rules bytes.readings (Ok table)
    → AfterBoth Follows bytes answer → Follows rules table bytes.cert answer
both_accepted Follows rules_one readings_one bytes rules table answer short reads short_readings reads_table p =
    after_accepted longest_readings (ReadsTable rules) readings_too_long readings_refused (readings_one rules) bytes.readings table (λ table. Follows rules table bytes.cert) answer short_readings reads_table
    (after_accepted longest_rules ReadsFile rules_too_long rules_refused rules_one bytes.rules rules (λ rules. AfterReadings rules bytes.readings (λ table. Follows rules table bytes.cert)) answer short reads p)

-- what follows comes of both files
module _ (Follows : Rules → TableView → List ℕ → Answer → Type 0)
    (wholly : (rules : Rules) (table : TableView) (cert : List ℕ) (answer : Answer) → Follows rules table cert answer → (answer.read.rules ≡ Whole) × (answer.read.readings ≡ Whole)) where
  pub needs_rules : (bytes : Inputs (List ℕ)) (answer : Answer) → AfterBoth Follows bytes answer → answer.read.rules ≢ Unread
  needs_rules bytes answer =
      both_have (λ a. a.read.rules ≢ Unread) Follows bytes answer begun_not_unread (λ fault. whole_not_unread) whole_not_unread (λ fault. whole_not_unread)
      (λ rules table p. whole_is_read answer.read.rules (wholly rules table bytes.cert answer p).0)

  pub needs_readings : RulesAreOne → (came : List ℕ) (rules : Rules) → length came ≤ longest_rules → ReadsFile came (Ok rules)
      → (bytes : Inputs (List ℕ)) (answer : Answer) → bytes.rules ≡ came → AfterBoth Follows bytes answer → answer.read.readings ≢ Unread
  needs_readings law came rules short reads bytes answer same p =
      let q : AfterReadings rules bytes.readings (λ table. Follows rules table bytes.cert) answer =
      after_accepted longest_rules ReadsFile rules_too_long rules_refused law came rules (λ rules. AfterReadings rules bytes.readings (λ table. Follows rules table bytes.cert)) answer short reads
      (subst (λ (b : List ℕ). AfterRules b (λ rules. AfterReadings rules bytes.readings (λ table. Follows rules table bytes.cert)) answer) same p)
      in
      after_has longest_readings (ReadsTable rules) readings_too_long readings_refused (λ a. a.read.readings ≢ Unread) bytes.readings (λ table. Follows rules table bytes.cert) answer
      begun_not_unread (λ fault. whole_not_unread)
      (λ table r. whole_is_read answer.read.readings (wholly rules table bytes.cert answer r).1) q

  -- an answer rests on what was read of both files, if what follows rests on what was read of the certificate
  readings_rest : (Next : Rules → TableView → List ℕ → Answer → Type 0) (rules : Rules) (came bytes : Inputs (List ℕ)) (answer : Answer) → AreFront answer.read.readings came.readings bytes.readings
      → ((table : TableView) → Follows rules table came.cert answer → Next rules table bytes.cert answer)
      → AfterReadings rules came.readings (λ table. Follows rules table came.cert) answer → AfterReadings rules bytes.readings (λ table. Next rules table bytes.cert) answer
  readings_rest Next rules came bytes answer front next =
      after_rests longest_readings (ReadsTable rules) readings_too_long readings_refused (λ a. a.read.readings) (longest_readings + 1) came.readings bytes.readings
      (λ table. Follows rules table came.cert) (λ table. Next rules table bytes.cert) answer refl (λ fault. refl)
      (λ table p. (wholly rules table came.cert answer p).1) next front

  pub both_rest : (Next : Rules → TableView → List ℕ → Answer → Type 0) (came bytes : Inputs (List ℕ)) (answer : Answer) → AreFronts answer.read came bytes
      → ((rules : Rules) (table : TableView) → Follows rules table came.cert answer → Next rules table bytes.cert answer)
      → AfterBoth Follows came answer → AfterBoth Next bytes answer
  both_rest Next came bytes answer fronts next =
      after_rests longest_rules ReadsFile rules_too_long rules_refused (λ a. a.read.rules) (longest_rules + 1) came.rules bytes.rules
      (λ rules. AfterReadings rules came.readings (λ table. Follows rules table came.cert)) (λ rules. AfterReadings rules bytes.readings (λ table. Next rules table bytes.cert)) answer refl (λ fault. refl)
      (λ rules. after_has longest_readings (ReadsTable rules) readings_too_long readings_refused (λ a. a.read.rules ≡ Whole) came.readings (λ table. Follows rules table came.cert) answer refl (λ fault. refl)
      (λ table p. (wholly rules table came.cert answer p).0))
      (λ rules. readings_rest Next rules came bytes answer fronts.1 (next rules)) fronts.0
