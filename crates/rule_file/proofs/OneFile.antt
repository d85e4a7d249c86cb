-- A rule file has one answer.
use Rattle.std.proofs.Common.{◌≡◌, ◌⊎◌, ℕ, ◌+◌, List, [], ◌∷◌, Option, Some, None, Result, Ok, Err, inl, inr, sym, ap, ◌∙◌, subst, arith}
use Rattle.words.proofs.Answers.{HasOne, value_or_cause, one_cause, one_good}
use Rattle.toml.specs.Data.{Data, string, integer, float, boolean, datetime, array, table, Members, get_member}
use Rattle.time_text.specs.declared.form.TimeForm.TheVariants.{Sec}
use Rattle.rule_keys.specs.declared.cause.KeyCause.{KeyCause}
use Rattle.rule_file.specs.declared.fault.RuleCause.TheVariants.{Syntax}
use Rattle.rule_keys.specs.declared.key.TableKind.{TableKind}
use Rattle.rule_keys.specs.declared.key.TableKind.TheVariants.{Format}
use Rattle.rule_keys.specs.declared.read.Scale.{Scale}
use Rattle.rule_keys.specs.Table.{Reads}
use Rattle.rule_file.specs.declared.fault.RuleFault.{RuleFault}
use Rattle.rule_file.specs.declared.rules.Rules.{Rules}
use Rattle.rule_file.specs.Meaning.{Entries, scale_of, AreRulesOf}
use Rattle.rule_file.specs.Document.{kind_text, rule_kinds, rule_tables, ReadsRules, ReadsAll, ReadsTables, ReadsFormat, ReadsWith, ReadsDocument}
use Rattle.rule_file.specs.Fault.{cause_of_key, of_the_file, of_rule}
use Rattle.rule_file.specs.Toml.{IsToml}
use Rattle.rule_file.specs.File.{ReadsFile}
use Rattle.rule_file.proofs.OneRule.{one_rules}

-- what is proved of tables
abbrev pub TablesAreOne : Type 0
TablesAreOne = (scale : Scale) (kind : TableKind) (given : Members) (one other : Result Entries KeyCause) → Reads scale kind given one → Reads scale kind given other → one ≡ other

-- ---- the rules one after the other

same_read : (one other : TableKind × Entries) (ones others : List (TableKind × Entries)) → one.0 ≡ other.0 → one.1 ≡ other.1 → ones ≡ others → ◌≡◌ {A = Result (List (TableKind × Entries)) RuleFault} (Ok (one ∷ ones)) (Ok (other ∷ others))
same_read one other ones others kinds entries rest =
    let first : one ≡ other = λ i. (kinds i, entries i) in
    λ i. Ok (first i ∷ rest i)

no_rule_refused : TablesAreOne → (scale : Scale) (number : ℕ) (rule : TableKind × Members) (rules : List (TableKind × Members)) → HasOne (ReadsRules scale (number + 1) rules) → (read : TableKind × Entries) (others : List (TableKind × Entries)) (fault : RuleFault) → ReadsRules scale number (rule ∷ rules) (Ok (read ∷ others)) → ReadsRules scale number (rule ∷ rules) (Err fault) → ⊥
no_rule_refused tables scale number rule rules rest read others fault p (inl q) = value_or_cause (Reads scale rule.0 rule.1) (tables scale rule.0 rule.1) read.1 q.0 p.1 q.1
no_rule_refused tables scale number rule rules rest read others fault p (inr q) = value_or_cause (ReadsRules scale (number + 1) rules) rest others fault p.2 q.2

first_refused : TablesAreOne → (scale : Scale) (number : ℕ) (rule : TableKind × Members) (rules : List (TableKind × Members)) → HasOne (ReadsRules scale (number + 1) rules) → (one other : RuleFault) → ReadsRules scale number (rule ∷ rules) (Err one) → ReadsRules scale number (rule ∷ rules) (Err other) → one ≡ other
first_refused tables scale number rule rules rest one other (inl p) (inl q) =
    let same = one_cause (Reads scale rule.0 rule.1) (tables scale rule.0 rule.1) p.0 q.0 p.1 q.1 in
    p.2 ∙ (ap (of_rule number) same ∙ sym q.2)
first_refused tables scale number rule rules rest one other (inl p) (inr q) = absurd (value_or_cause (Reads scale rule.0 rule.1) (tables scale rule.0 rule.1) q.0 p.0 q.1 p.1)
first_refused tables scale number rule rules rest one other (inr p) (inl q) = absurd (value_or_cause (Reads scale rule.0 rule.1) (tables scale rule.0 rule.1) p.0 q.0 p.1 q.1)
first_refused tables scale number rule rules rest one other (inr p) (inr q) = one_cause (ReadsRules scale (number + 1) rules) rest one other p.2 q.2

rules_step : TablesAreOne → (scale : Scale) (number : ℕ) (rule : TableKind × Members) (rules : List (TableKind × Members)) → HasOne (ReadsRules scale (number + 1) rules) → HasOne (ReadsRules scale number (rule ∷ rules))
rules_step tables scale number rule rules rest (Ok []) other p q = absurd p
rules_step tables scale number rule rules rest (Ok (one ∷ ones)) (Ok []) p q = absurd q
rules_step tables scale number rule rules rest (Ok (one ∷ ones)) (Ok (other ∷ others)) p q =
    same_read one other ones others (p.0 ∙ sym q.0) (one_good (Reads scale rule.0 rule.1) (tables scale rule.0 rule.1) one.1 other.1 p.1 q.1) (one_good (ReadsRules scale (number + 1) rules) rest ones others p.2 q.2)
rules_step tables scale number rule rules rest (Ok (one ∷ ones)) (Err fault) p q = absurd (no_rule_refused tables scale number rule rules rest one ones fault p q)
rules_step tables scale number rule rules rest (Err fault) (Ok []) p q = absurd q
rules_step tables scale number rule rules rest (Err fault) (Ok (other ∷ others)) p q = absurd (no_rule_refused tables scale number rule rules rest other others fault q p)
rules_step tables scale number rule rules rest (Err one) (Err other) p q = ap Err (first_refused tables scale number rule rules rest one other p q)

rules_one : TablesAreOne → (scale : Scale) (number : ℕ) (rules : List (TableKind × Members)) → HasOne (ReadsRules scale number rules)
rules_one tables scale number [] one other p q = p ∙ sym q
rules_one tables scale number (rule ∷ rules) one other p q = rules_step tables scale number rule rules (rules_one tables scale (number + 1) rules) one other p q

-- ---- the document

all_one : TablesAreOne → (format : Entries) (given : List (TableKind × Members)) → HasOne (ReadsAll format given)
all_one tables format given (Ok one) (Ok other) p q =
    let same = one_good (ReadsRules (scale_of format) 1 given) (rules_one tables (scale_of format) 1 given) q.1 p.1 q.2 p.2 in
    ap Ok (one_rules format p.1 one other p.0 p.3 q.0 (subst (λ read. AreRulesOf read other) same q.3))
all_one tables format given (Ok one) (Err fault) p q = absurd (value_or_cause (ReadsRules (scale_of format) 1 given) (rules_one tables (scale_of format) 1 given) p.1 fault p.2 q)
all_one tables format given (Err fault) (Ok other) p q = absurd (value_or_cause (ReadsRules (scale_of format) 1 given) (rules_one tables (scale_of format) 1 given) q.1 fault q.2 p)
all_one tables format given (Err one) (Err other) p q = ap Err (one_cause (ReadsRules (scale_of format) 1 given) (rules_one tables (scale_of format) 1 given) one other p q)

tables_one : TablesAreOne → (format : Entries) (given : Option (List (TableKind × Members))) → HasOne (ReadsTables format given)
tables_one tables format None one other p q = p ∙ sym q
tables_one tables format (Some given) one other (inl p) (inl q) = p.1 ∙ sym q.1
tables_one tables format (Some given) one other (inl p) (inr q) = absurd (omega (arith, p.0, q.0))
tables_one tables format (Some given) one other (inr p) (inl q) = absurd (omega (arith, p.0, q.0))
tables_one tables format (Some given) one other (inr p) (inr q) = all_one tables format given one other p.1 q.1

format_one : TablesAreOne → (file format : Members) → HasOne (ReadsFormat file format)
format_one tables file format one other (inl p) (inl q) =
    let same = one_cause (Reads (record { decimals = 0; form = Sec }) Format format) (tables (record { decimals = 0; form = Sec }) Format format) p.0 q.0 p.1 q.1 in
    p.2 ∙ (ap (λ cause. Err (of_the_file (cause_of_key cause))) same ∙ sym q.2)
format_one tables file format one other (inl p) (inr q) = absurd (value_or_cause (Reads (record { decimals = 0; form = Sec }) Format format) (tables (record { decimals = 0; form = Sec }) Format format) q.0 p.0 q.1 p.1)
format_one tables file format one other (inr p) (inl q) = absurd (value_or_cause (Reads (record { decimals = 0; form = Sec }) Format format) (tables (record { decimals = 0; form = Sec }) Format format) p.0 q.0 p.1 q.1)
format_one tables file format one other (inr p) (inr q) =
    let same = one_good (Reads (record { decimals = 0; form = Sec }) Format format) (tables (record { decimals = 0; form = Sec }) Format format) q.0 p.0 q.1 p.1 in
    tables_one tables p.0 (rule_tables rule_kinds file) one other p.2 (subst (λ read. ReadsTables read (rule_tables rule_kinds file) other) same q.2)

with_one : TablesAreOne → (file : Members) (found : Option Data) → HasOne (ReadsWith file found)
with_one tables file None one other p q = p ∙ sym q
with_one tables file (Some (table format)) one other p q = format_one tables file format one other p q
with_one tables file (Some (string text)) one other p q = p ∙ sym q
with_one tables file (Some (integer z)) one other p q = p ∙ sym q
with_one tables file (Some (float x)) one other p q = p ∙ sym q
with_one tables file (Some (boolean b)) one other p q = p ∙ sym q
with_one tables file (Some (datetime moment)) one other p q = p ∙ sym q
with_one tables file (Some (array items)) one other p q = p ∙ sym q

document_one : TablesAreOne → (file : Members) → HasOne (ReadsDocument file)
document_one tables file one other (inl p) (inl q) = p.1 ∙ sym q.1
document_one tables file one other (inl p) (inr q) = absurd (p.0 q.0)
document_one tables file one other (inr p) (inl q) = absurd (q.0 p.0)
document_one tables file one other (inr p) (inr q) = with_one tables file (get_member (kind_text Format) file) one other p.1 q.1

-- ---- the bytes

one_table : (bytes : List ℕ) (one other : Members) → IsToml bytes one → IsToml bytes other → one ≡ other
one_table bytes one other p q = let first = p.parsed in let second = q.parsed in cc

-- what bytes that are not too many are read as
abbrev ReadsShort : List ℕ → Result Rules RuleFault → Type 0
ReadsShort bytes answer =
    (((found : Members) → ¬ IsToml bytes found) × (answer ≡ Err (of_the_file Syntax)))
    ⊎ ((found : Members) × IsToml bytes found × ReadsDocument found answer)

short_one : TablesAreOne → (bytes : List ℕ) → HasOne (ReadsShort bytes)
short_one tables bytes one other (inl p) (inl q) = p.1 ∙ sym q.1
short_one tables bytes one other (inl p) (inr q) = absurd (p.0 q.0 q.1)
short_one tables bytes one other (inr p) (inl q) = absurd (q.0 p.0 p.1)
short_one tables bytes one other (inr p) (inr q) =
    let same = one_table bytes q.0 p.0 q.1 p.1 in
    document_one tables p.0 one other p.2 (subst (λ found. ReadsDocument found other) same q.2)

pub file_one : TablesAreOne → (bytes : List ℕ) (one other : Result Rules RuleFault) → ReadsFile bytes one → ReadsFile bytes other → one ≡ other
file_one tables bytes one other (inl p) (inl q) = p.1 ∙ sym q.1
file_one tables bytes one other (inl p) (inr q) = absurd (omega (arith, p.0, q.0))
file_one tables bytes one other (inr p) (inl q) = absurd (omega (arith, p.0, q.0))
file_one tables bytes one other (inr p) (inr q) = short_one tables bytes one other p.1 q.1
