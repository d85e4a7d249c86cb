-- Every rule file has an answer.
use Rattle.std.proofs.Common.{◌≡◌, ℕ, ◌+◌, ◌<◌, ◌≤◌, List, [], ◌∷◌, length, drop, get_or, Option, Some, None, Result, Ok, Err, inl, inr, refl, sym, ap, subst, unsigned_abs}
use Rattle.std.specs.Prelude.{option_map}
use Rattle.std.specs.List.{AllByRecursion}
use Rattle.std.proofs.lemmas.Bool.{cases_lt}
use Rattle.toml.specs.Data.{Data, string, integer, float, boolean, datetime, array, table, Items, item, Members, as_table, get_member}
use Rattle.time_text.specs.declared.form.TimeForm.TheVariants.{Sec}
use Rattle.rule_keys.specs.declared.cause.KeyCause.{KeyCause}
use Rattle.rule_keys.specs.declared.key.TableKind.{TableKind}
use Rattle.rule_keys.specs.declared.key.TableKind.TheVariants.{Format}
use Rattle.rule_keys.specs.declared.read.Scale.{Scale}
use Rattle.rule_keys.specs.Entries.{Fit}
use Rattle.rule_keys.specs.Keys.{keys_of}
use Rattle.rule_keys.specs.Table.{HasOnly, Reads}
use Rattle.rule_file.specs.declared.fault.RuleCause.TheVariants.{UnknownKey, MissingKey, WrongKind, TooMany, FileTooLong, Syntax}
use Rattle.rule_file.specs.declared.fault.RuleFault.{RuleFault}
use Rattle.rule_file.specs.declared.read.TheConstants.{LONGEST}
use Rattle.rule_file.specs.declared.rules.Rules.{Rules}
use Rattle.rule_file.specs.declared.rules.TheConstants.{MOST_RULES}
use Rattle.rule_file.specs.Answered.{HasAnswer, AllHave}
use Rattle.rule_file.specs.Document.{kind_text, rule_kinds, table_texts, rule_tables, tables_in, tables_of, joined, ReadsRules, ReadsAll, ReadsTables, ReadsFormat, ReadsWith, ReadsDocument}
use Rattle.rule_file.specs.Fault.{cause_of_key, of_the_file, of_rule}
use Rattle.rule_file.specs.File.{ReadsFile}
use Rattle.rule_file.specs.Meaning.{Entries, scale_of, IsFormatOf}
use Rattle.rule_file.specs.Toml.{IsToml}
use Rattle.rule_file.proofs.Built.{Good, format_built, rules_built, all_good, as_many}
use Rattle.rule_file.proofs.Steps.{Tables, kind_first}
use Rattle.words.proofs.Lists.{all_append}

-- ---- the tables of a file

have_more : (scale : Scale) (first : TableKind × Members) (rest : Option Tables) → HasAnswer scale first → AllHave scale rest → AllHave scale (option_map (λ others. first ∷ others) rest)
have_more scale first None has all = tt
have_more scale first (Some others) has all = (has, all)

pub have_member : (scale : Scale) (kind : TableKind) (d : Data) (items : Items) → ((found : Members) → as_table d ≡ Some found → HasAnswer scale (kind, found))
    → AllHave scale (tables_in kind items) → AllHave scale (tables_in kind (item d items))
have_member scale kind (table rows) items has all = have_more scale (kind, rows) (tables_in kind items) (has rows refl) all
have_member scale kind (string s) items has all = tt
have_member scale kind (integer z) items has all = tt
have_member scale kind (float x) items has all = tt
have_member scale kind (boolean b) items has all = tt
have_member scale kind (datetime t) items has all = tt
have_member scale kind (array rows) items has all = tt

have_joined : (scale : Scale) (first second : Option Tables) → AllHave scale first → AllHave scale second → AllHave scale (joined first second)
have_joined scale None second p q = tt
have_joined scale (Some xs) None p q = tt
have_joined scale (Some xs) (Some ys) p q = all_append (HasAnswer scale) xs ys p q

pub have_kind : (scale : Scale) (kinds : List TableKind) (i : ℕ) (file : Members) (value : Option Data) → i < length kinds
    → value ≡ get_member (kind_text (get_or kinds i Format)) file → AllHave scale (tables_of (get_or kinds i Format) value)
    → AllHave scale (rule_tables (drop (i + 1) kinds) file) → AllHave scale (rule_tables (drop i kinds) file)
have_kind scale kinds i file value within is first rest =
    subst (AllHave scale) (sym (kind_first kinds i file within))
    (have_joined scale _ _ (subst (λ found. AllHave scale (tables_of (get_or kinds i Format) found)) is first) rest)

-- ---- the rules

have_rule : (scale : Scale) (number : ℕ) (rule : TableKind × Members) (rules : Tables) (one : Result Entries KeyCause) (rest : Result (List (TableKind × Entries)) RuleFault)
    → Reads scale rule.0 rule.1 one → ReadsRules scale (number + 1) rules rest → (answer : Result (List (TableKind × Entries)) RuleFault) × ReadsRules scale number (rule ∷ rules) answer
have_rule scale number rule rules (Err cause) rest p q = (Err (of_rule number cause), inl (cause, p, refl))
have_rule scale number rule rules (Ok entries) (Ok others) p q = (Ok ((rule.0, entries) ∷ others), (refl, p, q))
have_rule scale number rule rules (Ok entries) (Err fault) p q = (Err fault, inr (entries, p, q))

have_rules : (scale : Scale) (number : ℕ) (rules : Tables) → AllByRecursion (HasAnswer scale) rules → (answer : Result (List (TableKind × Entries)) RuleFault) × ReadsRules scale number rules answer
have_rules scale number [] all = (Ok [], refl)
have_rules scale number (rule ∷ rules) all =
    let (rest, reads) = have_rules scale (number + 1) rules all.1 in
    have_rule scale number rule rules all.0.0 rest all.0.1 reads

have_read : (entries : Entries) (tables : Tables) (read : Result (List (TableKind × Entries)) RuleFault) → Fit (keys_of Format) entries → length tables ≤ MOST_RULES
    → ReadsRules (scale_of entries) 1 tables read → (answer : Result Rules RuleFault) × ReadsAll entries tables answer
have_read entries tables (Err fault) fit few reads = (Err fault, reads)
have_read entries tables (Ok read) fit few reads =
    let (format, is) = format_built entries fit in
    let counted : (scale_of entries).decimals ≡ format.decimals = ap unsigned_abs is.decimals in
    let good = subst (λ d. AllByRecursion (λ rule. Good d rule.0 rule.1) read) counted (all_good (scale_of entries) 1 tables read reads) in
    let (rules, same, are) = rules_built format read good (subst (λ n. n ≤ MOST_RULES) (sym (as_many (scale_of entries) 1 tables read reads)) few) in
    (Ok rules, (subst (IsFormatOf entries) (sym same) is, read, reads, are))

have_tables : (entries : Entries) (found : Option Tables) → Fit (keys_of Format) entries → AllHave (scale_of entries) found → (answer : Result Rules RuleFault) × ReadsTables entries found answer
have_tables entries None fit all = (Err (of_the_file WrongKind), refl)
have_tables entries (Some tables) fit all =
    elim (cases_lt MOST_RULES (length tables)) [
      | inl many ↦ (Err (of_the_file TooMany), inl (many, refl))
      | inr few ↦
          let (read, reads) = have_rules (scale_of entries) 1 tables all in
          let (answer, is) = have_read entries tables read fit few reads in
          (answer, inr (few, is))
    ]

-- ---- the file

pub refused_format : (file format : Members) (cause : KeyCause) → Reads (record { decimals = 0; form = Sec }) Format format (Err cause)
    → (answer : Result Rules RuleFault) × ReadsFormat file format answer
refused_format file format cause reads = (Err (of_the_file (cause_of_key cause)), inl (cause, reads, refl))

pub accepted_format : (file format : Members) (entries : Entries) → Reads (record { decimals = 0; form = Sec }) Format format (Ok entries) → Fit (keys_of Format) entries
    → AllHave (scale_of entries) (rule_tables rule_kinds file) → (answer : Result Rules RuleFault) × ReadsFormat file format answer
accepted_format file format entries reads fit all =
    let (answer, is) = have_tables entries (rule_tables rule_kinds file) fit all in
    (answer, inr (entries, reads, is))

pub unknown_key : (file : Members) → ¬ HasOnly table_texts file → (answer : Result Rules RuleFault) × ReadsDocument file answer
unknown_key file unknown = (Err (of_the_file UnknownKey), inl (unknown, refl))

with_no_table : (file : Members) (d : Data) → as_table d ≡ None → (answer : Result Rules RuleFault) × ReadsWith file (Some d) answer
with_no_table file (table rows) none = absurd (cc none)
with_no_table file (string s) none = (Err (of_the_file WrongKind), refl)
with_no_table file (integer z) none = (Err (of_the_file WrongKind), refl)
with_no_table file (float x) none = (Err (of_the_file WrongKind), refl)
with_no_table file (boolean b) none = (Err (of_the_file WrongKind), refl)
with_no_table file (datetime t) none = (Err (of_the_file WrongKind), refl)
with_no_table file (array rows) none = (Err (of_the_file WrongKind), refl)

with_table : (file : Members) (d : Data) (format : Members) → as_table d ≡ Some format → (answer : Result Rules RuleFault) × ReadsFormat file format answer
    → (answer : Result Rules RuleFault) × ReadsWith file (Some d) answer
with_table file (table rows) format is found = let same : format ≡ rows = cc in subst (λ (m : Members). (answer : Result Rules RuleFault) × ReadsFormat file m answer) same found
with_table file (string s) format is found = absurd (cc is)
with_table file (integer z) format is found = absurd (cc is)
with_table file (float x) format is found = absurd (cc is)
with_table file (boolean b) format is found = absurd (cc is)
with_table file (datetime t) format is found = absurd (cc is)
with_table file (array rows) format is found = absurd (cc is)

known_with : (file : Members) (found : Option Data) → HasOnly table_texts file → get_member (kind_text Format) file ≡ found → (answer : Result Rules RuleFault) × ReadsWith file found answer
    → (answer : Result Rules RuleFault) × ReadsDocument file answer
known_with file found known is (answer, reads) = (answer, inr (known, subst (λ (value : Option Data). ReadsWith file value answer) (sym is) reads))

pub no_format : (file : Members) → HasOnly table_texts file → get_member (kind_text Format) file ≡ None → (answer : Result Rules RuleFault) × ReadsDocument file answer
no_format file known none = known_with file None known none (Err (of_the_file MissingKey), refl)

pub no_table : (file : Members) (d : Data) → HasOnly table_texts file → get_member (kind_text Format) file ≡ Some d → as_table d ≡ None → (answer : Result Rules RuleFault) × ReadsDocument file answer
no_table file d known there none = known_with file (Some d) known there (with_no_table file d none)

pub a_table : (file : Members) (d : Data) (format : Members) → HasOnly table_texts file → get_member (kind_text Format) file ≡ Some d → as_table d ≡ Some format
    → (answer : Result Rules RuleFault) × ReadsFormat file format answer → (answer : Result Rules RuleFault) × ReadsDocument file answer
a_table file d format known there is found = known_with file (Some d) known there (with_table file d format is found)

pub no_toml : (bytes : List ℕ) → ((found : Members) → ¬ IsToml bytes found) → (answer : Result Rules RuleFault) × ReadsFile bytes answer
no_toml bytes none =
    elim (cases_lt LONGEST (length bytes)) [
      | inl long ↦ (Err (of_the_file FileTooLong), inl (long, refl))
      | inr short ↦ (Err (of_the_file Syntax), inr (short, inl (none, refl)))
    ]

pub a_toml : (bytes : List ℕ) (found : Members) → IsToml bytes found → (answer : Result Rules RuleFault) × ReadsDocument found answer → (answer : Result Rules RuleFault) × ReadsFile bytes answer
a_toml bytes found is (answer, reads) =
    elim (cases_lt LONGEST (length bytes)) [
      | inl long ↦ (Err (of_the_file FileTooLong), inl (long, refl))
      | inr short ↦ (answer, inr (short, inr (found, is, reads)))
    ]
