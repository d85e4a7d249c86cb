-- To be believed: what the table of a rule file is read as: its rules, or the first fault.
use Rattle.std.specs.Prelude.{◌≡◌, ◌⊎◌, ℕ, ◌+◌, ◌<◌, ◌≤◌, List, [], ◌∷◌, ◌++◌, length, map, Option, Some, None, Result, Ok, Err, codes, option_map}
use Rattle.toml.specs.Data.{Data, array, table, Items, no_items, item, Members, get_member}
use Rattle.time_text.specs.declared.form.TimeForm.TheVariants.{Sec}
use Rattle.rule_keys.specs.declared.cause.KeyCause.{KeyCause}
use Rattle.rule_file.specs.declared.fault.RuleCause.TheVariants.{UnknownKey, MissingKey, WrongKind, TooMany}
use Rattle.rule_keys.specs.declared.key.TableKind.{TableKind}
use Rattle.rule_keys.specs.declared.key.TableKind.TheVariants.{Format, Speed, Swing, Drift, Range, Trust, Weight, Between}
use Rattle.rule_keys.specs.declared.read.Scale.{Scale}
use Rattle.rule_keys.specs.Table.{HasOnly, Reads}
use Rattle.rule_file.specs.declared.fault.RuleFault.{RuleFault}
use Rattle.rule_file.specs.declared.rules.Rules.{Rules}
use Rattle.rule_file.specs.declared.rules.TheConstants.{MOST_RULES}
use Rattle.rule_file.specs.Fault.{cause_of_key, of_the_file, of_rule}
use Rattle.rule_file.specs.Meaning.{Entries, scale_of, IsFormatOf, AreRulesOf}

abbrev pub kind_text : TableKind → List ℕ
kind_text Format = codes "format"
kind_text Speed = codes "speed"
kind_text Swing = codes "swing"
kind_text Drift = codes "drift"
kind_text Range = codes "range"
kind_text Trust = codes "trust"
kind_text Weight = codes "weight"
kind_text Between = codes "between"

-- the kinds of rules, in the order of their numbers
abbrev pub rule_kinds : List TableKind
rule_kinds = Speed ∷ Swing ∷ Drift ∷ Range ∷ Trust ∷ Weight ∷ Between ∷ []

-- the keys at the top of a file
abbrev pub table_texts : List (List ℕ)
table_texts = map kind_text (Format ∷ rule_kinds)

-- the tables of an array, each with its kind, and none where a member is no table
abbrev pub tables_in : TableKind → Items → Option (List (TableKind × Members))
tables_in kind no_items = Some []
tables_in kind (item (table found) items) = option_map (λ others. (kind, found) ∷ others) (tables_in kind items)
tables_in kind (item _ items) = None

-- the tables of a kind; an absent key has none, and what is no array is wrong
abbrev pub tables_of : TableKind → Option Data → Option (List (TableKind × Members))
tables_of kind None = Some []
tables_of kind (Some (array items)) = tables_in kind items
tables_of kind (Some _) = None

abbrev pub joined : {A : Type 0} → Option (List A) → Option (List A) → Option (List A)
joined (Some xs) (Some ys) = Some (xs ++ ys)
joined (Some xs) None = None
joined None rest = None

-- the tables of all rules in the order of their numbers
abbrev pub rule_tables : List TableKind → Members → Option (List (TableKind × Members))
rule_tables [] file = Some []
rule_tables (kind ∷ kinds) file = joined (tables_of kind (get_member (kind_text kind) file)) (rule_tables kinds file)

-- The rules one after the other, the first with the number given: what each is read as, or the cause of the
-- first that is refused, with its number.
abbrev pub ReadsRules : Scale → ℕ → List (TableKind × Members) → Result (List (TableKind × Entries)) RuleFault → Type 0
ReadsRules scale number [] answer = answer ≡ Ok []
ReadsRules scale number (rule ∷ rules) (Ok []) = ⊥
ReadsRules scale number (rule ∷ rules) (Ok (read ∷ others)) =
    (read.0 ≡ rule.0) × Reads scale rule.0 rule.1 (Ok read.1) × ReadsRules scale (number + 1) rules (Ok others)
ReadsRules scale number (rule ∷ rules) (Err fault) =
    ((cause : KeyCause) × Reads scale rule.0 rule.1 (Err cause) × (fault ≡ of_rule number cause))
    ⊎ ((read : Entries) × Reads scale rule.0 rule.1 (Ok read) × ReadsRules scale (number + 1) rules (Err fault))

-- the rules with their format
abbrev pub ReadsAll : Entries → List (TableKind × Members) → Result Rules RuleFault → Type 0
ReadsAll format tables (Ok rules) =
    IsFormatOf format rules.format
    × (read : List (TableKind × Entries)) × ReadsRules (scale_of format) 1 tables (Ok read) × AreRulesOf read rules
ReadsAll format tables (Err fault) = ReadsRules (scale_of format) 1 tables (Err fault)

-- what should be an array of tables is none; or there are more than 1,000 rules; or they are read
abbrev pub ReadsTables : Entries → Option (List (TableKind × Members)) → Result Rules RuleFault → Type 0
ReadsTables format None answer = answer ≡ Err (of_the_file WrongKind)
ReadsTables format (Some tables) answer =
    ((MOST_RULES < length tables) × (answer ≡ Err (of_the_file TooMany))) ⊎ ((length tables ≤ MOST_RULES) × ReadsAll format tables answer)

-- the format, which speaks of no values and times, and then the rules
abbrev pub ReadsFormat : Members → Members → Result Rules RuleFault → Type 0
ReadsFormat file format answer =
    ((cause : KeyCause) × Reads (record { decimals = 0; form = Sec }) Format format (Err cause) × (answer ≡ Err (of_the_file (cause_of_key cause))))
    ⊎ ((read : Entries) × Reads (record { decimals = 0; form = Sec }) Format format (Ok read) × ReadsTables read (rule_tables rule_kinds file) answer)

abbrev pub ReadsWith : Members → Option Data → Result Rules RuleFault → Type 0
ReadsWith file None answer = answer ≡ Err (of_the_file MissingKey)
ReadsWith file (Some (table format)) answer = ReadsFormat file format answer
ReadsWith file (Some _) answer = answer ≡ Err (of_the_file WrongKind)

-- what the table of a file is read as; it has no other keys than those of the tables
abbrev pub ReadsDocument : Members → Result Rules RuleFault → Type 0
ReadsDocument file answer =
    ((¬ HasOnly table_texts file) × (answer ≡ Err (of_the_file UnknownKey)))
    ⊎ (HasOnly table_texts file × ReadsWith file (get_member (kind_text Format) file) answer)
