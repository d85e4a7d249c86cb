-- Want of memory is no reason to refuse a file, and concerns no rule.
use Rattle.std.proofs.Common.{◌≡◌, ◌≢◌, ℕ, ◌+◌, List, [], ◌∷◌, Option, Some, None, Result, Ok, Err, IfErr, inl, inr, sym, ap, ◌∙◌}
use Rattle.std.proofs.lemmas.Bool.{cases_eq}
use Rattle.words.specs.Answers.{UnlessMemory}
use Rattle.toml.specs.Data.{Data, string, integer, float, boolean, datetime, array, table, Members, get_member}
use Rattle.rule_keys.specs.declared.cause.KeyCause.{KeyCause}
use Rattle.rule_keys.specs.declared.cause.KeyCause.TheVariants as key
use Rattle.rule_keys.specs.declared.key.TableKind.{TableKind}
use Rattle.rule_keys.specs.declared.key.TableKind.TheVariants.{Format}
use Rattle.rule_keys.specs.declared.read.Scale.{Scale}
use Rattle.rule_file.specs.declared.fault.RuleCause.{RuleCause}
use Rattle.rule_file.specs.declared.fault.RuleCause.TheVariants as cause
use Rattle.rule_file.specs.declared.fault.RuleFault.{RuleFault}
use Rattle.rule_file.specs.declared.rules.Rules.{Rules}
use Rattle.rule_file.specs.Document.{kind_text, rule_kinds, rule_tables, ReadsRules, ReadsTables, ReadsFormat, ReadsWith, ReadsDocument}
use Rattle.rule_file.specs.Fault.{cause_of_key, of_the_file}
use Rattle.rule_file.specs.File.{ReadsFile}
use Rattle.rule_file.specs.Meaning.{Entries, scale_of}

key_is_other : (found : KeyCause) → cause_of_key found ≢ cause.Memory
key_is_other key.UnknownKey same = cc
key_is_other key.MissingKey same = cc
key_is_other key.WrongKind same = cc
key_is_other key.BadNumber same = cc
key_is_other key.OutOfLimit same = cc
key_is_other key.Order same = cc
key_is_other key.ReachTooLarge same = cc
key_is_other key.SameSensor same = cc

-- a fault of another cause
other_cause : (fault : RuleFault) (found : RuleCause) → found ≢ cause.Memory → ◌≡◌ {A = Result Rules RuleFault} (Err fault) (Err (of_the_file found)) → fault.cause ≢ cause.Memory
other_cause fault found other is same =
    let e : fault ≡ of_the_file found = cc in
    other (sym (ap (λ (f : RuleFault). f.cause) e) ∙ same)

rules_other : (scale : Scale) (number : ℕ) (tables : List (TableKind × Members)) (fault : RuleFault) → ReadsRules scale number tables (Err fault) → fault.cause ≢ cause.Memory
rules_other scale number [] fault reads = absurd (cc reads)
rules_other scale number (rule ∷ tables) fault (inl reads) = λ same. key_is_other reads.0 (sym (ap (λ (f : RuleFault). f.cause) reads.2) ∙ same)
rules_other scale number (rule ∷ tables) fault (inr reads) = rules_other scale (number + 1) tables fault reads.2

tables_other : (format : Entries) (tables : Option (List (TableKind × Members))) (fault : RuleFault) → ReadsTables format tables (Err fault) → fault.cause ≢ cause.Memory
tables_other format None fault reads = other_cause fault cause.WrongKind (λ same. cc) reads
tables_other format (Some tables) fault (inl reads) = other_cause fault cause.TooMany (λ same. cc) reads.1
tables_other format (Some tables) fault (inr reads) = rules_other (scale_of format) 1 tables fault reads.1

format_other : (file format : Members) (fault : RuleFault) → ReadsFormat file format (Err fault) → fault.cause ≢ cause.Memory
format_other file format fault (inl reads) = other_cause fault (cause_of_key reads.0) (key_is_other reads.0) reads.2
format_other file format fault (inr reads) = tables_other reads.0 (rule_tables rule_kinds file) fault reads.2

with_other : (file : Members) (found : Option Data) (fault : RuleFault) → ReadsWith file found (Err fault) → fault.cause ≢ cause.Memory
with_other file None fault reads = other_cause fault cause.MissingKey (λ same. cc) reads
with_other file (Some (table format)) fault reads = format_other file format fault reads
with_other file (Some (string s)) fault reads = other_cause fault cause.WrongKind (λ same. cc) reads
with_other file (Some (integer z)) fault reads = other_cause fault cause.WrongKind (λ same. cc) reads
with_other file (Some (float x)) fault reads = other_cause fault cause.WrongKind (λ same. cc) reads
with_other file (Some (boolean b)) fault reads = other_cause fault cause.WrongKind (λ same. cc) reads
with_other file (Some (datetime t)) fault reads = other_cause fault cause.WrongKind (λ same. cc) reads
with_other file (Some (array rows)) fault reads = other_cause fault cause.WrongKind (λ same. cc) reads

document_other : (file : Members) (fault : RuleFault) → ReadsDocument file (Err fault) → fault.cause ≢ cause.Memory
document_other file fault (inl reads) = other_cause fault cause.UnknownKey (λ same. cc) reads.1
document_other file fault (inr reads) = with_other file (get_member (kind_text Format) file) fault reads.1

file_other : (bytes : List ℕ) (fault : RuleFault) → ReadsFile bytes (Err fault) → fault.cause ≢ cause.Memory
file_other bytes fault (inl reads) = other_cause fault cause.FileTooLong (λ same. cc) reads.1
file_other bytes fault (inr (short, inl reads)) = other_cause fault cause.Syntax (λ same. cc) reads.1
file_other bytes fault (inr (short, inr reads)) = document_other reads.0 fault reads.2

pub of_no_rule : (bytes : List ℕ) (answer : Result Rules RuleFault) → UnlessMemory (of_the_file cause.Memory) (ReadsFile bytes) answer
    → IfErr answer (λ fault. fault.cause ≡ cause.Memory → fault.rule ≡ 0)
of_no_rule bytes (Ok rules) reads = tt
of_no_rule bytes (Err fault) reads = λ is.
    elim (cases_eq fault.rule 0) [
      | inl none ↦ none
      | inr some ↦ absurd (file_other bytes fault (reads (λ same. let e : fault ≡ of_the_file cause.Memory = cc in some (ap (λ (f : RuleFault). f.rule) e))) is)
    ]
