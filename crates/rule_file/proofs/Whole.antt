-- What a whole file is read as, from what its table is read as.
use Rattle.std.proofs.Common.{◌≡◌, ℕ, ◌≤◌, List, length, Some, None, inr, subst}
use Rattle.std.specs.Prelude.{Result, Err}
use Rattle.words.specs.Answers.{UnlessMemory}
use Rattle.toml.specs.Data.{Data, string, integer, float, boolean, datetime, array, table, Members, get_member, as_table}
use Rattle.rule_file.specs.declared.fault.RuleCause.TheVariants.{MissingKey, WrongKind, Memory}
use Rattle.rule_keys.specs.declared.key.TableKind.TheVariants.{Format}
use Rattle.rule_keys.specs.Table.{HasOnly}
use Rattle.rule_file.specs.declared.fault.RuleFault.{RuleFault}
use Rattle.rule_file.specs.declared.rules.Rules.{Rules}
use Rattle.rule_file.specs.Document.{kind_text, table_texts, ReadsFormat, ReadsWith, ReadsDocument}
use Rattle.rule_file.specs.File.{ReadsFile}
use Rattle.rule_file.specs.Fault.{of_the_file}
use Rattle.rule_file.specs.declared.read.TheConstants.{LONGEST}
use Rattle.rule_file.specs.Toml.{IsToml}

pub no_format : (file : Members) (answer : Result Rules RuleFault) → HasOnly table_texts file → get_member (kind_text Format) file ≡ None
    → answer ≡ Err (of_the_file MissingKey) → ReadsDocument file answer
no_format file answer known none is = inr (known, rw none is)

pub wrong_format : (file : Members) (d : Data) (answer : Result Rules RuleFault) → as_table d ≡ None
    → answer ≡ Err (of_the_file WrongKind) → ReadsWith file (Some d) answer
wrong_format file (string s) answer none is = is
wrong_format file (integer z) answer none is = is
wrong_format file (float x) answer none is = is
wrong_format file (boolean b) answer none is = is
wrong_format file (datetime t) answer none is = is
wrong_format file (array rows) answer none is = is
wrong_format file (table rows) answer none is = absurd (cc none)

pub no_table : (file : Members) (d : Data) (answer : Result Rules RuleFault) → HasOnly table_texts file → get_member (kind_text Format) file ≡ Some d
    → as_table d ≡ None → answer ≡ Err (of_the_file WrongKind) → ReadsDocument file answer
no_table file d answer known there none is = inr (known, rw there (wrong_format file d answer none is))

pub right_format : (file : Members) (d : Data) (format : Members) (answer : Result Rules RuleFault) → as_table d ≡ Some format
    → ReadsFormat file format answer → ReadsWith file (Some d) answer
right_format file (string s) format answer there reads = absurd (cc there)
right_format file (integer z) format answer there reads = absurd (cc there)
right_format file (float x) format answer there reads = absurd (cc there)
right_format file (boolean b) format answer there reads = absurd (cc there)
right_format file (datetime t) format answer there reads = absurd (cc there)
right_format file (array rows) format answer there reads = absurd (cc there)
right_format file (table rows) format answer there reads = let same : format ≡ rows = cc there in subst (λ (m : Members). ReadsFormat file m answer) same reads

pub a_table : (file : Members) (d : Data) (format : Members) (answer : Result Rules RuleFault) → HasOnly table_texts file → get_member (kind_text Format) file ≡ Some d
    → as_table d ≡ Some format → UnlessMemory (of_the_file Memory) (ReadsFormat file format) answer → UnlessMemory (of_the_file Memory) (ReadsDocument file) answer
a_table file d format answer known there is reads = λ other. inr (known, rw there (right_format file d format answer is (reads other)))

pub file_read : (bytes : List ℕ) (file : Members) (answer : Result Rules RuleFault) → length bytes ≤ LONGEST → IsToml bytes file
    → UnlessMemory (of_the_file Memory) (ReadsDocument file) answer → UnlessMemory (of_the_file Memory) (ReadsFile bytes) answer
file_read bytes file answer short is reads = λ other. inr (short, inr (file, is, reads other))
