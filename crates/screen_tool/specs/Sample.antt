-- To be believed: what the command `sample` answers.
use Rattle.std.specs.Prelude.{◌≡◌, ◌≢◌, ℕ, ◌+◌, ◌≤◌, ℤ, pos, ◌<ℤ◌, List, [], ◌∷◌, ◌++◌, codes, decimal, if◌then◌else◌, Option, Some, None, Result, Ok, Err}
use Rattle.std.specs.Fmt.{signed_decimal}
use Rattle.std.specs.Ordering.{int_eq}
use Rattle.bound_maker.specs.Costs.{made_problem, whole_problem}
use Rattle.least_cost.specs.Answer.{Answers as IsFound, CountsChanges}
use Rattle.least_cost.specs.declared.outcome.Outcome.{Outcome as Found}
use Rattle.least_cost.specs.declared.outcome.Outcome.TheVariants as found_as
use Rattle.rule_file.specs.File.{ReadsFile}
use Rattle.rule_file.specs.declared.fault.RuleFault.{RuleFault}
use Rattle.rule_file.specs.declared.rules.Rules.{Rules}
use Rattle.sample_maker.specs.Texts.{readings_text, rules_text}
use Rattle.screen_model.specs.Cost.{Problem}
use Rattle.series_csv.specs.File.{TableView, ReadsTable}
use Rattle.series_csv.specs.Readings.{values}
use Rattle.series_rows.specs.declared.fault.TableFault.{TableFault}
use Rattle.screen_words.specs.declared.status.Outcome.TheVariants.{Done, NoSeries}
use Rattle.screen_io.specs.Sink.{Gains}
use Rattle.sample_maker.specs.declared.make.TheConstants.{MOST_ROWS, MOST_SEED}
use Rattle.screen_words.specs.declared.command.Command.{Command}
use Rattle.screen_words.specs.declared.command.Command.TheVariants.{Check, Global, Online, Report, Sample}
use Rattle.screen_words.specs.declared.ends.Outputs.{Outputs}
use Rattle.screen_words.specs.Ending.{IsUnless}
use Rattle.screen_words.specs.declared.status.Status.{Status}
use Rattle.screen_words.specs.declared.status.Status.TheVariants as status
use Rattle.screen_io.specs.Faults.{Rose}
use Rattle.screen_steps.specs.Answer.{Unread, Answer}
use Rattle.screen_tool.specs.Headline.{SomeObeys}
use Rattle.screen_steps.specs.Files.{AfterBounds, HasFewBounds, readings_refused, rules_refused, without_texts}

-- one, if the value is another one
abbrev pub one_if_changed : ℤ → ℤ → ℕ
one_if_changed value x = if int_eq x value then 0 else 1

-- how many of the values a series changes
abbrev pub changed : List ℤ → List ℤ → ℕ
changed (value ∷ values) (x ∷ series) = one_if_changed value x + changed values series
changed [] series = 0
changed (value ∷ values) [] = 0

-- the numbers of rows and of readings that are changed, and the total in units
abbrev pub summary_text : ℕ → ℕ → ℤ → List ℕ
summary_text rows changed total =
    codes "rows "
    ++ decimal rows
    ++ codes "\nchanged "
    ++ decimal changed
    ++ codes "\ntotal "
    ++ signed_decimal total
    ++ codes "\n"

-- A repair is summed up, and of a cycle nothing is written.
abbrev pub summary_of : ℕ → TableView → Found → Answer
summary_of rows table (found_as.Repaired series flow total paid changes) = record {
  outcome = Done;
  read = record { rules = Unread; readings = Unread; cert = Unread };
  cert = None;
  out = Some (summary_text rows (changed (values table) series) total);
}
summary_of rows table (found_as.NoSeries cycle) = without_texts NoSeries Unread Unread

-- no source is read
abbrev pub unread : Answer → Answer
unread answer = record answer { read = record { rules = Unread; readings = Unread; cert = Unread } }

-- The texts of a sample are read as files are, repaired, and the repair is summed up. `Counts` is what is asked beside of a
-- problem and of what was found for it.
module _ (Counts : Problem → Found → Type 0) where
  abbrev pub SumsUp : ℕ → Rules → TableView → Answer → Type 0
  SumsUp rows rules table answer =
      (found : Found) × IsFound (whole_problem rules table) found × Counts (made_problem rules table) found × (answer ≡ summary_of rows table found)

  abbrev pub AfterSampleReadings : ℕ → Rules → Result TableView TableFault → Answer → Type 0
  AfterSampleReadings rows rules (Ok table) answer = AfterBounds rules table (SumsUp rows rules table) answer
  AfterSampleReadings rows rules (Err fault) answer = answer ≡ readings_refused fault

  abbrev pub AfterSampleRules : ℕ → ℕ → Result Rules RuleFault → Answer → Type 0
  AfterSampleRules rows seed (Ok rules) answer = (table : Result TableView TableFault) × ReadsTable rules (readings_text rows seed) table × AfterSampleReadings rows rules table answer
  AfterSampleRules rows seed (Err fault) answer = answer ≡ rules_refused fault

  abbrev pub AnswersSampleBy : ℕ → ℕ → Answer → Type 0
  AnswersSampleBy rows seed answer = (given : Answer) × ((rules : Result Rules RuleFault) × ReadsFile rules_text rules × AfterSampleRules rows seed rules given) × (answer ≡ unread given)

-- the numbers of a sample are within their limits
abbrev pub HasLimits : Option Command → Type 0
HasLimits (Some (Sample rows seed)) = (1 ≤ rows) × (rows ≤ MOST_ROWS) × (seed ≤ MOST_SEED)
HasLimits (Some Global) = Unit {0}
HasLimits (Some Check) = Unit {0}
HasLimits (Some Online) = Unit {0}
HasLimits (Some Report) = Unit {0}
HasLimits None = Unit {0}

-- The answer sums up so many changed readings and this total. Where the total is above 0 the solver has counted a change.
pub record Sums (last rows : ℕ) (answer : Answer) : Type 0 where
  pub changed : ℕ
  pub total : ℤ
  pub text_is : answer.out ≡ Some (summary_text rows changed total)
  pub counted : pos 0 <ℤ total → 1 ≤ last

-- The sample is repaired, for which the solver counted its changes, and the output gained the text that sums this repair up.
pub record WritesSummary {K : Type 0} (held : K → Option (List ℕ)) (most : ℕ → ℕ → ℕ → ℕ → Option ℕ) (last rows seed : ℕ) (outs outs_now : Outputs K) : Type 0 where
  pub answer : Answer
  pub answers : AnswersSampleBy (λ problem. CountsChanges problem most last) rows seed answer
  pub done : answer.outcome ≡ Done
  pub sums : Sums last rows answer
  pub out : Gains (held outs.out) (summary_text rows sums.changed sums.total) (held outs_now.out)

-- The texts of the sample spell these rules and this table, of which no more than 4,000,000 bounds are made.
pub record IsSample (rows seed : ℕ) (rules : Rules) (table : TableView) : Type 0 where
  pub rules_are : ReadsFile rules_text (Ok rules)
  pub table_is : ReadsTable rules (readings_text rows seed) (Ok table)
  pub few : HasFewBounds rules table

-- Apart from a counted write fault of the output and want of memory, 0 is answered exactly where some series obeys the bounds
-- of the sample, and 1 exactly where none does. There is nothing to read, so no read fails.
pub record DecidesSample {K : Type 0} (sink_faults : K → ℕ) (rows seed : ℕ) (outs outs_now : Outputs K) (given : Status) : Type 0 where
  pub some : (rules : Rules) (table : TableView) → IsSample rows seed rules table → SomeObeys rules table
      → IsUnless ⊥ (Rose (sink_faults outs.out) (sink_faults outs_now.out)) status.Done given
  pub none : (rules : Rules) (table : TableView) → IsSample rows seed rules table → ¬ SomeObeys rules table
      → IsUnless ⊥ (Rose (sink_faults outs.out) (sink_faults outs_now.out)) status.NoSeries given
  pub no_read_fails : given ≢ status.ReadFault
