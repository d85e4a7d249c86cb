-- From the steps of a command to what it performs.
use Rattle.std.proofs.Common.{◌≡◌, ◌≢◌, inl, inr, ℕ, ◌≤◌, ◌<◌, List, [], length, Option, None, Result, Ok, Err, MatchResult, refl, sym, subst}
use Rattle.global_repair.specs.declared.fault.RepairFault.{RepairFault}
use Rattle.global_repair.specs.declared.fault.RepairFault.TheVariants as repair
use Rattle.least_cost.specs.declared.outcome.Outcome.{Outcome as Found}
use Rattle.bound_maker.specs.declared.maker.TheConstants.{MOST_BOUNDS}
use Rattle.bound_maker.specs.Bounds.{made_bounds}
use Rattle.bound_maker.specs.Costs.{made_problem}
use Rattle.cert_check.specs.declared.accepted.Accepted.{Accepted}
use Rattle.rule_file.specs.File.{ReadsFile}
use Rattle.rule_file.specs.declared.read.TheConstants.{LONGEST as longest_rules}
use Rattle.rule_file.specs.declared.rules.Rules.{Rules}
use Rattle.screen_model.specs.Cost.{Problem}
use Rattle.series_csv.specs.File.{TableView, ReadsTable}
use Rattle.series_csv.specs.declared.table.TheConstants.{LONGEST as longest_readings}
use Rattle.screen_words.specs.declared.command.Command.{Command}
use Rattle.screen_words.specs.declared.ends.Inputs.{Inputs}
use Rattle.screen_steps.specs.declared.reply.Reply.{Reply}
use Rattle.screen_words.specs.declared.status.Ending.{Ending}
use Rattle.screen_words.specs.declared.status.Ending.TheVariants as ending
use Rattle.screen_words.specs.declared.status.Outcome.TheVariants.{Done, Usage}
use Rattle.screen_steps.specs.Answer.{Extent, Answer}
use Rattle.screen_tool.specs.Answers.{Answers, AnswersBy, usage}
use Rattle.screen_steps.specs.Files.{RulesAreOne, too_many_bounds}
use Rattle.screen_tool.specs.Global.{AnswersGlobal, AnswersGlobalBy, AnswersTableBy, IsFoundFor, answer_of}
use Rattle.screen_steps.specs.Performance.{AreRead, IsAnswered}
use Rattle.screen_steps.specs.Step.{Comes, IsReplyOf, IsStep, Ends, Replies}
use Rattle.screen_words.specs.Faults.{repair_ending}
use Rattle.screen_steps.proofs.Reading.{texts_end}
use Rattle.screen_tool.proofs.AnswerLaws.{any_answer, global_any, global_wholly, reads_both}

module _ {S : Type 0} (left : S → Option (List ℕ)) (source_faults : S → ℕ) where
  pub usage_ends : (command : Option Command) (ins : Inputs S) → command ≡ None → Ends left source_faults (Answers command) ins ins (ending.Ended Usage)
  usage_ends command ins none = (
    usage,
    refl,
    refl,
    refl,
    (record { rules = []; readings = []; cert = [] }, subst (λ given. Answers given (record { rules = []; readings = []; cert = [] }) usage) (sym none) refl, (refl, refl, refl)),
  )

  module _ (Counts : Problem → Found → Type 0) where
    -- both files are accepted
    pub table_answered : (ins : Inputs S) (rules readings : S) (found : Rules) (table : TableView) (answer : Answer)
        → IsStep left source_faults longest_rules ReadsFile ins.rules rules (Ok found)
        → IsStep left source_faults longest_readings (ReadsTable found) ins.readings readings (Ok table)
        → AnswersTableBy Counts found table answer
        → IsAnswered left source_faults (AnswersGlobalBy Counts) ins (record ins { rules = rules; readings = readings }) answer
    table_answered ins rules readings found table answer q p given = (
      record { rules = q.0; readings = p.0; cert = [] },
      inr (q.2, Ok found, q.3, inr (p.2, Ok table, p.3, given)),
      subst
          (λ (read : Inputs Extent). AreRead left source_faults read ins (record ins { rules = rules; readings = readings }) (record { rules = q.0; readings = p.0; cert = [] }))
          (sym (reads_both Counts found table answer given)) (q.1, p.1, refl),
    )

    any_answered : (ins now : Inputs S) (answer : Answer) → IsAnswered left source_faults (AnswersGlobalBy Counts) ins now answer → IsAnswered left source_faults AnswersGlobal ins now answer
    any_answered ins now answer p = (p.0, global_any Counts p.0 answer p.1, p.2)

    -- what comes of accepted files is what the command replies, or how it ends
    pub table_comes : RulesAreOne → (ins : Inputs S) (rules readings : S) (found : Rules) (table : TableView) (given : Result Reply Ending)
        → IsStep left source_faults longest_rules ReadsFile ins.rules rules (Ok found)
        → IsStep left source_faults longest_readings (ReadsTable found) ins.readings readings (Ok table)
        → Comes (AnswersTableBy Counts found table) given
        → MatchResult given
        (Replies left source_faults (AnswersGlobalBy Counts) ins (record ins { rules = rules; readings = readings }))
        (Ends left source_faults AnswersGlobal ins (record ins { rules = rules; readings = readings }))
    table_comes law ins rules readings found table (Ok reply) q p c = (c.0, c.1, table_answered ins rules readings found table c.0 q p c.2)
    table_comes law ins rules readings found table (Err (ending.Ended outcome)) q p c =
        (c.0, c.1, c.2, c.3, any_answered ins (record ins { rules = rules; readings = readings }) c.0 (table_answered ins rules readings found table c.0 q p c.4))
    table_comes law ins rules readings found table (Err ending.ReadFault) q p c = absurd c
    table_comes law ins rules readings found table (Err ending.WriteFault) q p c = absurd c
    table_comes law ins rules readings found table (Err ending.Memory) q p c =
        texts_end left source_faults (λ rules table cert. AnswersTableBy (λ problem outcome. Unit {0}) rules table) (global_wholly (λ problem outcome. Unit {0})) law ins rules readings found table q p

    -- the reply of a command is one of its answers, whatever is counted
    pub any_reply : (Holds : Rules → TableView → Accepted → Type 0) (command : Option Command) (ins now : Inputs S) (reply : Reply)
        → Replies left source_faults (AnswersBy Counts Holds command) ins now reply → Replies left source_faults (Answers command) ins now reply
    any_reply Holds command ins now reply p = (p.0, p.1, (p.2.0, any_answer Counts Holds command p.2.0 p.0 p.2.1, p.2.2))

  -- what comes of accepted files is no failed read
  pub none_counted : (found : Rules) (table : TableView) (Counts : Problem → Found → Type 0) (given : Result Reply Ending)
      → Comes (AnswersTableBy Counts found table) given → given ≢ Err ending.ReadFault
  none_counted found table Counts (Ok reply) c e = cc
  none_counted found table Counts (Err (ending.Ended outcome)) c e = cc
  none_counted found table Counts (Err ending.ReadFault) c e = c
  none_counted found table Counts (Err ending.WriteFault) c e = c
  none_counted found table Counts (Err ending.Memory) c e = cc

-- ---- the repair

-- the bounds are refused, or memory ran out
pub repair_fails : (Counts : Problem → Found → Type 0) (found : Rules) (table : TableView) (given : RepairFault)
    → (given ≢ repair.Memory → MOST_BOUNDS < length (made_bounds found table)) → Comes (AnswersTableBy Counts found table) (Err (repair_ending given))
repair_fails Counts found table repair.TooManyBounds many = (too_many_bounds, refl, refl, refl, inl (many (λ e. cc), refl))
repair_fails Counts found table repair.Memory many = tt

-- something was found, and is replied
pub repair_comes : (Counts : Problem → Found → Type 0) (rules : Rules) (table : TableView) (outcome : Found) (reply : Reply)
    → length (made_bounds rules table) ≤ MOST_BOUNDS → IsFoundFor rules table outcome → Counts (made_problem rules table) outcome → IsReplyOf (answer_of rules table outcome) reply
    → Comes (AnswersTableBy Counts rules table) (Ok reply)
repair_comes Counts rules table outcome reply few is counts texts = (answer_of rules table outcome, texts, inr (few, (outcome, is, counts, refl)))

-- ---- no refusal of a repair is a success, or of words

pub repair_no_usage : (given : RepairFault) → repair_ending given ≢ ending.Ended Usage
repair_no_usage repair.TooManyBounds e = cc
repair_no_usage repair.Memory e = cc

pub repair_no_done : (given : RepairFault) → repair_ending given ≢ ending.Ended Done
repair_no_done repair.TooManyBounds e = cc
repair_no_done repair.Memory e = cc
