-- From the steps of `sample` to what it performs.
use Rattle.std.proofs.Common.{◌≡◌, ◌≢◌, inl, inr, ℕ, ◌<◌, ◌≤◌, nat_le, Bool, true, false, ◌&&◌, IsTrue, if◌then◌else◌, List, [], ◌∷◌, length, Option, Some, None, Result, Ok, Err, MatchResult, refl, sym, subst}
use Rattle.std.specs.Prelude.{codes}
use Rattle.std.proofs.lemmas.Bool.{leb-true}
use Rattle.bound_maker.specs.Bounds.{made_bounds}
use Rattle.bound_maker.specs.Costs.{made_problem, whole_problem}
use Rattle.bound_maker.specs.declared.maker.TheConstants.{MOST_BOUNDS}
use Rattle.cert_check.specs.declared.accepted.Accepted.{Accepted}
use Rattle.global_repair.specs.declared.fault.RepairFault.{RepairFault}
use Rattle.global_repair.specs.declared.fault.RepairFault.TheVariants as repair
use Rattle.least_cost.specs.Answer.{Answers as AnswersProblem, CountsChanges}
use Rattle.least_cost.specs.declared.outcome.Outcome.{Outcome as Found}
use Rattle.rule_file.specs.File.{ReadsFile}
use Rattle.rule_file.specs.declared.fault.RuleFault.{RuleFault}
use Rattle.rule_file.specs.declared.rules.Rules.{Rules}
use Rattle.sample_maker.specs.Texts.{readings_text, rules_text}
use Rattle.screen_model.specs.Cost.{Problem}
use Rattle.series_csv.specs.File.{TableView, ReadsTable}
use Rattle.series_rows.specs.declared.fault.TableFault.{TableFault}
use Rattle.sample_maker.specs.declared.make.TheConstants.{MOST_ROWS, MOST_SEED}
use Rattle.screen_words.specs.declared.command.Command.{Command}
use Rattle.screen_words.specs.declared.command.Command.TheVariants.{Check, Global, Online, Report, Sample}
use Rattle.screen_words.specs.declared.ends.Inputs.{Inputs}
use Rattle.screen_words.specs.declared.ends.Outputs.{Outputs}
use Rattle.screen_steps.specs.declared.reply.Reply.{Reply}
use Rattle.screen_words.specs.declared.status.Ending.{Ending}
use Rattle.screen_words.specs.declared.status.Ending.TheVariants as ending
use Rattle.screen_words.specs.declared.status.Outcome.TheVariants.{Done}
use Rattle.screen_words.specs.declared.step.StepFault.{StepFault}
use Rattle.screen_words.specs.declared.step.StepFault.TheVariants as fault
use Rattle.screen_steps.specs.Answer.{Answer}
use Rattle.screen_tool.specs.Answers.{Answers, AnswersBy}
use Rattle.screen_steps.specs.Files.{readings_refused, rules_refused, too_many_bounds}
use Rattle.screen_words.specs.Command.{command_of, is_word, number_of, sample_of}
use Rattle.screen_steps.specs.Performance.{AreRead, Performs}
use Rattle.screen_tool.specs.Sample.{AnswersSampleBy, HasLimits, WritesSummary, summary_of, summary_text, unread}
use Rattle.screen_steps.specs.Step.{Comes, Ends, IsFound, IsReplyOf, Replies}
use Rattle.screen_words.specs.Faults.{readings_ending, repair_ending, rules_ending}
use Rattle.screen_tool.proofs.Decided.{gained}
use Rattle.screen_tool.proofs.SampleLaws.{sample_any}
use Rattle.screen_tool.proofs.Summed.{sample_sums}

module _ (Counts : Problem → Found → Type 0) (rows seed : ℕ) where
  abbrev SampleComes : Result Reply Ending → Type 0
  SampleComes = Comes (AnswersSampleBy Counts rows seed)

  pub rules_come : (seen : List ℕ) (given : StepFault RuleFault) → seen ≡ rules_text → IsFound ReadsFile seen (Err given) → SampleComes (Err (rules_ending given))
  rules_come seen (fault.Refused f) same p = (
    unread (rules_refused f),
    refl,
    refl,
    refl,
    (rules_refused f, (Err f, subst (λ (b : List ℕ). ReadsFile b (Err f)) same p, refl), refl),
  )
  rules_come seen fault.Memory same p = tt
  rules_come seen fault.TooLong same p = absurd p
  rules_come seen fault.Failed same p = absurd p

  module _ (rules : Rules) (seen_rules : List ℕ) (same_rules : seen_rules ≡ rules_text) (reads : IsFound ReadsFile seen_rules (Ok rules)) where
    spelled : ReadsFile rules_text (Ok rules)
    spelled = subst (λ (b : List ℕ). ReadsFile b (Ok rules)) same_rules reads

    pub table_comes : (seen : List ℕ) (given : StepFault TableFault) → seen ≡ readings_text rows seed → IsFound (ReadsTable rules) seen (Err given) → SampleComes (Err (readings_ending given))
    table_comes seen (fault.Refused f) same p = (
      unread (readings_refused f),
      refl,
      refl,
      refl,
      (readings_refused f, (Ok rules, spelled, (Err f, subst (λ (b : List ℕ). ReadsTable rules b (Err f)) same p, refl)), refl),
    )
    table_comes seen fault.Memory same p = tt
    table_comes seen fault.TooLong same p = absurd p
    table_comes seen fault.Failed same p = absurd p

    module _ (table : TableView) (seen : List ℕ) (same : seen ≡ readings_text rows seed) (found : IsFound (ReadsTable rules) seen (Ok table)) where
      told : ReadsTable rules (readings_text rows seed) (Ok table)
      told = subst (λ (b : List ℕ). ReadsTable rules b (Ok table)) same found

      pub repair_comes : (given : RepairFault) → (given ≢ repair.Memory → MOST_BOUNDS < length (made_bounds rules table)) → SampleComes (Err (repair_ending given))
      repair_comes repair.TooManyBounds many = (
        unread too_many_bounds,
        refl,
        refl,
        refl,
        (too_many_bounds, (Ok rules, spelled, (Ok table, told, inl (many (λ e. cc), refl))), refl),
      )
      repair_comes repair.Memory many = tt

      pub summary_comes : (outcome : Found) (reply : Reply) → length (made_bounds rules table) ≤ MOST_BOUNDS → AnswersProblem (whole_problem rules table) outcome → Counts (made_problem rules table) outcome
          → IsReplyOf (summary_of rows table outcome) reply → SampleComes (Ok reply)
      summary_comes outcome reply few whole counts replies = (
        unread (summary_of rows table outcome),
        record { outcome = replies.outcome; cert = replies.cert; out = replies.out },
        (summary_of rows table outcome, (Ok rules, spelled, (Ok table, told, inr (few, (outcome, whole, counts, refl)))), refl),
      )

module _ {S : Type 0} (left : S → Option (List ℕ)) (source_faults : S → ℕ) (Counts : Problem → Found → Type 0) (Holds : Rules → TableView → Accepted → Type 0) (rows seed : ℕ) where
  abbrev no_bytes : Inputs (List ℕ)
  no_bytes = record { rules = []; readings = []; cert = [] }

  reads_none : (ins : Inputs S) (given answer : Answer) → answer ≡ unread given → AreRead left source_faults answer.read ins ins no_bytes
  reads_none ins given answer e = subst (λ (a : Answer). AreRead left source_faults a.read ins ins no_bytes) (sym e) (refl, refl, refl)

  -- what comes of the sample is what the command replies, or how it ends
  pub sample_comes : (ins : Inputs S) (given : Result Reply Ending) → Comes (AnswersSampleBy Counts rows seed) given
      → MatchResult given (Replies left source_faults (AnswersBy Counts Holds (Some (Sample rows seed))) ins ins) (Ends left source_faults (Answers (Some (Sample rows seed))) ins ins)
  sample_comes ins (Ok reply) c = (c.0, c.1, (no_bytes, c.2, reads_none ins c.2.0 c.0 c.2.2))
  sample_comes ins (Err (ending.Ended outcome)) c = (c.0, c.1, c.2, c.3, (no_bytes, sample_any Counts rows seed c.0 c.4, reads_none ins c.4.0 c.0 c.4.2))
  sample_comes ins (Err ending.ReadFault) c = absurd c
  sample_comes ins (Err ending.WriteFault) c = absurd c
  sample_comes ins (Err ending.Memory) c = inl refl

-- a success wrote the text that sums the repair up
pub writes_summary : {S K : Type 0} (left : S → Option (List ℕ)) (source_faults : S → ℕ) (held : K → Option (List ℕ)) (sink_faults : K → ℕ) (most : ℕ → ℕ → ℕ → ℕ → Option ℕ) (last rows seed : ℕ)
    (ins now : Inputs S) (outs outs_now : Outputs K) → Performs left source_faults held sink_faults (λ bytes. AnswersSampleBy (λ problem. CountsChanges problem most last) rows seed) ins now outs outs_now (ending.Ended Done)
    → WritesSummary held most last rows seed outs outs_now
writes_summary left source_faults held sink_faults most last rows seed ins now outs outs_now p =
    let sums = sample_sums most last rows seed p.0 p.2.1 p.1 in
    record {
      answer = p.0;
      answers = p.2.1;
      done = p.1;
      sums = sums;
      out = gained held sink_faults p.0.out (summary_text rows sums.changed sums.total) outs.out outs_now.out sums.text_is p.3.1;
    }

-- ---- the numbers that the words give are within their limits

if_limits : (b : Bool) (rows seed : ℕ) → (IsTrue b → (1 ≤ rows) × (rows ≤ MOST_ROWS) × (seed ≤ MOST_SEED)) → HasLimits (if b then Some (Sample rows seed) else None)
if_limits true rows seed p = p refl
if_limits false rows seed p = tt

within : (a b c : Bool) → IsTrue (a && (b && c)) → IsTrue a × IsTrue b × IsTrue c
within true true true p = (refl, refl, refl)
within true true false p = absurd (cc p)
within true false c p = absurd (cc p)
within false b c p = absurd (cc p)

sample_limits : (rows seed : Option ℕ) → HasLimits (sample_of rows seed)
sample_limits (Some rows) (Some seed) =
    if_limits (nat_le 1 rows && (nat_le rows MOST_ROWS && nat_le seed MOST_SEED)) rows seed
    (λ p. let q = within (nat_le 1 rows) (nat_le rows MOST_ROWS) (nat_le seed MOST_SEED) p in (leb-true 1 rows q.0, leb-true rows MOST_ROWS q.1, leb-true seed MOST_SEED q.2))
sample_limits (Some rows) None = tt
sample_limits None seed = tt

one_of : (b : Bool) (command : Command) (other : Option Command) → HasLimits (Some command) → HasLimits other → HasLimits (if b then Some command else other)
one_of true command other p q = p
one_of false command other p q = q

sample_or_none : (b : Bool) (other : Option Command) → HasLimits other → HasLimits (if b then other else None)
sample_or_none true other p = p
sample_or_none false other p = tt

pub words_limits : (words : List (List ℕ)) → HasLimits (command_of words)
words_limits [] = tt
words_limits (command ∷ []) = tt
words_limits (command ∷ rules ∷ []) = one_of (is_word (codes "online") command) Online None tt tt
words_limits (command ∷ rows ∷ seed ∷ []) = sample_or_none (is_word (codes "sample") command) (sample_of (number_of rows) (number_of seed)) (sample_limits (number_of rows) (number_of seed))
words_limits (command ∷ rules ∷ readings ∷ cert ∷ []) =
    one_of (is_word (codes "global") command) Global _ tt (one_of (is_word (codes "check") command) Check _ tt (one_of (is_word (codes "report") command) Report _ tt tt))
words_limits (command ∷ rules ∷ readings ∷ cert ∷ more ∷ words) = tt
