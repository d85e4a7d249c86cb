-- The headline, from what was performed.
use Rattle.std.proofs.Common.{◌≡◌, ◌≢◌, inl, inr, ℕ, ℤ, pos, ◌≤◌, List, [], length, Option, Some, None, Ok, IfSome, refl, sym, ap, subst, ◌∙◌}
use Rattle.bound_maker.specs.Costs.{made_problem, whole_problem}
use Rattle.cert_check.specs.Judges.{Judges}
use Rattle.cert_check.specs.declared.accepted.Accepted.TheVariants as accepted
use Rattle.cert_format.specs.declared.cert.Cert.{Cert}
use Rattle.cert_format.specs.Cert.{HasText, text_of_cert}
use Rattle.cert_format.specs.Reads.{Spells as SpellsCert}
use Rattle.cert_format.specs.Sets.{sets_of}
use Rattle.cert_format.proofs.Sets.{tells}
use Rattle.least_cost.specs.Answer.{CountsChanges}
use Rattle.least_cost.specs.declared.outcome.Outcome.{Outcome as Found}
use Rattle.least_cost.specs.declared.outcome.Outcome.TheVariants as found
use Rattle.rule_file.specs.declared.rules.Rules.{Rules}
use Rattle.rule_file.specs.declared.read.TheConstants.{LONGEST as longest_rules}
use Rattle.rule_file.specs.File.{ReadsFile}
use Rattle.screen_model.specs.Cost.{Problem, cost, paid}
use Rattle.screen_io.specs.Faults.{Rose}
use Rattle.screen_io.specs.Sink.{Gains}
use Rattle.series_csv.specs.File.{TableView, ReadsTable}
use Rattle.series_csv.specs.Readings.{places, values}
use Rattle.series_csv.specs.Text.{table_text}
use Rattle.screen_model.specs.declared.bound.BoundName.{BoundName}
use Rattle.screen_model.specs.declared.bound.FlowItem.{FlowItem}
use Rattle.flow_core.specs.Layout.{network_of}
use Rattle.flow_core.specs.Solving.{by_size}
use Rattle.series_csv.specs.declared.table.TheConstants.{LONGEST as longest_readings}
use Rattle.screen_words.specs.declared.command.Command.TheVariants.{Global}
use Rattle.screen_words.specs.declared.ends.Inputs.{Inputs}
use Rattle.screen_words.specs.declared.ends.Outputs.{Outputs}
use Rattle.screen_words.specs.declared.status.Ending.{Ending}
use Rattle.screen_words.specs.declared.status.Ending.TheVariants as ending
use Rattle.screen_words.specs.declared.status.Outcome.TheVariants as outcome
use Rattle.screen_words.specs.declared.status.Status.{Status}
use Rattle.screen_words.specs.declared.status.Status.TheVariants as status
use Rattle.screen_steps.specs.Answer.{Answer}
use Rattle.screen_tool.specs.Certificates.{cert_of, repair_cert}
use Rattle.screen_words.specs.Command.{roles_of}
use Rattle.screen_words.specs.Ending.{outcome_status, status_of}
use Rattle.screen_steps.specs.Files.{RulesAreOne, ReadingsAreOne}
use Rattle.screen_tool.specs.Global.{AnswersGlobal, AnswersGlobalBy, AnswersTableBy, AnswersBoundsBy, IsFoundFor, answer_of}
use Rattle.screen_tool.specs.Headline.{CountsReadFault, CountsWriteFault, Headline, IsApartFromFaults, ShowsCycle, ShowsRepair, SomeObeys, WritesCycle, WritesRepair}
use Rattle.screen_steps.specs.Performance.{IsAnswered, LeavesSinks, IsWritten, AreWritten, IsCut, AreCut, Performs, AreTold}
use Rattle.screen_tool.proofs.AnswerLaws.{bounds_answer, global_any, global_has, global_rests}
use Rattle.screen_steps.proofs.BothFiles.{both_accepted}
use Rattle.screen_tool.proofs.Due.{cert_unread, front, readings_unread, rules_unread}

-- ---- what is found is what the headline says

solved_few : (bound : Option ℕ) (last changes : ℕ) → changes ≡ last → IfSome bound (λ b. changes ≤ b) → IfSome bound (λ b. last ≤ b)
solved_few bound last changes same few = subst (λ (n : ℕ). IfSome bound (λ b. n ≤ b)) same few

spells : (cert : Cert) → HasText cert → SpellsCert (text_of_cert cert) cert
spells cert has = record { has = has; text = refl }

spells_same : (rules : Rules) (cert : Cert) (total paid_total all_paid broken_paid : ℤ) (make : ℤ → ℤ → Cert) → total ≡ all_paid → paid_total ≡ broken_paid
    → SpellsCert (text_of_cert cert) (make total paid_total) → SpellsCert (text_of_cert cert) (make all_paid broken_paid)
spells_same rules cert total paid_total all_paid broken_paid make p q s =
    subst (λ (t : ℤ). SpellsCert (text_of_cert cert) (make t broken_paid)) p (subst (λ (t : ℤ). SpellsCert (text_of_cert cert) (make total t)) q s)

accepted_same : (rules : Rules) (table : TableView) (certificate : List ℕ) (series : List ℤ) (flow : List FlowItem) (total paid_total all_paid broken_paid : ℤ) → total ≡ all_paid → paid_total ≡ broken_paid
    → Judges rules table certificate (Ok (accepted.Repair series flow total paid_total)) → Judges rules table certificate (Ok (accepted.Repair series flow all_paid broken_paid))
accepted_same rules table certificate series flow total paid_total all_paid broken_paid p q judged =
    subst (λ (t : ℤ). Judges rules table certificate (Ok (accepted.Repair series flow t broken_paid))) p
    (subst (λ (t : ℤ). Judges rules table certificate (Ok (accepted.Repair series flow total t))) q judged)

module _ {K : Type 0} (held : K → Option (List ℕ)) (sink_faults : K → ℕ) where
  pub gained : (text : Option (List ℕ)) (whole : List ℕ) (sink now : K) → text ≡ Some whole → IsWritten held sink_faults text sink now → Gains (held sink) whole (held now)
  gained text whole sink now p written = (subst (λ (t : Option (List ℕ)). IsWritten held sink_faults t sink now) p written).0

  pub not_written : (text : Option (List ℕ)) (sink now : K) → text ≡ None → IsWritten held sink_faults text sink now → now ≡ sink
  not_written text sink now p written = subst (λ (t : Option (List ℕ)). IsWritten held sink_faults t sink now) p written

module _ (rules : Rules) (table : TableView) where
  -- what the certificate of a repair shows
  abbrev shows_repair : (series : List ℤ) (flow : List FlowItem) (total broken : ℤ) (changes : ℕ) → IsFoundFor rules table (found.Repaired series flow total broken changes)
      → ShowsRepair rules table (text_of_cert (cert_of rules table (found.Repaired series flow total broken changes))) (table_text rules table series)
  shows_repair series flow total broken changes is =
      let sets = sets_of (places table) (values table) series in
      let cert = cert_of rules table (found.Repaired series flow total broken changes) in
      let sound = is.whole.best.best.sound in
      record {
        series = series;
        sets = sets;
        flow = flow;
        spells = spells_same rules cert total broken (pos (cost (whole_problem rules table) series)) (pos (paid (whole_problem rules table) series)) (λ t b. repair_cert rules t b sets flow) is.whole.total is.whole.paid (spells cert is.text);
        tells = tells (places table) (values table) series sound.distinct sound.valued is.whole.best.best.whole;
        best = is.whole.best;
        repair = is.whole.repair;
        accepted = accepted_same rules table (text_of_cert cert) series flow total broken (pos (cost (whole_problem rules table) series)) (pos (paid (whole_problem rules table) series)) is.whole.total is.whole.paid is.accepted;
        written = refl;
      }

  shows_cycle : (cycle : List BoundName) → IsFoundFor rules table (found.NoSeries cycle) → ShowsCycle rules table (text_of_cert (cert_of rules table (found.NoSeries cycle)))
  shows_cycle cycle is = record { steps = cycle; spells = spells (cert_of rules table (found.NoSeries cycle)) is.text; blocked = is.whole.blocked; accepted = is.accepted }

  module _ {K : Type 0} (held : K → Option (List ℕ)) (sink_faults : K → ℕ) (outs now : Outputs K) (answer : Answer) where
    writes_repair : (most : ℕ → ℕ → ℕ → ℕ → Option ℕ) (last : ℕ) (outcome_found : Found) → answer ≡ answer_of rules table outcome_found → answer.outcome ≡ outcome.Done
        → IsFoundFor rules table outcome_found → CountsChanges (made_problem rules table) most last outcome_found → AreWritten held sink_faults answer outs now
        → WritesRepair held rules table outs now most last
    writes_repair most last (found.Repaired series flow total broken changes) e done is counts written = record {
      certificate = text_of_cert (cert_of rules table (found.Repaired series flow total broken changes));
      text = table_text rules table series;
      cert = gained held sink_faults answer.cert _ outs.cert now.cert (ap (λ (a : Answer). a.cert) e) written.0;
      out = gained held sink_faults answer.out _ outs.out now.out (ap (λ (a : Answer). a.out) e) written.1;
      shows = shows_repair series flow total broken changes is;
      solved = record { enough = subst (λ (n : ℕ). length flow ≤ n) counts.counted counts.enough; few = solved_few (by_size most (network_of (made_problem rules table))) last changes counts.counted counts.few };
    }
    writes_repair most last (found.NoSeries cycle) e done is counts written =
        let other : outcome.NoSeries ≡ outcome.Done = sym (ap (λ (a : Answer). a.outcome) e) ∙ done in absurd (cc other)

    writes_cycle : (outcome_found : Found) → answer ≡ answer_of rules table outcome_found → answer.outcome ≡ outcome.NoSeries
        → IsFoundFor rules table outcome_found → AreWritten held sink_faults answer outs now
        → WritesCycle held rules table outs now × (¬ SomeObeys rules table)
    writes_cycle (found.Repaired series flow total broken changes) e none is written =
        let other : outcome.Done ≡ outcome.NoSeries = sym (ap (λ (a : Answer). a.outcome) e) ∙ none in absurd (cc other)
    writes_cycle (found.NoSeries cycle) e none is written = (
      record {
        certificate = text_of_cert (cert_of rules table (found.NoSeries cycle));
        cert = gained held sink_faults answer.cert _ outs.cert now.cert (ap (λ (a : Answer). a.cert) e) written.0;
        out = not_written held sink_faults answer.out outs.out now.out (ap (λ (a : Answer). a.out) e) written.1;
        shows = shows_cycle cycle is;
      },
      λ some. is.whole.none some.0 some.1,
    )

  -- what is due where some series obeys, and where none does
  due_some : (answer : Answer) (outcome_found : Found) → answer ≡ answer_of rules table outcome_found → IsFoundFor rules table outcome_found → SomeObeys rules table → outcome_status answer.outcome ≡ status.Done
  due_some answer (found.Repaired series flow total broken changes) e is some = ap (λ (a : Answer). outcome_status a.outcome) e
  due_some answer (found.NoSeries cycle) e is some = absurd (is.whole.none some.0 some.1)

  due_none : (answer : Answer) (outcome_found : Found) → answer ≡ answer_of rules table outcome_found → IsFoundFor rules table outcome_found → ¬ SomeObeys rules table → outcome_status answer.outcome ≡ status.NoSeries
  due_none answer (found.Repaired series flow total broken changes) e is none = absurd (none (series, is.whole.repair.obeying))
  due_none answer (found.NoSeries cycle) e is none = ap (λ (a : Answer). outcome_status a.outcome) e

-- ---- what was written

pub written_counted : {K : Type 0} (held : K → Option (List ℕ)) (sink_faults : K → ℕ) (text : Option (List ℕ)) (sink now : K) → IsCut held sink_faults text sink now → Rose (sink_faults sink) (sink_faults now)
written_counted held sink_faults (Some text) sink now p = p.1
written_counted held sink_faults None sink now p = absurd p

no_cut : {K : Type 0} (held : K → Option (List ℕ)) (sink_faults : K → ℕ) (text : Option (List ℕ)) (sink now : K) → text ≡ None → IsCut held sink_faults text sink now → ⊥
no_cut held sink_faults text sink now p cut = subst (λ (t : Option (List ℕ)). IsCut held sink_faults t sink now) p cut

-- where no certificate is written
pub out_counted : {K : Type 0} (held : K → Option (List ℕ)) (sink_faults : K → ℕ) (answer : Answer) (outs now : Outputs K) → answer.cert ≡ None → AreCut held sink_faults answer outs now → Rose (sink_faults outs.out) (sink_faults now.out)
out_counted held sink_faults answer outs now none (inl p) = absurd (no_cut held sink_faults answer.cert outs.cert now.cert none p.0)
out_counted held sink_faults answer outs now none (inr p) = written_counted held sink_faults answer.out outs.out now.out p.1

cut_counted : {K : Type 0} (held : K → Option (List ℕ)) (sink_faults : K → ℕ) (answer : Answer) (outs now : Outputs K) → AreCut held sink_faults answer outs now → CountsWriteFault sink_faults outs now
cut_counted held sink_faults answer outs now (inl p) = inl (written_counted held sink_faults answer.cert outs.cert now.cert p.0)
cut_counted held sink_faults answer outs now (inr p) = inr (written_counted held sink_faults answer.out outs.out now.out p.1)

found_texts : (rules : Rules) (table : TableView) (outcome_found : Found) → (answer_of rules table outcome_found).outcome ≢ outcome.Done → (answer_of rules table outcome_found).outcome ≢ outcome.NoSeries
    → ((answer_of rules table outcome_found).cert ≡ None) × ((answer_of rules table outcome_found).out ≡ None)
found_texts rules table (found.Repaired series flow total broken changes) not_done not_none = absurd (not_done refl)
found_texts rules table (found.NoSeries cycle) not_done not_none = absurd (not_none refl)

no_texts : (bytes : Inputs (List ℕ)) (answer : Answer) → AnswersGlobal bytes answer → answer.outcome ≢ outcome.Done → answer.outcome ≢ outcome.NoSeries → (answer.cert ≡ None) × (answer.out ≡ None)
no_texts bytes answer p =
    global_has (λ problem outcome_found. Unit {0}) (λ a. a.outcome ≢ outcome.Done → a.outcome ≢ outcome.NoSeries → (a.cert ≡ None) × (a.out ≡ None)) bytes answer
    (λ n m. (refl, refl)) (λ fault n m. (refl, refl)) (λ n m. (refl, refl)) (λ fault n m. (refl, refl)) (λ n m. (refl, refl)) found_texts p

-- ---- which ending has which status

pub is_done : (how : Ending) → status_of how ≡ status.Done → how ≡ ending.Ended outcome.Done
is_done (ending.Ended outcome.Done) p = refl
is_done (ending.Ended outcome.NoSeries) p = cc
is_done (ending.Ended outcome.Usage) p = cc
is_done (ending.Ended (outcome.RulesRefused f)) p = cc
is_done (ending.Ended (outcome.NotOnline rule)) p = cc
is_done (ending.Ended (outcome.ReadingsRefused f)) p = cc
is_done (ending.Ended outcome.TooManyBounds) p = cc
is_done (ending.Ended (outcome.WindowFull row)) p = cc
is_done (ending.Ended (outcome.NoWholeStep row col)) p = cc
is_done (ending.Ended (outcome.LeavesRange row col)) p = cc
is_done (ending.Ended (outcome.CertRefused f)) p = cc
is_done ending.ReadFault p = cc
is_done ending.WriteFault p = cc
is_done ending.Memory p = cc

is_none : (how : Ending) → status_of how ≡ status.NoSeries → how ≡ ending.Ended outcome.NoSeries
is_none (ending.Ended outcome.Done) p = cc
is_none (ending.Ended outcome.NoSeries) p = refl
is_none (ending.Ended outcome.Usage) p = cc
is_none (ending.Ended (outcome.RulesRefused f)) p = cc
is_none (ending.Ended (outcome.NotOnline rule)) p = cc
is_none (ending.Ended (outcome.ReadingsRefused f)) p = cc
is_none (ending.Ended outcome.TooManyBounds) p = cc
is_none (ending.Ended (outcome.WindowFull row)) p = cc
is_none (ending.Ended (outcome.NoWholeStep row col)) p = cc
is_none (ending.Ended (outcome.LeavesRange row col)) p = cc
is_none (ending.Ended (outcome.CertRefused f)) p = cc
is_none ending.ReadFault p = cc
is_none ending.WriteFault p = cc
is_none ending.Memory p = cc

pub is_read_fault : (how : Ending) → status_of how ≡ status.ReadFault → how ≡ ending.ReadFault
is_read_fault ending.ReadFault p = refl
is_read_fault (ending.Ended outcome.Done) p = cc
is_read_fault (ending.Ended outcome.NoSeries) p = cc
is_read_fault (ending.Ended outcome.Usage) p = cc
is_read_fault (ending.Ended (outcome.RulesRefused f)) p = cc
is_read_fault (ending.Ended (outcome.NotOnline rule)) p = cc
is_read_fault (ending.Ended (outcome.ReadingsRefused f)) p = cc
is_read_fault (ending.Ended outcome.TooManyBounds) p = cc
is_read_fault (ending.Ended (outcome.WindowFull row)) p = cc
is_read_fault (ending.Ended (outcome.NoWholeStep row col)) p = cc
is_read_fault (ending.Ended (outcome.LeavesRange row col)) p = cc
is_read_fault (ending.Ended (outcome.CertRefused f)) p = cc
is_read_fault ending.WriteFault p = cc
is_read_fault ending.Memory p = cc

pub rules_short : (bytes : List ℕ) (rules : Rules) → ReadsFile bytes (Ok rules) → length bytes ≤ longest_rules
rules_short bytes rules (inl p) = absurd (cc (p.1))
rules_short bytes rules (inr p) = p.0

pub table_short : (rules : Rules) (bytes : List ℕ) (table : TableView) → ReadsTable rules bytes (Ok table) → length bytes ≤ longest_readings
table_short rules bytes table (inl p) = absurd (cc (p.1))
table_short rules bytes table (inr p) = p.0

module _ {S K : Type 0} (left : S → Option (List ℕ)) (source_faults : S → ℕ) (held : K → Option (List ℕ)) (sink_faults : K → ℕ) where
  -- what was answered is an answer to the bytes that the sources told
  counted_told : (Counts : Problem → Found → Type 0) (ins now : Inputs S) (bytes : Inputs (List ℕ)) (answer : Answer)
      → AreTold left (roles_of (Some Global)) ins bytes → IsAnswered left source_faults (AnswersGlobalBy Counts) ins now answer → AnswersGlobalBy Counts bytes answer
  counted_told Counts ins now bytes answer told answered =
      let any = global_any Counts answered.0 answer answered.1 in
      global_rests Counts answered.0 bytes answer (
        front left source_faults (roles_of (Some Global)).rules answer.read.rules ins.rules now.rules answered.0.rules bytes.rules (rules_unread (Some Global) answered.0 answer any) told.rules answered.2.0,
        front left source_faults (roles_of (Some Global)).readings answer.read.readings ins.readings now.readings answered.0.readings bytes.readings (readings_unread (Some Global) answered.0 answer any) told.readings answered.2.1,
        front left source_faults (roles_of (Some Global)).cert_read answer.read.cert ins.cert now.cert answered.0.cert bytes.cert (cert_unread (Some Global) answered.0 answer any) told.cert answered.2.2,
      ) answered.1

  -- the status is what is due, apart from counted faults and want of memory
  apart : (ins now : Inputs S) (outs outs_now : Outputs K) (due : Status) (how : Ending) → Performs left source_faults held sink_faults AnswersGlobal ins now outs outs_now how
      → (how ≡ ending.ReadFault → CountsReadFault source_faults ins now)
      → ((answer : Answer) → IsAnswered left source_faults AnswersGlobal ins now answer → outcome_status answer.outcome ≡ due)
      → IsApartFromFaults left source_faults held sink_faults ins now outs outs_now due (status_of how)
  apart ins now outs outs_now due (ending.Ended o) p faults decide = inl (sym (ap outcome_status p.1) ∙ decide p.0 p.2)
  apart ins now outs outs_now due ending.ReadFault p faults decide = inr (inl (refl, faults refl))
  apart ins now outs outs_now due ending.WriteFault p faults decide = inr (inr (inl (refl, cut_counted held sink_faults p.0 outs outs_now p.2)))
  apart ins now outs outs_now due ending.Memory p faults decide = inr (inr (inr refl))

  kept : (ins now : Inputs S) (outs outs_now : Outputs K) (how : Ending) → Performs left source_faults held sink_faults AnswersGlobal ins now outs outs_now how
      → status_of how ≢ status.Done → status_of how ≢ status.NoSeries → status_of how ≢ status.WriteFault → LeavesSinks outs outs_now
  kept ins now outs outs_now ending.ReadFault p not_done not_none not_cut = p.1
  kept ins now outs outs_now ending.Memory p not_done not_none not_cut = p.1
  kept ins now outs outs_now ending.WriteFault p not_done not_none not_cut = absurd (not_cut refl)
  kept ins now outs outs_now (ending.Ended o) p not_done not_none not_cut =
      let none = no_texts p.2.0 p.0 p.2.1 (λ is. not_done (ap outcome_status (sym p.1 ∙ is))) (λ is. not_none (ap outcome_status (sym p.1 ∙ is))) in
      (not_written held sink_faults p.0.cert outs.cert outs_now.cert none.0 p.3.0, not_written held sink_faults p.0.out outs.out outs_now.out none.1 p.3.1)

  pub headline : RulesAreOne → ReadingsAreOne → (ins now : Inputs S) (outs outs_now : Outputs K) (most : ℕ → ℕ → ℕ → ℕ → Option ℕ) (last : ℕ) (how : Ending)
      → Performs left source_faults held sink_faults AnswersGlobal ins now outs outs_now how
      → (how ≡ ending.Ended outcome.Done → Performs left source_faults held sink_faults (AnswersGlobalBy (λ problem. CountsChanges problem most last)) ins now outs outs_now (ending.Ended outcome.Done))
      → (how ≡ ending.ReadFault → CountsReadFault source_faults ins now)
      → Headline left source_faults held sink_faults ins now outs outs_now most last (status_of how)
  headline rules_one readings_one ins now outs outs_now most last how p counted faults = λ rule_bytes reading_bytes rules table rules_told readings_told spells_rules reads few.
      let bytes : Inputs (List ℕ) = record { rules = rule_bytes; readings = reading_bytes; cert = [] } in
      let told : AreTold left (roles_of (Some Global)) ins bytes = record { rules = λ _. rules_told; readings = λ _. readings_told; cert = λ used. absurd (used refl) } in
      let short : length rule_bytes ≤ longest_rules = rules_short rule_bytes rules spells_rules in
      let short_readings : length reading_bytes ≤ longest_readings = table_short rules reading_bytes table reads in
      let Any : Problem → Found → Type 0 = λ problem outcome_found. Unit {0} in
      let Counts : Problem → Found → Type 0 = λ problem. CountsChanges problem most last in
      let own : (answer : Answer) → IsAnswered left source_faults AnswersGlobal ins now answer → AnswersBoundsBy Any rules table answer =
      λ answer q. bounds_answer Any rules table answer few (both_accepted (λ rules table cert. AnswersTableBy Any rules table) rules_one readings_one bytes rules table answer short spells_rules short_readings reads (counted_told Any ins now bytes answer told q)) in
      let own_counted : (answer : Answer) → IsAnswered left source_faults (AnswersGlobalBy Counts) ins now answer → AnswersBoundsBy Counts rules table answer =
      λ answer q. bounds_answer Counts rules table answer few (both_accepted (λ rules table cert. AnswersTableBy Counts rules table) rules_one readings_one bytes rules table answer short spells_rules short_readings reads (counted_told Counts ins now bytes answer told q)) in
      record {
        some = λ some. apart ins now outs outs_now status.Done how p faults (λ answer q. let f = own answer q in due_some rules table answer f.0 f.3 f.1 some);
        none = λ none. apart ins now outs outs_now status.NoSeries how p faults (λ answer q. let f = own answer q in due_none rules table answer f.0 f.3 f.1 none);
        repair = λ is.
            let q = counted (is_done how is) in
            let f = own_counted q.0 q.2 in
            writes_repair rules table held sink_faults outs outs_now q.0 most last f.0 f.3 q.1 f.1 f.2 q.3;
        cycle = λ is.
            let q = subst (λ e. Performs left source_faults held sink_faults AnswersGlobal ins now outs outs_now e) (is_none how is) p in
            let f = own q.0 q.2 in
            writes_cycle rules table held sink_faults outs outs_now q.0 f.0 f.3 q.1 f.1 q.3;
        kept = λ not_done not_none not_cut. kept ins now outs outs_now how p not_done not_none not_cut;
      }
