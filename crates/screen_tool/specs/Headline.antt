-- To be believed: what the program is for, in one piece.
use Rattle.std.specs.Prelude.{◌≡◌, ◌≢◌, ◌⊎◌, ℕ, ◌≤◌, pos, ℤ, List, length, Option, Some, IfSome, Ok}
use Rattle.bound_maker.specs.Costs.{made_problem, whole_problem}
use Rattle.cert_check.specs.Judges.{Judges}
use Rattle.cert_check.specs.declared.accepted.Accepted.TheVariants as accepted
use Rattle.cert_format.specs.declared.cert.Cert.TheVariants as cert
use Rattle.cert_format.specs.declared.cert.SetLine.{SetLine}
use Rattle.cert_format.specs.Reads.{Spells as SpellsCert}
use Rattle.cert_format.specs.Sets.{series_set}
use Rattle.flow_core.specs.Layout.{network_of}
use Rattle.flow_core.specs.Solving.{by_size}
use Rattle.least_cost.specs.Repair.{IsObeying, IsRepair}
use Rattle.rule_file.specs.File.{Spells as SpellsRules}
use Rattle.rule_file.specs.declared.rules.Rules.{Rules}
use Rattle.screen_model.specs.declared.bound.BoundName.{BoundName}
use Rattle.screen_model.specs.declared.bound.FlowItem.{FlowItem}
use Rattle.screen_model.specs.Best.{IsBestByItems, IsBlockedByNames}
use Rattle.screen_model.specs.Cost.{cost, paid}
use Rattle.series_csv.specs.File.{TableView, Spells as SpellsTable}
use Rattle.series_csv.specs.Readings.{places, values}
use Rattle.series_csv.specs.Text.{table_text}
use Rattle.screen_io.specs.Faults.{Rose}
use Rattle.screen_io.specs.Sink.{Gains}
use Rattle.screen_words.specs.declared.ends.Inputs.{Inputs}
use Rattle.screen_words.specs.declared.ends.Outputs.{Outputs}
use Rattle.screen_words.specs.declared.status.Status.{Status}
use Rattle.screen_words.specs.declared.status.Status.TheVariants.{Done, NoSeries, WriteFault}
use Rattle.screen_tool.specs.Certificates.{repair_cert}
use Rattle.screen_words.specs.Ending.{IsUnless}
use Rattle.screen_steps.specs.Files.{HasFewBounds}

-- some series obeys every bound of the rules that has no price; or none does
abbrev pub SomeObeys : Rules → TableView → Type 0
SomeObeys rules table = (series : List ℤ) × IsObeying (whole_problem rules table) series

-- The certificate claims a repair and shows it: its series, which are the values that were read but for those of its set
-- lines, and its flow. No series that obeys costs less, and the total is what it costs. The text is the table with this
-- series, which of all that cost as little is the greatest. So the text is one only. The certificate is accepted by whoever
-- checks it, as what it claims.
pub record ShowsRepair (rules : Rules) (table : TableView) (certificate text : List ℕ) : Type 0 where
  pub series : List ℤ
  pub sets : List SetLine
  pub flow : List FlowItem
  pub spells : SpellsCert certificate (repair_cert rules (pos (cost (whole_problem rules table) series)) (pos (paid (whole_problem rules table) series)) sets flow)
  pub tells : series_set (places table) (values table) sets ≡ series
  pub best : IsBestByItems (whole_problem rules table) series flow
  pub repair : IsRepair (whole_problem rules table) series
  pub accepted : Judges rules table certificate (Ok (accepted.Repair series flow (pos (cost (whole_problem rules table) series)) (pos (paid (whole_problem rules table) series))))
  pub written : text ≡ table_text rules table series

-- The certificate claims a cycle of bounds with a negative sum, and shows it; and it is accepted.
pub record ShowsCycle (rules : Rules) (table : TableView) (certificate : List ℕ) : Type 0 where
  pub steps : List BoundName
  pub spells : SpellsCert certificate (cert.NoSeries steps)
  pub blocked : IsBlockedByNames (whole_problem rules table).bounds steps
  pub accepted : Judges rules table certificate (Ok (accepted.NoSeries steps))

-- The solver that was lent has counted at least as many changes as the certificate has flow lines, and no more than it may
-- need for the readings, the weights and the prices of the bounds that are made.
pub record HasSolved (rules : Rules) (table : TableView) (most : ℕ → ℕ → ℕ → ℕ → Option ℕ) (last : ℕ) (flow : List FlowItem) : Type 0 where
  pub enough : length flow ≤ last
  pub few : IfSome (by_size most (network_of (made_problem rules table))) (λ bound. last ≤ bound)

-- a source that the command reads counted a fault
abbrev pub CountsReadFault : {S : Type 0} → (S → ℕ) → Inputs S → Inputs S → Type 0
CountsReadFault source_faults ins now = Rose (source_faults ins.rules) (source_faults now.rules) ⊎ Rose (source_faults ins.readings) (source_faults now.readings)

-- a sink that the command writes counted a fault
abbrev pub CountsWriteFault : {K : Type 0} → (K → ℕ) → Outputs K → Outputs K → Type 0
CountsWriteFault sink_faults outs now = Rose (sink_faults outs.cert) (sink_faults now.cert) ⊎ Rose (sink_faults outs.out) (sink_faults now.out)

module _ {K : Type 0} (held : K → Option (List ℕ)) where
  -- The sinks gained the certificate of a repair and the repaired file, and the solver was used for it.
  pub record WritesRepair (rules : Rules) (table : TableView) (outs outs_now : Outputs K) (most : ℕ → ℕ → ℕ → ℕ → Option ℕ) (last : ℕ) : Type 0 where
    pub certificate : List ℕ
    pub text : List ℕ
    pub cert : Gains (held outs.cert) certificate (held outs_now.cert)
    pub out : Gains (held outs.out) text (held outs_now.out)
    pub shows : ShowsRepair rules table certificate text
    pub solved : HasSolved rules table most last shows.flow

  -- One sink gained the certificate of a cycle, and the other is the same as before.
  pub record WritesCycle (rules : Rules) (table : TableView) (outs outs_now : Outputs K) : Type 0 where
    pub certificate : List ℕ
    pub cert : Gains (held outs.cert) certificate (held outs_now.cert)
    pub out : outs_now.out ≡ outs.out
    pub shows : ShowsCycle rules table certificate

module _ {S K : Type 0} (left : S → Option (List ℕ)) (source_faults : S → ℕ) (held : K → Option (List ℕ)) (sink_faults : K → ℕ) where
  -- The status is this one, apart from a counted read or write fault and want of memory.
  abbrev pub IsApartFromFaults : Inputs S → Inputs S → Outputs K → Outputs K → Status → Status → Type 0
  IsApartFromFaults ins ins_now outs outs_now = IsUnless (CountsReadFault source_faults ins ins_now) (CountsWriteFault sink_faults outs outs_now)

  -- Apart from these, 0 is answered exactly where some series obeys, and then a repair is written; 1 exactly where none does,
  -- and then a cycle is; and with every status but 0, 1 and 6 both sinks are the same as before.
  pub record Decides (rules : Rules) (table : TableView) (ins ins_now : Inputs S) (outs outs_now : Outputs K) (most : ℕ → ℕ → ℕ → ℕ → Option ℕ) (last : ℕ) (given : Status) : Type 0 where
    pub some : SomeObeys rules table → IsApartFromFaults ins ins_now outs outs_now Done given
    pub none : ¬ SomeObeys rules table → IsApartFromFaults ins ins_now outs outs_now NoSeries given
    pub repair : given ≡ Done → WritesRepair held rules table outs outs_now most last
    pub cycle : given ≡ NoSeries → WritesCycle held rules table outs outs_now × (¬ SomeObeys rules table)
    pub kept : given ≢ Done → given ≢ NoSeries → given ≢ WriteFault → (outs_now.cert ≡ outs.cert) × (outs_now.out ≡ outs.out)

  -- So it is over every rule file and every readings file that are accepted, and of which no more than 4,000,000 bounds
  -- are made.
  abbrev pub Headline : Inputs S → Inputs S → Outputs K → Outputs K → (ℕ → ℕ → ℕ → ℕ → Option ℕ) → ℕ → Status → Type 0
  Headline ins ins_now outs outs_now most last given =
      (rule_bytes reading_bytes : List ℕ) (rules : Rules) (table : TableView)
      → left ins.rules ≡ Some rule_bytes → left ins.readings ≡ Some reading_bytes
      → SpellsRules rule_bytes rules → SpellsTable rules reading_bytes table → HasFewBounds rules table
      → Decides rules table ins ins_now outs outs_now most last given
