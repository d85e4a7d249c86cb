-- To be believed: what a run leaves of its sources and sinks. `left` is what a source has left, `held` what a sink
-- holds, where they tell it; `source_faults` and `sink_faults` are what they count. A source or sink that tells nothing,
-- as a file of the system, meets with any bytes what is said of bytes here: what is said of counts, of order and of ends
-- that stay the same holds of it all the same.
use Rattle.std.specs.Prelude.{◌≡◌, ◌≢◌, ◌⊎◌, ℕ, ◌+◌, ◌≤◌, List, length, Option, Some, None}
use Rattle.cert_format.specs.declared.limits.TheConstants.{LONGEST as longest_cert}
use Rattle.rule_file.specs.declared.read.TheConstants.{LONGEST as longest_rules}
use Rattle.screen_io.specs.Faults.{Rose}
use Rattle.screen_io.specs.Sink.{Gains, GainsPrefix}
use Rattle.screen_io.specs.Source.{Takes, IsAtEnd}
use Rattle.series_csv.specs.declared.table.TheConstants.{LONGEST as longest_readings}
use Rattle.screen_words.specs.declared.ends.EndUse.TheVariants.{Nothing}
use Rattle.screen_words.specs.declared.ends.Inputs.{Inputs}
use Rattle.screen_words.specs.declared.ends.Outputs.{Outputs}
use Rattle.screen_words.specs.declared.ends.Roles.{Roles}
use Rattle.screen_words.specs.declared.status.Ending.{Ending}
use Rattle.screen_words.specs.declared.status.Ending.TheVariants.{Ended, ReadFault, WriteFault, Memory}
use Rattle.screen_words.specs.declared.status.Status.{Status}
use Rattle.screen_steps.specs.Answer.{Extent, Whole, Begun, Unread, Answer}
use Rattle.screen_words.specs.Ending.{IsStatusFor}

-- what a command answers to the bytes of its sources
abbrev pub IsAnswerTo : Type 1
IsAnswerTo = Inputs (List ℕ) → Answer → Type 0

-- two counts of faults, before and now, of which none was added
abbrev pub Stays : ℕ → ℕ → Type 0
Stays before now = now ≡ before

module _ {S : Type 0} (left : S → Option (List ℕ)) (source_faults : S → ℕ) where
  -- The source was read so far without a fault, and these bytes came.
  abbrev pub IsRead : Extent → S → S → List ℕ → Type 0
  IsRead Whole source now bytes = Takes (left source) bytes (left now) × IsAtEnd (left now) × Stays (source_faults source) (source_faults now)
  IsRead (Begun count) source now bytes = Takes (left source) bytes (left now) × (length bytes ≡ count) × Stays (source_faults source) (source_faults now)
  IsRead Unread source now bytes = now ≡ source

  abbrev pub AreRead : Inputs Extent → Inputs S → Inputs S → Inputs (List ℕ) → Type 0
  AreRead read ins now bytes =
      IsRead read.rules ins.rules now.rules bytes.rules
      × IsRead read.readings ins.readings now.readings bytes.readings
      × IsRead read.cert ins.cert now.cert bytes.cert

  -- The command has this answer to the bytes that came, and these are all that the answer reads.
  abbrev pub IsAnswered : IsAnswerTo → Inputs S → Inputs S → Answer → Type 0
  IsAnswered Answers ins now answer = (bytes : Inputs (List ℕ)) × Answers bytes answer × AreRead answer.read ins now bytes

  -- The command stops at a source, of which these bytes came, at most one beyond its limit, and this happened to its count of
  -- faults. What was read before it calls for no answer without it, and the sources after it were not begun.
  pub record StopsAtRules (Happens : ℕ → ℕ → Type 0) (Answers : IsAnswerTo) (ins now : Inputs S) : Type 0 where
    pub came : List ℕ
    pub within : length came ≤ longest_rules + 1
    pub needed : (bytes : Inputs (List ℕ)) (answer : Answer) → Answers bytes answer → answer.read.rules ≢ Unread
    pub taken : Takes (left ins.rules) came (left now.rules)
    pub happens : Happens (source_faults ins.rules) (source_faults now.rules)
    pub readings : now.readings ≡ ins.readings
    pub cert : now.cert ≡ ins.cert

  pub record StopsAtReadings (Happens : ℕ → ℕ → Type 0) (Answers : IsAnswerTo) (ins now : Inputs S) : Type 0 where
    pub rules_came : List ℕ
    pub came : List ℕ
    pub within : length came ≤ longest_readings + 1
    pub rules : IsRead Whole ins.rules now.rules rules_came
    pub needed : (bytes : Inputs (List ℕ)) (answer : Answer) → bytes.rules ≡ rules_came → Answers bytes answer → answer.read.readings ≢ Unread
    pub taken : Takes (left ins.readings) came (left now.readings)
    pub happens : Happens (source_faults ins.readings) (source_faults now.readings)
    pub cert : now.cert ≡ ins.cert

  pub record StopsAtCert (Happens : ℕ → ℕ → Type 0) (Answers : IsAnswerTo) (ins now : Inputs S) : Type 0 where
    pub rules_came : List ℕ
    pub readings_came : List ℕ
    pub came : List ℕ
    pub within : length came ≤ longest_cert + 1
    pub rules : IsRead Whole ins.rules now.rules rules_came
    pub readings : IsRead Whole ins.readings now.readings readings_came
    pub needed : (bytes : Inputs (List ℕ)) (answer : Answer) → bytes.rules ≡ rules_came → bytes.readings ≡ readings_came
        → Answers bytes answer → answer.read.cert ≢ Unread
    pub taken : Takes (left ins.cert) came (left now.cert)
    pub happens : Happens (source_faults ins.cert) (source_faults now.cert)

  abbrev pub Stops : (ℕ → ℕ → Type 0) → IsAnswerTo → Inputs S → Inputs S → Type 0
  Stops Happens Answers ins now =
      StopsAtRules Happens Answers ins now ⊎ (StopsAtReadings Happens Answers ins now ⊎ StopsAtCert Happens Answers ins now)

  -- The command stops at a source, or before all of them, and no source counted a fault.
  abbrev pub Starves : IsAnswerTo → Inputs S → Inputs S → Type 0
  Starves Answers ins now = (now ≡ ins) ⊎ Stops Stays Answers ins now

-- The sinks of the certificate and the text are the same as before.
abbrev pub LeavesSinks : {K : Type 0} → Outputs K → Outputs K → Type 0
LeavesSinks outs now = (now.cert ≡ outs.cert) × (now.out ≡ outs.out)

module _ {K : Type 0} (held : K → Option (List ℕ)) (sink_faults : K → ℕ) where
  -- The sink gained its whole text without a fault; a sink that gets none is the same as before.
  abbrev pub IsWritten : Option (List ℕ) → K → K → Type 0
  IsWritten (Some text) sink now = Gains (held sink) text (held now) × Stays (sink_faults sink) (sink_faults now)
  IsWritten None sink now = now ≡ sink

  -- A write to the sink failed, and it gained a front part of its text.
  abbrev pub IsCut : Option (List ℕ) → K → K → Type 0
  IsCut (Some text) sink now = GainsPrefix (held sink) text (held now) × Rose (sink_faults sink) (sink_faults now)
  IsCut None sink now = ⊥

  abbrev pub AreWritten : Answer → Outputs K → Outputs K → Type 0
  AreWritten answer outs now = IsWritten answer.cert outs.cert now.cert × IsWritten answer.out outs.out now.out

  -- The certificate is written first: either the text was not begun, or the certificate is whole.
  abbrev pub AreCut : Answer → Outputs K → Outputs K → Type 0
  AreCut answer outs now =
      (IsCut answer.cert outs.cert now.cert × (now.out ≡ outs.out))
      ⊎ (IsWritten answer.cert outs.cert now.cert × IsCut answer.out outs.out now.out)

  -- The note's sink gained the note; or a front part of it, and a write to it failed.
  abbrev pub IsNoted : List ℕ → K → K → Type 0
  IsNoted note sink now = IsWritten (Some note) sink now ⊎ IsCut (Some note) sink now

module _ {S K : Type 0} (left : S → Option (List ℕ)) (source_faults : S → ℕ) (held : K → Option (List ℕ)) (sink_faults : K → ℕ) where
  -- What a run leaves that ends so: an answer was given whole; or a read failed; or a write did, of an answer; or
  -- memory ran out.
  abbrev pub Performs : IsAnswerTo → Inputs S → Inputs S → Outputs K → Outputs K → Ending → Type 0
  Performs Answers ins ins_now outs outs_now (Ended outcome) =
      (answer : Answer) × (answer.outcome ≡ outcome) × IsAnswered left source_faults Answers ins ins_now answer × AreWritten held sink_faults answer outs outs_now
  Performs Answers ins ins_now outs outs_now ReadFault = Stops left source_faults Rose Answers ins ins_now × LeavesSinks outs outs_now
  Performs Answers ins ins_now outs outs_now WriteFault =
      (answer : Answer) × IsAnswered left source_faults Answers ins ins_now answer × AreCut held sink_faults answer outs outs_now
  Performs Answers ins ins_now outs outs_now Memory = Starves left source_faults Answers ins ins_now × LeavesSinks outs outs_now

-- Each end that the command does not use is the same as before.
pub record LeavesUnused {S K : Type 0} (roles : Roles) (ins ins_now : Inputs S) (outs outs_now : Outputs K) : Type 0 where
  pub rules : roles.rules ≡ Nothing → ins_now.rules ≡ ins.rules
  pub readings : roles.readings ≡ Nothing → ins_now.readings ≡ ins.readings
  pub cert_read : roles.cert_read ≡ Nothing → ins_now.cert ≡ ins.cert
  pub cert_written : roles.cert_written ≡ Nothing → outs_now.cert ≡ outs.cert
  pub out : roles.out ≡ Nothing → outs_now.out ≡ outs.out

module _ {S : Type 0} (left : S → Option (List ℕ)) where
  -- each source that the command uses tells its bytes
  pub record AreTold (roles : Roles) (ins : Inputs S) (bytes : Inputs (List ℕ)) : Type 0 where
    pub rules : roles.rules ≢ Nothing → left ins.rules ≡ Some bytes.rules
    pub readings : roles.readings ≢ Nothing → left ins.readings ≡ Some bytes.readings
    pub cert : roles.cert_read ≢ Nothing → left ins.cert ≡ Some bytes.cert

  -- Where the sources tell their bytes and these call for an answer, the status is that of the answer, unless a read or
  -- a write failed or memory ran out.
  abbrev pub IsDue : Roles → IsAnswerTo → Inputs S → Status → Type 0
  IsDue roles Answers ins given =
      (bytes : Inputs (List ℕ)) (answer : Answer) → AreTold roles ins bytes → Answers bytes answer → IsStatusFor answer.outcome given
