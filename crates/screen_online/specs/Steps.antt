-- For proofs: what the steps of the command `online` leave.
use Rattle.std.specs.Prelude.{◌≡◌, ◌≢◌, ◌⊎◌, ℕ, ◌≤◌, Bool, true, false, List, [], ◌++◌, length, take, Option, Some, None, Result, Ok, Err}
use Rattle.online_repair.specs.Feeds.{Answers}
use Rattle.online_repair.specs.NotOnline.{not_online}
use Rattle.online_repair.specs.Output.{IsOutput, Output}
use Rattle.online_repair.specs.StandsFor.{OnlineView, StandsFor}
use Rattle.online_repair.specs.declared.fault.OnlineFault.{OnlineFault}
use Rattle.online_repair.specs.declared.fault.OnlineFault.TheVariants as fault
use Rattle.rule_file.specs.declared.rules.Rules.{Rules}
use Rattle.screen_io.specs.Faults.{Rose}
use Rattle.screen_io.specs.Sink.{Gains, GainsPrefix}
use Rattle.screen_io.specs.Source.{Takes, IsAtEnd}
use Rattle.screen_online.specs.Online.{AfterStart, HasText, IsWrittenFor}
use Rattle.screen_online.specs.declared.stream.TheConstants.{MOST_BYTES, PIECE}
use Rattle.screen_steps.specs.Answer.{Answer}
use Rattle.screen_steps.specs.Performance.{IsCut, IsRead, IsWritten, Stays}
use Rattle.screen_words.specs.Faults.{online_ending}
use Rattle.screen_words.specs.declared.status.Ending.{Ending}
use Rattle.screen_words.specs.declared.status.Ending.TheVariants.{Ended, ReadFault, WriteFault, Memory}
use Rattle.screen_words.specs.declared.status.Outcome.{Outcome}
use Rattle.screen_words.specs.declared.status.Outcome.TheVariants.{Done}

-- ---- what was ready is written

module _ {K : Type 0} (held : K → Option (List ℕ)) (sink_faults : K → ℕ) where
  -- The repair gave this answer with this text. The text is written, unless memory ran out, and the answer is handed on; or a
  -- write failed.
  abbrev pub HandsOn : Result Unit OnlineFault → List ℕ → K → K → Result Unit Ending → Type 0
  HandsOn fed text sink now (Ok done) = (fed ≡ Ok tt) × IsWritten held sink_faults (Some text) sink now
  HandsOn fed text sink now (Err (Ended outcome)) =
      (refusal : OnlineFault) × (fed ≡ Err refusal) × (online_ending refusal ≡ Ended outcome) × IsWritten held sink_faults (Some text) sink now
  HandsOn fed text sink now (Err ReadFault) = ⊥
  HandsOn fed text sink now (Err WriteFault) = (fed ≢ Err fault.Memory) × IsCut held sink_faults (Some text) sink now
  HandsOn fed text sink now (Err Memory) = (fed ≡ Err fault.Memory) × (now ≡ sink)

  -- The repair was given a piece after these bytes, or their end. It takes it, and the text is written; or it refuses, and the
  -- text up to there is written; or a write of the text failed; or memory ran out, and nothing is written.
  abbrev pub Hands : Rules → Bool → List ℕ → List ℕ → OnlineView → List ℕ → K → K → Result Unit Ending → Type 0
  Hands rules ended came piece online text sink now (Ok done) =
      StandsFor online rules ended (came ++ piece) × Answers rules ended came piece (Ok tt) [] text × IsWritten held sink_faults (Some text) sink now
  Hands rules ended came piece online text sink now (Err (Ended outcome)) =
      (refusal : OnlineFault) × (online_ending refusal ≡ Ended outcome) × Answers rules ended came piece (Err refusal) [] text
      × IsWritten held sink_faults (Some text) sink now
  Hands rules ended came piece online text sink now (Err ReadFault) = ⊥
  Hands rules ended came piece online text sink now (Err WriteFault) =
      (fed : Result Unit OnlineFault) × (fed ≢ Err fault.Memory) × Answers rules ended came piece fed [] text × IsCut held sink_faults (Some text) sink now
  Hands rules ended came piece online text sink now (Err Memory) = Answers rules ended came piece (Err fault.Memory) [] text × (now ≡ sink)

  -- None of these bytes is refused, and the whole text for them is written.
  pub record HasWritten (rules : Rules) (came : List ℕ) (sink now : K) : Type 0 where
    pub out : Output
    pub is_output : IsOutput rules false came out
    pub no_fault : out.fault ≡ None
    pub written : IsWritten held sink_faults (Some out.text) sink now

-- ---- the readings

module _ {S K : Type 0} (left : S → Option (List ℕ)) (source_faults : S → ℕ) (held : K → Option (List ℕ)) (sink_faults : K → ℕ) where
  -- A repair was begun by these rules, and these bytes came.
  pub record IsBegun (rules : Rules) (came : List ℕ) (source now : S) : Type 0 where
    pub online : not_online rules ≡ None
    pub taken : Takes (left source) came (left now)
    pub within : length came ≤ MOST_BYTES

  -- The readings have this answer by the rules, and it is given whole.
  pub record IsGiven (rules : Rules) (source source_now : S) (sink sink_now : K) (outcome : Outcome) : Type 0 where
    pub came : List ℕ
    pub answer : Answer
    pub outcome_is : answer.outcome ≡ outcome
    pub answers : AfterStart rules came (not_online rules) answer
    pub read : IsRead left source_faults answer.read.readings source source_now came
    pub written : IsWritten held sink_faults answer.out sink sink_now

  -- A write failed, and a part of the text for the bytes that came is written.
  pub record IsCutOff (rules : Rules) (source source_now : S) (sink sink_now : K) : Type 0 where
    pub came : List ℕ
    pub begun : IsBegun rules came source source_now
    pub unfailed : Stays (source_faults source) (source_faults source_now)
    pub ended : Bool
    pub at_end : ended ≡ true → IsAtEnd (left source_now)
    pub text : List ℕ
    pub has_text : HasText rules ended came text
    pub count : ℕ
    pub part : count ≤ length text
    pub written : IsWrittenFor rules came count
    pub gains : Gains (held sink) (take count text) (held sink_now)
    pub failed : Rose (sink_faults sink) (sink_faults sink_now)

  -- Memory ran out at a piece, and the text for the bytes before it is written, which begins any text for all of them.
  pub record IsStarved (rules : Rules) (source source_now : S) (sink sink_now : K) : Type 0 where
    pub came : List ℕ
    pub begun : IsBegun rules came source source_now
    pub unfailed : Stays (source_faults source) (source_faults source_now)
    pub earlier : List ℕ
    pub last : List ℕ
    pub came_are : came ≡ earlier ++ last
    pub piece : length last ≤ PIECE
    pub written : HasWritten held sink_faults rules earlier sink sink_now
    pub ended : Bool
    pub at_end : ended ≡ true → IsAtEnd (left source_now)
    pub part : (out : Output) → IsOutput rules ended came out → GainsPrefix (held sink) out.text (held sink_now)

  -- What repairing the readings by accepted rules leaves.
  abbrev pub Repairs : Rules → S → S → K → K → Result Unit Ending → Type 0
  Repairs rules source source_now sink sink_now (Ok done) = IsGiven rules source source_now sink sink_now Done
  Repairs rules source source_now sink sink_now (Err (Ended outcome)) = IsGiven rules source source_now sink sink_now outcome
  Repairs rules source source_now sink sink_now (Err ReadFault) =
      (came : List ℕ) × IsBegun rules came source source_now × Rose (source_faults source) (source_faults source_now)
      × HasWritten held sink_faults rules came sink sink_now
  Repairs rules source source_now sink sink_now (Err WriteFault) = IsCutOff rules source source_now sink sink_now
  Repairs rules source source_now sink sink_now (Err Memory) =
      ((source_now ≡ source) × (sink_now ≡ sink)) ⊎ IsStarved rules source source_now sink sink_now
