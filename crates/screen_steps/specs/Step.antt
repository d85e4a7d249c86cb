-- For proofs: what the steps of a command leave, before it writes anything.
use Rattle.std.specs.Prelude.{◌≡◌, ℕ, ◌+◌, ◌<◌, ◌≤◌, List, length, Option, None, option_map, Result, Ok, Err, Vec}
use Rattle.std.specs.declared.alloc.Global.{Global as Heap}
use Rattle.screen_io.specs.Faults.{Rose}
use Rattle.screen_io.specs.Source.{Takes}
use Rattle.screen_words.specs.declared.ends.Inputs.{Inputs}
use Rattle.screen_steps.specs.declared.reply.Reply.{Reply}
use Rattle.screen_words.specs.declared.status.Ending.{Ending}
use Rattle.screen_words.specs.declared.status.Ending.TheVariants as ending
use Rattle.screen_words.specs.declared.step.StepFault.{StepFault}
use Rattle.screen_words.specs.declared.step.StepFault.TheVariants.{TooLong, Refused, Failed, Memory}
use Rattle.screen_steps.specs.Answer.{Whole, Begun, Answer}
use Rattle.screen_steps.specs.Performance.{IsAnswerTo, IsRead, IsAnswered, Starves, Stays, Stops}

-- what is found in bytes that were read, by what they are read as
abbrev pub IsFound : {A F : Type 0} → (List ℕ → Result A F → Type 0) → List ℕ → Result A (StepFault F) → Type 0
IsFound Reads bytes (Ok value) = Reads bytes (Ok value)
IsFound Reads bytes (Err (Refused fault)) = Reads bytes (Err fault)
IsFound Reads bytes (Err Memory) = Unit {0}
IsFound Reads bytes (Err TooLong) = ⊥
IsFound Reads bytes (Err Failed) = ⊥

-- The reply is the answer: what it comes to, and its texts.
pub record IsReplyOf (answer : Answer) (reply : Reply) : Type 0 where
  pub outcome : answer.outcome ≡ reply.outcome
  pub cert : answer.cert ≡ option_map (λ text. text.items) reply.cert
  pub out : answer.out ≡ option_map (λ text. text.items) reply.out

-- What comes of files that are accepted, to which these are the answers: the reply of one of them; the end by one that
-- writes nothing; or want of memory.
abbrev pub Comes : (Answer → Type 0) → Result Reply Ending → Type 0
Comes Answers (Ok reply) = (answer : Answer) × IsReplyOf answer reply × Answers answer
Comes Answers (Err (ending.Ended outcome)) = (answer : Answer) × (answer.outcome ≡ outcome) × (answer.cert ≡ None) × (answer.out ≡ None) × Answers answer
Comes Answers (Err ending.ReadFault) = ⊥
Comes Answers (Err ending.WriteFault) = ⊥
Comes Answers (Err ending.Memory) = Unit {0}

module _ {S : Type 0} (left : S → Option (List ℕ)) (source_faults : S → ℕ) where
  -- Reading stopped, and what came is the front of what was there, of at most one byte beyond the limit; this happened to the
  -- count of faults.
  abbrev pub IsStopped : ℕ → (ℕ → ℕ → Type 0) → S → S → Type 0
  IsStopped longest Happens source now = (came : List ℕ) × (length came ≤ longest + 1) × Takes (left source) came (left now) × Happens (source_faults source) (source_faults now)

  -- More came than the limit, and no more than one byte beyond it.
  abbrev pub IsTooLong : ℕ → S → S → Type 0
  IsTooLong longest source now = (bytes : List ℕ) × IsRead left source_faults (Begun (longest + 1)) source now bytes × (longest < length bytes)

  -- What reading the bytes of a file of at most so many bytes leaves.
  abbrev pub WasRead : {F : Type 0} → ℕ → S → S → Result (Vec ℕ Heap) (StepFault F) → Type 0
  WasRead longest source now (Ok bytes) = IsRead left source_faults Whole source now bytes.items × (length bytes.items ≤ longest)
  WasRead longest source now (Err TooLong) = IsTooLong longest source now
  WasRead longest source now (Err Failed) = IsStopped longest Rose source now
  WasRead longest source now (Err Memory) = IsStopped longest Stays source now
  WasRead longest source now (Err (Refused fault)) = ⊥

  -- What a step leaves that reads such a file.
  abbrev pub IsStep : {A F : Type 0} → ℕ → (List ℕ → Result A F → Type 0) → S → S → Result A (StepFault F) → Type 0
  IsStep longest Reads source now (Ok value) =
      (bytes : List ℕ) × IsRead left source_faults Whole source now bytes × (length bytes ≤ longest) × Reads bytes (Ok value)
  IsStep longest Reads source now (Err TooLong) = IsTooLong longest source now
  IsStep longest Reads source now (Err (Refused fault)) =
      (bytes : List ℕ) × IsRead left source_faults Whole source now bytes × (length bytes ≤ longest) × Reads bytes (Err fault)
  IsStep longest Reads source now (Err Failed) = IsStopped longest Rose source now
  IsStep longest Reads source now (Err Memory) = IsStopped longest Stays source now

  -- the command's sources were read for this reply
  abbrev pub Replies : IsAnswerTo → Inputs S → Inputs S → Reply → Type 0
  Replies Answers ins now reply = (answer : Answer) × IsReplyOf answer reply × IsAnswered left source_faults Answers ins now answer

  -- the command ends so, and has nothing to write
  abbrev pub Ends : IsAnswerTo → Inputs S → Inputs S → Ending → Type 0
  Ends Answers ins now (ending.Ended outcome) =
      (answer : Answer) × (answer.outcome ≡ outcome) × (answer.cert ≡ None) × (answer.out ≡ None) × IsAnswered left source_faults Answers ins now answer
  Ends Answers ins now ending.ReadFault = Stops left source_faults Rose Answers ins now
  Ends Answers ins now ending.WriteFault = ⊥
  Ends Answers ins now ending.Memory = Starves left source_faults Answers ins now
