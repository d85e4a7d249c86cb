-- What is due, from what was performed.
use Rattle.std.proofs.Common.{◌≡◌, ◌≢◌, inl, inr, ℕ, List, Option, Some, None, refl, sym, ap, subst, ◌∙◌}
use Rattle.repair_report.specs.Report.{report_text}
use Rattle.screen_io.proofs.WholeReads.{taken_front, taken_whole}
use Rattle.screen_words.specs.declared.command.Command.{Command}
use Rattle.screen_words.specs.declared.command.Command.TheVariants.{Check, Global, Online, Report, Sample}
use Rattle.screen_words.specs.declared.ends.EndUse.{EndUse}
use Rattle.screen_words.specs.declared.ends.EndUse.TheVariants.{Word, Input, Output, Nothing}
use Rattle.screen_words.specs.declared.ends.Inputs.{Inputs}
use Rattle.screen_words.specs.declared.ends.Outputs.{Outputs}
use Rattle.screen_words.specs.declared.status.Ending.{Ending}
use Rattle.screen_words.specs.declared.status.Ending.TheVariants as ending
use Rattle.screen_steps.specs.Answer.{Extent, Whole, Begun, Unread, Answer, AreFront}
use Rattle.screen_tool.specs.Answers.{Answers, OneOutcome, RestsOnRead}
use Rattle.screen_words.specs.Command.{roles_of}
use Rattle.screen_words.specs.Ending.{outcome_status, status_of}
use Rattle.screen_tool.specs.Check.{check_text}
use Rattle.screen_steps.specs.Performance.{IsRead, IsAnswered, IsCut, IsWritten, LeavesUnused, Performs, AreTold, IsDue}
use Rattle.screen_online.proofs.Answered.{online_unread, online_unwritten}
use Rattle.screen_tool.specs.Leaves.{Leaves}
use Rattle.screen_tool.proofs.Leaving.{leaves_ended}
use Rattle.screen_tool.proofs.AnswerLaws.{checked_has, found_reads, global_has}
use Rattle.screen_tool.proofs.SampleLaws.{sample_cert}

-- ---- what came of a source is the front of what it told

module _ {S : Type 0} (left : S → Option (List ℕ)) (source_faults : S → ℕ) where
  pub front_read : (extent : Extent) (source now : S) (came bytes : List ℕ) → left source ≡ Some bytes → IsRead left source_faults extent source now came → AreFront extent came bytes
  front_read Whole source now came bytes told read = sym (taken_whole (left source) came (left now) bytes told read.0 read.1).0
  front_read (Begun count) source now came bytes told read =
      let found = taken_front (left source) came (left now) bytes told read.0 in (found.0, found.1)
  front_read Unread source now came bytes told read = tt

  pub front : (role : EndUse) (extent : Extent) (source now : S) (came bytes : List ℕ) → (role ≡ Nothing → extent ≡ Unread)
      → (role ≢ Nothing → left source ≡ Some bytes) → IsRead left source_faults extent source now came → AreFront extent came bytes
  front Nothing extent source now came bytes unread told read = subst (λ e. AreFront e came bytes) (sym (unread refl)) tt
  front (Word place) extent source now came bytes unread told read = front_read extent source now came bytes (told (λ e. cc)) read
  front Input extent source now came bytes unread told read = front_read extent source now came bytes (told (λ e. cc)) read
  front Output extent source now came bytes unread told read = front_read extent source now came bytes (told (λ e. cc)) read

-- ---- a command reads no source that it has no use for

pub rules_unread : (command : Option Command) (bytes : Inputs (List ℕ)) (answer : Answer) → Answers command bytes answer → (roles_of command).rules ≡ Nothing → answer.read.rules ≡ Unread
rules_unread (Some Global) bytes answer p none = cc
rules_unread (Some Check) bytes answer p none = cc
rules_unread (Some Online) bytes answer p none = cc
rules_unread (Some Report) bytes answer p none = cc
rules_unread (Some (Sample rows seed)) bytes answer p none = ap (λ (a : Answer). a.read.rules) p.2
rules_unread None bytes answer p none = ap (λ (a : Answer). a.read.rules) p

pub readings_unread : (command : Option Command) (bytes : Inputs (List ℕ)) (answer : Answer) → Answers command bytes answer → (roles_of command).readings ≡ Nothing → answer.read.readings ≡ Unread
readings_unread (Some Global) bytes answer p none = cc
readings_unread (Some Check) bytes answer p none = cc
readings_unread (Some Online) bytes answer p none = cc
readings_unread (Some Report) bytes answer p none = cc
readings_unread (Some (Sample rows seed)) bytes answer p none = ap (λ (a : Answer). a.read.readings) p.2
readings_unread None bytes answer p none = ap (λ (a : Answer). a.read.readings) p

pub cert_unread : (command : Option Command) (bytes : Inputs (List ℕ)) (answer : Answer) → Answers command bytes answer → (roles_of command).cert_read ≡ Nothing → answer.read.cert ≡ Unread
cert_unread (Some Global) bytes answer p none =
    global_has (λ problem outcome. Unit {0}) (λ a. a.read.cert ≡ Unread) bytes answer refl (λ fault. refl) refl (λ fault. refl) refl
    (λ rules table outcome. ap (λ (read : Inputs Extent). read.cert) (found_reads rules table outcome)) p
cert_unread (Some Check) bytes answer p none = cc
cert_unread (Some Online) bytes answer p none = online_unread bytes answer p
cert_unread (Some Report) bytes answer p none = cc
cert_unread (Some (Sample rows seed)) bytes answer p none = ap (λ (a : Answer). a.read.cert) p.2
cert_unread None bytes answer p none = ap (λ (a : Answer). a.read.cert) p

-- ---- nor does it write a certificate to a sink that it has no use for

cert_unwritten : (command : Option Command) (bytes : Inputs (List ℕ)) (answer : Answer) → Answers command bytes answer → (roles_of command).cert_written ≡ Nothing → answer.cert ≡ None
cert_unwritten (Some Global) bytes answer p none = cc
cert_unwritten (Some Check) bytes answer p none =
    checked_has (λ rules table accepted. Unit {0}) (λ rules table. check_text) (λ a. a.cert ≡ None) bytes answer refl (λ fault. refl) refl (λ fault. refl) refl refl (λ fault. refl) (λ written. refl) p
cert_unwritten (Some Online) bytes answer p none = online_unwritten bytes answer p
cert_unwritten (Some Report) bytes answer p none =
    checked_has (λ rules table accepted. Unit {0}) report_text (λ a. a.cert ≡ None) bytes answer refl (λ fault. refl) refl (λ fault. refl) refl refl (λ fault. refl) (λ written. refl) p
cert_unwritten (Some (Sample rows seed)) bytes answer p none = sample_cert (λ problem outcome. Unit {0}) rows seed answer p
cert_unwritten None bytes answer p none = ap (λ (a : Answer). a.cert) p

none_written : {K : Type 0} (held : K → Option (List ℕ)) (sink_faults : K → ℕ) (text : Option (List ℕ)) (sink now : K) → text ≡ None → IsWritten held sink_faults text sink now → now ≡ sink
none_written held sink_faults text sink now p written = subst (λ (t : Option (List ℕ)). IsWritten held sink_faults t sink now) p written

none_cut : {K : Type 0} (held : K → Option (List ℕ)) (sink_faults : K → ℕ) (text : Option (List ℕ)) (sink now : K) → text ≡ None → IsCut held sink_faults text sink now → ⊥
none_cut held sink_faults text sink now p cut = subst (λ (t : Option (List ℕ)). IsCut held sink_faults t sink now) p cut

out_unwritten : (command : Option Command) (bytes : Inputs (List ℕ)) (answer : Answer) → Answers command bytes answer → (roles_of command).out ≡ Nothing → answer.out ≡ None
out_unwritten (Some Global) bytes answer p none = cc
out_unwritten (Some Check) bytes answer p none = cc
out_unwritten (Some Online) bytes answer p none = cc
out_unwritten (Some Report) bytes answer p none = cc
out_unwritten (Some (Sample rows seed)) bytes answer p none = cc
out_unwritten None bytes answer p none = ap (λ (a : Answer). a.out) p

-- who has no use for readings has none for rules
same_use : (command : Option Command) → (roles_of command).readings ≡ Nothing → (roles_of command).rules ≡ Nothing
same_use (Some Global) none = cc
same_use (Some Check) none = cc
same_use (Some Online) none = cc
same_use (Some Report) none = cc
same_use (Some (Sample rows seed)) none = refl
same_use None none = refl

module _ {S K : Type 0} (left : S → Option (List ℕ)) (source_faults : S → ℕ) (held : K → Option (List ℕ)) (sink_faults : K → ℕ) where
  cert_left : (command : Option Command) (ins now : Inputs S) (outs outs_now : Outputs K) (how : Ending)
      → Performs left source_faults held sink_faults (Answers command) ins now outs outs_now how → (roles_of command).cert_written ≡ Nothing → outs_now.cert ≡ outs.cert
  cert_left command ins now outs outs_now (ending.Ended outcome) p none =
      none_written held sink_faults p.0.cert outs.cert outs_now.cert (cert_unwritten command p.2.0 p.0 p.2.1 none) p.3.0
  cert_left command ins now outs outs_now ending.ReadFault p none = p.1.0
  cert_left command ins now outs outs_now ending.Memory p none = p.1.0
  cert_left command ins now outs outs_now ending.WriteFault (answer, answered, inl p) none =
      absurd (none_cut held sink_faults answer.cert outs.cert outs_now.cert (cert_unwritten command answered.0 answer answered.1 none) p.0)
  cert_left command ins now outs outs_now ending.WriteFault (answer, answered, inr p) none =
      none_written held sink_faults answer.cert outs.cert outs_now.cert (cert_unwritten command answered.0 answer answered.1 none) p.0

  out_left : (command : Option Command) (ins now : Inputs S) (outs outs_now : Outputs K) (how : Ending)
      → Performs left source_faults held sink_faults (Answers command) ins now outs outs_now how → (roles_of command).out ≡ Nothing → outs_now.out ≡ outs.out
  out_left command ins now outs outs_now (ending.Ended outcome) p none =
      none_written held sink_faults p.0.out outs.out outs_now.out (out_unwritten command p.2.0 p.0 p.2.1 none) p.3.1
  out_left command ins now outs outs_now ending.ReadFault p none = p.1.1
  out_left command ins now outs outs_now ending.Memory p none = p.1.1
  out_left command ins now outs outs_now ending.WriteFault (answer, answered, inl p) none = p.1
  out_left command ins now outs outs_now ending.WriteFault (answer, answered, inr p) none =
      absurd (none_cut held sink_faults answer.out outs.out outs_now.out (out_unwritten command answered.0 answer answered.1 none) p.1)

  pub unused : (command : Option Command) (ins now : Inputs S) (outs outs_now : Outputs K) (how : Ending)
      → Performs left source_faults held sink_faults (Answers command) ins now outs outs_now how
      → ((roles_of command).rules ≡ Nothing → now ≡ ins) → ((roles_of command).cert_read ≡ Nothing → now.cert ≡ ins.cert)
      → LeavesUnused (roles_of command) ins now outs outs_now
  unused command ins now outs outs_now how p idle unread = record {
    rules = λ none. ap (λ (i : Inputs S). i.rules) (idle none);
    readings = λ none. ap (λ (i : Inputs S). i.readings) (idle (same_use command none));
    cert_read = unread;
    cert_written = λ none. cert_left command ins now outs outs_now how p none;
    out = λ none. out_left command ins now outs outs_now how p none;
  }

module _ {S : Type 0} (left : S → Option (List ℕ)) (source_faults : S → ℕ) where
  -- what was answered is an answer to the bytes that the sources told
  pub answered_told : RestsOnRead → (command : Option Command) (ins now : Inputs S) (bytes : Inputs (List ℕ)) (answer : Answer)
      → AreTold left (roles_of command) ins bytes → IsAnswered left source_faults (Answers command) ins now answer → Answers command bytes answer
  answered_told law command ins now bytes answer told answered =
      law command answered.0 bytes answer answered.1 (
        front left source_faults (roles_of command).rules answer.read.rules ins.rules now.rules answered.0.rules bytes.rules (rules_unread command answered.0 answer answered.1) told.rules answered.2.0,
        front left source_faults (roles_of command).readings answer.read.readings ins.readings now.readings answered.0.readings bytes.readings (readings_unread command answered.0 answer answered.1) told.readings answered.2.1,
        front left source_faults (roles_of command).cert_read answer.read.cert ins.cert now.cert answered.0.cert bytes.cert (cert_unread command answered.0 answer answered.1) told.cert answered.2.2,
      )

module _ {S K : Type 0} (left : S → Option (List ℕ)) (source_faults : S → ℕ) (held : K → Option (List ℕ)) (sink_faults : K → ℕ) where
  pub due : OneOutcome → RestsOnRead → (command : Option Command) (ins now : Inputs S) (outs outs_now : Outputs K) (how : Ending)
      → Leaves left source_faults held sink_faults command ins now outs outs_now how → IsDue left (roles_of command) (Answers command) ins (status_of how)
  due one rest command ins now outs outs_now ending.ReadFault p = λ bytes answer told given. inr (inl refl)
  due one rest command ins now outs outs_now ending.WriteFault p = λ bytes answer told given. inr (inr (inl refl))
  due one rest command ins now outs outs_now ending.Memory p = λ bytes answer told given. inr (inr (inr refl))
  due one rest command ins now outs outs_now (ending.Ended outcome) p = λ bytes answer told given.
      let q = leaves_ended left source_faults held sink_faults command ins now outs outs_now outcome p in
      inl (ap outcome_status (sym q.1 ∙ one command bytes q.0 answer (answered_told left source_faults rest command ins now bytes q.0 told q.2) given))
