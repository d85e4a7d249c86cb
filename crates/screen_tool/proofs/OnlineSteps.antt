-- What `online` leaves: beside the note, and of the ends that it has no use for.
use Rattle.std.proofs.Common.{◌≡◌, inl, inr, ℕ, List, Option, Some, None, ap, subst}
use Rattle.rule_file.specs.declared.rules.Rules.{Rules}
use Rattle.screen_online.proofs.Answered.{online_unread, online_unwritten}
use Rattle.screen_online.specs.Online.{AnswersOnline, PerformsOnline, Streams}
use Rattle.screen_steps.proofs.Reading.{performs_noted}
use Rattle.screen_steps.specs.Answer.{Extent, Unread}
use Rattle.screen_steps.specs.Performance.{IsRead, LeavesUnused}
use Rattle.screen_words.specs.Command.{roles_of}
use Rattle.screen_words.specs.declared.command.Command.{Command}
use Rattle.screen_words.specs.declared.command.Command.TheVariants.{Check, Global, Online, Report, Sample}
use Rattle.screen_words.specs.declared.ends.Inputs.{Inputs}
use Rattle.screen_words.specs.declared.ends.Outputs.{Outputs}
use Rattle.screen_words.specs.declared.status.Ending.{Ending}
use Rattle.screen_words.specs.declared.status.Ending.TheVariants.{Ended, ReadFault, WriteFault, Memory}
use Rattle.screen_tool.specs.Answers.{Answers}
use Rattle.screen_tool.specs.Leaves.{Leaves}
use Rattle.screen_tool.proofs.Decided.{not_written}

module _ {S K : Type 0} (left : S → Option (List ℕ)) (source_faults : S → ℕ) (held : K → Option (List ℕ)) (sink_faults : K → ℕ) where
  -- ---- the note is no part of it

  streams_noted : (ins now : Inputs S) (outs outs_now : Outputs K) (note : K) (rules : Rules) (came : List ℕ)
      → Streams left source_faults held sink_faults ins now outs outs_now rules came → Streams left source_faults held sink_faults ins now outs (record outs_now { note = note }) rules came
  streams_noted ins now outs outs_now note rules came p = record {
    rules_came = p.rules_came;
    rules_read = p.rules_read;
    rules_within = p.rules_within;
    rules_are = p.rules_are;
    online = p.online;
    taken = p.taken;
    within = p.within;
    cert_read = p.cert_read;
    cert_written = p.cert_written;
  }

  online_noted : (ins now : Inputs S) (outs outs_now : Outputs K) (note : K) (how : Ending)
      → PerformsOnline left source_faults held sink_faults ins now outs outs_now how → PerformsOnline left source_faults held sink_faults ins now outs (record outs_now { note = note }) how
  online_noted ins now outs outs_now note (Ended outcome) p = performs_noted left source_faults held sink_faults AnswersOnline ins now outs outs_now note (Ended outcome) p
  online_noted ins now outs outs_now note ReadFault (inl p) = inl p
  online_noted ins now outs outs_now note ReadFault (inr p) = inr (p.0, p.1, streams_noted ins now outs outs_now note p.0 p.1 p.2, p.3, p.4)
  online_noted ins now outs outs_now note WriteFault p = record {
    rules = p.rules;
    came = p.came;
    streams = streams_noted ins now outs outs_now note p.rules p.came p.streams;
    unfailed = p.unfailed;
    ended = p.ended;
    at_end = p.at_end;
    text = p.text;
    has_text = p.has_text;
    count = p.count;
    part = p.part;
    written = p.written;
    gains = p.gains;
    failed = p.failed;
  }
  online_noted ins now outs outs_now note Memory (inl p) = inl p
  online_noted ins now outs outs_now note Memory (inr p) =
      inr (record {
        rules = p.rules;
        came = p.came;
        streams = streams_noted ins now outs outs_now note p.rules p.came p.streams;
        unfailed = p.unfailed;
        earlier = p.earlier;
        last = p.last;
        came_are = p.came_are;
        piece = p.piece;
        out = p.out;
        is_output = p.is_output;
        written = p.written;
        ended = p.ended;
        at_end = p.at_end;
        begins = p.begins;
      })

  pub leaves_noted : (command : Option Command) (ins now : Inputs S) (outs outs_now : Outputs K) (note : K) (how : Ending)
      → Leaves left source_faults held sink_faults command ins now outs outs_now how → Leaves left source_faults held sink_faults command ins now outs (record outs_now { note = note }) how
  leaves_noted (Some Online) ins now outs outs_now note how p = online_noted ins now outs outs_now note how p
  leaves_noted (Some Global) ins now outs outs_now note how p = performs_noted left source_faults held sink_faults (Answers (Some Global)) ins now outs outs_now note how p
  leaves_noted (Some Check) ins now outs outs_now note how p = performs_noted left source_faults held sink_faults (Answers (Some Check)) ins now outs outs_now note how p
  leaves_noted (Some Report) ins now outs outs_now note how p = performs_noted left source_faults held sink_faults (Answers (Some Report)) ins now outs outs_now note how p
  leaves_noted (Some (Sample rows seed)) ins now outs outs_now note how p = performs_noted left source_faults held sink_faults (Answers (Some (Sample rows seed))) ins now outs outs_now note how p
  leaves_noted None ins now outs outs_now note how p = performs_noted left source_faults held sink_faults (Answers None) ins now outs outs_now note how p

  -- ---- the source and the sink of certificates stay

  not_read : (extent : Extent) (source now : S) (came : List ℕ) → extent ≡ Unread → IsRead left source_faults extent source now came → now ≡ source
  not_read extent source now came e read = subst (λ (x : Extent). IsRead left source_faults x source now came) e read

  certs_stay : (ins now : Inputs S) (outs outs_now : Outputs K) (how : Ending) → PerformsOnline left source_faults held sink_faults ins now outs outs_now how → (now.cert ≡ ins.cert) × (outs_now.cert ≡ outs.cert)
  certs_stay ins now outs outs_now (Ended outcome) p = (
    not_read p.0.read.cert ins.cert now.cert p.2.0.cert (online_unread p.2.0 p.0 p.2.1) p.2.2.2,
    not_written held sink_faults p.0.cert outs.cert outs_now.cert (online_unwritten p.2.0 p.0 p.2.1) p.3.0,
  )
  certs_stay ins now outs outs_now ReadFault (inl p) = (p.0.cert, p.1.0)
  certs_stay ins now outs outs_now ReadFault (inr p) = (p.2.cert_read, p.2.cert_written)
  certs_stay ins now outs outs_now WriteFault p = (p.streams.cert_read, p.streams.cert_written)
  certs_stay ins now outs outs_now Memory (inl (inl same, sinks)) = (ap (λ (i : Inputs S). i.cert) same, sinks.0)
  certs_stay ins now outs outs_now Memory (inl (inr p, sinks)) = (p.cert, sinks.0)
  certs_stay ins now outs outs_now Memory (inr p) = (p.streams.cert_read, p.streams.cert_written)

  pub online_unused : (ins now : Inputs S) (outs outs_now : Outputs K) (how : Ending) → PerformsOnline left source_faults held sink_faults ins now outs outs_now how
      → LeavesUnused (roles_of (Some Online)) ins now outs outs_now
  online_unused ins now outs outs_now how p =
      let stay = certs_stay ins now outs outs_now how p in
      record { rules = λ none. absurd (cc none); readings = λ none. absurd (cc none); cert_read = λ none. stay.0; cert_written = λ none. stay.1; out = λ none. absurd (cc none) }
