-- The readings of a stream, piece by piece: from the bytes that came to more of them, and to each end.
use Rattle.std.proofs.Common.{◌≡◌, ◌≢◌, inl, inr, ℕ, ◌+◌, ◌<◌, ◌≤◌, Bool, true, false, List, [], ◌∷◌, ◌++◌, length, take, Option, Some, None, Result, Ok, Err, refl, sym, ap, ◌∙◌, subst, arith, append_assoc, append-nil, length-append}
use Rattle.std.proofs.Math.Seq.{take-append_seam}
use Rattle.online_repair.specs.Feeds.{Answers, Appends, Refuses}
use Rattle.online_repair.specs.NotOnline.{not_online}
use Rattle.online_repair.specs.Output.{IsOutput, Output}
use Rattle.online_repair.specs.StandsFor.{OnlineView, StandsFor}
use Rattle.online_repair.specs.declared.fault.OnlineFault.{OnlineFault}
use Rattle.online_repair.specs.declared.fault.OnlineFault.TheVariants as fault
use Rattle.rule_file.specs.declared.rules.Rules.{Rules}
use Rattle.screen_io.specs.Faults.{Rose}
use Rattle.screen_io.specs.Source.{Takes, IsAtEnd}
use Rattle.screen_io.proofs.Steps.{Takes-more, Takes-nothing}
use Rattle.screen_online.specs.Online.{AfterStart, HasText, IsBroken, IsRefused, IsTooMuch, IsWhole, ending_for, streamed}
use Rattle.screen_online.specs.Steps.{Hands, HasWritten, IsBegun, IsCutOff, IsGiven, IsStarved, Repairs}
use Rattle.screen_online.specs.declared.stream.TheConstants.{MOST_BYTES, PIECE}
use Rattle.screen_online.proofs.Written.{front_written, more_written, nothing_yet, part_written, piece_written}
use Rattle.screen_steps.specs.Answer.{Answer, Whole, Begun, Unread}
use Rattle.screen_steps.specs.Files.{without_texts}
use Rattle.screen_steps.specs.Performance.{IsCut, IsWritten, Stays}
use Rattle.screen_words.specs.Faults.{online_ending}
use Rattle.screen_words.specs.declared.status.Ending.{Ending}
use Rattle.screen_words.specs.declared.status.Ending.TheVariants.{Ended, ReadFault, WriteFault, Memory}
use Rattle.screen_words.specs.declared.status.Outcome.{Outcome}
use Rattle.screen_words.specs.declared.status.Outcome.TheVariants.{Done, NotOnline, ReadingsRefused}
use Rattle.series_rows.specs.Faults.{of_the_file}
use Rattle.series_rows.specs.declared.fault.TableCause.TheVariants.{FileTooLong}

-- ---- small facts

memory_not_ended : (outcome : Outcome) → Memory ≡ Ended outcome → ⊥
memory_not_ended outcome e = cc

-- a refusal that comes to an outcome is not want of memory
ends_other : (refusal : OnlineFault) (outcome : Outcome) → online_ending refusal ≡ Ended outcome → refusal ≡ fault.Memory → ⊥
ends_other refusal outcome e same = memory_not_ended outcome (sym (ap online_ending same) ∙ e)

fed_other : (refusal : OnlineFault) → ◌≢◌ {A = Result (Unit {0}) OnlineFault} (Err refusal) (Err fault.Memory) → refusal ≡ fault.Memory → ⊥
fed_other refusal other same = other (ap (λ (f : OnlineFault). Err f) same)

nil_front : (a b : List ℕ) → [] ≡ a ++ b → a ≡ []
nil_front [] b e = refl
nil_front (x ∷ a) b e = absurd (cc e)

room_left : (came piece : List ℕ) (room more most : ℕ) → length came + room ≡ most → length piece + more ≡ room → length (came ++ piece) + more ≡ most
room_left came piece room more most e f = omega (arith, length-append came piece, e, f)

still_within : (came piece : List ℕ) (room most : ℕ) → length came + room ≡ most → length piece ≤ room → length (came ++ piece) ≤ most
still_within came piece room most e f = omega (arith, length-append came piece, e, f)

front_within : (came piece front rest : List ℕ) (most : ℕ) → piece ≡ front ++ rest → length (came ++ piece) ≤ most → length (came ++ front) ≤ most
front_within came piece front rest most e f = omega (arith, length-append came piece, length-append came front, ap length e, length-append front rest, f)

rest_within : (piece front rest : List ℕ) (most : ℕ) → piece ≡ front ++ rest → length piece ≤ most → length rest ≤ most
rest_within piece front rest most e f = omega (arith, ap length e, length-append front rest, f)

part_of_room : (n more room : ℕ) → n + more ≡ room → n ≤ room
part_of_room n more room e = omega (arith, e)

one_beyond : (came one : List ℕ) (most : ℕ) → length came + 0 ≡ most → length one ≡ 1 → most < length (came ++ one)
one_beyond came one most e f = omega (arith, length-append came one, e, f)

one_more : (came one : List ℕ) (most : ℕ) → length came + 0 ≡ most → length one ≡ 1 → length (came ++ one) ≡ most + 1
one_more came one most e f = omega (arith, length-append came one, e, f)

all_but_one : (came one : List ℕ) (most : ℕ) → length came + 0 ≡ most → take most (came ++ one) ≡ came
all_but_one came one most e =
    let same : most ≡ length came = omega (arith, e) in
    ap (λ (n : ℕ). take n (came ++ one)) same ∙ take-append_seam came one

-- a piece that is refused: the bytes up to there
refused_piece : (rules : Rules) (came piece text : List ℕ) (refusal : OnlineFault) (before : Output) → length (came ++ piece) ≤ MOST_BYTES → length piece ≤ PIECE
    → (r : Refuses rules false came piece refusal [] text before) → IsRefused rules (came ++ piece) r.at_front.now.text refusal
refused_piece rules came piece text refusal before within short r = record {
  front = came ++ r.front;
  rest = r.rest;
  bytes_are = ap (λ (bytes : List ℕ). came ++ bytes) r.piece_is ∙ sym (append_assoc came r.front r.rest);
  within = front_within came piece r.front r.rest MOST_BYTES r.piece_is within;
  soon = rest_within piece r.front r.rest PIECE r.piece_is short;
  out = r.at_front.now;
  is_output = r.at_front.is_output;
  fault_is = r.at_front.fault_is;
  text_is = refl;
}

-- the output at the end
whole_output : (rules : Rules) (came : List ℕ) (out : Output) → IsOutput rules true (came ++ []) out → IsOutput rules true came out
whole_output rules came out is =
    let I : List ℕ → Type 0 = λ bytes. IsOutput rules true bytes out in subst I (append-nil came) is

ended_output : (rules : Rules) (came front rest : List ℕ) (out : Output) → [] ≡ front ++ rest → IsOutput rules true (came ++ front) out → IsOutput rules true came out
ended_output rules came front rest out e is =
    let I : List ℕ → Type 0 = λ bytes. IsOutput rules true (came ++ bytes) out in
    whole_output rules came out (subst I (nil_front front rest e) is)

module _ {S K : Type 0} (left : S → Option (List ℕ)) (source_faults : S → ℕ) (held : K → Option (List ℕ)) (sink_faults : K → ℕ) where
  -- The repair stands for the bytes that came, their text is written, and so many more may come.
  pub record IsUnderWay (rules : Rules) (room : ℕ) (online : OnlineView) (source source_now : S) (sink sink_now : K) : Type 0 where
    pub came : List ℕ
    pub begun : IsBegun left source_faults held sink_faults rules came source source_now
    pub room_is : length came + room ≡ MOST_BYTES
    pub stands : StandsFor online rules false came
    pub unfailed : Stays (source_faults source) (source_faults source_now)
    pub written : HasWritten held sink_faults rules came sink sink_now

module _ {S K : Type 0} (left : S → Option (List ℕ)) (source_faults : S → ℕ) (held : K → Option (List ℕ)) (sink_faults : K → ℕ) where
  -- ---- the beginning

  pub starts : (rules : Rules) (online : OnlineView) (source : S) (sink : K) → not_online rules ≡ None → StandsFor online rules false []
      → IsUnderWay left source_faults held sink_faults rules MOST_BYTES online source source sink sink
  starts rules online source sink none stands = record {
    came = [];
    begun = record { online = none; taken = Takes-nothing (left source); within = omega arith };
    room_is = omega arith;
    stands = stands;
    unfailed = refl;
    written = nothing_yet held sink_faults rules sink;
  }

  not_begun : (rules : Rules) (source : S) (sink : K) (number : ℕ) (outcome : Outcome) → not_online rules ≡ Some number → NotOnline number ≡ outcome
      → IsGiven left source_faults held sink_faults rules source source sink sink outcome
  not_begun rules source sink number outcome some is =
      let answer : Answer = without_texts (NotOnline number) Whole Unread in
      let A : Option ℕ → Type 0 = λ start. AfterStart rules [] start answer in
      record { came = []; answer = answer; outcome_is = is; answers = subst A (sym some) refl; read = refl; written = refl }

  -- no repair is begun
  pub starts_not : (rules : Rules) (refusal : OnlineFault) (source : S) (sink : K)
      → (refusal ≢ fault.Memory → (number : ℕ) × (not_online rules ≡ Some number) × (refusal ≡ fault.NotOnline number))
      → Repairs left source_faults held sink_faults rules source source sink sink (Err (online_ending refusal))
  starts_not rules (fault.NotOnline rule) source sink found =
      let other : fault.NotOnline rule ≢ fault.Memory = λ e. cc in
      let f = found other in
      let same : f.0 ≡ rule = let e = f.2 in cc in
      not_begun rules source sink f.0 (NotOnline rule) f.1 (ap NotOnline same)
  starts_not rules (fault.Table refusal) source sink found =
      let other : fault.Table refusal ≢ fault.Memory = λ e. cc in
      let e = (found other).2 in absurd (cc)
  starts_not rules (fault.WindowFull row) source sink found =
      let other : fault.WindowFull row ≢ fault.Memory = λ e. cc in
      let e = (found other).2 in absurd (cc)
  starts_not rules (fault.NoWholeStep row col) source sink found =
      let other : fault.NoWholeStep row col ≢ fault.Memory = λ e. cc in
      let e = (found other).2 in absurd (cc)
  starts_not rules (fault.LeavesRange row col) source sink found =
      let other : fault.LeavesRange row col ≢ fault.Memory = λ e. cc in
      let e = (found other).2 in absurd (cc)
  starts_not rules fault.Memory source sink found = inl (refl, refl)

  pub starts_not_so : (rules : Rules) (refusal : OnlineFault) (ending : Ending) (source : S) (sink : K) → ending ≡ online_ending refusal
      → (refusal ≢ fault.Memory → (number : ℕ) × (not_online rules ≡ Some number) × (refusal ≡ fault.NotOnline number))
      → Repairs left source_faults held sink_faults rules source source sink sink (Err ending)
  starts_not_so rules refusal ending source sink e found =
      let R : Ending → Type 0 = λ given. Repairs left source_faults held sink_faults rules source source sink sink (Err given) in
      subst R (sym e) (starts_not rules refusal source sink found)

  -- ---- more bytes came

  begun_more : (rules : Rules) (came piece : List ℕ) (source between now : S) → IsBegun left source_faults held sink_faults rules came source between
      → Takes (left between) piece (left now) → length (came ++ piece) ≤ MOST_BYTES → IsBegun left source_faults held sink_faults rules (came ++ piece) source now
  begun_more rules came piece source between now begun taken within = record {
    online = begun.online;
    taken = Takes-more (left source) (left between) (left now) came piece begun.taken taken;
    within = within;
  }

  begun_still : (rules : Rules) (came : List ℕ) (source between now : S) → IsBegun left source_faults held sink_faults rules came source between
      → left now ≡ left between → IsBegun left source_faults held sink_faults rules came source now
  begun_still rules came source between now begun same =
      let T : Option (List ℕ) → Type 0 = λ l. Takes (left source) came l in
      record { online = begun.online; taken = subst T (sym same) begun.taken; within = begun.within }

  -- a piece was taken, and its text is written
  pub goes_on : (rules : Rules) (room more : ℕ) (online next : OnlineView) (piece text : List ℕ) (source between now : S) (sink middle later : K)
      → (way : IsUnderWay left source_faults held sink_faults rules room online source between sink middle)
      → Takes (left between) piece (left now) → Stays (source_faults between) (source_faults now) → length piece + more ≡ room
      → Hands held sink_faults rules false way.came piece next text middle later (Ok tt)
      → IsUnderWay left source_faults held sink_faults rules more next source now sink later
  goes_on rules room more online next piece text source between now sink middle later way taken unfailed size handed = record {
    came = way.came ++ piece;
    begun = begun_more rules way.came piece source between now way.begun taken (still_within way.came piece room MOST_BYTES way.room_is (part_of_room (length piece) more room size));
    room_is = room_left way.came piece room more MOST_BYTES way.room_is size;
    stands = handed.0;
    unfailed = unfailed ∙ way.unfailed;
    written = piece_written held sink_faults rules way.came piece text sink middle later way.written (handed.1 way.written.out way.written.is_output) handed.2;
  }

  -- ---- a read failed

  pub read_fails : (rules : Rules) (room : ℕ) (online : OnlineView) (source between now : S) (sink middle : K)
      → IsUnderWay left source_faults held sink_faults rules room online source between sink middle
      → left now ≡ left between → Rose (source_faults between) (source_faults now)
      → Repairs left source_faults held sink_faults rules source now sink middle (Err ReadFault)
  read_fails rules room online source between now sink middle way same rose =
      let R : ℕ → Type 0 = λ count. Rose count (source_faults now) in
      (way.came, begun_still rules way.came source between now way.begun same, subst R way.unfailed rose, way.written)

  -- ---- a piece was the last

  refused_given : (rules : Rules) (came piece text : List ℕ) (refusal : OnlineFault) (outcome : Outcome) (source now : S) (sink middle later : K)
      → IsBegun left source_faults held sink_faults rules (came ++ piece) source now → length piece ≤ PIECE → Stays (source_faults source) (source_faults now)
      → (before : HasWritten held sink_faults rules came sink middle) → online_ending refusal ≡ Ended outcome
      → Refuses rules false came piece refusal [] text before.out → IsWritten held sink_faults (Some text) middle later
      → IsGiven left source_faults held sink_faults rules source now sink later outcome
  refused_given rules came piece text refusal outcome source now sink middle later begun short unfailed before ends refuses written =
      let all = came ++ piece in
      let out = refuses.at_front.now in
      let answer : Answer = streamed outcome (Begun (length all)) out.text in
      let A : Option ℕ → Type 0 = λ start. AfterStart rules all start answer in
      let broken : IsBroken rules all answer = record {
        came = all;
        rest = [];
        readings_are = sym (append-nil all);
        text = out.text;
        fault = refusal;
        refused = refused_piece rules came piece text refusal before.out begun.within short refuses;
        outcome = outcome;
        ending = ends;
        answer_is = refl;
      } in
      record {
        came = all;
        answer = answer;
        outcome_is = refl;
        answers = subst A (sym begun.online) (inr (inl broken));
        read = (begun.taken, refl, unfailed);
        written = more_written held sink_faults before.out out text sink middle later refuses.at_front.appends before.written written;
      }

  cut_off : (rules : Rules) (came piece text all : List ℕ) (ended : Bool) (out : Output) (source now : S) (sink middle later : K)
      → IsBegun left source_faults held sink_faults rules all source now → all ≡ came ++ piece → length piece ≤ PIECE
      → Stays (source_faults source) (source_faults now) → (ended ≡ true → IsAtEnd (left now))
      → (before : HasWritten held sink_faults rules came sink middle) → HasText rules ended all out.text
      → Appends before.out out [] text → IsCut held sink_faults (Some text) middle later
      → IsCutOff left source_faults held sink_faults rules source now sink later
  cut_off rules came piece text all ended out source now sink middle later begun all_is short unfailed at_end before has appends cut =
      let part = part_written held sink_faults before.out out text sink middle later appends before.written cut in
      record {
        came = all;
        begun = begun;
        unfailed = unfailed;
        ended = ended;
        at_end = at_end;
        text = out.text;
        has_text = has;
        count = part.count;
        part = part.part;
        written = record { earlier = came; last = piece; came_are = all_is; piece = short; out = before.out; is_output = before.is_output; written = part.more };
        gains = part.gains;
        failed = part.failed;
      }

  piece_cut : (rules : Rules) (came piece text : List ℕ) (fed : Result (Unit {0}) OnlineFault) (source now : S) (sink middle later : K)
      → IsBegun left source_faults held sink_faults rules (came ++ piece) source now → length piece ≤ PIECE → Stays (source_faults source) (source_faults now)
      → (before : HasWritten held sink_faults rules came sink middle) → fed ≢ Err fault.Memory
      → Answers rules false came piece fed [] text → IsCut held sink_faults (Some text) middle later
      → IsCutOff left source_faults held sink_faults rules source now sink later
  piece_cut rules came piece text (Ok done) source now sink middle later begun short unfailed before other answers cut =
      let takes = answers before.out before.is_output in
      cut_off rules came piece text (came ++ piece) false takes.now source now sink middle later begun refl short unfailed (λ e. absurd (cc e)) before (inl (takes.now, takes.is_output, refl)) takes.appends cut
  piece_cut rules came piece text (Err refusal) source now sink middle later begun short unfailed before other answers cut =
      let refuses = answers.0 (fed_other refusal other) before.out before.is_output in
      cut_off rules came piece text (came ++ piece) false refuses.at_front.now source now sink middle later begun refl short unfailed (λ e. absurd (cc e)) before
      (inr (refusal, refused_piece rules came piece text refusal before.out begun.within short refuses)) refuses.at_front.appends cut

  starved : (rules : Rules) (came piece text all : List ℕ) (ended : Bool) (source now : S) (sink middle later : K)
      → IsBegun left source_faults held sink_faults rules all source now → all ≡ came ++ piece → length piece ≤ PIECE
      → Stays (source_faults source) (source_faults now) → (ended ≡ true → IsAtEnd (left now))
      → (before : HasWritten held sink_faults rules came sink middle)
      → Answers rules ended came piece (Err fault.Memory) [] text → later ≡ middle
      → IsStarved left source_faults held sink_faults rules source now sink later
  starved rules came piece text all ended source now sink middle later begun all_is short unfailed at_end before answers same =
      let W : K → Type 0 = λ k. HasWritten held sink_faults rules came sink k in
      record {
        came = all;
        begun = begun;
        unfailed = unfailed;
        earlier = came;
        last = piece;
        came_are = all_is;
        piece = short;
        written = subst W (sym same) before;
        ended = ended;
        at_end = at_end;
        part = λ out is.
            let I : List ℕ → Type 0 = λ bytes. IsOutput rules ended bytes out in
            front_written held sink_faults before.out out text sink middle later (answers.1 refl before.out out before.is_output (subst I all_is is)) before.written same;
      }

  -- a piece was taken from the source, and the command ends at it
  pub piece_ends : (rules : Rules) (room : ℕ) (online next : OnlineView) (piece text : List ℕ) (source between now : S) (sink middle later : K) (ending : Ending)
      → (way : IsUnderWay left source_faults held sink_faults rules room online source between sink middle)
      → Takes (left between) piece (left now) → Stays (source_faults between) (source_faults now) → length piece ≤ room → length piece ≤ PIECE
      → Hands held sink_faults rules false way.came piece next text middle later (Err ending)
      → Repairs left source_faults held sink_faults rules source now sink later (Err ending)
  piece_ends rules room online next piece text source between now sink middle later (Ended outcome) way taken unfailed within short handed =
      let begun = begun_more rules way.came piece source between now way.begun taken (still_within way.came piece room MOST_BYTES way.room_is within) in
      refused_given rules way.came piece text handed.0 outcome source now sink middle later begun short (unfailed ∙ way.unfailed) way.written handed.1
      (handed.2.0 (ends_other handed.0 outcome handed.1) way.written.out way.written.is_output) handed.3
  piece_ends rules room online next piece text source between now sink middle later ReadFault way taken unfailed within short handed = absurd handed
  piece_ends rules room online next piece text source between now sink middle later WriteFault way taken unfailed within short handed =
      let begun = begun_more rules way.came piece source between now way.begun taken (still_within way.came piece room MOST_BYTES way.room_is within) in
      piece_cut rules way.came piece text handed.0 source now sink middle later begun short (unfailed ∙ way.unfailed) way.written handed.1 handed.2 handed.3
  piece_ends rules room online next piece text source between now sink middle later Memory way taken unfailed within short handed =
      let begun = begun_more rules way.came piece source between now way.begun taken (still_within way.came piece room MOST_BYTES way.room_is within) in
      inr (starved rules way.came piece text (way.came ++ piece) false source now sink middle later begun refl short (unfailed ∙ way.unfailed) (λ e. absurd (cc e)) way.written handed.0 handed.1)

  -- ---- the readings have ended

  whole_given : (rules : Rules) (came text : List ℕ) (out : Output) (outcome : Outcome) (source now : S) (sink middle later : K)
      → IsBegun left source_faults held sink_faults rules came source now → IsAtEnd (left now) → Stays (source_faults source) (source_faults now)
      → (before : HasWritten held sink_faults rules came sink middle) → ending_for out.fault ≡ Ended outcome
      → IsOutput rules true came out → Appends before.out out [] text → IsWritten held sink_faults (Some text) middle later
      → IsGiven left source_faults held sink_faults rules source now sink later outcome
  whole_given rules came text out outcome source now sink middle later begun at_end unfailed before ends is appends written =
      let answer : Answer = streamed outcome Whole out.text in
      let A : Option ℕ → Type 0 = λ start. AfterStart rules came start answer in
      let whole : IsWhole rules came answer = record {
        within = begun.within;
        before = before.out;
        is_before = before.is_output;
        goes_on = before.no_fault;
        out = out;
        is_output = is;
        outcome = outcome;
        ending = ends;
        answer_is = refl;
      } in
      record {
        came = came;
        answer = answer;
        outcome_is = refl;
        answers = subst A (sym begun.online) (inl whole);
        read = (begun.taken, at_end, unfailed);
        written = more_written held sink_faults before.out out text sink middle later appends before.written written;
      }

  end_cut : (rules : Rules) (came text : List ℕ) (fed : Result (Unit {0}) OnlineFault) (source now : S) (sink middle later : K)
      → IsBegun left source_faults held sink_faults rules came source now → IsAtEnd (left now) → Stays (source_faults source) (source_faults now)
      → (before : HasWritten held sink_faults rules came sink middle) → fed ≢ Err fault.Memory
      → Answers rules true came [] fed [] text → IsCut held sink_faults (Some text) middle later
      → IsCutOff left source_faults held sink_faults rules source now sink later
  end_cut rules came text (Ok done) source now sink middle later begun at_end unfailed before other answers cut =
      let takes = answers before.out before.is_output in
      let short : 0 ≤ PIECE = omega arith in
      cut_off rules came [] text came true takes.now source now sink middle later begun (sym (append-nil came)) short unfailed (λ e. at_end) before
      (inl (takes.now, whole_output rules came takes.now takes.is_output, refl)) takes.appends cut
  end_cut rules came text (Err refusal) source now sink middle later begun at_end unfailed before other answers cut =
      let refuses = answers.0 (fed_other refusal other) before.out before.is_output in
      let short : 0 ≤ PIECE = omega arith in
      let out = refuses.at_front.now in
      cut_off rules came [] text came true out source now sink middle later begun (sym (append-nil came)) short unfailed (λ e. at_end) before
      (inl (out, ended_output rules came refuses.front refuses.rest out refuses.piece_is refuses.at_front.is_output, refl)) refuses.at_front.appends cut

  -- no byte more came, since the source is at its end
  pub at_end_still : (rules : Rules) (room : ℕ) (online : OnlineView) (source between now : S) (sink middle : K)
      → (way : IsUnderWay left source_faults held sink_faults rules room online source between sink middle)
      → (count : ℕ) (piece : List ℕ) → count ≡ 0 → Takes (left between) (take count piece) (left now) → IsBegun left source_faults held sink_faults rules way.came source now
  at_end_still rules room online source between now sink middle way count piece none taken =
      let T : ℕ → Type 0 = λ n. Takes (left between) (take n piece) (left now) in
      let N : List ℕ → Type 0 = λ bytes. Takes (left source) bytes (left now) in
      record {
        online = way.begun.online;
        taken = subst N (append-nil way.came) (Takes-more (left source) (left between) (left now) way.came [] way.begun.taken (subst T none taken));
        within = way.begun.within;
      }

  pub ends : (rules : Rules) (room : ℕ) (online next : OnlineView) (text : List ℕ) (source between now : S) (sink middle later : K) (result : Result (Unit {0}) Ending)
      → (way : IsUnderWay left source_faults held sink_faults rules room online source between sink middle)
      → IsBegun left source_faults held sink_faults rules way.came source now → IsAtEnd (left now) → Stays (source_faults between) (source_faults now)
      → Hands held sink_faults rules true way.came [] next text middle later result
      → Repairs left source_faults held sink_faults rules source now sink later result
  ends rules room online next text source between now sink middle later (Ok done) way begun at_end unfailed handed =
      let takes = handed.1 way.written.out way.written.is_output in
      whole_given rules way.came text takes.now Done source now sink middle later begun at_end (unfailed ∙ way.unfailed) way.written (ap ending_for takes.fault_is)
      (whole_output rules way.came takes.now takes.is_output) takes.appends handed.2
  ends rules room online next text source between now sink middle later (Err (Ended outcome)) way begun at_end unfailed handed =
      let refuses = handed.2.0 (ends_other handed.0 outcome handed.1) way.written.out way.written.is_output in
      let out = refuses.at_front.now in
      whole_given rules way.came text out outcome source now sink middle later begun at_end (unfailed ∙ way.unfailed) way.written (ap ending_for refuses.at_front.fault_is ∙ handed.1)
      (ended_output rules way.came refuses.front refuses.rest out refuses.piece_is refuses.at_front.is_output) refuses.at_front.appends handed.3
  ends rules room online next text source between now sink middle later (Err ReadFault) way begun at_end unfailed handed = absurd handed
  ends rules room online next text source between now sink middle later (Err WriteFault) way begun at_end unfailed handed =
      end_cut rules way.came text handed.0 source now sink middle later begun at_end (unfailed ∙ way.unfailed) way.written handed.1 handed.2 handed.3
  ends rules room online next text source between now sink middle later (Err Memory) way begun at_end unfailed handed =
      let short : 0 ≤ PIECE = omega arith in
      inr (starved rules way.came [] text way.came true source now sink middle later begun (sym (append-nil way.came)) short (unfailed ∙ way.unfailed) (λ e. at_end) way.written handed.0 handed.1)

  -- ---- as many bytes came as may, and one more

  pub too_many : (rules : Rules) (room : ℕ) (online : OnlineView) (one : List ℕ) (source between now : S) (sink middle : K)
      → IsUnderWay left source_faults held sink_faults rules room online source between sink middle → room ≡ 0
      → length one ≡ 1 → Takes (left between) one (left now) → Stays (source_faults between) (source_faults now)
      → IsGiven left source_faults held sink_faults rules source now sink middle (ReadingsRefused (of_the_file FileTooLong))
  too_many rules room online one source between now sink middle way none size taken unfailed =
      let all = way.came ++ one in
      let out = way.written.out in
      let answer : Answer = streamed (ReadingsRefused (of_the_file FileTooLong)) (Begun (MOST_BYTES + 1)) out.text in
      let A : Option ℕ → Type 0 = λ start. AfterStart rules all start answer in
      let I : List ℕ → Type 0 = λ bytes. IsOutput rules false bytes out in
      let full : length way.came + 0 ≡ MOST_BYTES = ap (λ (n : ℕ). length way.came + n) (sym none) ∙ way.room_is in
      let much : IsTooMuch rules all answer = record {
        beyond = one_beyond way.came one MOST_BYTES full size;
        out = out;
        is_output = subst I (sym (all_but_one way.came one MOST_BYTES full)) way.written.is_output;
        no_fault = way.written.no_fault;
        answer_is = refl;
      } in
      record {
        came = all;
        answer = answer;
        outcome_is = refl;
        answers = subst A (sym way.begun.online) (inr (inr much));
        read = (Takes-more (left source) (left between) (left now) way.came one way.begun.taken taken, one_more way.came one MOST_BYTES full size, unfailed ∙ way.unfailed);
        written = way.written.written;
      }

  pub too_many_so : (rules : Rules) (room : ℕ) (online : OnlineView) (one : List ℕ) (ending : Ending) (source between now : S) (sink middle : K)
      → IsUnderWay left source_faults held sink_faults rules room online source between sink middle → room ≡ 0
      → length one ≡ 1 → Takes (left between) one (left now) → Stays (source_faults between) (source_faults now)
      → ending ≡ Ended (ReadingsRefused (of_the_file FileTooLong))
      → Repairs left source_faults held sink_faults rules source now sink middle (Err ending)
  too_many_so rules room online one ending source between now sink middle way none size taken unfailed e =
      let R : Ending → Type 0 = λ given. Repairs left source_faults held sink_faults rules source now sink middle (Err given) in
      subst R (sym e) (too_many rules room online one source between now sink middle way none size taken unfailed)
