-- What a sink has gained of the text, as more of it is written.
use Rattle.std.proofs.Common.{◌≡◌, ℕ, ◌+◌, ◌≤◌, false, List, [], ◌++◌, length, take, Option, Some, None, refl, sym, ap, ◌∙◌, subst, arith, append_assoc, length-append}
use Rattle.std.proofs.Math.Seq.{take-append_seam, take-append-add}
use Rattle.online_repair.specs.Feeds.{Appends, AppendsPart, Takes}
use Rattle.online_repair.specs.Output.{Output}
use Rattle.rule_file.specs.declared.rules.Rules.{Rules}
use Rattle.screen_io.specs.Faults.{Rose}
use Rattle.screen_io.specs.Sink.{Gains, GainsPrefix}
use Rattle.screen_io.proofs.Steps.{Gains-more, Gains-nothing}
use Rattle.screen_steps.specs.Performance.{IsCut, IsWritten}
use Rattle.screen_online.specs.Steps.{HasWritten}
use Rattle.series_csv.specs.Read.{Read}
use Rattle.series_csv.proofs.Beginning.{nothing_reads}
use Rattle.series_rows.specs.declared.limits.Limits.TheVariants.{Endless}

-- what was appended to no text is the text
pub text_is : (before now : Output) (text : List ℕ) → Appends before now [] text → now.text ≡ before.text ++ text
text_is before now text appends = appends.output_is ∙ ap (λ (bytes : List ℕ). before.text ++ bytes) (sym appends.text_is)

front_short : (a b c : List ℕ) (n : ℕ) → c ≡ a ++ b → n ≤ length b → length a + n ≤ length c
front_short a b c n e short = omega (arith, ap length e, length-append a b, short)

front_more : (a n : ℕ) → a ≤ a + n
front_more a n = omega arith

begins_with : (a b c : List ℕ) → c ≡ a ++ b → take (length a) c ≡ a
begins_with a b c e = ap (λ (bytes : List ℕ). take (length a) bytes) e ∙ take-append_seam a b

goes_on_with : (a b c : List ℕ) (n : ℕ) → c ≡ a ++ b → take (length a + n) c ≡ a ++ take n b
goes_on_with a b c n e = ap (λ (bytes : List ℕ). take (length a + n) bytes) e ∙ take-append-add a b n

begins_shorter : (a b c : List ℕ) → c ≡ a ++ b → length a ≤ length c
begins_shorter a b c e = omega (arith, ap length e, length-append a b)

-- A write failed, and of this text the sink gained so many bytes, no fewer than those.
pub record IsPart {K : Type 0} (held : K → Option (List ℕ)) (sink_faults : K → ℕ) (least text : List ℕ) (sink now : K) : Type 0 where
  pub count : ℕ
  pub part : count ≤ length text
  pub more : length least ≤ count
  pub gains : Gains (held sink) (take count text) (held now)
  pub failed : Rose (sink_faults sink) (sink_faults now)

module _ {K : Type 0} (held : K → Option (List ℕ)) (sink_faults : K → ℕ) where
  -- nothing is written for no bytes
  pub nothing_yet : (rules : Rules) (sink : K) → HasWritten held sink_faults rules [] sink sink
  nothing_yet rules sink =
      let read : Read = record { header = None; rows = []; fault = None } in
      record {
        out = record { text = []; held = []; fault = None };
        is_output = record { read = read; reads = nothing_reads rules Endless [] refl; is = refl };
        no_fault = refl;
        written = (Gains-nothing (held sink), refl);
      }

  -- the text before was written, and then what was appended
  pub more_written : (before now : Output) (text : List ℕ) (sink between later : K) → Appends before now [] text
      → IsWritten held sink_faults (Some before.text) sink between → IsWritten held sink_faults (Some text) between later → IsWritten held sink_faults (Some now.text) sink later
  more_written before now text sink between later appends first second =
      let G : List ℕ → Type 0 = λ bytes. Gains (held sink) bytes (held later) in (
        subst G (sym (text_is before now text appends)) (Gains-more (held sink) (held between) (held later) before.text text first.0 second.0),
        second.1 ∙ first.1,
      )

  -- and then a part of it
  pub part_written : (before now : Output) (text : List ℕ) (sink between later : K) → Appends before now [] text
      → IsWritten held sink_faults (Some before.text) sink between → IsCut held sink_faults (Some text) between later → IsPart held sink_faults before.text now.text sink later
  part_written before now text sink between later appends first second =
      let e = text_is before now text appends in
      let n = second.0.0 in
      let G : List ℕ → Type 0 = λ bytes. Gains (held sink) bytes (held later) in
      let R : ℕ → Type 0 = λ count. Rose count (sink_faults later) in
      record {
        count = length before.text + n;
        part = front_short before.text text now.text n e second.0.1;
        more = front_more (length before.text) n;
        gains = subst G (sym (goes_on_with before.text text now.text n e)) (Gains-more (held sink) (held between) (held later) before.text (take n text) first.0 second.0.2);
        failed = subst R first.1 second.1;
      }

  -- and then nothing, where the text goes on
  pub front_written : (before now : Output) (text : List ℕ) (sink between later : K) → AppendsPart before now [] text
      → IsWritten held sink_faults (Some before.text) sink between → later ≡ between → GainsPrefix (held sink) now.text (held later)
  front_written before now text sink between later appends first same =
      let e : now.text ≡ before.text ++ (appends.added ++ appends.rest) = appends.output_is ∙ append_assoc before.text appends.added appends.rest in
      let G : List ℕ → Type 0 = λ bytes. Gains (held sink) bytes (held later) in
      let H : K → Type 0 = λ k. Gains (held sink) before.text (held k) in (
        length before.text,
        begins_shorter before.text (appends.added ++ appends.rest) now.text e,
        subst G (sym (begins_with before.text (appends.added ++ appends.rest) now.text e)) (subst H (sym same) first.0),
      )

  -- the bytes and a piece that is taken
  pub piece_written : (rules : Rules) (came piece text : List ℕ) (sink between later : K) (written : HasWritten held sink_faults rules came sink between)
      → Takes rules false came piece None [] text written.out → IsWritten held sink_faults (Some text) between later → HasWritten held sink_faults rules (came ++ piece) sink later
  piece_written rules came piece text sink between later written takes second = record {
    out = takes.now;
    is_output = takes.is_output;
    no_fault = takes.fault_is;
    written = more_written written.out takes.now text sink between later takes.appends written.written second;
  }
