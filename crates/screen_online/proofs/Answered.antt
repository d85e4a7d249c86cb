-- The answers of `online`: they come to one outcome and one text, and rest on what they read.
use Rattle.std.proofs.Common.{◌≡◌, ◌≢◌, ◌⊎◌, inl, inr, ℕ, ◌<◌, ◌≤◌, ◌+◌, Bool, true, false, List, [], ◌∷◌, ◌++◌, length, take, drop, Option, Some, None, refl, sym, ap, subst, ◌∙◌, arith}
use Rattle.std.proofs.lemmas.List.{append_assoc, length-append, length-take-le, take-append-drop, take-append-le}
use Rattle.online_repair.specs.Laws.{OutputsAreOne, RefusalsStay}
use Rattle.online_repair.specs.NotOnline.{not_online}
use Rattle.online_repair.specs.Output.{IsOutput, Output}
use Rattle.online_repair.specs.declared.fault.OnlineFault.{OnlineFault}
use Rattle.rule_file.specs.File.{ReadsFile}
use Rattle.rule_file.specs.declared.fault.RuleFault.{RuleFault}
use Rattle.rule_file.specs.declared.read.TheConstants.{LONGEST as longest_rules}
use Rattle.rule_file.specs.declared.rules.Rules.{Rules}
use Rattle.screen_online.specs.Online.{AfterStart, AnswersOnline, IsBroken, IsRefused, IsTooMuch, IsWhole, ending_for, streamed}
use Rattle.screen_online.specs.declared.stream.TheConstants.{MOST_BYTES}
use Rattle.screen_steps.specs.Answer.{Extent, Whole, Begun, Unread, Answer, AreFront, AreFronts}
use Rattle.screen_steps.specs.Files.{RulesAreOne, rules_refused, rules_too_long}
use Rattle.screen_steps.proofs.AfterFile.{after_has, after_one, after_rests, more_and_not}
use Rattle.screen_steps.proofs.BothFiles.{begun_not_unread, whole_not_unread}
use Rattle.screen_words.specs.Faults.{online_ending}
use Rattle.screen_words.specs.declared.ends.Inputs.{Inputs}
use Rattle.screen_words.specs.declared.status.Ending.TheVariants.{Ended}
use Rattle.screen_words.specs.declared.status.Outcome.{Outcome}
use Rattle.screen_words.specs.declared.status.Outcome.TheVariants.{ReadingsRefused}
use Rattle.series_rows.specs.Faults.{of_the_file}
use Rattle.series_rows.specs.declared.fault.TableCause.TheVariants.{FileTooLong}

-- ---- two fronts of a list

abbrev IsFrontOf : List ℕ → List ℕ → Type 0
IsFrontOf a c = (more : List ℕ) × (c ≡ a ++ more)

tails : (x y : ℕ) (a c : List ℕ) → x ∷ a ≡ y ∷ c → a ≡ c
tails x y a c e = cc

heads : (x y : ℕ) (a c : List ℕ) → x ∷ a ≡ y ∷ c → x ≡ y
heads x y a c e = cc

longer : (x y : ℕ) (a c : List ℕ) → x ≡ y → IsFrontOf a c → IsFrontOf (x ∷ a) (y ∷ c)
longer x y a c e p = (p.0, let rest : c ≡ a ++ p.0 = p.1 in cc)

longer_either : (x y : ℕ) (a c : List ℕ) → x ≡ y → IsFrontOf a c ⊎ IsFrontOf c a → IsFrontOf (x ∷ a) (y ∷ c) ⊎ IsFrontOf (y ∷ c) (x ∷ a)
longer_either x y a c e (inl p) = inl (longer x y a c e p)
longer_either x y a c e (inr p) = inr (longer y x c a (sym e) p)

-- one of them is a front of the other
fronts : (a b c d : List ℕ) → a ++ b ≡ c ++ d → IsFrontOf a c ⊎ IsFrontOf c a
fronts [] b c d e = inl (c, refl)
fronts (x ∷ a) b [] d e = inr (x ∷ a, refl)
fronts (x ∷ a) b (y ∷ c) d e = longer_either x y a c (heads x y (a ++ b) (c ++ d) e) (fronts a b c d (tails x y (a ++ b) (c ++ d) e))

-- the one that is no longer
shorter : (a b c d : List ℕ) → a ++ b ≡ c ++ d → length a ≤ length c → IsFrontOf a c
shorter [] b c d e p = (c, refl)
shorter (x ∷ a) b [] d e p = absurd (omega (arith, p))
shorter (x ∷ a) b (y ∷ c) d e p = longer x y a c (heads x y (a ++ b) (c ++ d) e) (shorter a b c d (tails x y (a ++ b) (c ++ d) e) (omega (arith, p)))

-- ---- what was refused at a front stays refused

some_same : {one other : OnlineFault} → ◌≡◌ {A = Option OnlineFault} (Some one) (Some other) → one ≡ other
some_same e = cc

none_some : {fault : OnlineFault} → ◌≡◌ {A = Option OnlineFault} None (Some fault) → ⊥
none_some e = cc

ended_one : {one other : Outcome} → Ended one ≡ Ended other → one ≡ other
ended_one e = cc

module _ (law : RefusalsStay) (rules : Rules) where
  -- in whatever goes on from bytes that are refused
  pub stays : (ended : Bool) (bytes rest text : List ℕ) (fault : OnlineFault) (now : Output) → IsRefused rules bytes text fault → IsOutput rules ended (bytes ++ rest) now
      → (now.fault ≡ Some fault) × (now.text ≡ text)
  stays ended bytes rest text fault now r is =
      let whole : bytes ++ rest ≡ r.front ++ (r.rest ++ rest) = ap (λ (b : List ℕ). b ++ rest) r.bytes_are ∙ append_assoc r.front r.rest rest in
      let p = law rules ended r.front (r.rest ++ rest) r.out now fault r.is_output r.fault_is (subst (λ (b : List ℕ). IsOutput rules ended b now) whole is) in
      (p.0, p.1 ∙ sym r.text_is)

  -- a front of what another refusal was made at
  front_one : (a c : List ℕ) (out now : Output) (fault other : OnlineFault) → IsFrontOf a c → IsOutput rules false a out → out.fault ≡ Some fault → IsOutput rules false c now → now.fault ≡ Some other
      → (fault ≡ other) × (out.text ≡ now.text)
  front_one a c out now fault other p is refused is_now refused_now =
      let q = law rules false a p.0 out now fault is refused (subst (λ (b : List ℕ). IsOutput rules false b now) p.1 is_now) in
      (some_same (sym q.0 ∙ refused_now), sym q.1)

  either_one : (a c : List ℕ) (out now : Output) (fault other : OnlineFault) → IsFrontOf a c ⊎ IsFrontOf c a → IsOutput rules false a out → out.fault ≡ Some fault → IsOutput rules false c now → now.fault ≡ Some other
      → (fault ≡ other) × (out.text ≡ now.text)
  either_one a c out now fault other (inl p) is refused is_now refused_now = front_one a c out now fault other p is refused is_now refused_now
  either_one a c out now fault other (inr p) is refused is_now refused_now =
      let q = front_one c a now out other fault p is_now refused_now is refused in (sym q.0, sym q.1)

  -- two refusals of fronts of the same bytes
  refused_one : (one rest other more text written : List ℕ) (fault found : OnlineFault) → one ++ rest ≡ other ++ more → IsRefused rules one text fault → IsRefused rules other written found
      → (fault ≡ found) × (text ≡ written)
  refused_one one rest other more text written fault found same p q =
      let left : one ++ rest ≡ p.front ++ (p.rest ++ rest) = ap (λ (b : List ℕ). b ++ rest) p.bytes_are ∙ append_assoc p.front p.rest rest in
      let right : other ++ more ≡ q.front ++ (q.rest ++ more) = ap (λ (b : List ℕ). b ++ more) q.bytes_are ∙ append_assoc q.front q.rest more in
      let r = either_one p.front q.front p.out q.out fault found (fronts p.front (p.rest ++ rest) q.front (q.rest ++ more) (sym left ∙ (same ∙ right))) p.is_output p.fault_is q.is_output q.fault_is in
      (r.0, p.text_is ∙ (r.1 ∙ sym q.text_is))

  -- no more bytes than may be are refused at a front of them, where as many as may be are not refused
  not_refused : (most : ℕ) (readings front rest : List ℕ) (out now : Output) (fault : OnlineFault) → most < length readings → readings ≡ front ++ rest → length front ≤ most
      → IsOutput rules false front out → out.fault ≡ Some fault → IsOutput rules false (take most readings) now → now.fault ≡ None → ⊥
  not_refused most readings front rest out now fault many same few is refused is_now unrefused =
      let size : length (take most readings) ≡ most = length-take-le most readings (omega (arith, many)) in
      let p = shorter front rest (take most readings) (drop most readings) (sym same ∙ sym (take-append-drop most readings)) (omega (arith, size, few)) in
      let q = law rules false front p.0 out now fault is refused (subst (λ (b : List ℕ). IsOutput rules false b now) p.1 is_now) in
      none_some (sym unrefused ∙ q.0)

abbrev beyond_answer : List ℕ → Answer
beyond_answer = streamed (ReadingsRefused (of_the_file FileTooLong)) (Begun (MOST_BYTES + 1))

-- ---- a part of all answers is one only, if it is no part of how far the readings are read

module _ {B : Type 0} (part : Answer → B) (same_part : (outcome : Outcome) (one other : Extent) (text : List ℕ) → part (streamed outcome one text) ≡ part (streamed outcome other text))
    (outputs : OutputsAreOne) (law : RefusalsStay) where
  parts : (outcome found : Outcome) (one other : Extent) (text written : List ℕ) → outcome ≡ found → text ≡ written → part (streamed outcome one text) ≡ part (streamed found other written)
  parts outcome found one other text written p q =
      subst (λ (o : Outcome). part (streamed outcome one text) ≡ part (streamed o other written)) p
      (subst (λ (t : List ℕ). part (streamed outcome one text) ≡ part (streamed outcome other t)) q (same_part outcome one other text))

  module _ (rules : Rules) (readings : List ℕ) (one other : Answer) where
    whole_whole : IsWhole rules readings one → IsWhole rules readings other → part one ≡ part other
    whole_whole p q =
        let same : p.out ≡ q.out = outputs rules true readings p.out q.out p.is_output q.is_output in
        let outcomes : p.outcome ≡ q.outcome = ended_one (sym p.ending ∙ (ap (λ (o : Output). ending_for o.fault) same ∙ q.ending)) in
        ap part p.answer_is ∙ (parts p.outcome q.outcome Whole Whole p.out.text q.out.text outcomes (ap (λ (o : Output). o.text) same) ∙ sym (ap part q.answer_is))

    whole_broken : IsWhole rules readings one → IsBroken rules readings other → part one ≡ part other
    whole_broken p q =
        let r = stays law rules true q.came q.rest q.text q.fault p.out q.refused (subst (λ (b : List ℕ). IsOutput rules true b p.out) q.readings_are p.is_output) in
        let outcomes : p.outcome ≡ q.outcome = ended_one (sym p.ending ∙ (ap ending_for r.0 ∙ q.ending)) in
        ap part p.answer_is ∙ (parts p.outcome q.outcome Whole (Begun (length q.came)) p.out.text q.text outcomes r.1 ∙ sym (ap part q.answer_is))

    broken_broken : IsBroken rules readings one → IsBroken rules readings other → part one ≡ part other
    broken_broken p q =
        let r = refused_one law rules p.came p.rest q.came q.rest p.text q.text p.fault q.fault (sym p.readings_are ∙ q.readings_are) p.refused q.refused in
        let outcomes : p.outcome ≡ q.outcome = ended_one (sym p.ending ∙ (ap online_ending r.0 ∙ q.ending)) in
        ap part p.answer_is ∙ (parts p.outcome q.outcome (Begun (length p.came)) (Begun (length q.came)) p.text q.text outcomes r.1 ∙ sym (ap part q.answer_is))

    broken_too_much : IsBroken rules readings one → IsTooMuch rules readings other → ⊥
    broken_too_much p q =
        let whole : readings ≡ p.refused.front ++ (p.refused.rest ++ p.rest) = p.readings_are ∙ (ap (λ (b : List ℕ). b ++ p.rest) p.refused.bytes_are ∙ append_assoc p.refused.front p.refused.rest p.rest) in
        not_refused law rules MOST_BYTES readings p.refused.front (p.refused.rest ++ p.rest) p.refused.out q.out p.fault q.beyond whole p.refused.within p.refused.is_output p.refused.fault_is q.is_output q.no_fault

    too_much : IsTooMuch rules readings one → IsTooMuch rules readings other → part one ≡ part other
    too_much p q =
        let same : p.out ≡ q.out = outputs rules false (take MOST_BYTES readings) p.out q.out p.is_output q.is_output in
        ap part p.answer_is ∙ (ap (λ (o : Output). part (beyond_answer o.text)) same ∙ sym (ap part q.answer_is))

  after_start_one : (rules : Rules) (readings : List ℕ) (found : Option ℕ) (one other : Answer) → AfterStart rules readings found one → AfterStart rules readings found other → part one ≡ part other
  after_start_one rules readings (Some rule) one other p q = ap part (p ∙ sym q)
  after_start_one rules readings None one other (inl p) (inl q) = whole_whole rules readings one other p q
  after_start_one rules readings None one other (inl p) (inr (inl q)) = whole_broken rules readings one other p q
  after_start_one rules readings None one other (inl p) (inr (inr q)) = absurd (more_and_not MOST_BYTES (length readings) q.beyond p.within)
  after_start_one rules readings None one other (inr (inl p)) (inl q) = sym (whole_broken rules readings other one q p)
  after_start_one rules readings None one other (inr (inl p)) (inr (inl q)) = broken_broken rules readings one other p q
  after_start_one rules readings None one other (inr (inl p)) (inr (inr q)) = absurd (broken_too_much rules readings one other p q)
  after_start_one rules readings None one other (inr (inr p)) (inl q) = absurd (more_and_not MOST_BYTES (length readings) p.beyond q.within)
  after_start_one rules readings None one other (inr (inr p)) (inr (inl q)) = absurd (broken_too_much rules readings other one q p)
  after_start_one rules readings None one other (inr (inr p)) (inr (inr q)) = too_much rules readings one other p q

  pub online_one : RulesAreOne → (bytes : Inputs (List ℕ)) (one other : Answer) → AnswersOnline bytes one → AnswersOnline bytes other → part one ≡ part other
  online_one rules_one bytes =
      after_one longest_rules ReadsFile rules_too_long rules_refused part rules_one bytes.rules (λ rules. AfterStart rules bytes.readings (not_online rules))
      (λ rules. after_start_one rules bytes.readings (not_online rules))

-- ---- what every answer has

start_has : (P : Answer → Type 0) (rules : Rules) (readings : List ℕ) (found : Option ℕ) (answer : Answer)
    → ((outcome : Outcome) (extent : Extent) (text : Option (List ℕ)) → P (record { outcome = outcome; read = record { rules = Whole; readings = extent; cert = Unread }; cert = None; out = text }))
    → AfterStart rules readings found answer → P answer
start_has P rules readings (Some rule) answer at p = subst P (sym p) (at _ _ _)
start_has P rules readings None answer at (inl p) = subst P (sym p.answer_is) (at _ _ _)
start_has P rules readings None answer at (inr (inl p)) = subst P (sym p.answer_is) (at _ _ _)
start_has P rules readings None answer at (inr (inr p)) = subst P (sym p.answer_is) (at _ _ _)

pub online_has : (P : Answer → Type 0) (bytes : Inputs (List ℕ)) (answer : Answer) → P rules_too_long → ((fault : RuleFault) → P (rules_refused fault))
    → ((outcome : Outcome) (extent : Extent) (text : Option (List ℕ)) → P (record { outcome = outcome; read = record { rules = Whole; readings = extent; cert = Unread }; cert = None; out = text }))
    → AnswersOnline bytes answer → P answer
online_has P bytes answer at_long at_refused at_rules =
    after_has longest_rules ReadsFile rules_too_long rules_refused P bytes.rules (λ rules. AfterStart rules bytes.readings (not_online rules)) answer at_long at_refused
    (λ rules. start_has P rules bytes.readings (not_online rules) answer at_rules)

-- it reads the rules, never a certificate, and writes none
pub online_reads : (bytes : Inputs (List ℕ)) (answer : Answer) → AnswersOnline bytes answer → answer.read.rules ≢ Unread
online_reads bytes answer = online_has (λ a. a.read.rules ≢ Unread) bytes answer begun_not_unread (λ fault. whole_not_unread) (λ outcome extent text. whole_not_unread)

pub online_unread : (bytes : Inputs (List ℕ)) (answer : Answer) → AnswersOnline bytes answer → answer.read.cert ≡ Unread
online_unread bytes answer = online_has (λ a. a.read.cert ≡ Unread) bytes answer refl (λ fault. refl) (λ outcome extent text. refl)

pub online_unwritten : (bytes : Inputs (List ℕ)) (answer : Answer) → AnswersOnline bytes answer → answer.cert ≡ None
online_unwritten bytes answer = online_has (λ a. a.cert ≡ None) bytes answer refl (λ fault. refl) (λ outcome extent text. refl)

-- ---- an answer rests on what it reads

module _ (rules : Rules) (came bytes : List ℕ) (answer : Answer) (front : AreFront answer.read.readings came bytes) where
  read_so_far : (extent : Extent) → answer.read.readings ≡ extent → AreFront extent came bytes
  read_so_far extent same = subst (λ (e : Extent). AreFront e came bytes) same front

  whole_rests : IsWhole rules came answer → IsWhole rules bytes answer
  whole_rests p =
      let same : bytes ≡ came = read_so_far Whole (ap (λ (a : Answer). a.read.readings) p.answer_is) in
      subst (λ (b : List ℕ). IsWhole rules b answer) (sym same) p

  broken_rests : IsBroken rules came answer → IsBroken rules bytes answer
  broken_rests p =
      let more = read_so_far (Begun (length p.came)) (ap (λ (a : Answer). a.read.readings) p.answer_is) in
      record {
        came = p.came;
        rest = p.rest ++ more.0;
        readings_are = more.1 ∙ (ap (λ (b : List ℕ). b ++ more.0) p.readings_are ∙ append_assoc p.came p.rest more.0);
        text = p.text;
        fault = p.fault;
        refused = p.refused;
        outcome = p.outcome;
        ending = p.ending;
        answer_is = p.answer_is;
      }

  too_much_rests : IsTooMuch rules came answer → IsTooMuch rules bytes answer
  too_much_rests p =
      let more = read_so_far (Begun (MOST_BYTES + 1)) (ap (λ (a : Answer). a.read.readings) p.answer_is) in
      let size : length bytes ≡ length came + length more.0 = ap length more.1 ∙ length-append came more.0 in
      let same : take MOST_BYTES bytes ≡ take MOST_BYTES came = ap (take MOST_BYTES) more.1 ∙ take-append-le MOST_BYTES came more.0 (omega (arith, p.beyond)) in
      record {
        beyond = omega (arith, p.beyond, size);
        out = p.out;
        is_output = subst (λ (b : List ℕ). IsOutput rules false b p.out) (sym same) p.is_output;
        no_fault = p.no_fault;
        answer_is = p.answer_is;
      }

  after_start_rests : (found : Option ℕ) → AfterStart rules came found answer → AfterStart rules bytes found answer
  after_start_rests (Some rule) p = p
  after_start_rests None (inl p) = inl (whole_rests p)
  after_start_rests None (inr (inl p)) = inr (inl (broken_rests p))
  after_start_rests None (inr (inr p)) = inr (inr (too_much_rests p))

start_wholly : (rules : Rules) (readings : List ℕ) (found : Option ℕ) (answer : Answer) → AfterStart rules readings found answer → answer.read.rules ≡ Whole
start_wholly rules readings found answer = start_has (λ a. a.read.rules ≡ Whole) rules readings found answer (λ outcome extent text. refl)

pub online_rests : (came bytes : Inputs (List ℕ)) (answer : Answer) → AreFronts answer.read came bytes → AnswersOnline came answer → AnswersOnline bytes answer
online_rests came bytes answer fronts_are =
    after_rests longest_rules ReadsFile rules_too_long rules_refused (λ a. a.read.rules) (longest_rules + 1) came.rules bytes.rules
    (λ rules. AfterStart rules came.readings (not_online rules)) (λ rules. AfterStart rules bytes.readings (not_online rules)) answer refl (λ fault. refl)
    (λ rules. start_wholly rules came.readings (not_online rules) answer)
    (λ rules. after_start_rests rules came.readings bytes.readings answer fronts_are.1 (not_online rules)) fronts_are.0
