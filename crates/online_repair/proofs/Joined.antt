-- What is appended by one piece after the other.
use Rattle.std.proofs.Common.{◌≡◌, ℕ, Bool, true, false, List, [], ◌++◌, refl, sym, ap, ◌∙◌, subst, append_assoc, append-nil}
use Rattle.std.specs.Prelude.{Option, Some, None, Result, Ok, Err}
use Rattle.rule_file.specs.declared.rules.Rules.{Rules}
use Rattle.online_repair.specs.Feeds.{Answers, Appends, AppendsFront, AppendsPart, Refuses, Takes}
use Rattle.online_repair.specs.Output.{IsOutput, Output}
use Rattle.online_repair.specs.declared.fault.OnlineFault.{OnlineFault}

-- ---- texts

pub join_appends : (first second third : Output) (old middle new : List ℕ) → Appends first second old middle → Appends second third middle new → Appends first third old new
join_appends first second third old middle new a b = record {
  added = a.added ++ b.added;
  output_is = b.output_is ∙ ap (λ (bytes : List ℕ). bytes ++ b.added) a.output_is ∙ append_assoc first.text a.added b.added;
  text_is = b.text_is ∙ ap (λ (bytes : List ℕ). bytes ++ b.added) a.text_is ∙ append_assoc old a.added b.added;
}

pub join_part : (first second third : Output) (old middle new : List ℕ) → Appends first second old middle → AppendsPart second third middle new → AppendsPart first third old new
join_part first second third old middle new a b = record {
  added = a.added ++ b.added;
  rest = b.rest;
  output_is = b.output_is ∙ ap (λ (bytes : List ℕ). (bytes ++ b.added) ++ b.rest) a.output_is ∙ ap (λ (bytes : List ℕ). bytes ++ b.rest) (append_assoc first.text a.added b.added);
  text_is = b.text_is ∙ ap (λ (bytes : List ℕ). bytes ++ b.added) a.text_is ∙ append_assoc old a.added b.added;
}

pub appends_none : (out : Output) (text : List ℕ) → Appends out out text text
appends_none out text = record { added = []; output_is = sym (append-nil out.text); text_is = sym (append-nil text) }

-- ---- answers

whole_piece : (bytes front rest piece : List ℕ) → piece ≡ front ++ rest → bytes ++ piece ≡ (bytes ++ front) ++ rest
whole_piece bytes front rest piece e = ap (λ (more : List ℕ). bytes ++ more) e ∙ sym (append_assoc bytes front rest)

at_bytes : (rules : Rules) (ended : Bool) (bytes other : List ℕ) (out : Output) → bytes ≡ other → IsOutput rules ended bytes out → IsOutput rules ended other out
at_bytes rules ended bytes other out e is =
    let I : List ℕ → Type 0 = λ bs. IsOutput rules ended bs out in
    subst I e is

pub join_takes : (rules : Rules) (bytes front rest piece : List ℕ) (fault : Option OnlineFault) (old middle new : List ℕ) (before : Output) → piece ≡ front ++ rest → (takes : Takes rules false bytes front None old middle before) → Takes rules false (bytes ++ front) rest fault middle new takes.now → Takes rules false bytes piece fault old new before
join_takes rules bytes front rest piece fault old middle new before e takes next = record {
  now = next.now;
  is_output = at_bytes rules false ((bytes ++ front) ++ rest) (bytes ++ piece) next.now (sym (whole_piece bytes front rest piece e)) next.is_output;
  fault_is = next.fault_is;
  appends = join_appends before takes.now next.now old middle new takes.appends next.appends;
}

join_refuses : (rules : Rules) (bytes front rest piece : List ℕ) (fault : OnlineFault) (old middle new : List ℕ) (before : Output) → piece ≡ front ++ rest → (takes : Takes rules false bytes front None old middle before) → Refuses rules false (bytes ++ front) rest fault middle new takes.now → Refuses rules false bytes piece fault old new before
join_refuses rules bytes front rest piece fault old middle new before e takes refuses = record {
  front = front ++ refuses.front;
  rest = refuses.rest;
  piece_is = e ∙ ap (λ (more : List ℕ). front ++ more) refuses.piece_is ∙ sym (append_assoc front refuses.front refuses.rest);
  at_front = join_takes rules bytes front refuses.front (front ++ refuses.front) (Some fault) old middle new before refl takes refuses.at_front;
  stays = λ now is.
      let here = refuses.stays now (at_bytes rules false (bytes ++ piece) ((bytes ++ front) ++ rest) now (whole_piece bytes front rest piece e) is) in
      (here.0, join_appends before takes.now now old middle new takes.appends here.1);
}

pub never_over : {A : Type 0} → false ≡ true → A
never_over e = cc

-- nothing was appended, and a front of the piece that is empty has the output before
pub appends_nothing : (rules : Rules) (ended : Bool) (bytes piece text : List ℕ) (before : Output) → IsOutput rules false bytes before → AppendsFront rules ended bytes piece text text before
appends_nothing rules ended bytes piece text before is = record {
  front = [];
  rest = piece;
  piece_is = refl;
  over = false;
  over_is = never_over;
  now = before;
  is_output = at_bytes rules false bytes (bytes ++ []) before (sym (append-nil bytes)) is;
  part = record { added = []; rest = []; output_is = sym (append-nil before.text) ∙ sym (append-nil (before.text ++ [])); text_is = sym (append-nil text) };
}

join_front : (rules : Rules) (bytes front rest piece : List ℕ) (old middle new : List ℕ) (before : Output) → piece ≡ front ++ rest → (takes : Takes rules false bytes front None old middle before) → AppendsFront rules false (bytes ++ front) rest middle new takes.now → AppendsFront rules false bytes piece old new before
join_front rules bytes front rest piece old middle new before e takes next = record {
  front = front ++ next.front;
  rest = next.rest;
  piece_is = e ∙ ap (λ (more : List ℕ). front ++ more) next.piece_is ∙ sym (append_assoc front next.front next.rest);
  over = next.over;
  over_is = next.over_is;
  now = next.now;
  is_output = at_bytes rules next.over ((bytes ++ front) ++ next.front) (bytes ++ (front ++ next.front)) next.now (append_assoc bytes front next.front) next.is_output;
  part = join_part before takes.now next.now old middle new takes.appends next.part;
}

-- a piece was taken, and the rest of it is answered
pub join_answers : (rules : Rules) (bytes front rest piece : List ℕ) (result : Result (Unit {0}) OnlineFault) (old middle new : List ℕ) → piece ≡ front ++ rest → Answers rules false bytes front (Ok tt) old middle → Answers rules false (bytes ++ front) rest result middle new → Answers rules false bytes piece result old new
join_answers rules bytes front rest piece (Ok done) old middle new e first second = λ before is.
    let takes = first before is in
    join_takes rules bytes front rest piece None old middle new before e takes (second takes.now takes.is_output)
join_answers rules bytes front rest piece (Err fault) old middle new e first second = (
  λ other before is.
      let takes = first before is in
      join_refuses rules bytes front rest piece fault old middle new before e takes (second.0 other takes.now takes.is_output),
  λ memory before now is is_now.
      let takes = first before is in
      join_part before takes.now now old middle new takes.appends
      (second.1 memory takes.now now takes.is_output (at_bytes rules false (bytes ++ piece) ((bytes ++ front) ++ rest) now (whole_piece bytes front rest piece e) is_now)),
  λ memory before is.
      let takes = first before is in
      join_front rules bytes front rest piece old middle new before e takes (second.2 memory takes.now takes.is_output),
)
