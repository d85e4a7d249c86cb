-- What is left of a piece, while it is taken up to the end of one record after the other.
use Rattle.std.proofs.Common.{◌≡◌, ℕ, false, List, [], ◌++◌, take, drop, refl, sym, ap, ◌∙◌, subst, append_assoc, append-nil}
use Rattle.std.specs.Prelude.{Result, Ok, Err}
use Rattle.std.proofs.lemmas.List.{take-append-drop}
use Rattle.rule_file.specs.declared.rules.Rules.{Rules}
use Rattle.series_csv.specs.Stays.{FilesHaveOneAnswer}
use Rattle.online_repair.specs.Feeds.{Answers}
use Rattle.online_repair.specs.Output.{IsOutput, Output}
use Rattle.online_repair.specs.StandsFor.{CanGoOn, GoesOn}
use Rattle.online_repair.specs.Streams.{Feeds, FeedsSome}
use Rattle.online_repair.specs.declared.fault.OnlineFault.{OnlineFault}
use Rattle.online_repair.specs.declared.stream.Stream.{Stream}
use Rattle.online_repair.proofs.Joined.{appends_none, join_answers}
use Rattle.online_repair.proofs.Pieces.{read_fault, same_output}

-- so much of a piece was taken, and this rest is left
pub record IsLeft (stream : Stream) (rules : Rules) (bytes piece rest text now : List ℕ) : Type 0 where
  pub front : List ℕ
  pub piece_is : piece ≡ front ++ rest
  pub goes : GoesOn stream rules (bytes ++ front)
  pub answers : Answers rules false bytes front (Ok tt) text now

-- however the stream stood before
abbrev pub AreLeft : Stream → Stream → List ℕ → List ℕ → List ℕ → List ℕ → Type 0
AreLeft old stream piece rest text now = (rules : Rules) (bytes : List ℕ) → GoesOn old rules bytes → IsLeft stream rules bytes piece rest text now

nothing_taken : FilesHaveOneAnswer → (rules : Rules) (bytes text : List ℕ) (stream : Stream) → GoesOn stream rules bytes → Answers rules false bytes [] (Ok tt) text text
nothing_taken one rules bytes text stream goes = λ before is.
    let I : List ℕ → Type 0 = λ bs. IsOutput rules false bs before in
    record {
      now = before;
      is_output = subst I (sym (append-nil bytes)) is;
      fault_is = ap (λ (o : Output). o.fault) (same_output one rules false bytes goes.read before goes.reads is) ∙ read_fault rules goes.read stream.engine goes.not_refused goes.engine;
      appends = appends_none before text;
    }

pub left_all : FilesHaveOneAnswer → (stream : Stream) (piece text : List ℕ) → AreLeft stream stream piece piece text text
left_all one stream piece text = λ rules bytes goes.
    let G : List ℕ → Type 0 = λ bs. GoesOn stream rules bs in
    record { front = []; piece_is = refl; goes = subst G (sym (append-nil bytes)) goes; answers = nothing_taken one rules bytes text stream goes }

left_more : (rules : Rules) (bytes piece rest : List ℕ) (count : ℕ) (stream new : Stream) (text middle now : List ℕ) → IsLeft stream rules bytes piece rest text middle → ((before : List ℕ) → GoesOn stream rules before → FeedsSome rules before rest (Ok count) new middle now) → IsLeft new rules bytes piece (drop count rest) text now
left_more rules bytes piece rest count stream new text middle now left feeds =
    let fed = feeds (bytes ++ left.front) left.goes in
    let front = left.front ++ take count rest in
    let G : List ℕ → Type 0 = λ bs. GoesOn new rules bs in
    record {
      front = front;
      piece_is = left.piece_is ∙ ap (λ (bs : List ℕ). left.front ++ bs) (sym (take-append-drop count rest)) ∙ sym (append_assoc left.front (take count rest) (drop count rest));
      goes = subst G (append_assoc bytes left.front (take count rest)) fed.0;
      answers = join_answers rules bytes left.front (take count rest) front (Ok tt) text middle now refl left.answers fed.1;
    }

abbrev FeedsAll : Stream → List ℕ → Result ℕ OnlineFault → Stream → List ℕ → List ℕ → Type 0
FeedsAll stream rest result new middle now = (rules : Rules) (before : List ℕ) → GoesOn stream rules before → FeedsSome rules before rest result new middle now

pub left_some : (old stream new : Stream) (piece rest : List ℕ) (count : ℕ) (text middle now : List ℕ) → AreLeft old stream piece rest text middle → FeedsAll stream rest (Ok count) new middle now → AreLeft old new piece (drop count rest) text now
left_some old stream new piece rest count text middle now left feeds = λ rules bytes goes. left_more rules bytes piece rest count stream new text middle now (left rules bytes goes) (feeds rules)

pub left_goes : (old stream : Stream) (piece rest text now : List ℕ) → AreLeft old stream piece rest text now → CanGoOn old → CanGoOn stream
left_goes old stream piece rest text now left can = let here = left can.0 can.1 can.2 in (can.0, can.1 ++ here.front, here.goes)

left_none_by : (rules : Rules) (bytes piece rest text now : List ℕ) (stream : Stream) → rest ≡ [] → IsLeft stream rules bytes piece rest text now → Feeds rules bytes piece (Ok tt) stream text now
left_none_by rules bytes piece rest text now stream e left =
    let whole : left.front ≡ piece = sym (append-nil left.front) ∙ ap (λ (bs : List ℕ). left.front ++ bs) (sym e) ∙ sym left.piece_is in
    let G : List ℕ → Type 0 = λ bs. GoesOn stream rules (bytes ++ bs) in
    let A : List ℕ → Type 0 = λ bs. Answers rules false bytes bs (Ok tt) text now in
    (subst G whole left.goes, subst A whole left.answers)

pub left_none : (old stream : Stream) (piece rest text now : List ℕ) → rest ≡ [] → AreLeft old stream piece rest text now → (rules : Rules) (bytes : List ℕ) → GoesOn old rules bytes → Feeds rules bytes piece (Ok tt) stream text now
left_none old stream piece rest text now e left rules bytes goes = left_none_by rules bytes piece rest text now stream e (left rules bytes goes)

left_stops_by : (rules : Rules) (bytes piece rest : List ℕ) (fault : OnlineFault) (stream new : Stream) (text middle now : List ℕ) → (left : IsLeft stream rules bytes piece rest text middle) → FeedsSome rules (bytes ++ left.front) rest (Err fault) new middle now → Feeds rules bytes piece (Err fault) new text now
left_stops_by rules bytes piece rest fault stream new text middle now left feeds =
    (tt, join_answers rules bytes left.front rest piece (Err fault) text middle now left.piece_is left.answers feeds)

pub left_stops : (old stream new : Stream) (piece rest : List ℕ) (fault : OnlineFault) (text middle now : List ℕ) → AreLeft old stream piece rest text middle → FeedsAll stream rest (Err fault) new middle now → (rules : Rules) (bytes : List ℕ) → GoesOn old rules bytes → Feeds rules bytes piece (Err fault) new text now
left_stops old stream new piece rest fault text middle now left feeds rules bytes goes =
    let here = left rules bytes goes in
    left_stops_by rules bytes piece rest fault stream new text middle now here (feeds rules (bytes ++ here.front) here.goes)
