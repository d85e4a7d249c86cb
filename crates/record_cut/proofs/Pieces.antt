-- A piece of a text after another.
use Rattle.std.proofs.Common.{◌≡◌, ℕ, ◌+◌, ◌-◌, ◌<◌, ◌≤◌, List, [], ◌∷◌, ◌++◌, length, get_or, take, drop, Option, Some, None, Result, Ok, Err, sym, ap, ◌∙◌, subst, arith, append_assoc, length-append}
use Rattle.std.proofs.Math.Seq.{take-append-add, take-add}
use Rattle.std.proofs.lemmas.List.{append-nil, take_more, length-take-le}
use Rattle.record_cut.specs.Records.{Cut, Fault, records}
use Rattle.record_cut.specs.Ended.{Ended, so_far}
use Rattle.record_cut.specs.StandsFor.{StandsFor}
use Rattle.record_cut.specs.Feeds.{GoesOn, EndsRecord, FailsAt, front_of, Feeds}
use Rattle.record_cut.specs.declared.fault.CutFault.{CutFault}
use Rattle.record_cut.specs.declared.fault.CutFault.TheVariants.{BadQuote, RecordTooLong, OpenQuote, Memory}
use Rattle.record_cut.specs.declared.cutter.Cutter.{Cutter}
use Rattle.record_cut.proofs.Standing.{stands-no_fault}

-- a piece that ends no record
same-so_far : (sep : ℕ) (bytes piece : List ℕ) (mid : Cutter) → (so_far sep bytes).fault ≡ None → GoesOn sep bytes piece [] mid → so_far sep (bytes ++ piece) ≡ so_far sep bytes
same-so_far sep bytes piece mid quiet first =
    let of : List (List (List ℕ)) → Option CutFault → Ended = λ all fault. record { records = all; fault = fault } in
    first.grown ∙ ap (λ all. of all None) (append-nil (so_far sep bytes).records) ∙ ap (of (so_far sep bytes).records) (sym quiet)

goes-then : (sep : ℕ) (bytes piece more : List ℕ) (added : List (List (List ℕ))) (new : Cutter) → so_far sep (bytes ++ piece) ≡ so_far sep bytes → GoesOn sep (bytes ++ piece) more added new → GoesOn sep bytes (piece ++ more) added new
goes-then sep bytes piece more added new same second =
    let P : List ℕ → Type 0 = λ text. StandsFor new sep text in
    let after : Ended → Ended = λ e. record { records = e.records ++ added; fault = None } in
    record {
      stands = subst P (append_assoc bytes piece more) second.stands;
      grown = ap (so_far sep) (sym (append_assoc bytes piece more)) ∙ second.grown ∙ ap after same;
    }

front-append : (piece more : List ℕ) → 0 < length more → front_of (piece ++ more) ≡ piece ++ front_of more
front-append piece more some =
    let size : length (piece ++ more) - 1 ≡ length piece + (length more - 1) = omega (arith, length-append piece more) in
    ap (λ n. take n (piece ++ more)) size ∙ take-append-add piece more (length more - 1)

none-before : (sep : ℕ) (bytes piece more : List ℕ) → 0 < length more → so_far sep (bytes ++ piece) ≡ so_far sep bytes → so_far sep ((bytes ++ piece) ++ front_of more) ≡ so_far sep (bytes ++ piece) → so_far sep (bytes ++ front_of (piece ++ more)) ≡ so_far sep bytes
none-before sep bytes piece more some same second = ap (so_far sep) (ap (λ text. bytes ++ text) (front-append piece more some) ∙ sym (append_assoc bytes piece (front_of more))) ∙ second ∙ same

ends-then : (sep : ℕ) (bytes piece more : List ℕ) (fields : List (List ℕ)) (new : Cutter) → 0 < length more → so_far sep (bytes ++ piece) ≡ so_far sep bytes → EndsRecord sep (bytes ++ piece) more fields new → EndsRecord sep bytes (piece ++ more) fields new
ends-then sep bytes piece more fields new some same second = record {
  goes_on = goes-then sep bytes piece more (fields ∷ []) new same second.goes_on;
  none_before = none-before sep bytes piece more some same second.none_before;
}

fails-then : (sep : ℕ) (bytes piece more : List ℕ) (fault : CutFault) → 0 < length more → so_far sep (bytes ++ piece) ≡ so_far sep bytes → FailsAt sep (bytes ++ piece) more fault → FailsAt sep bytes (piece ++ more) fault
fails-then sep bytes piece more fault some same second =
    let cut : List (List (List ℕ)) → ℕ → Cut = λ all offset. record { records = all; onward = Fault fault offset } in
    let text_is : (bytes ++ piece) ++ more ≡ bytes ++ (piece ++ more) = append_assoc bytes piece more in
    record {
      none_before = none-before sep bytes piece more some same second.none_before;
      stands = λ rest. ap (λ text. records sep (text ++ rest)) (sym text_is) ∙ second.stands rest ∙ ap (λ (e : Ended). cut e.records (length ((bytes ++ piece) ++ more) - 1)) same ∙ ap (λ text. cut (so_far sep bytes).records (length text - 1)) text_is;
    }

-- a piece that ends no record, and then another
feeds-then : (sep : ℕ) (bytes piece more : List ℕ) (answer : Result (Option (List (List ℕ))) CutFault) (mid new : Cutter) → (so_far sep bytes).fault ≡ None → 0 < length more → GoesOn sep bytes piece [] mid → Feeds sep (bytes ++ piece) more answer new → Feeds sep bytes (piece ++ more) answer new
feeds-then sep bytes piece more (Ok None) mid new quiet some first second = goes-then sep bytes piece more [] new (same-so_far sep bytes piece mid quiet first) second
feeds-then sep bytes piece more (Ok (Some fields)) mid new quiet some first second = ends-then sep bytes piece more fields new some (same-so_far sep bytes piece mid quiet first) second
feeds-then sep bytes piece more (Err BadQuote) mid new quiet some first second = fails-then sep bytes piece more BadQuote some (same-so_far sep bytes piece mid quiet first) second
feeds-then sep bytes piece more (Err RecordTooLong) mid new quiet some first second = fails-then sep bytes piece more RecordTooLong some (same-so_far sep bytes piece mid quiet first) second
feeds-then sep bytes piece more (Err OpenQuote) mid new quiet some first second = second
feeds-then sep bytes piece more (Err Memory) mid new quiet some first second = second

-- the same of one more byte, and of a piece of the rest, of a slice

pub feeds-byte : (old mid new : Cutter) (sep : ℕ) (before bytes : List ℕ) (run : ℕ) (answer : Result (Option (List (List ℕ))) CutFault) → run < length bytes → StandsFor old sep before → GoesOn sep before (take run bytes) [] mid → Feeds sep (before ++ take run bytes) (get_or bytes run 0 ∷ []) answer new → Feeds sep before (take (run + 1) bytes) answer new
feeds-byte old mid new sep before bytes run answer h stands first second =
    let P : List ℕ → Type 0 = λ piece. Feeds sep before piece answer new in
    subst P (sym (take_more bytes run 0 h)) (feeds-then sep before (take run bytes) (get_or bytes run 0 ∷ []) answer mid new (stands-no_fault old sep before stands) (omega arith) first second)

pub feeds-on : (old mid new : Cutter) (sep : ℕ) (before bytes rest : List ℕ) (count more : ℕ) (answer : Result (Option (List (List ℕ))) CutFault) → rest ≡ drop count bytes → more ≤ length rest → 0 < more → StandsFor old sep before → GoesOn sep before (take count bytes) [] mid → Feeds sep (before ++ take count bytes) (take more rest) answer new → Feeds sep before (take (count + more) bytes) answer new
feeds-on old mid new sep before bytes rest count more answer e k some stands first second =
    let P : List ℕ → Type 0 = λ piece. Feeds sep before piece answer new in
    let pieces : take (count + more) bytes ≡ take count bytes ++ take more rest = take-add count more bytes ∙ ap (λ t. take count bytes ++ take more t) (sym e) in
    subst P (sym pieces) (feeds-then sep before (take count bytes) (take more rest) answer mid new (stands-no_fault old sep before stands) (omega (arith, length-take-le more rest k)) first second)

-- the same where the piece ends and refuses nothing, and may be empty

goes-more : (old mid new : Cutter) (sep : ℕ) (before piece more : List ℕ) → StandsFor old sep before → GoesOn sep before piece [] mid → GoesOn sep (before ++ piece) more [] new → GoesOn sep before (piece ++ more) [] new
goes-more old mid new sep before piece more stands first second = goes-then sep before piece more [] new (same-so_far sep before piece mid (stands-no_fault old sep before stands) first) second

pub goes-part : (old mid new : Cutter) (sep : ℕ) (before bytes piece : List ℕ) (count more : ℕ) → piece ≡ take more (drop count bytes) → StandsFor old sep before → GoesOn sep before (take count bytes) [] mid → GoesOn sep (before ++ take count bytes) piece [] new → GoesOn sep before (take (count + more) bytes) [] new
goes-part old mid new sep before bytes piece count more e stands first second =
    let P : List ℕ → Type 0 = λ text. GoesOn sep before text [] new in
    subst P (ap (λ p. take count bytes ++ p) e ∙ sym (take-add count more bytes)) (goes-more old mid new sep before (take count bytes) piece stands first second)

pub goes-byte : (old mid new : Cutter) (sep : ℕ) (before bytes : List ℕ) (count : ℕ) → count < length bytes → StandsFor old sep before → GoesOn sep before (take count bytes) [] mid → GoesOn sep (before ++ take count bytes) (get_or bytes count 0 ∷ []) [] new → GoesOn sep before (take (count + 1) bytes) [] new
goes-byte old mid new sep before bytes count h stands first second =
    let P : List ℕ → Type 0 = λ text. GoesOn sep before text [] new in
    subst P (sym (take_more bytes count 0 h)) (goes-more old mid new sep before (take count bytes) (get_or bytes count 0 ∷ []) stands first second)
