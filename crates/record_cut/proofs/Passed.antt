-- Bytes that all belong to the field at a place, and the separator or the line feed after it.
use Rattle.std.proofs.Common.{◌≡◌, ◌≢◌, ℕ, ◌+◌, ◌<◌, ◌≤◌, true, false, List, [], ◌∷◌, ◌++◌, length, take, Result, Ok, Err, refl, sym, ap, ◌∙◌, subst, arith, append_assoc}
use Rattle.std.specs.Prelude.{IfOk}
use Rattle.std.proofs.lemmas.List.{append-nil, length-take, take-take}
use Rattle.std.proofs.lemmas.Bool.{both_ways}
use Rattle.record_cut.specs.Drafted.{Drafted}
use Rattle.record_cut.specs.Quotes.{holds_quote}
use Rattle.record_cut.specs.Row.{holds_special}
use Rattle.record_cut.specs.Records.{by_record, records_from}
use Rattle.record_cut.specs.Resumed.{from_plain, from_quoted, Fits}
use Rattle.record_cut.specs.Moves.{in_unquoted, is_unquoted, Opens}
use Rattle.record_cut.specs.StandsFor.{StandsFor, HasBegun}
use Rattle.record_cut.specs.Feeds.{GoesOn, EndsRecord}
use Rattle.record_cut.specs.declared.fault.CutFault.{CutFault}
use Rattle.record_cut.specs.declared.phase.Place.TheVariants.{Field, Plain, PlainCr, Quoted, QuoteInQuoted, ClosedCr}
use Rattle.record_cut.specs.declared.phase.Phase.{Phase}
use Rattle.record_cut.specs.declared.phase.Phase.TheVariants.{Input, MarkOne, MarkTwo, Record, RecordCr, Inside, Refused}
use Rattle.record_cut.specs.declared.phase.Move.TheVariants.{To, EndRecord}
use Rattle.record_cut.specs.declared.phase.Opening.TheVariants.{Read}
use Rattle.record_cut.specs.declared.cutter.Cutter.{Cutter}
use Rattle.record_cut.proofs.Grammar.{other_byte, plain-other, quoted-other}
use Rattle.record_cut.proofs.Runs.{ordinary, others-ordinary, no_quote-first, others-no_quote}
use Rattle.record_cut.proofs.Steps.{plain-grows, quoted-grows, field-plain, plain-at_sep, plain-at_line_feed}
use Rattle.record_cut.proofs.Openings.{record-at_other}
use Rattle.record_cut.proofs.Standing.{Resumes, RunsTo, OpensAs, goes-on, run-step, fed-to, fed-end}

same_draft : (old new : Drafted) → new.fields ≡ old.fields → new.field ≡ old.field → old ≡ new
same_draft old new e f = ap (λ fields. record { fields = fields; field = old.field }) (sym e) ∙ ap (λ field. record { fields = new.fields; field = field }) (sym f)

pub plain-passed : (sep : ℕ) (run : List ℕ) (old new : Drafted) (more : List ℕ) → holds_special sep run ≡ false → new.fields ≡ old.fields → new.field ≡ old.field ++ run → from_plain sep old (run ++ more) ≡ from_plain sep new more
plain-passed sep [] old new more h e f = ap (λ d. from_plain sep d more) (same_draft old new e (f ∙ append-nil old.field))
plain-passed sep (byte ∷ run) old new more h e f =
    let mid : Drafted = record { fields = old.fields; field = old.field ++ byte ∷ [] } in
    let o = ordinary sep byte run h in
    plain-grows sep byte old mid (run ++ more) refl refl (plain-other sep byte (run ++ more) o.no_sep o.no_quote o.no_line_feed o.no_cr) ∙ plain-passed sep run mid new more (others-ordinary sep byte run h) e (f ∙ sym (append_assoc old.field (byte ∷ []) run))

pub quoted-passed : (sep : ℕ) (run : List ℕ) (old new : Drafted) (more : List ℕ) → holds_quote run ≡ false → new.fields ≡ old.fields → new.field ≡ old.field ++ run → from_quoted sep old (run ++ more) ≡ from_quoted sep new more
quoted-passed sep [] old new more h e f = ap (λ d. from_quoted sep d more) (same_draft old new e (f ∙ append-nil old.field))
quoted-passed sep (byte ∷ run) old new more h e f =
    let mid : Drafted = record { fields = old.fields; field = old.field ++ byte ∷ [] } in
    quoted-grows sep byte old mid (byte ∷ (run ++ more)) (run ++ more) refl refl (quoted-other byte (run ++ more) (no_quote-first byte run h)) ∙ quoted-passed sep run mid new more (others-no_quote byte run h) e (f ∙ sym (append_assoc old.field (byte ∷ []) run))

pub quoted-run : (sep : ℕ) (run : List ℕ) → holds_quote run ≡ false → RunsTo sep Quoted run Quoted
quoted-run sep run h old new fits e f = (tt, λ more. quoted-passed sep run old new more h e f)

-- A byte of an unquoted field that is no quote and begins no line break is read as in the midst of that field.
pub unquoted-opens : (sep byte count : ℕ) (phase : Phase) (draft : Drafted) → is_unquoted phase ≡ true → byte ≢ 34 → byte ≢ 10 → byte ≢ 13 → Fits phase draft count → Opens sep phase draft count byte (Read Plain)
unquoted-opens sep byte count Input draft u q l k fits = absurd (both_ways false refl u)
unquoted-opens sep byte count MarkOne draft u q l k fits = absurd (both_ways false refl u)
unquoted-opens sep byte count MarkTwo draft u q l k fits = absurd (both_ways false refl u)
unquoted-opens sep byte count Record draft u q l k fits =
    let opens = record-at_other sep byte count draft fits l k in
    (tt, λ all more. opens.1 all more ∙ ap (by_record (records_from sep all) all (count + length (byte ∷ more))) (field-plain sep byte draft more opens.0 q))
unquoted-opens sep byte count RecordCr draft u q l k fits = absurd (both_ways false refl u)
unquoted-opens sep byte count (Inside Field) draft u q l k fits = (tt, λ all more. ap (by_record (records_from sep all) all (count + length (byte ∷ more))) (field-plain sep byte draft more fits q))
unquoted-opens sep byte count (Inside Plain) draft u q l k fits = (tt, λ all more. refl)
unquoted-opens sep byte count (Inside PlainCr) draft u q l k fits = absurd (both_ways false refl u)
unquoted-opens sep byte count (Inside Quoted) draft u q l k fits = absurd (both_ways false refl u)
unquoted-opens sep byte count (Inside QuoteInQuoted) draft u q l k fits = absurd (both_ways false refl u)
unquoted-opens sep byte count (Inside ClosedCr) draft u q l k fits = absurd (both_ways false refl u)
unquoted-opens sep byte count (Refused fault) draft u q l k fits = absurd (both_ways false refl u)

-- ordinary bytes of an unquoted field
ordinary-step : (sep count size : ℕ) (phase : Phase) (draft new : Drafted) (run : List ℕ) → is_unquoted phase ≡ true → Fits phase draft count → 0 < length run → holds_special sep run ≡ false → new.fields ≡ draft.fields → new.field ≡ draft.field ++ run → size ≡ count + length run → Resumes sep phase draft count run [] (Inside Plain) new size
ordinary-step sep count size phase draft new [] u fits some h e f g all more = absurd (omega arith)
ordinary-step sep count size phase draft new (byte ∷ rest) u fits some h e f g all more =
    let o = ordinary sep byte rest h in
    (unquoted-opens sep byte count phase draft u o.no_quote o.no_line_feed o.no_cr fits).1 all (rest ++ more) ∙ run-step sep all count size Plain Plain draft new (byte ∷ rest) more (plain-passed sep (byte ∷ rest) draft new more h e f) g

pub fed-ordinary : (old new : Cutter) (run bytes : List ℕ) → is_unquoted old.phase ≡ true → 0 < length run → holds_special old.sep run ≡ false → new.draft.fields ≡ old.draft.fields → new.draft.field ≡ old.draft.field ++ run → new.sep ≡ old.sep → new.phase ≡ Inside Plain → new.count ≡ old.count + length run → StandsFor old old.sep bytes → GoesOn old.sep bytes run [] new
fed-ordinary old new run bytes u some h e f same phase size stands =
    let F : Phase → Type 0 = λ p. Fits p new.draft new.count in
    let R : Phase → Type 0 = λ p. Resumes old.sep old.phase old.draft old.count run [] p new.draft new.count in
    goes-on old new bytes run [] stands same (subst F (sym phase) tt) (subst R (sym phase) (ordinary-step old.sep old.count new.count old.phase old.draft new.draft run u stands.fits some h e f size))

-- the separator after an unquoted field
pub fed-separator : (old new : Cutter) (byte : ℕ) (bytes : List ℕ) → is_unquoted old.phase ≡ true → byte ≡ old.sep → new.draft.fields ≡ old.draft.fields ++ old.draft.field ∷ [] → new.draft.field ≡ [] → new.sep ≡ old.sep → new.phase ≡ Inside Field → new.count ≡ old.count + 1 → StandsFor old old.sep bytes → GoesOn old.sep bytes (byte ∷ []) [] new
fed-separator old new byte bytes u is e f same phase size stands =
    let other : (n : ℕ) → n ≢ old.sep → byte ≢ n = λ n h g. h (sym g ∙ is) in
    let opens : OpensAs old.phase byte (Read Plain) = λ sep draft count sure fits. unquoted-opens sep byte count old.phase draft u (other 34 (other_byte old.sep 34 old.separates refl)) (other 10 (other_byte old.sep 10 old.separates refl)) (other 13 (other_byte old.sep 13 old.separates refl)) fits in
    fed-to old new byte bytes Plain Field (To Field) opens (λ fits. plain-at_sep old.sep byte old.draft new.draft (Ok (To Field)) is (refl, e, f)) refl same phase size stands

-- the line feed after an unquoted field

line-opens : (sep byte count : ℕ) (phase : Phase) (draft : Drafted) → in_unquoted phase ≡ true → byte ≢ 34 → Fits phase draft count → Opens sep phase draft count byte (Read Plain)
line-opens sep byte count Input draft u q fits = absurd (both_ways false refl u)
line-opens sep byte count MarkOne draft u q fits = absurd (both_ways false refl u)
line-opens sep byte count MarkTwo draft u q fits = absurd (both_ways false refl u)
line-opens sep byte count Record draft u q fits = absurd (both_ways false refl u)
line-opens sep byte count RecordCr draft u q fits = absurd (both_ways false refl u)
line-opens sep byte count (Inside Field) draft u q fits = (tt, λ all more. ap (by_record (records_from sep all) all (count + length (byte ∷ more))) (field-plain sep byte draft more fits q))
line-opens sep byte count (Inside Plain) draft u q fits = (tt, λ all more. refl)
line-opens sep byte count (Inside PlainCr) draft u q fits = absurd (both_ways false refl u)
line-opens sep byte count (Inside Quoted) draft u q fits = absurd (both_ways false refl u)
line-opens sep byte count (Inside QuoteInQuoted) draft u q fits = absurd (both_ways false refl u)
line-opens sep byte count (Inside ClosedCr) draft u q fits = absurd (both_ways false refl u)
line-opens sep byte count (Refused fault) draft u q fits = absurd (both_ways false refl u)

pub fed-line : (old new : Cutter) (byte : ℕ) (bytes : List ℕ) (fields : List (List ℕ)) → in_unquoted old.phase ≡ true → byte ≡ 10 → fields ≡ old.draft.fields ++ (old.draft.field ++ []) ∷ [] → old.count < 65536 → new.sep ≡ old.sep → HasBegun Record new → StandsFor old old.sep bytes → EndsRecord old.sep bytes (byte ∷ []) fields new
fed-line old new byte bytes fields u is e short same begun stands =
    let opens : OpensAs old.phase byte (Read Plain) = λ sep draft count sure fits. line-opens sep byte count old.phase draft u (λ q. omega arith) fits in
    fed-end old new byte bytes Plain EndRecord old.draft fields opens (λ fits more. rw is (plain-at_line_feed old.sep old.draft old.separates more)) refl e short same begun stands

-- the same of a front part of a slice
pub part-goes_on : (sep : ℕ) (before bytes : List ℕ) (size : ℕ) (new : Cutter) (result : Result ℕ CutFault) → IfOk result (λ run. run ≤ length (take size bytes)) → IfOk result (λ run. GoesOn sep before (take run (take size bytes)) [] new) → IfOk result (λ run. GoesOn sep before (take run bytes) [] new)
part-goes_on sep before bytes size new (Err fault) within goes = tt
part-goes_on sep before bytes size new (Ok run) within goes =
    let P : List ℕ → Type 0 = λ piece. GoesOn sep before piece [] new in
    subst P (take-take run size bytes (omega (arith, length-take size bytes))) goes

pub part-within : (bytes : List ℕ) (size : ℕ) (result : Result ℕ CutFault) → IfOk result (λ run. run ≤ length (take size bytes)) → IfOk result (λ run. run ≤ length bytes)
part-within bytes size (Err fault) within = tt
part-within bytes size (Ok run) within = omega (arith, length-take size bytes)
