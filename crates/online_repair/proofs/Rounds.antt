-- Loops over the readings of a row and over the tracks.
use Rattle.std.proofs.Common.{◌≡◌, ℕ, zero, suc, ◌+◌, ◌<◌, ◌≤◌, Bool, false, cond, ℤ, List, [], ◌∷◌, ◌++◌, length, map, get_or, set, take, drop, refl, sym, ap, ◌∙◌, subst, arith, drop-cons, add-one}
use Rattle.std.specs.Prelude.{Option, Some}
use Rattle.std.specs.List.{AllZip, find}
use Rattle.rule_file.specs.declared.rules.SpeedRule.{SpeedRule}
use Rattle.series_rows.specs.declared.cell.RowReading.{RowReading}
use Rattle.online_repair.specs.Sensors.{all_seen, passed, place_in, seen_at}
use Rattle.online_repair.specs.declared.track.Track.{Track}

-- ---- what was seen

pub see_preserved : (ticks now : ℤ) (readings items : List RowReading) (i : ℕ) (d : RowReading) (tracks new goal : List Track) → items ≡ readings → i < length items → now ≡ ticks → new ≡ seen_at now (place_in (get_or items i d).col tracks) tracks
    → all_seen ticks (drop i readings) tracks ≡ goal → all_seen ticks (drop (i + 1) readings) new ≡ goal
see_preserved ticks now readings items i d tracks new goal e h t is before =
    let A : List RowReading → Type 0 = λ rs. all_seen ticks (drop i rs) tracks ≡ goal in
    let first = subst A (sym e) before in
    let step : all_seen ticks (drop i items) tracks ≡ all_seen ticks (drop (suc i) items) (seen_at ticks (place_in (get_or items i d).col tracks) tracks) = ap (λ (rs : List RowReading). all_seen ticks rs tracks) (drop-cons items i d h) in
    let new_is : new ≡ seen_at ticks (place_in (get_or items i d).col tracks) tracks = is ∙ ap (λ (t : ℤ). seen_at t (place_in (get_or items i d).col tracks) tracks) t in
    ap (λ (n : ℕ). all_seen ticks (drop n readings) new) (add-one i)
    ∙ ap (λ (rs : List RowReading). all_seen ticks (drop (suc i) rs) new) (sym e)
    ∙ ap (λ (ts : List Track). all_seen ticks (drop (suc i) items) ts) new_is
    ∙ sym step
    ∙ first

-- ---- the first reading that passes a test

pub find_preserved : (test : RowReading → Bool) (readings items : List RowReading) (i : ℕ) (d : RowReading) (goal : Option RowReading) → items ≡ readings → i < length items → test (get_or items i d) ≡ false → find test (drop i readings) ≡ goal → find test (drop (i + 1) readings) ≡ goal
find_preserved test readings items i d goal e h missed before =
    let A : List RowReading → Type 0 = λ rs. find test (drop i rs) ≡ goal in
    let first = subst A (sym e) before in
    let x = get_or items i d in
    let step : find test (drop i items) ≡ find test (drop (suc i) items) =
    ap (find test) (drop-cons items i d h) ∙ ap (λ (b : Bool). cond b (Some x) (find test (drop (suc i) items))) missed in
    ap (λ (n : ℕ). find test (drop n readings)) (add-one i)
    ∙ ap (λ (rs : List RowReading). find test (drop (suc i) rs)) (sym e)
    ∙ sym step
    ∙ first

-- ---- tracks of rules

zip_push : (R : SpeedRule → Track → Type 0) (n : ℕ) (rules : List SpeedRule) (tracks : List Track) (d : SpeedRule) (track : Track) → n < length rules → AllZip R (take n rules) tracks → R (get_or rules n d) track → AllZip R (take (suc n) rules) (tracks ++ track ∷ [])
zip_push R zero [] tracks d track h all here = absurd (omega (arith, h))
zip_push R zero (rule ∷ rules) [] d track h all here = (here, tt)
zip_push R zero (rule ∷ rules) (other ∷ tracks) d track h all here = absurd all
zip_push R (suc n) [] tracks d track h all here = absurd (omega (arith, h))
zip_push R (suc n) (rule ∷ rules) [] d track h all here = absurd all
zip_push R (suc n) (rule ∷ rules) (other ∷ tracks) d track h all here = (all.0, zip_push R n rules tracks d track (omega (arith, h)) all.1 here)

pub tracks_preserved : (R : SpeedRule → Track → Type 0) (n : ℕ) (rules items : List SpeedRule) (tracks new : List Track) (d : SpeedRule) (track : Track) → items ≡ rules → n < length items → AllZip R (take n rules) tracks → R (get_or items n d) track → new ≡ tracks ++ track ∷ [] → AllZip R (take (n + 1) rules) new
tracks_preserved R n rules items tracks new d track e h all here is =
    let A : List SpeedRule → Type 0 = λ rs. AllZip R (take n rs) tracks in
    let Z : List Track → Type 0 = λ ts. AllZip R (take (n + 1) rules) ts in
    let N : ℕ → Type 0 = λ k. AllZip R (take k rules) (tracks ++ track ∷ []) in
    let I : List SpeedRule → Type 0 = λ rs. AllZip R (take (suc n) rs) (tracks ++ track ∷ []) in
    subst Z (sym is) (subst N (sym (add-one n)) (subst I e (zip_push R n items tracks d track h (subst A (sym e) all) here)))

-- ---- the tracks after the oldest row has left

abbrev pub mapped : ℕ → List Track → List Track
mapped zero tracks = tracks
mapped (suc n) [] = []
mapped (suc n) (track ∷ tracks) = passed track ∷ mapped n tracks

mapped_step : (n : ℕ) (tracks : List Track) (d : Track) → n < length tracks → set (mapped n tracks) n (passed (get_or (mapped n tracks) n d)) ≡ mapped (suc n) tracks
mapped_step zero [] d h = absurd (omega (arith, h))
mapped_step zero (track ∷ tracks) d h = refl
mapped_step (suc n) [] d h = absurd (omega (arith, h))
mapped_step (suc n) (track ∷ tracks) d h = ap (λ (ts : List Track). passed track ∷ ts) (mapped_step n tracks d (omega (arith, h)))

pub length-mapped : (n : ℕ) (tracks : List Track) → length (mapped n tracks) ≡ length tracks
length-mapped zero tracks = refl
length-mapped (suc n) [] = refl
length-mapped (suc n) (track ∷ tracks) = omega (arith, length-mapped n tracks)

pub mapped_all : (n : ℕ) (tracks : List Track) → length tracks ≤ n → mapped n tracks ≡ map passed tracks
mapped_all zero [] h = refl
mapped_all zero (track ∷ tracks) h = absurd (omega (arith, h))
mapped_all (suc n) [] h = refl
mapped_all (suc n) (track ∷ tracks) h = ap (λ (ts : List Track). passed track ∷ ts) (mapped_all n tracks (omega (arith, h)))

pub passed_preserved : (n : ℕ) (old items new : List Track) (d after : Track) → items ≡ mapped n old → n < length items → after ≡ passed (get_or items n d) → new ≡ set items n after → new ≡ mapped (n + 1) old
passed_preserved n old items new d after e h is set_is =
    set_is
    ∙ ap (λ (t : Track). set items n t) is
    ∙ ap (λ (ts : List Track). set ts n (passed (get_or ts n d))) e
    ∙ mapped_step n old d (omega (arith, h, ap length e, length-mapped n old))
    ∙ sym (ap (λ (k : ℕ). mapped k old) (add-one n))
