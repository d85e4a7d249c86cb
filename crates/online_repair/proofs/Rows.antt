-- The readings of a row are repaired one after the other.
use Rattle.std.proofs.Common.{◌≡◌, ℕ, ◌+◌, ◌<◌, ◌≤◌, ℤ, List, [], ◌∷◌, ◌++◌, length, get_or, drop, refl, sym, ap, ◌∙◌, subst, drop-cons, add-one, append_assoc, append-nil}
use Rattle.std.specs.List.{AllByRecursion}
use Rattle.std.proofs.lemmas.List.{drop_all}
use Rattle.series_rows.specs.Row.{RowView, Rise, columns}
use Rattle.series_rows.specs.declared.cell.RowReading.{RowReading}
use Rattle.online_repair.specs.Sensors.{IsReady, Repairs, RepairsRow, key_of, place_in}
use Rattle.online_repair.specs.declared.track.Track.{Track}
use Rattle.online_repair.proofs.Columns.{all_ready_after, changed, columns_after}

drop_at : (readings items : List RowReading) (i : ℕ) (d : RowReading) → items ≡ readings → i < length items → drop i readings ≡ get_or items i d ∷ drop (i + 1) readings
drop_at readings items i d e h =
    let D : List RowReading → Type 0 = λ rs. drop i rs ≡ get_or items i d ∷ drop (i + 1) rs in
    let N : ℕ → Type 0 = λ n. drop i items ≡ get_or items i d ∷ drop n items in
    subst D e (subst N (sym (add-one i)) (drop-cons items i d h))

-- the next reading is ready
pub next_ready : (tracks : List Track) (held : List RowView) (ticks now : ℤ) (readings items : List RowReading) (i : ℕ) (d : RowReading) → items ≡ readings → i < length items → now ≡ ticks → AllByRecursion (IsReady tracks held ticks) (drop i readings) → IsReady tracks held now (get_or items i d)
next_ready tracks held ticks now readings items i d e h t ready =
    let A : List RowReading → Type 0 = λ rs. AllByRecursion (IsReady tracks held ticks) rs in
    let T : ℤ → Type 0 = λ z. IsReady tracks held z (get_or items i d) in
    subst T (sym t) (subst A (drop_at readings items i d e h) ready).0

-- and those after it still are when it has been repaired
pub ready_preserved : (old new : List Track) (held : List RowView) (ticks now : ℤ) (readings items : List RowReading) (i : ℕ) (d : RowReading) (value : ℤ) (last : ℕ) → items ≡ readings → i < length items → now ≡ ticks → Rise 0 (columns items) last
    → Repairs (place_in (get_or items i d).col old) old new (get_or items i d).col (key_of (get_or items i d) now) held value → AllByRecursion (IsReady old held ticks) (drop i readings) → AllByRecursion (IsReady new held ticks) (drop (i + 1) readings)
ready_preserved old new held ticks now readings items i d value last e h t rise repairs ready =
    let reading = get_or items i d in
    let A : List RowReading → Type 0 = λ rs. AllByRecursion (IsReady old held ticks) rs in
    let C : List RowReading → Type 0 = λ rs. AllByRecursion (λ (other : RowReading). reading.col < other.col) (drop (i + 1) rs) in
    let N : ℕ → Type 0 = λ n. AllByRecursion (λ (other : RowReading). reading.col < other.col) (drop n items) in
    let rest = (subst A (drop_at readings items i d e h) ready).1 in
    let later = subst C e (subst N (sym (add-one i)) (columns_after 0 last items i d rise h)) in
    all_ready_after reading.col old new held ticks (drop (i + 1) readings) (changed reading.col old new (key_of reading now) held value repairs) later rest

-- what is left to do, and what has been done
abbrev pub Continues : ℤ → List RowView → List RowReading → List RowReading → List Track → List Track → List ℤ → Type 0
Continues ticks held readings left start tracks values =
    (final : List Track) (others : List ℤ) → RepairsRow ticks held left tracks final others → RepairsRow ticks held readings start final (values ++ others)

pub row_preserved : (start old new : List Track) (held : List RowView) (ticks now : ℤ) (readings items : List RowReading) (i : ℕ) (d : RowReading) (value stored : ℤ) (values more : List ℤ) → items ≡ readings → i < length items → now ≡ ticks → stored ≡ value
    → Repairs (place_in (get_or items i d).col old) old new (get_or items i d).col (key_of (get_or items i d) now) held value → more ≡ values ++ stored ∷ []
    → Continues ticks held readings (drop i readings) start old values → Continues ticks held readings (drop (i + 1) readings) start new more
row_preserved start old new held ticks now readings items i d value stored values more e h t same repairs is before final others rest =
    let reading = get_or items i d in
    let K : ℤ → Type 0 = λ z. Repairs (place_in reading.col old) old new reading.col (key_of reading z) held value in
    let R : List RowReading → Type 0 = λ rs. RepairsRow ticks held rs old final (value ∷ others) in
    let whole = before final (value ∷ others) (subst R (sym (drop_at readings items i d e h)) (new, value, others, subst K t repairs, rest, refl)) in
    let V : List ℤ → Type 0 = λ vs. RepairsRow ticks held readings start final vs in
    let values_are : values ++ value ∷ others ≡ more ++ others =
    sym (append_assoc values (value ∷ []) others) ∙ ap (λ (z : ℤ). (values ++ z ∷ []) ++ others) (sym same) ∙ ap (λ (vs : List ℤ). vs ++ others) (sym is) in
    subst V values_are whole

pub row_done : (start tracks : List Track) (held : List RowView) (ticks : ℤ) (readings : List RowReading) (i : ℕ) (values : List ℤ) → length readings ≤ i → Continues ticks held readings (drop i readings) start tracks values → RepairsRow ticks held readings start tracks values
row_done start tracks held ticks readings i values h before =
    let R : List RowReading → Type 0 = λ rs. RepairsRow ticks held rs tracks tracks [] in
    let V : List ℤ → Type 0 = λ vs. RepairsRow ticks held readings start tracks vs in
    subst V (append-nil values) (before tracks [] (subst R (sym (drop_all i readings h)) (refl, refl)))

pub row_begun : (start tracks : List Track) (held : List RowView) (ticks : ℤ) (readings : List RowReading) (values : List ℤ) → tracks ≡ start → values ≡ [] → Continues ticks held readings readings start tracks values
row_begun start tracks held ticks readings values e f final others rest =
    let T : List Track → Type 0 = λ ts. RepairsRow ticks held readings ts final others in
    let V : List ℤ → Type 0 = λ vs. RepairsRow ticks held readings start final (vs ++ others) in
    subst V (sym f) (subst T e rest)
