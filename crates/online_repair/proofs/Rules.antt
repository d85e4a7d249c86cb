-- The rule of a column, and its track.
use Rattle.std.proofs.Common.{◌≡◌, ℕ, zero, suc, ◌+◌, ◌<◌, ◌≤◌, Bool, true, false, not, cond, List, [], ◌∷◌, length, map, refl, sym, ap, ◌∙◌, subst, arith}
use Rattle.std.specs.Prelude.{Some, None, nat_lt, slice_get}
use Rattle.std.specs.List.{AllZip, position_or_len}
use Rattle.std.proofs.lemmas.Bool.Decides.{nat_tests}
use Rattle.std.proofs.lemmas.List.Folds.{find_at}
use Rattle.std.proofs.lemmas.Option.{slice_get_past}
use Rattle.words.proofs.Lists.{all_zip_long}
use Rattle.rule_file.specs.declared.rules.Rules.{Rules}
use Rattle.rule_file.specs.declared.rules.SpeedRule.{SpeedRule}
use Rattle.series_rows.specs.Header.{HeaderView, column_of}
use Rattle.online_repair.specs.Rows.{is_column, rule_in}
use Rattle.online_repair.specs.Sensors.{AreTracksOf, IsTrackOf, passed, place_in}
use Rattle.online_repair.specs.declared.track.Track.{Track}

abbrev names : HeaderView → ℕ → SpeedRule → Bool
names header col rule = is_column col (column_of header rule.sensor)

abbrev is_of : ℕ → Track → Bool
is_of col track = is_column col track.col

same_places_by : (a b : Bool) (m n : ℕ) → a ≡ b → m ≡ n → cond (not a) (1 + m) 0 ≡ cond (not b) (1 + n) 0
same_places_by a b m n e f = ap (λ (x : Bool). cond (not x) (1 + m) 0) e ∙ ap (λ (k : ℕ). cond (not b) (1 + k) 0) f

-- the first rule that names a column has the place of the first track of it
same_places : (rules : Rules) (header : HeaderView) (col : ℕ) (speeds : List SpeedRule) (tracks : List Track) → AllZip (IsTrackOf rules header) speeds tracks → position_or_len (is_of col) tracks ≡ position_or_len (names header col) speeds
same_places rules header col [] [] all = refl
same_places rules header col [] (track ∷ tracks) all = absurd all
same_places rules header col (rule ∷ speeds) [] all = absurd all
same_places rules header col (rule ∷ speeds) (track ∷ tracks) all =
    same_places_by (is_column col track.col) (is_column col (column_of header rule.sensor)) (position_or_len (is_of col) tracks) (position_or_len (names header col) speeds) (ap (is_column col) all.0.col) (same_places rules header col speeds tracks all.1)

-- ---- the place

none_some : (i : ℕ) → None ≡ Some i → ⊥
none_some i e = cc

some_none : (i : ℕ) → Some i ≡ None → ⊥
some_none i e = cc

same_number : (a b : ℕ) → Some a ≡ Some b → a ≡ b
same_number a b e = cc

place_by : (n long i : ℕ) (b : Bool) → nat_lt n long ≡ b → cond b (Some n) None ≡ Some i → n ≡ i
place_by n long i true e place = same_number n i place
place_by n long i false e place = absurd (none_some i place)

place_is : (col : ℕ) (tracks : List Track) (i : ℕ) → place_in col tracks ≡ Some i → position_or_len (is_of col) tracks ≡ i
place_is col tracks i place = place_by (position_or_len (is_of col) tracks) (length tracks) i (nat_lt (position_or_len (is_of col) tracks) (length tracks)) refl place

inside_by : (n long i : ℕ) (b : Bool) → nat_lt n long ≡ b → cond b (Some n) None ≡ Some i → i < long
inside_by n long i true e place = grind (arith, nat_tests, same_number n i place)
inside_by n long i false e place = absurd (none_some i place)

pub place_inside : (col : ℕ) (tracks : List Track) (i : ℕ) → place_in col tracks ≡ Some i → i < length tracks
place_inside col tracks i place = inside_by (position_or_len (is_of col) tracks) (length tracks) i (nat_lt (position_or_len (is_of col) tracks) (length tracks)) refl place

beyond_by : (n long : ℕ) (b : Bool) → nat_lt n long ≡ b → cond b (Some n) None ≡ None → long ≤ n
beyond_by n long true e place = absurd (some_none n place)
beyond_by n long false e place = grind (arith, nat_tests)

beyond_is : (col : ℕ) (tracks : List Track) → place_in col tracks ≡ None → length tracks ≤ position_or_len (is_of col) tracks
beyond_is col tracks place = beyond_by (position_or_len (is_of col) tracks) (length tracks) (nat_lt (position_or_len (is_of col) tracks) (length tracks)) refl place

-- ---- the rule at the place

pub rule_at : (rules : Rules) (header : HeaderView) (col i : ℕ) (tracks : List Track) → AreTracksOf rules header tracks → place_in col tracks ≡ Some i → rule_in rules header col ≡ slice_get rules.speeds i
rule_at rules header col i tracks all place =
    find_at (names header col) rules.speeds
    ∙ ap (slice_get rules.speeds) (sym (same_places rules header col rules.speeds tracks all) ∙ place_is col tracks i place)

pub no_rule : (rules : Rules) (header : HeaderView) (col : ℕ) (tracks : List Track) → AreTracksOf rules header tracks → place_in col tracks ≡ None → rule_in rules header col ≡ None
no_rule rules header col tracks all place =
    let same = same_places rules header col rules.speeds tracks all in
    find_at (names header col) rules.speeds
    ∙ slice_get_past rules.speeds (position_or_len (names header col) rules.speeds) (omega (arith, same, beyond_is col tracks place, all_zip_long (IsTrackOf rules header) rules.speeds tracks all))

pub same_rule : (a b : SpeedRule) → Some a ≡ Some b → a ≡ b
same_rule a b e = cc

pub same_track : (a b : Track) → Some a ≡ Some b → a ≡ b
same_track a b e = cc

pub no_track : (a : Track) → None ≡ Some a → ⊥
no_track a e = cc

-- the rule and the track at one place
pub record HasRule (R : SpeedRule → Track → Type 0) (speeds : List SpeedRule) (i : ℕ) (track : Track) : Type 0 where
  pub rule : SpeedRule
  pub at : slice_get speeds i ≡ Some rule
  pub is : R rule track

pub rule_of_track : (R : SpeedRule → Track → Type 0) (speeds : List SpeedRule) (tracks : List Track) (i : ℕ) (track : Track) → AllZip R speeds tracks → slice_get tracks i ≡ Some track → HasRule R speeds i track
rule_of_track R [] [] i track all at = absurd (no_track track at)
rule_of_track R [] (other ∷ tracks) i track all at = absurd all
rule_of_track R (rule ∷ speeds) [] i track all at = absurd all
rule_of_track R (rule ∷ speeds) (other ∷ tracks) zero track all at =
    let P : Track → Type 0 = λ t. R rule t in
    record { rule = rule; at = refl; is = subst P (same_track other track at) all.0 }
rule_of_track R (rule ∷ speeds) (other ∷ tracks) (suc i) track all at =
    let rest = rule_of_track R speeds tracks i track all.1 at in
    record { rule = rest.rule; at = rest.at; is = rest.is }

-- ---- after the oldest row has left

first_passed : (col : ℕ) (tracks : List Track) → position_or_len (is_of col) (map passed tracks) ≡ position_or_len (is_of col) tracks
first_passed col [] = refl
first_passed col (track ∷ tracks) = ap (λ (n : ℕ). cond (not (is_column col track.col)) (1 + n) 0) (first_passed col tracks)

length_passed : (tracks : List Track) → length (map passed tracks) ≡ length tracks
length_passed [] = refl
length_passed (track ∷ tracks) = omega (arith, length_passed tracks)

pub place_passed : (col : ℕ) (tracks : List Track) → place_in col (map passed tracks) ≡ place_in col tracks
place_passed col tracks =
    ap (λ (n : ℕ). cond (nat_lt n (length (map passed tracks))) (Some n) None) (first_passed col tracks)
    ∙ ap (λ (n : ℕ). cond (nat_lt (position_or_len (is_of col) tracks) n) (Some (position_or_len (is_of col) tracks)) None) (length_passed tracks)

pub slice_get_passed : (tracks : List Track) (i : ℕ) (track : Track) → slice_get tracks i ≡ Some track → slice_get (map passed tracks) i ≡ Some (passed track)
slice_get_passed [] i track at = absurd (no_track track at)
slice_get_passed (other ∷ tracks) zero track at = ap (λ (t : Track). Some (passed t)) (same_track other track at)
slice_get_passed (other ∷ tracks) (suc i) track at = slice_get_passed tracks i track at

some_not_none : (a : Track) → Some a ≡ None → ⊥
some_not_none a e = cc

pub slice_get_passed_none : (tracks : List Track) (i : ℕ) → slice_get tracks i ≡ None → slice_get (map passed tracks) i ≡ None
slice_get_passed_none [] i at = at
slice_get_passed_none (other ∷ tracks) zero at = absurd (some_not_none other at)
slice_get_passed_none (other ∷ tracks) (suc i) at = slice_get_passed_none tracks i at

pub tracks_passed : (rules : Rules) (header : HeaderView) (speeds : List SpeedRule) (tracks : List Track) → AllZip (IsTrackOf rules header) speeds tracks → AllZip (IsTrackOf rules header) speeds (map passed tracks)
tracks_passed rules header [] [] all = tt
tracks_passed rules header [] (track ∷ tracks) all = absurd all
tracks_passed rules header (rule ∷ speeds) [] all = absurd all
tracks_passed rules header (rule ∷ speeds) (track ∷ tracks) all =
    (record { col = all.0.col; span = all.0.span; speed = all.0.speed; room = all.0.room }, tracks_passed rules header speeds tracks all.1)
