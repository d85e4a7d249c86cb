-- The rules so far, with one more.
use Rattle.std.proofs.Common.{◌≡◌, true, false, cond, ◌==◌, List, [], ◌∷◌, ◌++◌, map, ap, refl, append-nil}
use Rattle.std.specs.List.{AllZip, filter}
use Rattle.std.proofs.lemmas.Slice.Zip.{all_zipped_more}
use Rattle.rule_keys.specs.declared.key.TableKind.{TableKind}
use Rattle.rule_keys.specs.declared.key.TableKind.TheVariants.{Speed, Swing, Drift, Range, Trust, Weight, Between}
use Rattle.rule_file.specs.declared.rules.SpeedRule.{SpeedRule}
use Rattle.rule_file.specs.declared.rules.SwingRule.{SwingRule}
use Rattle.rule_file.specs.declared.rules.DriftRule.{DriftRule}
use Rattle.rule_file.specs.declared.rules.RangeRule.{RangeRule}
use Rattle.rule_file.specs.declared.rules.TrustRule.{TrustRule}
use Rattle.rule_file.specs.declared.rules.WeightRule.{WeightRule}
use Rattle.rule_file.specs.declared.rules.BetweenRule.{BetweenRule}
use Rattle.rule_file.specs.declared.draft.Draft.{Draft}
use Rattle.rule_file.specs.Draft.{AreDraftOf}
use Rattle.rule_file.specs.Meaning.{Entries, kind_number, of_kind, IsSpeed, IsSwing, IsDrift, IsRange, IsTrust, IsWeight, IsBetween}

pub of_kind_push : (kind other : TableKind) (read : List (TableKind × Entries)) (entries : Entries)
    → of_kind kind (read ++ (other, entries) ∷ []) ≡ of_kind kind read ++ cond (kind_number kind == kind_number other) (entries ∷ []) []
of_kind_push kind other [] entries =
    elim (kind_number kind == kind_number other) as (λ b. map (λ (rule : TableKind × Entries). rule.1) (cond b ((other, entries) ∷ []) []) ≡ cond b (entries ∷ []) [])
    [ true ↦ refl | false ↦ refl ]
of_kind_push kind other (rule ∷ read) entries =
    let more = of_kind_push kind other read entries in
    elim (kind_number kind == kind_number rule.0) as
    (λ b. map (λ (r : TableKind × Entries). r.1) (cond b (rule ∷ filter (λ r. kind_number kind == kind_number r.0) (read ++ (other, entries) ∷ [])) (filter (λ r. kind_number kind == kind_number r.0) (read ++ (other, entries) ∷ [])))
    ≡ map (λ (r : TableKind × Entries). r.1) (cond b (rule ∷ filter (λ r. kind_number kind == kind_number r.0) read) (filter (λ r. kind_number kind == kind_number r.0) read)) ++ cond (kind_number kind == kind_number other) (entries ∷ []) [])
    [ true ↦ ap (λ rest. rule.1 ∷ rest) more | false ↦ more ]

-- a rule of the kind comes to its end
pub pushed_here : {R : Type 0} (Is : Entries → R → Type 0) (kind other : TableKind) (read : List (TableKind × Entries)) (entries : Entries) (rules : List R) (rule : R)
    → (kind_number kind == kind_number other) ≡ true → AllZip Is (of_kind kind read) rules → Is entries rule
    → AllZip Is (of_kind kind (read ++ (other, entries) ∷ [])) (rules ++ rule ∷ [])
pushed_here Is kind other read entries rules rule same all is =
    rw (of_kind_push kind other read entries, same) (all_zipped_more Is (of_kind kind read) rules entries rule all is)

-- one of another kind changes nothing
pub pushed_elsewhere : {R : Type 0} (Is : Entries → R → Type 0) (kind other : TableKind) (read : List (TableKind × Entries)) (entries : Entries) (rules : List R)
    → (kind_number kind == kind_number other) ≡ false → AllZip Is (of_kind kind read) rules → AllZip Is (of_kind kind (read ++ (other, entries) ∷ [])) rules
pushed_elsewhere Is kind other read entries rules apart all =
    rw (of_kind_push kind other read entries, apart, append-nil) all

pub push_speed : (kind : TableKind) (read : List (TableKind × Entries)) (entries : Entries) (old : Draft) (rules : List SpeedRule) (rule : SpeedRule)
    → kind ≡ Speed → IsSpeed entries rule → rules ≡ old.speeds ++ rule ∷ [] → AreDraftOf read old → AreDraftOf (read ++ (kind, entries) ∷ []) (record old { speeds = rules })
push_speed kind read entries old rules rule is means pushed kept =
    rw (is, pushed)
    (record {
      speeds = pushed_here IsSpeed Speed Speed read entries old.speeds rule refl kept.speeds means;
      swings = pushed_elsewhere IsSwing Swing Speed read entries old.swings refl kept.swings;
      drifts = pushed_elsewhere IsDrift Drift Speed read entries old.drifts refl kept.drifts;
      ranges = pushed_elsewhere IsRange Range Speed read entries old.ranges refl kept.ranges;
      trusts = pushed_elsewhere IsTrust Trust Speed read entries old.trusts refl kept.trusts;
      weights = pushed_elsewhere IsWeight Weight Speed read entries old.weights refl kept.weights;
      betweens = pushed_elsewhere IsBetween Between Speed read entries old.betweens refl kept.betweens;
    })

pub push_swing : (kind : TableKind) (read : List (TableKind × Entries)) (entries : Entries) (old : Draft) (rules : List SwingRule) (rule : SwingRule)
    → kind ≡ Swing → IsSwing entries rule → rules ≡ old.swings ++ rule ∷ [] → AreDraftOf read old → AreDraftOf (read ++ (kind, entries) ∷ []) (record old { swings = rules })
push_swing kind read entries old rules rule is means pushed kept =
    rw (is, pushed)
    (record {
      speeds = pushed_elsewhere IsSpeed Speed Swing read entries old.speeds refl kept.speeds;
      swings = pushed_here IsSwing Swing Swing read entries old.swings rule refl kept.swings means;
      drifts = pushed_elsewhere IsDrift Drift Swing read entries old.drifts refl kept.drifts;
      ranges = pushed_elsewhere IsRange Range Swing read entries old.ranges refl kept.ranges;
      trusts = pushed_elsewhere IsTrust Trust Swing read entries old.trusts refl kept.trusts;
      weights = pushed_elsewhere IsWeight Weight Swing read entries old.weights refl kept.weights;
      betweens = pushed_elsewhere IsBetween Between Swing read entries old.betweens refl kept.betweens;
    })

pub push_drift : (kind : TableKind) (read : List (TableKind × Entries)) (entries : Entries) (old : Draft) (rules : List DriftRule) (rule : DriftRule)
    → kind ≡ Drift → IsDrift entries rule → rules ≡ old.drifts ++ rule ∷ [] → AreDraftOf read old → AreDraftOf (read ++ (kind, entries) ∷ []) (record old { drifts = rules })
push_drift kind read entries old rules rule is means pushed kept =
    rw (is, pushed)
    (record {
      speeds = pushed_elsewhere IsSpeed Speed Drift read entries old.speeds refl kept.speeds;
      swings = pushed_elsewhere IsSwing Swing Drift read entries old.swings refl kept.swings;
      drifts = pushed_here IsDrift Drift Drift read entries old.drifts rule refl kept.drifts means;
      ranges = pushed_elsewhere IsRange Range Drift read entries old.ranges refl kept.ranges;
      trusts = pushed_elsewhere IsTrust Trust Drift read entries old.trusts refl kept.trusts;
      weights = pushed_elsewhere IsWeight Weight Drift read entries old.weights refl kept.weights;
      betweens = pushed_elsewhere IsBetween Between Drift read entries old.betweens refl kept.betweens;
    })

pub push_range : (kind : TableKind) (read : List (TableKind × Entries)) (entries : Entries) (old : Draft) (rules : List RangeRule) (rule : RangeRule)
    → kind ≡ Range → IsRange entries rule → rules ≡ old.ranges ++ rule ∷ [] → AreDraftOf read old → AreDraftOf (read ++ (kind, entries) ∷ []) (record old { ranges = rules })
push_range kind read entries old rules rule is means pushed kept =
    rw (is, pushed)
    (record {
      speeds = pushed_elsewhere IsSpeed Speed Range read entries old.speeds refl kept.speeds;
      swings = pushed_elsewhere IsSwing Swing Range read entries old.swings refl kept.swings;
      drifts = pushed_elsewhere IsDrift Drift Range read entries old.drifts refl kept.drifts;
      ranges = pushed_here IsRange Range Range read entries old.ranges rule refl kept.ranges means;
      trusts = pushed_elsewhere IsTrust Trust Range read entries old.trusts refl kept.trusts;
      weights = pushed_elsewhere IsWeight Weight Range read entries old.weights refl kept.weights;
      betweens = pushed_elsewhere IsBetween Between Range read entries old.betweens refl kept.betweens;
    })

pub push_trust : (kind : TableKind) (read : List (TableKind × Entries)) (entries : Entries) (old : Draft) (rules : List TrustRule) (rule : TrustRule)
    → kind ≡ Trust → IsTrust entries rule → rules ≡ old.trusts ++ rule ∷ [] → AreDraftOf read old → AreDraftOf (read ++ (kind, entries) ∷ []) (record old { trusts = rules })
push_trust kind read entries old rules rule is means pushed kept =
    rw (is, pushed)
    (record {
      speeds = pushed_elsewhere IsSpeed Speed Trust read entries old.speeds refl kept.speeds;
      swings = pushed_elsewhere IsSwing Swing Trust read entries old.swings refl kept.swings;
      drifts = pushed_elsewhere IsDrift Drift Trust read entries old.drifts refl kept.drifts;
      ranges = pushed_elsewhere IsRange Range Trust read entries old.ranges refl kept.ranges;
      trusts = pushed_here IsTrust Trust Trust read entries old.trusts rule refl kept.trusts means;
      weights = pushed_elsewhere IsWeight Weight Trust read entries old.weights refl kept.weights;
      betweens = pushed_elsewhere IsBetween Between Trust read entries old.betweens refl kept.betweens;
    })

pub push_weight : (kind : TableKind) (read : List (TableKind × Entries)) (entries : Entries) (old : Draft) (rules : List WeightRule) (rule : WeightRule)
    → kind ≡ Weight → IsWeight entries rule → rules ≡ old.weights ++ rule ∷ [] → AreDraftOf read old → AreDraftOf (read ++ (kind, entries) ∷ []) (record old { weights = rules })
push_weight kind read entries old rules rule is means pushed kept =
    rw (is, pushed)
    (record {
      speeds = pushed_elsewhere IsSpeed Speed Weight read entries old.speeds refl kept.speeds;
      swings = pushed_elsewhere IsSwing Swing Weight read entries old.swings refl kept.swings;
      drifts = pushed_elsewhere IsDrift Drift Weight read entries old.drifts refl kept.drifts;
      ranges = pushed_elsewhere IsRange Range Weight read entries old.ranges refl kept.ranges;
      trusts = pushed_elsewhere IsTrust Trust Weight read entries old.trusts refl kept.trusts;
      weights = pushed_here IsWeight Weight Weight read entries old.weights rule refl kept.weights means;
      betweens = pushed_elsewhere IsBetween Between Weight read entries old.betweens refl kept.betweens;
    })

pub push_between : (kind : TableKind) (read : List (TableKind × Entries)) (entries : Entries) (old : Draft) (rules : List BetweenRule) (rule : BetweenRule)
    → kind ≡ Between → IsBetween entries rule → rules ≡ old.betweens ++ rule ∷ [] → AreDraftOf read old → AreDraftOf (read ++ (kind, entries) ∷ []) (record old { betweens = rules })
push_between kind read entries old rules rule is means pushed kept =
    rw (is, pushed)
    (record {
      speeds = pushed_elsewhere IsSpeed Speed Between read entries old.speeds refl kept.speeds;
      swings = pushed_elsewhere IsSwing Swing Between read entries old.swings refl kept.swings;
      drifts = pushed_elsewhere IsDrift Drift Between read entries old.drifts refl kept.drifts;
      ranges = pushed_elsewhere IsRange Range Between read entries old.ranges refl kept.ranges;
      trusts = pushed_elsewhere IsTrust Trust Between read entries old.trusts refl kept.trusts;
      weights = pushed_elsewhere IsWeight Weight Between read entries old.weights refl kept.weights;
      betweens = pushed_here IsBetween Between Between read entries old.betweens rule refl kept.betweens means;
    })
