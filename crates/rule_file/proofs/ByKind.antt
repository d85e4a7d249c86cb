-- What holds of all that was read holds of what was read of each kind, and all kinds together have no more.
use Rattle.std.proofs.Common.{◌+◌, ◌≤◌, List, [], ◌∷◌, length, arith}
use Rattle.std.specs.List.{AllByRecursion}
use Rattle.rule_keys.specs.declared.key.TableKind.{TableKind}
use Rattle.rule_keys.specs.declared.key.TableKind.TheVariants.{Format, Speed, Swing, Drift, Range, Trust, Weight, Between}
use Rattle.rule_file.specs.Meaning.{Entries, of_kind}

pub of_speeds : (P : TableKind → Entries → Type 0) (read : List (TableKind × Entries)) → AllByRecursion (λ rule. P rule.0 rule.1) read → AllByRecursion (P Speed) (of_kind Speed read)
of_speeds P [] all = tt
of_speeds P ((Speed, entries) ∷ read) all = (all.0, of_speeds P read all.1)
of_speeds P ((_, entries) ∷ read) all = of_speeds P read all.1

pub of_swings : (P : TableKind → Entries → Type 0) (read : List (TableKind × Entries)) → AllByRecursion (λ rule. P rule.0 rule.1) read → AllByRecursion (P Swing) (of_kind Swing read)
of_swings P [] all = tt
of_swings P ((Swing, entries) ∷ read) all = (all.0, of_swings P read all.1)
of_swings P ((_, entries) ∷ read) all = of_swings P read all.1

pub of_drifts : (P : TableKind → Entries → Type 0) (read : List (TableKind × Entries)) → AllByRecursion (λ rule. P rule.0 rule.1) read → AllByRecursion (P Drift) (of_kind Drift read)
of_drifts P [] all = tt
of_drifts P ((Drift, entries) ∷ read) all = (all.0, of_drifts P read all.1)
of_drifts P ((_, entries) ∷ read) all = of_drifts P read all.1

pub of_ranges : (P : TableKind → Entries → Type 0) (read : List (TableKind × Entries)) → AllByRecursion (λ rule. P rule.0 rule.1) read → AllByRecursion (P Range) (of_kind Range read)
of_ranges P [] all = tt
of_ranges P ((Range, entries) ∷ read) all = (all.0, of_ranges P read all.1)
of_ranges P ((_, entries) ∷ read) all = of_ranges P read all.1

pub of_trusts : (P : TableKind → Entries → Type 0) (read : List (TableKind × Entries)) → AllByRecursion (λ rule. P rule.0 rule.1) read → AllByRecursion (P Trust) (of_kind Trust read)
of_trusts P [] all = tt
of_trusts P ((Trust, entries) ∷ read) all = (all.0, of_trusts P read all.1)
of_trusts P ((_, entries) ∷ read) all = of_trusts P read all.1

pub of_weights : (P : TableKind → Entries → Type 0) (read : List (TableKind × Entries)) → AllByRecursion (λ rule. P rule.0 rule.1) read → AllByRecursion (P Weight) (of_kind Weight read)
of_weights P [] all = tt
of_weights P ((Weight, entries) ∷ read) all = (all.0, of_weights P read all.1)
of_weights P ((_, entries) ∷ read) all = of_weights P read all.1

pub of_betweens : (P : TableKind → Entries → Type 0) (read : List (TableKind × Entries)) → AllByRecursion (λ rule. P rule.0 rule.1) read → AllByRecursion (P Between) (of_kind Between read)
of_betweens P [] all = tt
of_betweens P ((Between, entries) ∷ read) all = (all.0, of_betweens P read all.1)
of_betweens P ((_, entries) ∷ read) all = of_betweens P read all.1

pub no_more : (read : List (TableKind × Entries))
    → length (of_kind Speed read) + length (of_kind Swing read) + length (of_kind Drift read) + length (of_kind Range read) + length (of_kind Trust read)
    + length (of_kind Weight read) + length (of_kind Between read)
    ≤ length read
no_more [] = omega arith
no_more ((Format, entries) ∷ read) = omega (arith, no_more read)
no_more ((Speed, entries) ∷ read) = omega (arith, no_more read)
no_more ((Swing, entries) ∷ read) = omega (arith, no_more read)
no_more ((Drift, entries) ∷ read) = omega (arith, no_more read)
no_more ((Range, entries) ∷ read) = omega (arith, no_more read)
no_more ((Trust, entries) ∷ read) = omega (arith, no_more read)
no_more ((Weight, entries) ∷ read) = omega (arith, no_more read)
no_more ((Between, entries) ∷ read) = omega (arith, no_more read)
