-- For proofs: whether one of some rules names a sensor.
use Rattle.std.specs.Prelude.{ℕ, Bool, List, bytes_eq}
use Rattle.std.specs.List.{list_any}
use Rattle.rule_file.specs.declared.rules.SpeedRule.{SpeedRule}

abbrev pub is_named : List ℕ → List SpeedRule → Bool
is_named sensor speeds = list_any (λ (rule : SpeedRule). bytes_eq sensor rule.sensor) speeds
