-- To be believed: the strict order of set lines.
use Rattle.std.specs.Prelude.{ℕ, List}
use Rattle.screen_model.specs.Order.{place_key}
use Rattle.cert_format.specs.declared.cert.SetLine.{SetLine}

abbrev pub set_key : SetLine → List ℕ
set_key line = place_key line.place
