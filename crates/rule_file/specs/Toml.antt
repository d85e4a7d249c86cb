-- To be believed: which bytes are a TOML document, and of which table: as the crate `toml` states it.
use Rattle.std.specs.Prelude.{◌≡◌, ℕ, List, Some, IsUtf8}
use Rattle.toml.specs.Data.{Members}
use Rattle.toml.specs.Parse.{parse_document}

pub record IsToml (bytes : List ℕ) (table : Members) : Type 0 where
  pub text : IsUtf8 bytes
  pub parsed : parse_document bytes ≡ Some table
