-- Words of commands, by how many they are.
use Rattle.std.proofs.Common.{◌≡◌, ◌≤◌, ◌<◌, List, [], ◌∷◌, length, slice_index_or, refl, arith}
use Rattle.std.specs.Prelude.{String, string_bytes}
use Rattle.std.specs.declared.alloc.Global.{Global as Heap}
use Rattle.screen_words.specs.Command.{command_of, file_command, stream_command, texts}

pub four : (words : List (String Heap)) (other : String Heap) → 4 ≤ length words → length words < 5 → file_command (string_bytes (slice_index_or words 0 other)) ≡ command_of (texts words)
four [] other many few = absurd (omega (arith, many))
four (a ∷ []) other many few = absurd (omega (arith, many))
four (a ∷ b ∷ []) other many few = absurd (omega (arith, many))
four (a ∷ b ∷ c ∷ []) other many few = absurd (omega (arith, many))
four (a ∷ b ∷ c ∷ d ∷ []) other many few = refl
four (a ∷ b ∷ c ∷ d ∷ e ∷ words) other many few = absurd (omega (arith, few))

pub two : (words : List (String Heap)) (other : String Heap) → 2 ≤ length words → length words < 3 → stream_command (string_bytes (slice_index_or words 0 other)) ≡ command_of (texts words)
two [] other many few = absurd (omega (arith, many))
two (a ∷ []) other many few = absurd (omega (arith, many))
two (a ∷ b ∷ []) other many few = refl
two (a ∷ b ∷ c ∷ words) other many few = absurd (omega (arith, few))
