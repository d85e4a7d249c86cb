-- Whether the tables of a kind stand at a key, as a test.
use Rattle.std.proofs.Common.{◌≡◌, ℕ, ◌↔◌, Bool, false, ◌||◌, List, ◌∷◌, IsTrue, Contains, sym, ap, ◌∙◌}
use Rattle.std.specs.Str.{bytes_eq}
use Rattle.words.proofs.Texts.{is_among, among_is}
use Rattle.rule_keys.specs.declared.key.TableKind.TheVariants.{Format}
use Rattle.rule_file.specs.Document.{kind_text, rule_kinds, table_texts}

-- where it is not the key of the format
pub known_is : (key : List ℕ) (is_format found : Bool) → is_format ≡ bytes_eq (kind_text Format) key → is_format ≡ false
    → found ≡ is_among kind_text rule_kinds key → IsTrue found ↔ Contains table_texts key
known_is key is_format found is other among =
    let same : is_among kind_text (Format ∷ rule_kinds) key ≡ found = ap (λ b. b || is_among kind_text rule_kinds key) (sym is ∙ other) ∙ sym among in
    let law = among_is kind_text (Format ∷ rule_kinds) key in
    (λ yes. law.0 (same ∙ yes), λ stands. sym same ∙ law.1 stands)
