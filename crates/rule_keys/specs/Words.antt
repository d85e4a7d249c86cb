-- To be believed: the words of a rule file: its keys, and the choices.
use Rattle.std.specs.Prelude.{◌≡◌, ◌⊎◌, ℕ, List, [], ◌∷◌, codes}
use Rattle.fix_point.specs.declared.scale.Extra.TheVariants.{Refuse, Round}
use Rattle.time_text.specs.declared.form.TimeForm.TheVariants.{Sec, Milli, Micro, Nano, Instant, Civil}
use Rattle.rule_keys.specs.declared.key.Chosen.{Chosen}
use Rattle.rule_keys.specs.declared.key.Chosen.TheVariants.{Form, Separator, Extra}
use Rattle.rule_keys.specs.declared.texts.Word.{Word}
use Rattle.rule_keys.specs.declared.key.KeyName.{KeyName}
use Rattle.rule_keys.specs.declared.key.KeyName.TheVariants as key
use Rattle.rule_keys.specs.declared.key.Choice.{Choice}
use Rattle.rule_keys.specs.declared.key.Choice.TheVariants as choice

abbrev pub key_text : KeyName → List ℕ
key_text key.Decimals = codes "decimals"
key_text key.Time = codes "time"
key_text key.Form = codes "form"
key_text key.Separator = codes "separator"
key_text key.Extra = codes "extra"
key_text key.Hold = codes "hold"
key_text key.Sensor = codes "sensor"
key_text key.Min = codes "min"
key_text key.Max = codes "max"
key_text key.Per = codes "per"
key_text key.Window = codes "window"
key_text key.Most = codes "most"
key_text key.Over = codes "over"
key_text key.From = codes "from"
key_text key.To = codes "to"
key_text key.Weight = codes "weight"
key_text key.First = codes "first"
key_text key.Second = codes "second"
key_text key.Price = codes "price"

-- the words that may be chosen, each with what it means
abbrev pub words : Choice → List (List ℕ × Chosen)
words choice.Form =
    (codes "s", Form Sec)
    ∷ (codes "ms", Form Milli)
    ∷ (codes "us", Form Micro)
    ∷ (codes "ns", Form Nano)
    ∷ (codes "instant", Form Instant)
    ∷ (codes "civil", Form Civil)
    ∷ []
words choice.Separator =
    (codes ",", Separator 44) ∷ (codes ";", Separator 59) ∷ (9 ∷ [], Separator 9) ∷ (codes "|", Separator 124) ∷ []
words choice.Extra = (codes "refuse", Extra Refuse) ∷ (codes "round", Extra Round) ∷ []

-- one of the words has this text, and means this
abbrev pub Means : List (List ℕ × Chosen) → List ℕ → Chosen → Type 0
Means [] text chosen = ⊥
Means (word ∷ others) text chosen = ((text ≡ word.0) × (chosen ≡ word.1)) ⊎ Means others text chosen

-- a word of the code, without where its text lies in memory
abbrev pub seen_word : Word → List ℕ × Chosen
seen_word word = (word.text.now, word.means)
