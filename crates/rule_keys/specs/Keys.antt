-- To be believed: the keys of each table, in the order in which they are looked at, and the checks that follow.
use Rattle.std.specs.Prelude.{pos, neg_ℤ, List, [], ◌∷◌, ◌++◌}
use Rattle.fix_point.specs.declared.scale.Extra.TheVariants as extra
use Rattle.fix_point.specs.declared.scale.TheConstants.{MOST_UNITS}
use Rattle.fix_point.specs.declared.rate.TheConstants.{MOST_PER}
use Rattle.time_text.specs.declared.form.TimeForm.TheVariants.{Sec}
use Rattle.time_text.specs.declared.form.TheConstants.{MOST_TICKS}
use Rattle.rule_keys.specs.declared.key.TableKind.{TableKind}
use Rattle.rule_keys.specs.declared.key.TableKind.TheVariants as table
use Rattle.rule_keys.specs.declared.key.KeyName.{KeyName}
use Rattle.rule_keys.specs.declared.key.KeyName.TheVariants.{Decimals, Time, Form, Separator, Extra, Hold, Sensor, Min, Max, Per, Window, Most, Over, From, To, Weight, First, Second, Price}
use Rattle.rule_keys.specs.declared.key.Kind.{Kind}
use Rattle.rule_keys.specs.declared.key.Kind.TheVariants.{Whole, Value, Amount, Rate, Span, Moment, Name, Word}
use Rattle.rule_keys.specs.declared.key.Choice.TheVariants as choice
use Rattle.rule_keys.specs.declared.key.Chosen.TheVariants as chosen
use Rattle.rule_keys.specs.declared.key.Absent.{Absent}
use Rattle.rule_keys.specs.declared.key.Absent.TheVariants.{Refused, Number, Chosen, Nothing}
use Rattle.rule_keys.specs.declared.key.Check.{Check}
use Rattle.rule_keys.specs.declared.key.Check.TheVariants.{Order, Reach, Differ}
use Rattle.rule_keys.specs.declared.key.Key.{Key}
use Rattle.rule_keys.specs.declared.limits.TheConstants.{MOST_DECIMALS, MOST_HOLD, MOST_WEIGHT, MOST_PRICE}

abbrev pub key_of : KeyName → Kind → Absent → Key
key_of name kind absent = record { name = name; kind = kind; absent = absent }

-- the rates of a speed or a drift rule
abbrev pub rate_keys : List Key
rate_keys = key_of Min Rate Refused ∷ key_of Max Rate Refused ∷ key_of Per (Whole 1 MOST_PER) (Number (pos 1)) ∷ []

-- the time in which a rule holds: all time, where nothing is said
abbrev pub period_keys : List Key
period_keys = key_of From Moment (Number (neg_ℤ MOST_TICKS)) ∷ key_of To Moment (Number MOST_TICKS) ∷ []

-- what a unit beyond a bound of the rule costs, which a rule may do without
abbrev pub price_key : Key
price_key = key_of Price (Whole 1 MOST_PRICE) Nothing

abbrev pub keys_of : TableKind → List Key
keys_of table.Format =
    key_of Decimals (Whole 0 MOST_DECIMALS) Refused
    ∷ key_of Time Name Nothing
    ∷ key_of Form (Word choice.Form) (Chosen (chosen.Form Sec))
    ∷ key_of Separator (Word choice.Separator) (Chosen (chosen.Separator 44))
    ∷ key_of Extra (Word choice.Extra) (Chosen (chosen.Extra extra.Refuse))
    ∷ key_of Hold (Whole 1 MOST_HOLD) (Number (pos 4096))
    ∷ []
keys_of table.Speed = key_of Sensor Name Refused ∷ rate_keys ++ key_of Window Span Refused ∷ price_key ∷ []
keys_of table.Swing = key_of Sensor Name Refused ∷ key_of Most Amount Refused ∷ key_of Window Span Refused ∷ price_key ∷ []
keys_of table.Drift = key_of Sensor Name Refused ∷ rate_keys ++ key_of Over Span Refused ∷ key_of Window Span Refused ∷ price_key ∷ []
keys_of table.Range =
    key_of Sensor Name Refused
    ∷ key_of Min Value (Number (neg_ℤ MOST_UNITS))
    ∷ key_of Max Value (Number MOST_UNITS)
    ∷ period_keys ++ price_key ∷ []
keys_of table.Trust = key_of Sensor Name Refused ∷ period_keys
keys_of table.Weight = key_of Sensor Name Refused ∷ key_of Weight (Whole 1 MOST_WEIGHT) Refused ∷ period_keys
keys_of table.Between =
    key_of First Name Refused ∷ key_of Second Name Refused ∷ key_of Min Value Refused ∷ key_of Max Value Refused ∷ price_key ∷ []

abbrev pub checks_of : TableKind → List Check
checks_of table.Format = []
checks_of table.Speed = Order Min Max ∷ Reach Min ∷ Reach Max ∷ []
checks_of table.Swing = []
checks_of table.Drift = Order Min Max ∷ Order Over Window ∷ Reach Min ∷ Reach Max ∷ []
checks_of table.Range = Order Min Max ∷ Order From To ∷ []
checks_of table.Trust = Order From To ∷ []
checks_of table.Weight = Order From To ∷ []
checks_of table.Between = Order Min Max ∷ Differ First Second ∷ []
