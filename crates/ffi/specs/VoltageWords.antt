-- Settings, levels and the answers of the voltages and of the setting finder as words.
use Rattle.std.specs.Prelude.{ℕ, ◌^◌, Bool, List, [], ◌∷◌, ◌≡◌, ℤ, get_or, Option, Some, None, Result}
use Rattle.checks.specs.Checks.{numbered}
use Rattle.voltage.specs.declared.Settings.{Settings}
use Rattle.voltage.specs.declared.Supply.{Supply}
use Rattle.voltage.specs.declared.LcdVoltages.{LcdVoltages}
use Rattle.voltage.specs.declared.check.Refusal.{Refusal}
use Rattle.voltage.specs.declared.finder.Pair.{Pair}
use Rattle.voltage.specs.Check.{number}
use Rattle.voltage.specs.Finder.{Says}
use Rattle.ffi.specs.Words.{status, stored, optional_two}

-- the settings of eight bytes
abbrev pub settings_of : List ℕ → Settings
settings_of b = record {
  contrast = get_or b 0 0;
  regulator = get_or b 1 0;
  power_control = get_or b 2 0;
  booster = get_or b 3 0;
  bias = get_or b 4 0;
  temperature_slope = get_or b 5 0;
  contrast_trim = get_or b 6 0;
  otp_control = get_or b 7 0;
}

abbrev pub supply_of : ℕ → ℤ → Bool → Bool → Supply
supply_of millivolts temperature power_save waiting = record {
  supply_millivolts = millivolts;
  temperature_millicelsius = temperature;
  power_save = power_save;
  waiting = waiting;
}

-- a level, or that of an electrode: its microvolts, or 2^32, which no level has, where it is absent
abbrev pub level_word : Option ℕ → ℕ
level_word None = 2 ^ 32
level_word (Some v) = v

abbrev pub voltage_words : LcdVoltages → List ℕ
voltage_words v =
    v.target
    ∷ level_word v.pump
    ∷ level_word v.v0
    ∷ level_word v.v1
    ∷ level_word v.v2
    ∷ level_word v.v3
    ∷ level_word v.v4
    ∷ []

abbrev pub two_words : Pair → List ℕ
two_words p = p.regulator ∷ p.contrast ∷ []

-- what a finder found: whether there is a pair, then its regulator and contrast
abbrev pub pair_words : Option Pair → List ℕ
pair_words = optional_two two_words

-- the number and the words of an answer of which the finder's rule holds
pub record FinderAnswers (s : Settings) (temperature : ℤ) (low high : ℕ) (before : List ℕ) (result : ℕ) (after : List ℕ) : Type 0 where
  pub found : Result (Option Pair) Refusal
  pub says : Says s temperature low high found
  pub answers : result ≡ status (numbered number found)
  pub leaves : after ≡ stored pair_words (numbered number found) before
