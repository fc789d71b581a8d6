-- Document 01, 'Where a call is turned down', number 3: the conditions of `validate` on the settings that the voltages read.
use Rattle.std.specs.Prelude.{ℕ, ◌/◌, ◌%◌, ◌^◌, Bool, not, ◌&&◌, leb, eqb, Option}
use Rattle.checks.specs.Checks.{row}
use Rattle.voltage.specs.declared.Settings.{Settings}
use Rattle.voltage.specs.declared.check.Refusal.{Refusal}

-- the number of each refusal
abbrev pub number : Refusal → ℕ
number Refusal.Settings = 3

-- n has bit k
abbrev pub has_bit : ℕ → ℕ → Bool
has_bit n k = eqb (n / 2 ^ k % 2) 1

-- `validate`'s `booster & !11 == 0`: the booster has no other bits than 0, 1 and 3
abbrev pub valid_booster : ℕ → Bool
valid_booster b = leb b 11 && not (has_bit b 2)

-- `validate`, of these settings
unfoldable pub valid_settings : Settings → Bool
valid_settings s =
    leb s.contrast 63 && leb s.regulator 7 && leb s.power_control 7 && valid_booster s.booster
    && leb s.bias 7 && leb s.temperature_slope 1 && leb s.contrast_trim 15 && leb s.otp_control 3

-- the row
abbrev pub settings_row : Settings → Option ℕ
settings_row s = row 3 (valid_settings s)
