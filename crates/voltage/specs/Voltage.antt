-- Document 01, 'Voltage', in its order. Temperatures are in millidegrees, supplies in millivolts, all else in microvolts.
use Rattle.std.specs.Prelude.{ℕ, ◌+◌, ◌-◌, ◌*◌, ◌/◌, ◌%◌, Bool, false, cond, not, ◌&&◌, [], ◌∷◌, leb, ltb, eqb, ℤ, Option, Some, None, pos, negsuc, neg_ℤ, ◌+ℤ◌, ◌-ℤ◌, ◌*ℤ◌, get_or}
use Rattle.std.specs.Bool.{then_some}
use Rattle.std.specs.Int.Signed.{le_z}
use Rattle.voltage.specs.declared.Settings.{Settings}
use Rattle.voltage.specs.declared.Supply.{Supply}
use Rattle.voltage.specs.declared.LcdVoltages.{LcdVoltages}
use Rattle.voltage.specs.Check.{has_bit}

-- 'max(0, ..)'
abbrev pub at_least_zero : ℤ → ℕ
at_least_zero (pos n) = n
at_least_zero (negsuc n) = 0

-- 'at most', 'min'
abbrev pub at_most : ℕ → ℕ → ℕ
at_most limit n = cond (leb n limit) n limit

-- c = 125 with slope 0, else 50
abbrev pub coefficient : ℕ → ℕ
coefficient slope = cond (eqb slope 0) 125 50

-- t = max(0, 100,000,000 − (T − 25,000) × c), T any integer
unfoldable pub temperature_factor : ℕ → ℤ → ℕ
temperature_factor slope temperature =
    at_least_zero (pos 100000000 -ℤ (temperature -ℤ pos 25000) *ℤ pos (coefficient slope))

-- the four-bit signed offset (8 to 15 mean −8 to −1) if OTP bit 0 is set, else 0
unfoldable pub trim : ℕ → ℕ → ℤ
trim otp offset = cond (has_bit otp 0) (cond (ltb offset 8) (pos offset) (pos offset -ℤ pos 16)) (pos 0)

-- e = 147 + contrast + trim. It is 139 at least, so `at_least_zero` only makes a natural number of it
unfoldable pub ev : ℕ → ℤ → ℕ
ev contrast offset = at_least_zero (pos (147 + contrast) +ℤ offset)

-- the gain table, by regulator setting
unfoldable pub gain : ℕ → ℕ
gain regulator = get_or (345 ∷ 450 ∷ 555 ∷ 660 ∷ 765 ∷ 870 ∷ 975 ∷ 1080 ∷ []) regulator 0

-- the target in microvolts, from t × e × gain
unfoldable pub rounded : ℕ → ℕ
rounded product = at_most 4294967295 ((product + 750000) / 1500000)

-- the target with this regulator and contrast, the other settings being those of s
unfoldable pub target_at : Settings → ℤ → ℕ → ℕ → ℕ
target_at s temperature regulator contrast =
    rounded (temperature_factor s.temperature_slope temperature
    * ev contrast (trim s.otp_control s.contrast_trim)
    * gain regulator)

-- the target
unfoldable pub target : Settings → ℤ → ℕ
target s temperature = target_at s temperature s.regulator s.contrast

-- a supply that is present, at these microvolts, or absent
abbrev pub level_at : Bool → ℕ → Option ℕ
level_at present microvolts = then_some present microvolts

-- min(8, 3 + (b and 3) + 4 if b has bit 3)
abbrev pub multiple : ℕ → ℕ
multiple b = at_most 8 (3 + b % 4 + cond (has_bit b 3) 4 0)

-- the pump works at T from −30,000 to 85,000
abbrev pub works_at : ℤ → Bool
works_at temperature = le_z (neg_ℤ (pos 30000)) temperature && le_z temperature (pos 85000)

-- when the pump is present
unfoldable pub pump_present : ℕ → Supply → Bool
pump_present power_control x =
    has_bit power_control 2 && leb 2400 x.supply_millivolts && leb x.supply_millivolts 3600
    && works_at x.temperature_millicelsius && not x.power_save && not x.waiting

-- the pump
unfoldable pub pump : Settings → Supply → Option ℕ
pump s x = level_at (pump_present s.power_control x) (x.supply_millivolts * 1000 * multiple s.booster)

-- the level is present, and strictly above the limit
abbrev pub above : Option ℕ → ℕ → Bool
above None limit = false
above (Some v) limit = ltb limit v

-- when V0 is present, by the power control, the target and the pump
unfoldable pub v0_present : ℕ → ℕ → Option ℕ → Bool
v0_present power_control microvolts pumped =
    has_bit power_control 1 && leb 4000000 microvolts && leb microvolts 15000000 && above pumped (microvolts + 3000000)

-- V1 to V4, from the target, n and f
unfoldable pub share : ℕ → ℕ → ℕ → ℕ
share microvolts n f = (microvolts * f + n / 2) / n

-- V0, and with bit 0 also V1 to V4
unfoldable pub levels : Settings → ℕ → Option ℕ → LcdVoltages
levels s microvolts pumped =
    let v0 = v0_present s.power_control microvolts pumped in
    let divided = v0 && has_bit s.power_control 0 in
    let n = s.bias + 5 in
    record {
      pump = pumped;
      target = microvolts;
      v0 = level_at v0 microvolts;
      v1 = level_at divided (share microvolts n (n - 1));
      v2 = level_at divided (share microvolts n (n - 2));
      v3 = level_at divided (share microvolts n 2);
      v4 = level_at divided (share microvolts n 1);
    }

-- all that `voltages` gives
unfoldable pub voltages : Settings → Supply → LcdVoltages
voltages s x = levels s (target s x.temperature_millicelsius) (pump s x)

-- `LcdVoltages::OFF`: nothing is driven
abbrev pub off : LcdVoltages
off = record { pump = None; target = 0; v0 = None; v1 = None; v2 = None; v3 = None; v4 = None }
