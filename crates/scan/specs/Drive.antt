-- Document 01, 'Drive, electrodes, image': when the scan runs and the glass is driven, what it is driven with, and the level of
-- each electrode.
use Rattle.std.specs.Prelude.{ℕ, ◌+◌, ◌-◌, ◌*◌, ◌/◌, ◌%◌, ◌^◌, Bool, false, cond, not, ◌&&◌, List, [], ◌∷◌, ◌==◌, nat_le, nat_lt, slice_index, Option, None, Some, Result, Ok, Err}
use Rattle.checks.specs.Checks.{changed}
use Rattle.clock.specs.declared.time.Time.{Time}
use Rattle.voltage.specs.declared.LcdVoltages.{LcdVoltages}
use Rattle.voltage.specs.Voltage.{voltages}
use Rattle.scan.specs.declared.settings.Settings.{Settings}
use Rattle.scan.specs.declared.state.Scan.{Scan}
use Rattle.scan.specs.declared.drive.Conditions.{Conditions}
use Rattle.scan.specs.declared.drive.LcdDrive.{LcdDrive}
use Rattle.scan.specs.declared.drive.Driven.{Driven}
use Rattle.scan.specs.declared.check.Refusal.{Refusal}
use Rattle.scan.specs.Check.{number, valid_settings, check_lent}
use Rattle.scan.specs.Count.{count_to}
use Rattle.scan.specs.Latch.{shown}
use Rattle.voltage.specs.declared.Settings as analog
use Rattle.voltage.specs.Check as analogs
use Rattle.voltage.specs.Voltage as supplies

-- 'Scan': the scan runs with the oscillator on and no power save
unfoldable pub runs : Conditions → Bool
runs c = c.oscillator_enabled && not c.supply.power_save

-- supply from 2400 mV, no wait, display on, no power save, oscillator on
unfoldable pub driven : Conditions → Bool
driven c =
    nat_le 2400 c.supply.supply_millivolts
    && not c.supply.waiting
    && c.display_on
    && not c.supply.power_save
    && c.oscillator_enabled

-- undriven is grounded exactly with power save, supplied, no wait; supply from 1650 mV up counts as supplied
unfoldable pub grounded : Conditions → Bool
grounded c = c.supply.power_save && nat_le 1650 c.supply.supply_millivolts && not c.supply.waiting

-- the row equal to duty is common 128, else (first common + row) mod 128, taken from 127 when reversed
unfoldable pub common_of : Scan → ℕ
common_of x =
    cond (x.row == x.frame.duty) 128
    (cond x.frame.common_reverse (127 - (x.frame.initial_com + x.row) % 128) ((x.frame.initial_com + x.row) % 128))

-- no common selected and no segment active
abbrev pub unselected : LcdVoltages → (grounded : Bool) → LcdDrive
unselected v at_ground = record { common = None; segments = 0 ∷ 0 ∷ []; inverted = false; voltages = v; grounded = at_ground }

unfoldable pub undriven : Conditions → LcdVoltages → LcdDrive
undriven c v = unselected v (grounded c)

-- the drive of a scan counted to the moment
unfoldable pub drive_of : Scan → Settings → LcdVoltages → (ram icons : List ℕ) → LcdDrive
drive_of x s v ram icons =
    record { common = Some (common_of x); segments = shown x s ram icons; inverted = x.inversion.inverted; voltages = v; grounded = false }

unfoldable pub drive_at : Scan → Settings → LcdVoltages → Conditions → Time → (ram icons : List ℕ) → LcdDrive
drive_at x s v c now ram icons = cond (driven c) (drive_of (count_to x s now) s v ram icons) (undriven c v)

-- 'Session program': the frame, duty × PWM of the scan shown; 0 where the glass is undriven
unfoldable pub quanta_of : Scan → ℕ
quanta_of x = x.frame.duty * x.pwm

unfoldable pub frame_at : Scan → Settings → Conditions → Time → ℕ
frame_at x s c now = cond (driven c) (quanta_of (count_to x s now)) 0

-- the undriven drive, which a refused call gives
unfoldable pub off : LcdDrive
off = unselected supplies.off false

-- the answer: the number of the refusal, the drive and the frame. A refusal gives the undriven drive
abbrev pub answered_drive : Result Driven Refusal → Option ℕ × (LcdDrive × ℕ)
answered_drive (Ok driven) = (None, (driven.drive, driven.frame))
answered_drive (Err why) = (Some (number why), (off, 0))

-- the call; both groups of settings have number 3
unfoldable pub drive_scan : Scan → Settings → analog.Settings → Conditions → Time → (ram icons : List ℕ) → Option ℕ × (LcdDrive × ℕ)
drive_scan x s a c now ram icons =
    changed (check_lent x (valid_settings s && analogs.valid_settings a) now ram icons)
    (drive_at x s (voltages a c.supply) c now ram icons, frame_at x s c now)
    (off, 0)

-- the selected common is at V0, inverted 0; other commons V4, inverted V1. An absent level gives none
unfoldable pub common_level : LcdVoltages → (selected inverted : Bool) → Option ℕ
common_level v selected inverted =
    cond selected (cond inverted (Some 0) v.v0) (cond inverted v.v1 v.v4)

-- active segments 0, inverted V0; others V3, inverted V2
unfoldable pub segment_level : LcdVoltages → (active inverted : Bool) → Option ℕ
segment_level v active inverted =
    cond active (cond inverted v.v0 (Some 0)) (cond inverted v.v2 v.v3)

-- bit n % 64 of word n / 64 is segment n
unfoldable pub active_in : List ℕ → (segment : ℕ) → Bool
active_in words segment = slice_index words (segment / 64) / 2 ^ (segment % 64) % 2 == 1

-- none is driven without a selected common
unfoldable pub common_with : LcdDrive → (common : ℕ) → (selected : Option ℕ) → Option ℕ
common_with d common (Some n) = common_level d.voltages (n == common) d.inverted
common_with d common None = None

unfoldable pub segment_with : LcdDrive → (segment : ℕ) → (selected : Option ℕ) → Option ℕ
segment_with d segment (Some n) = segment_level d.voltages (active_in d.segments segment) d.inverted
segment_with d segment None = None

-- an electrode beyond common 128 or segment 127 has the answer none; grounded electrodes are at 0
unfoldable pub common_microvolts : LcdDrive → (common : ℕ) → Option ℕ
common_microvolts d common =
    cond (nat_lt 128 common) None (cond d.grounded (Some 0) (common_with d common d.common))

unfoldable pub segment_microvolts : LcdDrive → (segment : ℕ) → Option ℕ
segment_microvolts d segment =
    cond (nat_lt 127 segment) None (cond d.grounded (Some 0) (segment_with d segment d.common))
