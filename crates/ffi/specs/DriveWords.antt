-- Conditions, drives and the levels of electrodes as words.
use Rattle.std.specs.Prelude.{ℕ, ◌%◌, ◌^◌, Bool, cond, List, [], ◌∷◌, ℤ, ltb, get_or, Option, Some, None, Result, Ok, Err}
use mir.Val.{bool_byte}
use Rattle.clock.specs.declared.time.Time.{Time}
use Rattle.scan.specs.declared.drive.Conditions.{Conditions}
use Rattle.scan.specs.declared.drive.Driven.{Driven}
use Rattle.scan.specs.declared.drive.LcdDrive.{LcdDrive}
use Rattle.scan.specs.Drive.{off, drive_scan}
use Rattle.ffi.specs.VoltageWords.{supply_of, voltage_words}
use Rattle.ffi.specs.ScanWords.{flag, settings_of, scan_of}
use Rattle.ffi.specs.VoltageWords as volts

abbrev pub conditions_of : (display_on oscillator_enabled : Bool) → (millivolts : ℕ) → (temperature : ℤ) → (power_save waiting : Bool) → Conditions
conditions_of on enabled millivolts temperature power_save waiting = record {
  display_on = on;
  oscillator_enabled = enabled;
  supply = supply_of millivolts temperature power_save waiting;
}

-- a common: its number, or 129, which no common has, where none is selected
abbrev pub common_word : Option ℕ → ℕ
common_word None = 129
common_word (Some n) = n

-- the 12 words of a drive whose voltages have these words
abbrev pub drive_words_with : (voltages : List ℕ) → LcdDrive → List ℕ
drive_words_with v d =
    common_word d.common
    ∷ get_or d.segments 0 0
    ∷ get_or d.segments 1 0
    ∷ bool_byte d.inverted
    ∷ bool_byte d.grounded
    ∷ get_or v 0 0
    ∷ get_or v 1 0
    ∷ get_or v 2 0
    ∷ get_or v 3 0
    ∷ get_or v 4 0
    ∷ get_or v 5 0
    ∷ get_or v 6 0
    ∷ []

abbrev pub drive_words : LcdDrive → List ℕ
drive_words d = drive_words_with (voltage_words d.voltages) d

-- numbers below 129 select a common
abbrev pub common_of : ℕ → Option ℕ
common_of n = cond (ltb n 129) (Some (n % 256)) None

-- a level of less than 2^32 microvolts is present
abbrev pub level_of : ℕ → Option ℕ
level_of n = cond (ltb n (2 ^ 32)) (Some (n % 2 ^ 32)) None

-- the drive of 12 words
abbrev pub drive_of : List ℕ → LcdDrive
drive_of w = record {
  common = common_of (get_or w 0 0);
  segments = get_or w 1 0 ∷ get_or w 2 0 ∷ [];
  inverted = flag (get_or w 3 0);
  voltages = record {
    pump = level_of (get_or w 6 0);
    target = get_or w 5 0 % 2 ^ 32;
    v0 = level_of (get_or w 7 0);
    v1 = level_of (get_or w 8 0);
    v2 = level_of (get_or w 9 0);
    v3 = level_of (get_or w 10 0);
    v4 = level_of (get_or w 11 0);
  };
  grounded = flag (get_or w 4 0);
}

-- an answer, by the numbers of its refusals: a refusal gives the undriven drive
abbrev pub driven_by : {E : Type 0} → (E → ℕ) → Result Driven E → Option ℕ × (LcdDrive × ℕ)
driven_by number (Ok d) = (None, (d.drive, d.frame))
driven_by number (Err why) = (Some (number why), (off, 0))

-- the answer of the drive call, from what is lent
abbrev pub driven_of : (words bytes settings analog : List ℕ) → Conditions → (moment : Time) → (ram icons : List ℕ) → Option ℕ × (LcdDrive × ℕ)
driven_of words bytes settings analog conditions moment ram icons =
    drive_scan (scan_of words bytes) (settings_of settings) (volts.settings_of analog) conditions moment ram icons
