-- Document 01, 'Controller', 'Voltage', 'Drive, electrodes, image', 'Setting finder (added)': the calls that look and change
-- nothing, and `restore`, which hands the state back.
use Rattle.std.specs.Prelude.{ℕ, ◌-◌, ◌*◌, Bool, cond, List, ◌⊎◌, ◌≡◌, length, Option, Some, None, Result, Ok, Err}
use Rattle.checks.specs.Checks.{answer, changed}
use Rattle.clock.specs.declared.time.Time.{Time}
use Rattle.voltage.specs.declared.LcdVoltages.{LcdVoltages}
use Rattle.voltage.specs.declared.finder.Pair.{Pair}
use Rattle.voltage.specs.Voltage.{voltages}
use Rattle.voltage.specs.Finder.{PairFits}
use Rattle.scan.specs.declared.drive.LcdDrive.{LcdDrive}
use Rattle.scan.specs.declared.drive.Driven.{Driven}
use Rattle.scan.specs.Drive.{driven, drive_at, frame_at, off}
use Rattle.scan.specs.Image.{image}
use Rattle.controller.specs.declared.state.Nt7508.{Nt7508}
use Rattle.controller.specs.declared.state.Serial.{Serial}
use Rattle.controller.specs.declared.check.Refusal.{Refusal}
use Rattle.controller.specs.Check.{number, refused, told, check_state, check_lent, check_image, check_restore}
use Rattle.controller.specs.Byte.{conditions_of}

-- V0 to V4 with the present settings
abbrev pub answered_voltages : Result LcdVoltages Refusal → ℕ ⊎ LcdVoltages
answered_voltages r = told r

abbrev pub levels_of : Nt7508 → LcdVoltages
levels_of x = voltages x.analog (conditions_of x.power).supply

unfoldable pub voltages_of : Nt7508 → ℕ ⊎ LcdVoltages
voltages_of x = answer (check_state x) (levels_of x)

-- the drive at a moment and the frame; a refused drive is the undriven one
abbrev pub answered_drive : Result Driven Refusal → Option ℕ × (LcdDrive × ℕ)
answered_drive (Ok d) = (None, (d.drive, d.frame))
answered_drive (Err why) = (Some (number why), (off, 0))

unfoldable pub drive_of : Nt7508 → Time → (ram icons : List ℕ) → Option ℕ × (LcdDrive × ℕ)
drive_of x now ram icons =
    let c = conditions_of x.power in
    changed (check_lent x now ram icons) (drive_at x.scan x.display (levels_of x) c now ram icons, frame_at x.scan x.display c now) (off, 0)

-- the image: the number of the refusal, and what the lent bytes hold
abbrev pub painted : Result Unit Refusal → (pixels : List ℕ) → Option ℕ × List ℕ
painted check pixels = (refused check, pixels)

unfoldable pub render_of : Nt7508 → (ram icons before : List ℕ) → Option ℕ × List ℕ
render_of x ram icons before =
    changed (check_image x ram icons (length before)) (image x.display (driven (conditions_of x.power)) ram) before

-- serial clock edges until the byte completes, from the clock's level
abbrev pub answered_edges : Result ℕ Refusal → ℕ ⊎ ℕ
answered_edges r = told r

unfoldable pub effect_edges : Serial → (high : Bool) → ℕ
effect_edges l high = cond l.selected ((8 - l.bits) * 2 - cond high 0 1) 16

unfoldable pub serial_effect_edges : Nt7508 → (high : Bool) → ℕ ⊎ ℕ
serial_effect_edges x high = answer (check_state x) (effect_edges x.serial high)

-- the end of the wait, while it lasts
abbrev pub answered_deadline : Result (Option Time) Refusal → ℕ ⊎ Option Time
answered_deadline r = told r

unfoldable pub deadline_of : Nt7508 → ℕ ⊎ Option Time
deadline_of x = answer (check_state x) x.power.ready

-- the finder, under the present T, slope and trim: what an answer says
abbrev pub SaysOf : Nt7508 → (low high : ℕ) → Result (Option Pair) Refusal → Type 0
SaysOf x low high (Ok (Some p)) =
    (check_state x ≡ None) × PairFits x.analog x.power.temperature_millicelsius low high p.regulator p.contrast
SaysOf x low high (Ok None) =
    (check_state x ≡ None) × ((r c : ℕ) → PairFits x.analog x.power.temperature_millicelsius low high r c → ⊥)
SaysOf x low high (Err why) = check_state x ≡ Some (number why)

-- a state, its RAM and icons and a time: the state back if no check turns it down
unfoldable pub restore : Nt7508 → Time → (ram icons : List ℕ) → Option ℕ × Nt7508
restore x now ram icons = changed (check_restore x now ram icons) x x
