-- Definitions that contracts of private functions cite: the rows of a group but for the scan's, whether it completes a byte, and
-- what a byte does to the registers that the scan reads. Nothing here is a rule; the laws show that it comes to what the rules say.
use Rattle.std.specs.Prelude.{ℕ, ◌+◌, Bool, cond, ◌&&◌, List, ◌≡◌, leb, Option, Some, None}
use Rattle.checks.specs.Checks.{row, first_of}
use Rattle.clock.specs.declared.time.Time.{Time}
use Rattle.clock.specs.Time.{in_range}
use Rattle.scan.specs.declared.settings.Settings.{Settings}
use Rattle.scan.specs.declared.run.Running.{Running}
use Rattle.scan.specs.Check.{memory_ok}
use Rattle.scan.specs.Drive.{runs}
use Rattle.scan.specs.Run.{running_after}
use Rattle.controller.specs.declared.state.Nt7508.{Nt7508}
use Rattle.controller.specs.declared.state.Serial.{Serial}
use Rattle.controller.specs.declared.state.Power.{Power}
use Rattle.controller.specs.Check.{awaits, valid_state, group_ok}
use Rattle.controller.specs.Command.{display_after, display_with, power_after}
use Rattle.controller.specs.Byte.{conditions_of}
use Rattle.controller.specs.Bits.{taking, quiet, edges, unpacked}

-- the checks of a call that takes a moment, but for the scan's: numbers 1 and 3
unfoldable pub check_registers : Nt7508 → Time → Option ℕ
check_registers x now = first_of (row 1 (in_range now)) (row 3 (valid_state x))

-- the checks of a call that takes a moment and lent memory, but for the scan's: numbers 2, 1 and 3
unfoldable pub check_but_scan : Nt7508 → Time → (ram icons : List ℕ) → Option ℕ
check_but_scan x now ram icons = first_of (row 2 (memory_ok ram icons)) (first_of (row 1 (in_range now)) (row 3 (valid_state x)))

-- numbers 2, 1, 3 and 7 do not apply
unfoldable pub registers_ok : Nt7508 → (bits count : ℕ) → Time → (ram icons : List ℕ) → Bool
registers_ok x bits count now ram icons = memory_ok ram icons && in_range now && valid_state x && group_ok bits count

-- so many bits are taken and complete a byte
unfoldable pub completes : Nt7508 → (count : ℕ) → Bool
completes x count = taking x && leb 8 (x.serial.bits + count)

-- the state that a group leaves which completes none
abbrev pub Short : Nt7508 → (bits count : ℕ) → (after : Nt7508) → Type 0
Short x bits count y = (now : Time) (ram icons : List ℕ) → edges (unpacked count bits) now (quiet x ram icons) ≡ quiet y ram icons

-- the display registers and the power after a byte
unfoldable pub display_by : Option ℕ → Settings → (b : ℕ) → Settings
display_by None d b = cond (awaits b) d (display_after d b)
display_by (Some c) d b = display_with d c b

unfoldable pub display_then : Serial → Settings → (b : ℕ) → Settings
display_then l d b = cond l.«data» d (display_by l.pending d b)

unfoldable pub power_by : Option ℕ → Power → (b : ℕ) → Power
power_by None p b = cond (awaits b) p (power_after p b)
power_by (Some c) p b = p

unfoldable pub power_then : Serial → Power → (b : ℕ) → Power
power_then l p b = cond l.«data» p (power_by l.pending p b)

-- whether the byte begins the scan, lets it run on or leaves it standing
abbrev pub running_by : Serial → Power → (b : ℕ) → Running
running_by l p b = running_after (runs (conditions_of p)) (runs (conditions_of (power_then l p b)))
