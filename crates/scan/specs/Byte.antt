-- Definitions that contracts of src/run.rt and src/latch.rt cite: the tests by which a byte leaves the counted scan as it is. Nothing
-- here is a rule; the rule of a byte is `byte_scan` (Run.antt).
use Rattle.std.specs.Prelude.{ℕ, ◌%◌, Bool, true, false, not, ◌&&◌, ◌||◌, ◌==◌, Option, None, Some}
use Rattle.std.specs.Bool.{beq}
use Rattle.clock.specs.declared.edges.Clock.{Clock}
use Rattle.scan.specs.declared.settings.Settings.{Settings}
use Rattle.scan.specs.declared.state.Scan.{Scan}
use Rattle.scan.specs.declared.state.Inversion.{Inversion}
use Rattle.scan.specs.declared.run.Running.{Running}
use Rattle.scan.specs.Latch.{latched_row, affects}

-- whether a clock runs
unfoldable pub has_clock : Option Clock → Bool
has_clock (Some k) = true
has_clock None = false

-- no line inversion is left to be ended
abbrev pub lines_stay : Inversion → Settings → Bool
lines_stay i s = not (s.inversion_lines == 0) || (i.lines == 0 && i.count == 0)

-- nothing is left to be begun, ended, started or dropped after a byte
unfoldable pub settled : Scan → Settings → Running → Bool
settled x s Running.Begins = false
settled x s Running.Continues = lines_stay x.inversion s && beq (has_clock x.ticking.clock) (s.oscillator_control % 2 == 0)
settled x s Running.Stands = lines_stay x.inversion s && not (has_clock x.ticking.clock)

-- the latch need not be retained before it
abbrev pub stays_shown : Scan → Option ℕ → Bool
stays_shown x page = x.latch.latched || not (affects page (latched_row x))
