-- Document 01, 'Scan': shades as `shade` reads them, and the width of a shade's pulse in a phase.
use Rattle.std.specs.Prelude.{ℕ, ◌+◌, ◌-◌, ◌*◌, ◌/◌, ◌%◌, ◌^◌, Bool, cond, List, take, drop, ◌==◌, nat_le, slice_index}
use Rattle.scan.specs.declared.settings.Settings.{Settings}

-- the column of a segment
abbrev pub column_of : Bool → ℕ → ℕ
column_of reversed segment = cond reversed (127 - segment) segment

-- a row's bit of a byte
abbrev pub bit_of : ℕ → ℕ → ℕ
bit_of byte bit = byte / 2 ^ bit % 2

-- the two planes of a column, the high one in its first byte
abbrev pub planes : List ℕ → ℕ → ℕ → ℕ
planes part bit column = 2 * bit_of (slice_index part (2 * column)) bit + bit_of (slice_index part (2 * column + 1)) bit

-- the shade at a segment, of the row that stands at `bit` in the 256 bytes of `part`
unfoldable pub shade_of : Settings → List ℕ → ℕ → ℕ → ℕ
shade_of s part bit segment =
    cond s.entire_on 3
    (cond s.reverse (3 - planes part bit (column_of s.segment_reverse segment))
    (planes part bit (column_of s.segment_reverse segment)))

-- in RAM a page is handed on as its own 256 bytes
abbrev pub page_of : List ℕ → ℕ → List ℕ
page_of ram page = take 256 (drop (page * 256) ram)

-- the shade at a row of RAM, 0 to 127, or of the icons, row 128
unfoldable pub shade_at : Settings → (ram icons : List ℕ) → (row segment : ℕ) → ℕ
shade_at s ram icons row segment =
    cond (row == 128) (shade_of s icons 0 segment) (shade_of s (page_of ram (row / 8)) (row % 8) segment)

-- in phase f, shade s has as width the nibble of palette byte 2s + floor(f/2), low for even f
abbrev pub palette_width : List ℕ → ℕ → ℕ → ℕ
palette_width palette shade phase =
    cond (phase % 2 == 0) (slice_index palette (2 * shade + phase / 2) % 16) (slice_index palette (2 * shade + phase / 2) / 16)

-- a palette width above PWM gives no pulse
unfoldable pub pulse_width : Settings → (shade phase pwm : ℕ) → ℕ
pulse_width s shade phase pwm =
    cond (nat_le (palette_width s.palette shade phase) pwm) (palette_width s.palette shade phase) 0
