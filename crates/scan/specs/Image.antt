-- Document 01, 'Drive, electrodes, image': the gray image of the glass, row after row, and 'Where a call is turned down' for the
-- call that gives it.
use Rattle.std.specs.Prelude.{ℕ, zero, suc, ◌+◌, ◌-◌, ◌*◌, ◌/◌, ◌%◌, Bool, cond, ◌&&◌, List, [], ◌∷◌, ◌++◌, length, ◌==◌, nat_lt}
use Rattle.checks.specs.Checks.{unless_refused}
use Rattle.scan.specs.declared.settings.Settings.{Settings}
use Rattle.scan.specs.Settings.{pwm_of, frc_count_of}
use Rattle.scan.specs.Check.{check_image}
use Rattle.scan.specs.Shade.{shade_of, page_of, pulse_width}

-- f 0, f 1, .., f (n − 1)
unfoldable pub up_to : (ℕ → ℕ) → ℕ → List ℕ
up_to f zero = []
up_to f (suc n) = up_to f n ++ (f n ∷ [])

-- the rows f 0, f 1, .., f (n − 1), one after another
unfoldable pub rows_up_to : (ℕ → List ℕ) → ℕ → List ℕ
rows_up_to f zero = []
rows_up_to f (suc n) = rows_up_to f n ++ f n

-- the image is all 0 if undriven or with oscillator control bit 0
unfoldable pub lit_by : Settings → (driven : Bool) → Bool
lit_by s driven = driven && s.oscillator_control % 2 == 0

-- P = PWM × FRC count, of the present settings
abbrev pub cycle_of : Settings → ℕ
cycle_of s = pwm_of s.gray_mode * frc_count_of s.gray_mode

-- a shade's widths summed over the first phases
unfoldable pub widths : Settings → (shade phases : ℕ) → ℕ
widths s shade zero = 0
widths s shade (suc phases) = widths s shade phases + pulse_width s shade phases (pwm_of s.gray_mode)

-- floor((255 × its widths summed over the phases + floor(P/2)) / P)
unfoldable pub level_of : Settings → (shade : ℕ) → ℕ
level_of s shade = (255 * widths s shade (frc_count_of s.gray_mode) + cycle_of s / 2) / cycle_of s

-- glass row y is common 32 + y, reversed 95 − y
abbrev pub glass_common : Bool → ℕ → ℕ
glass_common reversed y = cond reversed (95 - y) (32 + y)

-- line = (common − first common) mod 128, the first common below 128
unfoldable pub line_of : Settings → (y : ℕ) → ℕ
line_of s y = (glass_common s.common_reverse y + 128 - s.initial_com) % 128

-- RAM row (line + start line) mod 128
unfoldable pub ram_row_of : Settings → (line : ℕ) → ℕ
ram_row_of s line = (line + s.start_line) % 128

-- the level at a segment, of the row that stands at `bit` in the 256 bytes of a page
unfoldable pub page_level : Settings → (page : List ℕ) → (bit segment : ℕ) → ℕ
page_level s page bit segment = level_of s (shade_of s page bit segment)

-- the level at a segment of a row of RAM
abbrev pub ram_level : Settings → (ram : List ℕ) → (row segment : ℕ) → ℕ
ram_level s ram row segment = page_level s (page_of ram (row / 8)) (row % 8) segment

-- from duty up it is 0
unfoldable pub pixel : Settings → (lit : Bool) → (ram : List ℕ) → (y x : ℕ) → ℕ
pixel s lit ram y x = cond (lit && nat_lt (line_of s y) s.duty) (ram_level s ram (ram_row_of s (line_of s y)) x) 0

-- 96 bytes, one for each segment of the glass
unfoldable pub image_row : Settings → (lit : Bool) → (ram : List ℕ) → (y : ℕ) → List ℕ
image_row s lit ram y = up_to (pixel s lit ram y) 96

-- 6,144 bytes, the 64 glass rows in order
unfoldable pub image : Settings → (driven : Bool) → (ram : List ℕ) → List ℕ
image s driven ram = rows_up_to (image_row s (lit_by s driven) ram) 64

-- the lent image after the call: where it is turned down no lent byte changes
unfoldable pub rendered : Settings → (driven : Bool) → (ram icons before : List ℕ) → List ℕ
rendered s driven ram icons before = unless_refused (check_image s ram icons (length before)) (image s driven ram) before
