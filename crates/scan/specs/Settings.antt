-- Document 01, 'Scan': what the settings say. PWM and FRC count by gray mode, rows, the rate, and what a frame end takes.
use Rattle.std.specs.Prelude.{ℕ, ◌+◌, ◌/◌, ◌%◌, Bool, cond, List, [], ◌∷◌, ◌==◌, slice_index}
use Rattle.clock.specs.declared.rate.Rate.{Rate}
use Rattle.clock.specs.Rate.{lcd_rate}
use Rattle.scan.specs.declared.settings.Settings.{Settings}
use Rattle.scan.specs.declared.settings.Frame.{Frame}

-- by gray mode's two low bits
abbrev pub pwm_widths : List ℕ
pwm_widths = 9 ∷ 9 ∷ 12 ∷ 15 ∷ []

unfoldable pub pwm_of : ℕ → ℕ
pwm_of gray = slice_index pwm_widths (gray % 4)

-- frames in a gray cycle: 4, or 3 with gray bit 2
unfoldable pub frc_count_of : ℕ → ℕ
frc_count_of gray = cond (gray / 4 % 2 == 0) 4 3

-- duty, icons, first common, common direction, start line and FRC count
unfoldable pub frame_of : Settings → Frame
frame_of s = record {
  duty = s.duty;
  icon = s.icon_enabled;
  initial_com = s.initial_com;
  common_reverse = s.common_reverse;
  start_line = s.start_line;
  frc_count = frc_count_of s.gray_mode;
}

-- duty, plus one with icons on
abbrev pub rows_of : ℕ → Bool → ℕ
rows_of duty icon = cond icon (duty + 1) duty

unfoldable pub rows_in : Frame → ℕ
rows_in f = rows_of f.duty f.icon

-- the rate of the settings and a number of rows
unfoldable pub rate_of : Settings → ℕ → Rate
rate_of s rows = lcd_rate s.oscillator_control s.oscillator_frequency rows
