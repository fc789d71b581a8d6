-- Document 01, 'Where a call is turned down': the conditions of `validate` on settings and scan, the numbers of this crate's
-- refusals, and the rows of the table that a call names, in the table's order.
use Rattle.std.specs.Prelude.{ℕ, Bool, true, ◌&&◌, ◌||◌, List, length, ◌==◌, nat_le, nat_lt, Option, None, Some, Result}
use Rattle.checks.specs.Checks.{row, first_of, refused_by, left_by}
use Rattle.clock.specs.declared.time.Time.{Time}
use Rattle.clock.specs.declared.rate.Rate.{Rate}
use Rattle.clock.specs.Time.{in_range}
use Rattle.clock.specs.Rate.{is_lcd}
use Rattle.clock.specs.Check.{valid_clock}
use Rattle.clock.specs.declared.edges.Clock.{Clock}
use Rattle.scan.specs.declared.settings.Settings.{Settings}
use Rattle.scan.specs.declared.settings.Frame.{Frame}
use Rattle.scan.specs.declared.state.Scan.{Scan}
use Rattle.scan.specs.declared.state.Inversion.{Inversion}
use Rattle.scan.specs.declared.check.Refusal.{Refusal}
use Rattle.scan.specs.State.{rows}
use Rattle.clock.specs.declared.check.Refusal as clocks

-- the numbers of document 01's table
abbrev pub number : Refusal → ℕ
number Refusal.Memory = 2
number Refusal.Image = 8
number Refusal.Time = 1
number Refusal.Settings = 3
number Refusal.Scan = 4
number Refusal.Clock = 5

-- the number of a refusal, or none where a check passes
abbrev pub refused : {A : Type 0} → Result A Refusal → Option ℕ
refused r = refused_by number r

-- a scan after a call: none and the scan, or the number of the refusal and the scan given
abbrev pub answered : (given : Scan) → Result Scan Refusal → Option ℕ × Scan
answered given r = left_by number given r

-- a clock's refusal as one of this crate, with the same number
abbrev pub by_clock : clocks.Refusal → Refusal
by_clock clocks.Refusal.Time = Refusal.Time
by_clock clocks.Refusal.Rate = Refusal.Scan
by_clock clocks.Refusal.Clock = Refusal.Clock

-- inversion lines: 0, or 3 to 33
unfoldable pub lines_ok : ℕ → Bool
lines_ok n = n == 0 || (nat_le 3 n && nat_le n 33)

-- the condition of number 3 on the display registers
unfoldable pub valid_settings : Settings → Bool
valid_settings s =
    nat_lt s.start_line 128
    && nat_lt s.initial_com 128
    && nat_le 16 s.duty
    && nat_le s.duty 128
    && lines_ok s.inversion_lines
    && nat_le s.gray_mode 7
    && nat_le s.oscillator_control 3
    && nat_le s.oscillator_frequency 31

-- its row
abbrev pub settings_row : Settings → Option ℕ
settings_row s = row 3 (valid_settings s)

-- the condition of number 4 on the scan
unfoldable pub frc_count_ok : ℕ → Bool
frc_count_ok n = n == 3 || n == 4

unfoldable pub valid_frame : Frame → Bool
valid_frame f =
    nat_le 16 f.duty
    && nat_le f.duty 128
    && nat_lt f.initial_com 128
    && nat_lt f.start_line 128
    && frc_count_ok f.frc_count

unfoldable pub pwm_ok : ℕ → Bool
pwm_ok p = p == 9 || p == 12 || p == 15

unfoldable pub valid_inversion : Inversion → Bool
valid_inversion i = lines_ok i.lines && (i.lines == 0 || nat_lt i.count i.lines)

unfoldable pub valid_scan : Scan → Bool
valid_scan x =
    is_lcd x.ticking.rate
    && valid_frame x.frame
    && pwm_ok x.pwm
    && nat_lt x.step x.pwm
    && nat_lt x.frc x.frame.frc_count
    && nat_lt x.row (rows x)
    && valid_inversion x.inversion

-- the condition of number 5 on the scan's clock
unfoldable pub valid_running : Option Clock → Rate → Bool
valid_running (Some c) r = valid_clock c r
valid_running None r = true

-- numbers 4 and 5
unfoldable pub check_scan : Scan → Option ℕ
check_scan x = first_of (row 4 (valid_scan x)) (row 5 (valid_running x.ticking.clock x.ticking.rate))

-- the condition of number 2 on lent memory
unfoldable pub memory_ok : (ram icons : List ℕ) → Bool
memory_ok ram icons = length ram == 4096 && length icons == 256

-- its row
abbrev pub memory_row : (ram icons : List ℕ) → Option ℕ
memory_row ram icons = row 2 (memory_ok ram icons)

-- the condition of number 8 on a lent image
unfoldable pub image_ok : (bytes : ℕ) → Bool
image_ok bytes = bytes == 6144

-- the table's order. A row that a call does not name passes
unfoldable pub in_order : (memory image time settings scan : Option ℕ) → Option ℕ
in_order memory image time settings scan = first_of memory (first_of image (first_of time (first_of settings scan)))

-- a call that takes a moment; `settings_ok` says what number 3 asks of its settings
unfoldable pub check_moment : Scan → (settings_ok : Bool) → Time → Option ℕ
check_moment x settings_ok now = in_order None None (row 1 (in_range now)) (row 3 settings_ok) (check_scan x)

-- a call that takes a moment and lent memory
unfoldable pub check_lent : Scan → (settings_ok : Bool) → Time → (ram icons : List ℕ) → Option ℕ
check_lent x settings_ok now ram icons =
    in_order (row 2 (memory_ok ram icons)) None (row 1 (in_range now)) (row 3 settings_ok) (check_scan x)

-- a call that takes lent memory and an image of so many bytes, and no scan
unfoldable pub check_image : Settings → (ram icons : List ℕ) → (bytes : ℕ) → Option ℕ
check_image s ram icons bytes =
    in_order (row 2 (memory_ok ram icons)) (row 8 (image_ok bytes)) None (row 3 (valid_settings s)) None

-- ---- no rules: for private functions of src/check.rt
-- the checks of a call that takes a moment, but for the clock's, number 5
unfoldable pub check_but_clock : Scan → (settings_ok : Bool) → Time → Option ℕ
check_but_clock x settings_ok now = in_order None None (row 1 (in_range now)) (row 3 settings_ok) (row 4 (valid_scan x))
