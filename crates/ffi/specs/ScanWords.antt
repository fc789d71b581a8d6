-- Settings, scans and the answers of the scan as words.
use Rattle.std.specs.Prelude.{ℕ, Bool, cond, not, List, [], ◌∷◌, eqb, get_or, Option, Some, None}
use Rattle.std.specs.Bool.{then_some}
use mir.Val.{bool_byte}
use Rattle.clock.specs.declared.time.Time.{Time}
use Rattle.clock.specs.declared.edges.Clock.{Clock}
use Rattle.scan.specs.declared.settings.Settings.{Settings}
use Rattle.scan.specs.declared.state.Scan.{Scan}
use Rattle.scan.specs.Count.{count_scan}
use Rattle.scan.specs.Run.{running_after, before_byte, after_byte, fall_scan}
use Rattle.ffi.specs.ClockWords.{clock_of, clock_words, rate}

-- any number but 0 says yes
abbrev pub flag : ℕ → Bool
flag n = not (eqb n 0)

-- the settings of twenty bytes
abbrev pub settings_of : List ℕ → Settings
settings_of b = record {
  start_line = get_or b 0 0;
  icon_enabled = flag (get_or b 1 0);
  entire_on = flag (get_or b 2 0);
  reverse = flag (get_or b 3 0);
  segment_reverse = flag (get_or b 4 0);
  common_reverse = flag (get_or b 5 0);
  initial_com = get_or b 6 0;
  duty = get_or b 7 0;
  inversion_lines = get_or b 8 0;
  gray_mode = get_or b 9 0;
  palette = get_or b 10 0 ∷ get_or b 11 0 ∷ get_or b 12 0 ∷ get_or b 13 0 ∷ get_or b 14 0 ∷ get_or b 15 0 ∷ get_or b 16 0 ∷ get_or b 17 0 ∷ [];
  oscillator_control = get_or b 18 0;
  oscillator_frequency = get_or b 19 0;
}

-- the clock of a scan: whether it runs, and its eight words
abbrev pub running_of : (running : ℕ) → (clock : List ℕ) → Option Clock
running_of running clock = cond (flag running) (Some (clock_of clock)) None

abbrev pub running_words : Option Clock → List ℕ
running_words (Some c) = 1 ∷ clock_words c
running_words None = 0 ∷ 0 ∷ 0 ∷ 0 ∷ 0 ∷ 0 ∷ 0 ∷ 0 ∷ 0 ∷ []

-- the scan of 13 words and 14 bytes
abbrev pub scan_of : (words bytes : List ℕ) → Scan
scan_of w b = record {
  ticking = record {
    clock = running_of (get_or w 0 0) (get_or w 1 0 ∷ get_or w 2 0 ∷ get_or w 3 0 ∷ get_or w 4 0 ∷ get_or w 5 0 ∷ get_or w 6 0 ∷ get_or w 7 0 ∷ get_or w 8 0 ∷ []);
    rate = rate (get_or w 9 0) (get_or w 10 0);
  };
  latch = record { segments = get_or w 11 0 ∷ get_or w 12 0 ∷ []; latched = flag (get_or b 13 0) };
  frame = record {
    duty = get_or b 0 0;
    icon = flag (get_or b 1 0);
    initial_com = get_or b 2 0;
    common_reverse = flag (get_or b 3 0);
    start_line = get_or b 4 0;
    frc_count = get_or b 6 0;
  };
  pwm = get_or b 5 0;
  row = get_or b 7 0;
  step = get_or b 8 0;
  frc = get_or b 9 0;
  inversion = record { lines = get_or b 10 0; count = get_or b 11 0; inverted = flag (get_or b 12 0) };
}

-- the 13 words of a scan whose clock has these words
abbrev pub words_with : (clock : List ℕ) → Scan → List ℕ
words_with c x =
    get_or c 0 0
    ∷ get_or c 1 0
    ∷ get_or c 2 0
    ∷ get_or c 3 0
    ∷ get_or c 4 0
    ∷ get_or c 5 0
    ∷ get_or c 6 0
    ∷ get_or c 7 0
    ∷ get_or c 8 0
    ∷ x.ticking.rate.numerator
    ∷ x.ticking.rate.denominator
    ∷ get_or x.latch.segments 0 0
    ∷ get_or x.latch.segments 1 0
    ∷ []

abbrev pub scan_words : Scan → List ℕ
scan_words x = words_with (running_words x.ticking.clock) x

abbrev pub scan_bytes : Scan → List ℕ
scan_bytes x =
    x.frame.duty
    ∷ bool_byte x.frame.icon
    ∷ x.frame.initial_com
    ∷ bool_byte x.frame.common_reverse
    ∷ x.frame.start_line
    ∷ x.pwm
    ∷ x.frame.frc_count
    ∷ x.row
    ∷ x.step
    ∷ x.frc
    ∷ x.inversion.lines
    ∷ x.inversion.count
    ∷ bool_byte x.inversion.inverted
    ∷ bool_byte x.latch.latched
    ∷ []

-- the answers of the scan's calls, from what is lent
abbrev pub counted_of : (words bytes settings : List ℕ) → (moment : Time) → Option ℕ × (Scan × ℕ)
counted_of words bytes settings moment = count_scan (scan_of words bytes) (settings_of settings) moment

abbrev pub before_of : (words bytes settings : List ℕ) → (moment : Time) → (sent : Bool) → (page : ℕ) → (ram icons : List ℕ) → Option ℕ × Scan
before_of words bytes settings moment sent page ram icons =
    before_byte (scan_of words bytes) (settings_of settings) moment (then_some sent page) ram icons

abbrev pub after_of : (words bytes settings : List ℕ) → (moment : Time) → (was_running running : Bool) → (ram icons : List ℕ) → Option ℕ × Scan
after_of words bytes settings moment was_running running ram icons =
    after_byte (scan_of words bytes) (settings_of settings) moment (running_after was_running running) ram icons

abbrev pub fallen_of : (words bytes settings : List ℕ) → (moment : Time) → Option ℕ × Scan
fallen_of words bytes settings moment = fall_scan (scan_of words bytes) (settings_of settings) moment
