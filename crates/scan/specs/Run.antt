-- Document 01, 'Scan': what a byte, a warm rise or a fall does to the scan. A byte does two things: before it acts the scan is
-- counted and its latch retained where the byte could alter it; after it the inversion is cleared, the scan begun, its clock
-- started or dropped. A warm rise does the same but begins no scan, so that it reads no memory. A fall counts and drops the
-- clock.
use Rattle.std.specs.Prelude.{ℕ, ◌%◌, Bool, true, false, cond, ◌&&◌, List, [], ◌∷◌, ◌==◌, Option, None, Some}
use Rattle.checks.specs.Checks.{changed}
use Rattle.clock.specs.declared.time.Time.{Time}
use Rattle.clock.specs.Edges.{started}
use Rattle.clock.specs.declared.edges.Clock.{Clock}
use Rattle.scan.specs.declared.settings.Settings.{Settings}
use Rattle.scan.specs.declared.state.Scan.{Scan}
use Rattle.scan.specs.declared.state.Inversion.{Inversion}
use Rattle.scan.specs.declared.run.Running.{Running}
use Rattle.scan.specs.Settings.{pwm_of, frame_of, rows_in, rate_of}
use Rattle.scan.specs.State.{rows, with_ticking, with_inversion}
use Rattle.scan.specs.Check.{valid_settings, check_moment, check_lent}
use Rattle.scan.specs.Count.{count_to}
use Rattle.scan.specs.Latch.{latch_retained, retained}

-- the effect of a byte on the scan's running, by whether it ran before and runs after
abbrev pub running_after : (was runs : Bool) → Running
running_after was runs = cond runs (cond was Running.Continues Running.Begins) Running.Stands

-- an interval and count of 0; the polarity stays
abbrev pub no_lines : Inversion → Inversion
no_lines i = record { lines = 0; count = 0; inverted = i.inverted }

-- a controller inversion of 0 clears the scan's interval and count immediately
unfoldable pub cleared : Scan → Settings → Scan
cleared x s = with_inversion x (cond (s.inversion_lines == 0) (no_lines x.inversion) x.inversion)

-- every setting taken; row, step, phase, count and polarity 0. The clock is missing, as in the Rust's `Scan::default`
unfoldable pub taken : Settings → Scan
taken s = record {
  ticking = record { clock = None; rate = rate_of s (rows_in (frame_of s)) };
  latch = record { segments = 0 ∷ 0 ∷ []; latched = true };
  frame = frame_of s;
  pwm = pwm_of s.gray_mode;
  row = 0;
  step = 0;
  frc = 0;
  inversion = record { lines = s.inversion_lines; count = 0; inverted = false };
}

-- the scan that a byte makes run: it takes every setting and latches
unfoldable pub begun : Settings → (ram icons : List ℕ) → Scan
begun s ram icons = latch_retained (taken s) s ram icons

-- a scan whose clock is dropped; the counters stay
unfoldable pub stopped : Scan → Scan
stopped x = with_ticking x (record { clock = None; rate = x.ticking.rate })

-- a missing clock starts now, and the scan takes the rate of its rows and present settings
unfoldable pub started_if : Option Clock → Scan → Settings → Time → Scan
started_if (Some c) x s now = x
started_if None x s now =
    with_ticking x (record { clock = Some (started now (rate_of s (rows x))); rate = rate_of s (rows x) })

-- the clock of a scan that runs: dropped with oscillator control bit 0
unfoldable pub clocked : Scan → Settings → Time → Scan
clocked x s now = cond (s.oscillator_control % 2 == 0) (started_if x.ticking.clock x s now) (stopped x)

-- a scan that ran before: it goes on, or does not run any more
unfoldable pub resumed : Scan → Settings → Time → (runs : Bool) → Scan
resumed x s now runs = cond runs (clocked (cleared x s) s now) (stopped (cleared x s))

-- the scan after a byte
unfoldable pub updated : Scan → Settings → Time → Running → (ram icons : List ℕ) → Scan
updated x s now Running.Begins ram icons = clocked (begun s ram icons) s now
updated x s now Running.Continues ram icons = resumed x s now true
updated x s now Running.Stands ram icons = resumed x s now false

-- the calls; a refusal gives back the scan given
unfoldable pub before_byte : Scan → Settings → Time → Option ℕ → (ram icons : List ℕ) → Option ℕ × Scan
before_byte x s now page ram icons =
    changed (check_lent x (valid_settings s) now ram icons) (retained (count_to x s now) s page ram icons) x

unfoldable pub after_byte : Scan → Settings → Time → Running → (ram icons : List ℕ) → Option ℕ × Scan
after_byte x s now running ram icons =
    changed (check_lent x (valid_settings s) now ram icons) (updated x s now running ram icons) x

-- both at once, by the settings that the byte found and those that it left
unfoldable pub byte_scan : Scan → (before after : Settings) → Time → Option ℕ → Running → (ram icons : List ℕ) → Option ℕ × Scan
byte_scan x before after now page running ram icons =
    changed (check_lent x (valid_settings before && valid_settings after) now ram icons)
    (updated (retained (count_to x before now) before page ram icons) after now running ram icons) x

unfoldable pub fall_scan : Scan → Settings → Time → Option ℕ × Scan
fall_scan x s now = changed (check_moment x (valid_settings s) now) (stopped (count_to x s now)) x

unfoldable pub rise_scan : Scan → Settings → Time → (runs : Bool) → Option ℕ × Scan
rise_scan x s now runs = changed (check_moment x (valid_settings s) now) (resumed x s now runs) x
