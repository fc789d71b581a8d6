-- Which bytes take the fast path (src/fast.rt): those that leave the settings as they are, pass every check, need no more than
-- a count with every setting in force, and leave nothing to be begun, ended, started or dropped. What such a byte leaves is by
-- the rule, `byte_scan` (Run.antt); of any other byte the answer says only that it is another.
use Rattle.std.specs.Prelude.{ℕ, ◌+◌, ◌/◌, ◌%◌, Bool, false, cond, not, ◌&&◌, ◌||◌, List, Option, None, Some}
use Rattle.clock.specs.declared.time.Time.{Time}
use Rattle.clock.specs.declared.edges.Clock.{Clock}
use Rattle.clock.specs.Time.{in_range}
use Rattle.scan.specs.declared.settings.Settings.{Settings}
use Rattle.scan.specs.declared.state.Scan.{Scan}
use Rattle.scan.specs.declared.state.Ticking.{Ticking}
use Rattle.scan.specs.declared.state.Inversion.{Inversion}
use Rattle.scan.specs.declared.run.Running.{Running}
use Rattle.scan.specs.Check.{valid_settings, valid_scan, valid_running, memory_ok}
use Rattle.scan.specs.State.{rows}
use Rattle.scan.specs.Count.{due, count_to, row_same, frame_same, rate_same}
use Rattle.scan.specs.Run.{byte_scan}
use Rattle.scan.specs.Byte.{settled}
use Rattle.scan.specs.Closed.{flipped, flips_in, count_in, ended_rows}

-- no end of a row or frame takes another setting, and the rate is that of the settings
abbrev pub in_force : Scan → Settings → Bool
in_force x s = rate_same x s && row_same x s && frame_same x s

-- the clock passes, and an edge that is due finds every setting in force
unfoldable pub one_count : Scan → Settings → Time → Bool
one_count x s now = valid_running x.ticking.clock x.ticking.rate && (not (due x now) || in_force x s)

-- the scan counted to now where that is so
unfoldable pub counted_fast : Scan → Settings → Time → Option Scan
counted_fast x s now = cond (one_count x s now) (Some (count_to x s now)) None

-- every check but that of the clock passes
unfoldable pub checks_pass : Scan → Settings → Time → (ram icons : List ℕ) → Bool
checks_pass x s now ram icons = memory_ok ram icons && in_range now && valid_settings s && valid_scan x

unfoldable pub is_fast : Scan → Settings → Time → Running → (ram icons : List ℕ) → Bool
is_fast x s now running ram icons =
    checks_pass x s now ram icons && (one_count x s now && settled (count_to x s now) s running)

-- the scan after the byte, by the rule; none of a byte that does not take the fast path
unfoldable pub fast_byte : Scan → Settings → Time → Option ℕ → Running → (ram icons : List ℕ) → Option Scan
fast_byte x s now page running ram icons =
    cond (is_fast x s now running ram icons) (Some (byte_scan x s s now page running ram icons).1) None

-- ---- no rules: a count with every setting in force, as src/fast.rt makes it
-- the inversion e ended rows and f ended frames later, its lines in force
unfoldable pub inversion_on : Inversion → (e f : ℕ) → Inversion
inversion_on i e f = record {
  lines = i.lines;
  count = count_in i.lines i.count e;
  inverted = flipped i.inverted (flips_in i.lines i.count e f);
}

-- `after` while all that the scan had is in force
unfoldable pub onward : Scan → Ticking → Bool → (t r e f : ℕ) → Scan
onward x k b t r e f = record {
  ticking = k;
  latch = record { segments = x.latch.segments; latched = b };
  frame = x.frame;
  pwm = x.pwm;
  row = r;
  step = t;
  frc = (x.frc + f) % x.frame.frc_count;
  inversion = inversion_on x.inversion e f;
}

-- e row ends later at step t, with a clock moved on at the same rate, and n quanta later
unfoldable pub rows_on : Scan → Clock → (t e : ℕ) → Scan
rows_on x c t e = onward x (record { clock = Some c; rate = x.ticking.rate }) false t ((x.row + e) % rows x) e ((x.row + e) / rows x)

unfoldable pub moved_on : Scan → Clock → ℕ → Scan
moved_on x c n = rows_on x c ((x.step + n) % x.pwm) (ended_rows x n)

-- the scan with this clock and these counters
abbrev pub with_counters : Scan → Clock → (t r f : ℕ) → Inversion → Scan
with_counters x c t r f i = record {
  ticking = record { clock = Some c; rate = x.ticking.rate };
  latch = record { segments = x.latch.segments; latched = false };
  frame = x.frame;
  pwm = x.pwm;
  row = r;
  step = t;
  frc = f;
  inversion = i;
}
