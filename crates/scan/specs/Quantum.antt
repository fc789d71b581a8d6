-- Document 01, 'Scan, one quantum at a time'.
use Rattle.std.specs.Prelude.{ℕ, ◌+◌, ◌%◌, Bool, false, cond, not, ◌&&◌, ◌==◌, nat_le, Option, None, Some}
use Rattle.clock.specs.declared.rate.Rate.{Rate}
use Rattle.clock.specs.Rate.{same_rate}
use Rattle.clock.specs.Edges.{started, moved_by}
use Rattle.clock.specs.declared.edges.Clock.{Clock}
use Rattle.scan.specs.declared.settings.Settings.{Settings}
use Rattle.scan.specs.declared.settings.Frame.{Frame}
use Rattle.scan.specs.declared.state.Scan.{Scan}
use Rattle.scan.specs.declared.state.Ticking.{Ticking}
use Rattle.scan.specs.declared.state.Inversion.{Inversion}
use Rattle.scan.specs.Settings.{pwm_of, frc_count_of, frame_of, rows_in, rate_of}
use Rattle.scan.specs.State.{rows}

-- a quantum raises step; at PWM the step is 0 and the row ends
unfoldable pub row_ends : Scan → Bool
row_ends x = nat_le x.pwm (x.step + 1)

-- after the last row the frame ends
unfoldable pub frame_ends : Scan → Bool
frame_ends x = row_ends x && nat_le (rows x) (x.row + 1)

-- one more ended row completes the lines of an inversion
unfoldable pub lines_end : Inversion → Bool
lines_end i = nat_le i.lines (i.count + 1)

-- with line inversion 0 each frame end flips polarity; otherwise each multiple of the lines
unfoldable pub flips : Inversion → (row_ended frame_ended : Bool) → Bool
flips i row_ended frame_ended = cond (i.lines == 0) frame_ended (row_ended && lines_end i)

-- the count of ended rows after one more, which returns to 0 at a multiple and stands still with inversion 0
unfoldable pub count_on : Inversion → ℕ
count_on i = cond (i.lines == 0) i.count (cond (lines_end i) 0 (i.count + 1))

-- a row end takes a differing line inversion with its count 0
unfoldable pub inversion_after : Inversion → (lines : ℕ) → (row_ended frame_ended : Bool) → Inversion
inversion_after i lines row_ended frame_ended = record {
  lines = cond row_ended lines i.lines;
  count = cond row_ended (cond (i.lines == lines) (count_on i) 0) i.count;
  inverted = cond (flips i row_ended frame_ended) (not i.inverted) i.inverted;
}

-- a frame end takes duty, icons, first common, common direction, start line and FRC count
unfoldable pub frame_after : Scan → Settings → Frame
frame_after x s = cond (frame_ends x) (frame_of s) x.frame

-- an edge further at rate r; where the rate then is another, a new clock starts at that edge
unfoldable pub ticked : Option Clock → Rate → (new : Rate) → Option Clock
ticked (Some c) r new =
    cond (same_rate r new) (Some (moved_by c r 1)) (Some (started (moved_by c r 1).at new))
ticked None r new = None

-- at the end of the quantum the rate of the present settings and the rows then held is the scan's
unfoldable pub ticked_to : Ticking → Rate → Ticking
ticked_to t new = record { clock = ticked t.clock t.rate new; rate = new }

-- one quantum. A row end takes PWM, and the FRC phase becomes (phase + 1) mod the new count at a frame end; each quantum
-- latches anew
unfoldable pub quantum : Scan → Settings → Scan
quantum x s = record {
  ticking = ticked_to x.ticking (rate_of s (rows_in (frame_after x s)));
  latch = record { segments = x.latch.segments; latched = false };
  frame = frame_after x s;
  pwm = cond (row_ends x) (pwm_of s.gray_mode) x.pwm;
  row = cond (frame_ends x) 0 (cond (row_ends x) (x.row + 1) x.row);
  step = cond (row_ends x) 0 (x.step + 1);
  frc = cond (frame_ends x) ((x.frc + 1) % frc_count_of s.gray_mode) x.frc;
  inversion = inversion_after x.inversion s.inversion_lines (row_ends x) (frame_ends x);
}
