-- Document 01, 'Scan': the scan counted to a moment, and counted in pieces.
use Rattle.std.specs.Prelude.{ℕ, zero, suc, ◌+◌, ◌-◌, ◌*◌, Bool, false, cond, not, ◌&&◌, ◌==◌, nat_le, Option, None, Some, Result, Ok, Err}
use Rattle.std.specs.Bool.{beq}
use Rattle.checks.specs.Checks.{changed}
use Rattle.clock.specs.declared.time.Time.{Time}
use Rattle.clock.specs.declared.rate.Rate.{Rate}
use Rattle.clock.specs.Time.{raw}
use Rattle.clock.specs.Rate.{same_rate}
use Rattle.clock.specs.Edges.{moved_by}
use Rattle.clock.specs.declared.edges.Clock.{Clock}
use Rattle.scan.specs.declared.settings.Settings.{Settings}
use Rattle.scan.specs.declared.settings.Frame.{Frame}
use Rattle.scan.specs.declared.state.Scan.{Scan}
use Rattle.scan.specs.declared.count.Counted.{Counted}
use Rattle.scan.specs.declared.check.Refusal.{Refusal}
use Rattle.scan.specs.Settings.{pwm_of, frame_of, rate_of}
use Rattle.scan.specs.State.{rows}
use Rattle.scan.specs.Check.{number, valid_settings, check_moment}
use Rattle.scan.specs.Quantum.{quantum}

-- the next edge is not later than now
unfoldable pub due_at : Option Clock → Rate → Time → Bool
due_at (Some c) r now = nat_le (raw (moved_by c r 1).at) (raw now)
due_at None r now = false

unfoldable pub due : Scan → Time → Bool
due x now = due_at x.ticking.clock x.ticking.rate now

-- quanta one after another while the next edge is not later than now, k of them at the most
unfoldable pub count_for : ℕ → Scan → Settings → Time → Scan
count_for zero x s now = x
count_for (suc k) x s now = cond (due x now) (count_for k (quantum x s) s now) x

-- the scan counted to now. An edge is at least one fraction unit later than the one before, so the bound is never
-- reached (proofs/Counting.antt, `count_ends`)
unfoldable pub count_to : Scan → Settings → Time → Scan
count_to x s now = count_for (raw now + 1) x s now

-- the settings that a row end takes are in force
unfoldable pub row_same : Scan → Settings → Bool
row_same x s = pwm_of s.gray_mode == x.pwm && s.inversion_lines == x.inversion.lines

-- the settings that a frame end takes are in force
unfoldable pub same_frame : Frame → Frame → Bool
same_frame f g =
    (f.duty == g.duty)
    && beq f.icon g.icon
    && f.initial_com == g.initial_com
    && beq f.common_reverse g.common_reverse
    && f.start_line == g.start_line
    && f.frc_count == g.frc_count

unfoldable pub frame_same : Scan → Settings → Bool
frame_same x s = same_frame (frame_of s) x.frame

-- the rate is that of the present settings and the rows held
unfoldable pub rate_same : Scan → Settings → Bool
rate_same x s = same_rate x.ticking.rate (rate_of s (rows x))

-- the piece rule: 1 quantum while the rate differs, else to the row end while PWM or inversion differs, else to the
-- frame end while a frame setting differs, else all
unfoldable pub limit_with : Scan → Settings → ℕ → ℕ
limit_with x s all =
    cond (not (rate_same x s)) 1
    (cond (not (row_same x s)) (x.pwm - x.step)
    (cond (not (frame_same x s)) ((rows x - x.row) * x.pwm - x.step)
    all))

-- all quanta up to now are at most raw now + 1
abbrev pub piece_limit : Scan → Settings → Time → ℕ
piece_limit x s now = limit_with x s (raw now + 1)

-- one use of the piece rule
unfoldable pub piece : Scan → Settings → Time → Scan
piece x s now = count_for (piece_limit x s now) x s now

-- how often the piece rule is used until no edge is due, k times at the most
unfoldable pub pieces_for : ℕ → Scan → Settings → Time → ℕ
pieces_for zero x s now = 0
pieces_for (suc k) x s now = cond (due x now) (suc (pieces_for k (piece x s now) s now)) 0

-- the uses of the piece rule. There are at most 4, so the bound is never reached (proofs/Stages.antt)
unfoldable pub pieces : Scan → Settings → Time → ℕ
pieces x s now = pieces_for (raw now + 4) x s now

-- the answer: the number of the refusal, the scan and the pieces. A refusal gives back the scan given
abbrev pub answered_count : (given : Scan) → Result Counted Refusal → Option ℕ × (Scan × ℕ)
answered_count given (Ok counted) = (None, (counted.scan, counted.pieces))
answered_count given (Err why) = (Some (number why), (given, 0))

-- the call; a refusal gives back the scan given
unfoldable pub count_scan : Scan → Settings → Time → Option ℕ × (Scan × ℕ)
count_scan x s now = changed (check_moment x (valid_settings s) now) (count_to x s now, pieces x s now) (x, 0)
