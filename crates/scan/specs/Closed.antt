-- Definitions that contracts of src/closed.rt cite: n quanta at once by division and remainder. Nothing here is a rule; that it
-- comes to n quanta one after another is a law (proofs/Quanta.antt).
use Rattle.std.specs.Prelude.{ℕ, zero, suc, ◌+◌, ◌/◌, ◌%◌, Bool, false, cond, not, ◌==◌, Option, None, Some}
use Rattle.clock.specs.declared.rate.Rate.{Rate}
use Rattle.clock.specs.Rate.{same_rate}
use Rattle.clock.specs.Edges.{started, moved_by}
use Rattle.clock.specs.declared.edges.Clock.{Clock}
use Rattle.scan.specs.declared.settings.Settings.{Settings}
use Rattle.scan.specs.declared.state.Scan.{Scan}
use Rattle.scan.specs.declared.state.Ticking.{Ticking}
use Rattle.scan.specs.declared.state.Inversion.{Inversion}
use Rattle.scan.specs.Settings.{pwm_of, frc_count_of, frame_of}
use Rattle.scan.specs.State.{rows}
use Rattle.scan.specs.Quantum.{quantum}

-- n quanta, one after another
unfoldable pub quanta : ℕ → Scan → Settings → Scan
quanta zero x s = x
quanta (suc n) x s = quantum (quanta n x s) s

-- n edges further at rate r; where the rate then is another, a new clock starts at the last of them
unfoldable pub ticked_by : ℕ → Option Clock → Rate → (new : Rate) → Option Clock
ticked_by n (Some c) r new =
    cond (same_rate r new) (Some (moved_by c r n)) (Some (started (moved_by c r n).at new))
ticked_by n None r new = None

-- b after n flips
abbrev pub flipped : Bool → ℕ → Bool
flipped b n = cond (n % 2 == 0) b (not b)

-- how often e ended rows and f ended frames flip
abbrev pub flips_in : ℕ → ℕ → ℕ → ℕ → ℕ
flips_in lines count e f = cond (lines == 0) f ((count + e) / lines)

-- the count of rows after e ended rows, with the lines in force
abbrev pub count_in : ℕ → ℕ → ℕ → ℕ
count_in lines count e = cond (lines == 0) count ((count + e) % lines)

-- the same where the last row's end takes the lines `taken`
abbrev pub count_taken : ℕ → ℕ → ℕ → ℕ → ℕ
count_taken lines taken count e = cond (lines == taken) (count_in lines count e) 0

-- the same, and the count itself where no row has ended
abbrev pub count_after : ℕ → ℕ → ℕ → ℕ → ℕ
count_after lines taken count e = cond (e == 0) count (count_taken lines taken count e)

-- the inversion e ended rows and f ended frames later, the last row's end taking `lines`
unfoldable pub inversion_in : Inversion → (lines e f : ℕ) → Inversion
inversion_in i lines e f = record {
  lines = cond (e == 0) i.lines lines;
  count = count_after i.lines lines i.count e;
  inverted = flipped i.inverted (flips_in i.lines i.count e f);
}

-- the same where a row has ended
abbrev pub inversion_taken : Inversion → (lines e f : ℕ) → Inversion
inversion_taken i lines e f = record {
  lines = lines;
  count = count_taken i.lines lines i.count e;
  inverted = flipped i.inverted (flips_in i.lines i.count e f);
}

-- the scan at step t and row r, e rows and f frames later, with a given clock and rate and latch mark
unfoldable pub after : Scan → Settings → Ticking → Bool → (t r e f : ℕ) → Scan
after x s k b t r e f = record {
  ticking = k;
  latch = record { segments = x.latch.segments; latched = b };
  frame = cond (f == 0) x.frame (frame_of s);
  pwm = cond (e == 0) x.pwm (pwm_of s.gray_mode);
  row = r;
  step = t;
  frc = cond (f == 0) x.frc ((x.frc + f) % frc_count_of s.gray_mode);
  inversion = inversion_in x.inversion s.inversion_lines e f;
}

-- within a row, only the step moves
abbrev pub in_row : Scan → (t : ℕ) → Scan
in_row x t = record {
  ticking = x.ticking;
  latch = record { segments = x.latch.segments; latched = false };
  frame = x.frame;
  pwm = x.pwm;
  row = x.row;
  step = t;
  frc = x.frc;
  inversion = x.inversion;
}

-- at step t and row r, where e rows have ended
abbrev pub rows_ended : Scan → Settings → (t r e f : ℕ) → Scan
rows_ended x s t r e f = record {
  ticking = x.ticking;
  latch = record { segments = x.latch.segments; latched = false };
  frame = x.frame;
  pwm = pwm_of s.gray_mode;
  row = r;
  step = t;
  frc = x.frc;
  inversion = inversion_taken x.inversion s.inversion_lines e f;
}

-- where f frames have ended too
abbrev pub frames_ended : Scan → Settings → (f : ℕ) → Scan
frames_ended x s f = record {
  ticking = x.ticking;
  latch = x.latch;
  frame = frame_of s;
  pwm = x.pwm;
  row = x.row;
  step = x.step;
  frc = (x.frc + f) % frc_count_of s.gray_mode;
  inversion = x.inversion;
}

-- the rows ended and the frames ended by n quanta
abbrev pub ended_rows : Scan → ℕ → ℕ
ended_rows x n = (x.step + n) / x.pwm

abbrev pub ended_frames : Scan → ℕ → ℕ
ended_frames x n = (x.row + ended_rows x n) / rows x

-- the counters after n quanta, with a given clock and rate and latch mark
unfoldable pub closed : Scan → Settings → Ticking → Bool → ℕ → Scan
closed x s k b n =
    after x s k b ((x.step + n) % x.pwm) ((x.row + ended_rows x n) % rows x) (ended_rows x n) (ended_frames x n)
