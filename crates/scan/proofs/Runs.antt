-- What a byte, a warm rise or a fall leaves of the scan: it stays valid, a call that does not begin the scan changes nothing that is
-- shown, and where nothing is to be started, dropped or cleared the scan stays as it is.
use Rattle.std.proofs.Common.{◌≡◌, ℕ, zero, suc, ◌+◌, ◌%◌, ◌<◌, Bool, true, false, cond, not, ◌&&◌, ◌||◌, eqb, ◌⊎◌, List, [], sym, refl, ap, ◌∙◌, inl, inr, arith, eq-eqb, eqb-true}
use mathlib.Core.Bool.{false≢true}
use Rattle.std.specs.Prelude.{Option, Some, None, is_some}
use Rattle.clock.specs.declared.time.Time.{Time}
use Rattle.clock.specs.declared.rate.Rate.{Rate}
use Rattle.clock.specs.Time.{raw, in_range}
use Rattle.clock.specs.Rate.{is_lcd, same_rate}
use Rattle.clock.specs.Edges.{moved_by, started}
use Rattle.clock.proofs.Checks.{valid_test}
use Rattle.clock.proofs.Laws.{started_valid}
use Rattle.clock.specs.declared.edges.Clock.{Clock}
use Rattle.scan.specs.declared.settings.Settings.{Settings}
use Rattle.scan.specs.declared.state.Scan.{Scan}
use Rattle.scan.specs.declared.state.Ticking.{Ticking}
use Rattle.scan.specs.declared.state.Inversion.{Inversion}
use Rattle.scan.specs.declared.run.Running.{Running}
use Rattle.scan.specs.Settings.{pwm_of, frame_of, frc_count_of, rows_in, rate_of}
use Rattle.scan.specs.State.{rows, with_ticking, with_inversion, with_latch, power_on}
use Rattle.scan.specs.Check.{lines_ok, valid_settings, valid_running, check_scan}
use Rattle.scan.specs.Quantum.{row_ends, count_on, inversion_after, frame_after, ticked, ticked_to, quantum}
use Rattle.scan.specs.Count.{due_at, due, count_for, count_to}
use Rattle.scan.specs.Latch.{latched_row, shown, affects, latch_retained, retained}
use Rattle.scan.specs.Byte.{has_clock}
use Rattle.scan.specs.Run.{running_after, no_lines, cleared, taken, begun, stopped, started_if, clocked, resumed, updated}
use Rattle.scan.proofs.Checks.{Valid, InversionFits, ValidSettings, valid_scan_lem, valid_check, valid_settings_lem}
use Rattle.scan.proofs.ValidQuanta.{pwm_pos, pwm_of_ok, frc_count_pos, frc_count_of_ok, frc_count_taken, rows_low, frame_of_fits, rate_lcd}
use Rattle.scan.proofs.Counting.{count_none}
use Rattle.scan.proofs.Latches.{latch_alike}

-- a clock that runs is not started anew
pub started_some : (k : Option Clock) (x : Scan) (s : Settings) (now : Time) → is_some k ≡ true → started_if k x s now ≡ x
unfolding started_if
started_some (Some c) x s now e = refl
started_some None x s now e = absurd (false≢true e)

pub started_none : (k : Option Clock) (x : Scan) (s : Settings) (now : Time) → is_some k ≡ false → started_if k x s now ≡ with_ticking x (record { clock = Some (started now (rate_of s (rows x))); rate = rate_of s (rows x) })
unfolding started_if
started_none (Some c) x s now e = absurd (false≢true (sym e))
started_none None x s now e = refl

-- ---- a valid scan stays valid
cleared_fits : (lines : ℕ) (i : Inversion) → InversionFits i → (t : Bool) → InversionFits (cond t (no_lines i) i)
unfolding lines_ok
cleared_fits lines i v true = record { lines_ok_lem = refl; count_below = inl refl }
cleared_fits lines i v false = v

cleared_valid : (x : Scan) (s : Settings) → Valid x → Valid (cleared x s)
unfolding cleared with_inversion
cleared_valid x s v = record {
  lcd = v.lcd;
  frame = v.frame;
  pwm_ok_lem = v.pwm_ok_lem;
  step_below = v.step_below;
  frc_below = v.frc_below;
  row_below = v.row_below;
  inversion = cleared_fits s.inversion_lines x.inversion v.inversion (eqb s.inversion_lines 0);
  clock_ok = v.clock_ok;
}

count_zero : (lines : ℕ) → (lines ≡ 0) ⊎ (0 < lines)
count_zero zero = inl refl
count_zero (suc n) = inr (omega arith)

pub begun_valid : (s : Settings) (ram icons : List ℕ) → ValidSettings s → Valid (begun s ram icons)
unfolding begun latch_retained with_latch taken valid_running
begun_valid s ram icons vs = let f = frame_of_fits s vs in record {
  lcd = rate_lcd s vs (frame_of s) f;
  frame = f;
  pwm_ok_lem = pwm_of_ok s.gray_mode;
  step_below = pwm_pos (pwm_of s.gray_mode) (pwm_of_ok s.gray_mode);
  frc_below = rw (frc_count_taken s) (frc_count_pos (frc_count_of s.gray_mode) (frc_count_of_ok s.gray_mode));
  row_below = omega (arith, rows_low (frame_of s), f.duty_low);
  inversion = record { lines_ok_lem = vs.lines_ok_lem; count_below = count_zero s.inversion_lines };
  clock_ok = refl;
}

with_ticking_valid : (x : Scan) (t : Ticking) → is_lcd t.rate ≡ true → valid_running t.clock t.rate ≡ true → Valid x → Valid (with_ticking x t)
unfolding with_ticking
with_ticking_valid x t l c v = record {
  lcd = l;
  frame = v.frame;
  pwm_ok_lem = v.pwm_ok_lem;
  step_below = v.step_below;
  frc_below = v.frc_below;
  row_below = v.row_below;
  inversion = v.inversion;
  clock_ok = c;
}

pub stopped_valid : (x : Scan) → Valid x → Valid (stopped x)
unfolding stopped valid_running
stopped_valid x v = with_ticking_valid x (record { clock = None; rate = x.ticking.rate }) v.lcd refl v

clocked_valid : (x : Scan) (s : Settings) (now : Time) → Valid x → ValidSettings s → in_range now ≡ true → Valid (clocked x s now)
unfolding clocked started_if valid_running
clocked_valid x s now v vs i = go (eqb (s.oscillator_control % 2) 0) x.ticking.clock
  where
    lcd : is_lcd (rate_of s (rows x)) ≡ true
    lcd = rate_lcd s vs x.frame v.frame

    go : (t : Bool) (k : Option Clock) → Valid (cond t (started_if k x s now) (stopped x))
    go false k = stopped_valid x v
    go true (Some k) = v
    go true None =
        with_ticking_valid x (record { clock = Some (started now (rate_of s (rows x))); rate = rate_of s (rows x) }) lcd
        (valid_test (started now (rate_of s (rows x))) (rate_of s (rows x)) (started_valid now (rate_of s (rows x)) lcd i)) v

-- the scan that `clocked` is called on passes its check, and the rate of its rows is an LCD rate
module _ (x : Scan) (s : Settings) where
  pub rows_lcd : valid_settings s ≡ true → check_scan x ≡ None → is_lcd (rate_of s (rows x)) ≡ true
  rows_lcd vs p = rate_lcd s (valid_settings_lem s vs) x.frame (valid_scan_lem x p).frame

  pub cleared_passes : check_scan x ≡ None → {y : Scan} → y ≡ cleared x s → check_scan y ≡ None
  cleared_passes p e = rw e (valid_check (cleared x s) (cleared_valid x s (valid_scan_lem x p)))

  pub begun_passes : (ram icons : List ℕ) → valid_settings s ≡ true → {y : Scan} → y ≡ begun s ram icons → check_scan y ≡ None
  begun_passes ram icons vs e = rw e (valid_check (begun s ram icons) (begun_valid s ram icons (valid_settings_lem s vs)))

pub resumed_valid : (x : Scan) (s : Settings) (now : Time) (runs : Bool) → Valid x → ValidSettings s → in_range now ≡ true → Valid (resumed x s now runs)
unfolding resumed
resumed_valid x s now true v vs i = clocked_valid (cleared x s) s now (cleared_valid x s v) vs i
resumed_valid x s now false v vs i = stopped_valid (cleared x s) (cleared_valid x s v)

pub updated_valid : (x : Scan) (s : Settings) (now : Time) (running : Running) (ram icons : List ℕ) → Valid x → ValidSettings s → in_range now ≡ true → Valid (updated x s now running ram icons)
unfolding updated
updated_valid x s now Running.Begins ram icons v vs i = clocked_valid (begun s ram icons) s now (begun_valid s ram icons vs) vs i
updated_valid x s now Running.Continues ram icons v vs i = resumed_valid x s now true v vs i
updated_valid x s now Running.Stands ram icons v vs i = resumed_valid x s now false v vs i

-- ---- clock and line inversion have no part in what is shown
module _ (x : Scan) (s : Settings) (ram icons : List ℕ) where
  ticking_shown : (t : Ticking) → shown (with_ticking x t) s ram icons ≡ shown x s ram icons
  unfolding shown with_ticking
  ticking_shown t = ap (cond x.latch.latched x.latch.segments) (latch_alike {x = with_ticking x t} {y = x} s ram icons (record { step = refl; row = refl; frame = refl; frc = refl; pwm = refl }))

  pub cleared_shown : shown (cleared x s) s ram icons ≡ shown x s ram icons
  unfolding shown cleared with_inversion
  cleared_shown = ap (cond x.latch.latched x.latch.segments) (latch_alike {x = cleared x s} {y = x} s ram icons (record { step = refl; row = refl; frame = refl; frc = refl; pwm = refl }))

  pub stopped_shown : shown (stopped x) s ram icons ≡ shown x s ram icons
  unfolding stopped
  stopped_shown = ticking_shown (record { clock = None; rate = x.ticking.rate })

  pub clocked_shown : (now : Time) → shown (clocked x s now) s ram icons ≡ shown x s ram icons
  unfolding clocked started_if
  clocked_shown now = go (eqb (s.oscillator_control % 2) 0) x.ticking.clock
    where
      go : (t : Bool) (k : Option Clock) → shown (cond t (started_if k x s now) (stopped x)) s ram icons ≡ shown x s ram icons
      go false k = stopped_shown
      go true (Some k) = refl
      go true None = ticking_shown (record { clock = Some (started now (rate_of s (rows x))); rate = rate_of s (rows x) })

-- a byte that does not make the scan run changes nothing that is shown
module _ (x : Scan) (s : Settings) (now : Time) (ram icons : List ℕ) where
  pub continues_shown : shown (updated x s now Running.Continues ram icons) s ram icons ≡ shown x s ram icons
  unfolding updated resumed
  continues_shown = clocked_shown (cleared x s) s ram icons now ∙ cleared_shown x s ram icons

  pub stands_shown : shown (updated x s now Running.Stands ram icons) s ram icons ≡ shown x s ram icons
  unfolding updated resumed
  stands_shown = stopped_shown (cleared x s) s ram icons ∙ cleared_shown x s ram icons

-- a scan that is stopped is not counted on
pub stopped_stays : (x : Scan) (s : Settings) (now : Time) → count_to (stopped x) s now ≡ stopped x
unfolding count_to due due_at stopped with_ticking
stopped_stays x s now = count_none (raw now + 1) (stopped x) s now refl

-- ---- the fields that a byte or a warm rise could change are as it would leave them
pub record Quiet (x : Scan) (s : Settings) (runs : Bool) : Type 0 where
  pub clock : has_clock x.ticking.clock ≡ runs && eqb (s.oscillator_control % 2) 0
  pub lines : s.inversion_lines ≡ 0 → x.inversion.lines ≡ 0
  pub count : s.inversion_lines ≡ 0 → x.inversion.count ≡ 0

-- a number that is 0 already is cleared by nothing
clear_same : (lines n : ℕ) → (lines ≡ 0 → n ≡ 0) → cond (eqb lines 0) 0 n ≡ n
clear_same lines n h = go (eqb lines 0) refl
  where
    go : (t : Bool) → eqb lines 0 ≡ t → cond t 0 n ≡ n
    go true e = sym (h (eqb-true lines 0 e))
    go false e = refl

lines_cleared : (t : Bool) (i : Inversion) → cond t (no_lines i) i ≡ record { lines = cond t 0 i.lines; count = cond t 0 i.count; inverted = i.inverted }
lines_cleared true i = refl
lines_cleared false i = refl

module _ (x : Scan) (s : Settings) where
  cleared_same : {runs : Bool} → Quiet x s runs → cleared x s ≡ x
  unfolding cleared with_inversion
  cleared_same q = ap (with_inversion x) (lines_cleared (eqb s.inversion_lines 0) x.inversion ∙ (λ i. record {
    lines = clear_same s.inversion_lines x.inversion.lines q.lines i;
    count = clear_same s.inversion_lines x.inversion.count q.count i;
    inverted = x.inversion.inverted;
  }))

  pub stopped_same : has_clock x.ticking.clock ≡ false → stopped x ≡ x
  unfolding stopped with_ticking has_clock
  stopped_same h = go x.ticking.clock refl h
    where
      go : (k : Option Clock) → x.ticking.clock ≡ k → has_clock k ≡ false → stopped x ≡ x
      go (Some k) e h = let z : ◌≡◌ {A = ℕ} 0 1 = cc in absurd (omega arith)
      go None e h = ap (λ (k : Option Clock). with_ticking x (record { clock = k; rate = x.ticking.rate })) (sym e)

  clocked_same : (now : Time) → has_clock x.ticking.clock ≡ eqb (s.oscillator_control % 2) 0 → clocked x s now ≡ x
  unfolding clocked started_if has_clock
  clocked_same now h = go (eqb (s.oscillator_control % 2) 0) x.ticking.clock h refl
    where
      go : (t : Bool) (k : Option Clock) → has_clock k ≡ t → x.ticking.clock ≡ k → cond t (started_if k x s now) (stopped x) ≡ x
      go true (Some k) h e = refl
      go true None h e = let z : ◌≡◌ {A = ℕ} 0 1 = cc in absurd (omega arith)
      go false k h e = stopped_same (ap has_clock e ∙ h)

  -- then a byte that leaves the scan running, or not running, changes nothing
  pub updated_same : (now : Time) (runs : Bool) (ram icons : List ℕ) → Quiet x s runs → updated x s now (running_after runs runs) ram icons ≡ x
  unfolding updated resumed
  updated_same now true ram icons q = rw (cleared_same q) (clocked_same now q.clock)
  updated_same now false ram icons q = rw (cleared_same q) (stopped_same q.clock)

  -- it leaves a scan so
  clocked_has : (now : Time) → has_clock (clocked x s now).ticking.clock ≡ eqb (s.oscillator_control % 2) 0
  unfolding clocked started_if stopped with_ticking has_clock
  clocked_has now = go (eqb (s.oscillator_control % 2) 0) x.ticking.clock refl
    where
      go : (t : Bool) (k : Option Clock) → x.ticking.clock ≡ k → has_clock (cond t (started_if k x s now) (stopped x)).ticking.clock ≡ t
      go true (Some k) e = ap has_clock e
      go true None e = refl
      go false k e = refl

  clocked_lines : (now : Time) → (clocked x s now).inversion ≡ x.inversion
  unfolding clocked started_if stopped with_ticking
  clocked_lines now = go (eqb (s.oscillator_control % 2) 0) x.ticking.clock
    where
      go : (t : Bool) (k : Option Clock) → (cond t (started_if k x s now) (stopped x)).inversion ≡ x.inversion
      go true (Some k) = refl
      go true None = refl
      go false k = refl

  cleared_lines : s.inversion_lines ≡ 0 → (cleared x s).inversion ≡ no_lines x.inversion
  unfolding cleared with_inversion
  cleared_lines e = rw (eq-eqb s.inversion_lines 0 e)

module _ (x : Scan) (s : Settings) (now : Time) (ram icons : List ℕ) where
  quiet_from : (y : Scan) → (s.inversion_lines ≡ 0 → y.inversion.lines ≡ 0) → (s.inversion_lines ≡ 0 → y.inversion.count ≡ 0) → Quiet (clocked y s now) s true
  quiet_from y l c = record {
    clock = clocked_has y s now;
    lines = λ e. ap (λ (i : Inversion). i.lines) (clocked_lines y s now) ∙ l e;
    count = λ e. ap (λ (i : Inversion). i.count) (clocked_lines y s now) ∙ c e;
  }

  cleared_zero : s.inversion_lines ≡ 0 → ((cleared x s).inversion.lines ≡ 0) × ((cleared x s).inversion.count ≡ 0)
  cleared_zero e = (ap (λ (i : Inversion). i.lines) (cleared_lines x s e), ap (λ (i : Inversion). i.count) (cleared_lines x s e))

  pub updated_quiet : (was runs : Bool) → Quiet (updated x s now (running_after was runs) ram icons) s runs
  unfolding updated resumed begun latch_retained with_latch taken stopped with_ticking has_clock
  updated_quiet true true = quiet_from (cleared x s) (λ e. (cleared_zero e).0) (λ e. (cleared_zero e).1)
  updated_quiet false true = quiet_from (begun s ram icons) (λ e. e) (λ e. refl)
  updated_quiet was false = record { clock = refl; lines = λ e. (cleared_zero e).0; count = λ e. (cleared_zero e).1 }

-- a warm rise leaves a scan so
pub resumed_quiet : (x : Scan) (s : Settings) (now : Time) (runs : Bool) → Quiet (resumed x s now runs) s runs
unfolding updated
resumed_quiet x s now true = updated_quiet x s now [] [] true true
resumed_quiet x s now false = updated_quiet x s now [] [] true false

-- counting and keeping the latch leave it so
ticked_has : (k : Option Clock) (r new : Rate) → has_clock (ticked k r new) ≡ has_clock k
unfolding ticked has_clock
ticked_has (Some c) r new = go (same_rate r new)
  where
    go : (t : Bool) → has_clock (cond t (Some (moved_by c r 1)) (Some (started (moved_by c r 1).at new))) ≡ true
    go true = refl
    go false = refl
ticked_has None r new = refl

module _ (s : Settings) (runs : Bool) where
  quantum_quiet : (x : Scan) → Quiet x s runs → Quiet (quantum x s) s runs
  unfolding quantum ticked_to inversion_after count_on
  quantum_quiet x q = record {
    clock = ticked_has x.ticking.clock x.ticking.rate (rate_of s (rows_in (frame_after x s))) ∙ q.clock;
    lines = λ e. zeros (row_ends x) e (q.lines e);
    count = λ e. zeros (row_ends x) (rw (q.lines e, q.count e) (zeros (eqb 0 s.inversion_lines) refl refl)) (q.count e);
  }
    where
      zeros : (t : Bool) {a b : ℕ} → a ≡ 0 → b ≡ 0 → cond t a b ≡ 0
      zeros true p q = p
      zeros false p q = q

  count_quiet : (k : ℕ) (x : Scan) (now : Time) → Quiet x s runs → Quiet (count_for k x s now) s runs
  unfolding count_for
  count_quiet zero x now q = q
  count_quiet (suc k) x now q = go (due x now) (count_quiet k (quantum x s) now (quantum_quiet x q))
    where
      go : (t : Bool) → Quiet (count_for k (quantum x s) s now) s runs → Quiet (cond t (count_for k (quantum x s) s now) x) s runs
      go true h = h
      go false h = q

  pub count_to_quiet : (x : Scan) (now : Time) → Quiet x s runs → Quiet (count_to x s now) s runs
  unfolding count_to
  count_to_quiet x now q = count_quiet (raw now + 1) x now q

  pub retained_quiet : (x : Scan) (page : Option ℕ) (ram icons : List ℕ) → Quiet x s runs → Quiet (retained x s page ram icons) s runs
  unfolding retained latch_retained with_latch
  retained_quiet x page ram icons q = go (x.latch.latched || not (affects page (latched_row x)))
    where
      go : (t : Bool) → Quiet (cond t x (latch_retained x s ram icons)) s runs
      go true = q
      go false = record { clock = q.clock; lines = q.lines; count = q.count }

-- the scan at power-on, where nothing runs
pub power_on_quiet : (s : Settings) → Quiet power_on s false
unfolding power_on has_clock
power_on_quiet s = record { clock = refl; lines = λ e. refl; count = λ e. refl }

-- a scan that is stopped has no clock
pub stopped_clock : (x : Scan) → has_clock (stopped x).ticking.clock ≡ false
unfolding stopped with_ticking has_clock
stopped_clock x = refl
