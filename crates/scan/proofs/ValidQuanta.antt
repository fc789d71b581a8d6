-- A quantum keeps a scan valid: numbers 4 and 5 hold of what is counted.
use Rattle.std.proofs.Common.{◌≡◌, ℕ, zero, suc, ◌+◌, ◌/◌, ◌%◌, ◌<◌, ◌≤◌, Bool, true, false, cond, ◌&&◌, ◌||◌, eqb, leb, ltb, ◌⊎◌, get_or, refl, ap, inl, inr, mod-lt, arith, ne_eqb, eqb-true, leb-false, leb-true}
use mathlib.Core.Bool.{false≢true}
use Rattle.std.specs.Prelude.{Option, Some, None}
use Rattle.clock.specs.declared.time.Time.{Time}
use Rattle.clock.specs.declared.rate.Rate.{Rate}
use Rattle.checks.proofs.Tests.{either}
use Rattle.clock.specs.Edges.{moved_by, started}
use Rattle.clock.specs.Rate.{is_lcd, same_rate}
use Rattle.clock.specs.Time.{in_range}
use Rattle.clock.proofs.Checks.{valid, valid_test}
use Rattle.clock.proofs.Laws.{earlier_in_range, moved_valid, started_valid}
use Rattle.clock.proofs.Rates.{lcd_bounds, lcd_given, same_rate_lem}
use Rattle.scan.specs.Check.{lines_ok, frc_count_ok, pwm_ok, valid_frame, valid_settings, valid_running}
use Rattle.scan.specs.Count.{due_at, due}
use Rattle.scan.specs.Quantum.{row_ends, frame_ends, lines_end, count_on, inversion_after, frame_after, ticked, ticked_to, quantum}
use Rattle.scan.specs.Settings.{pwm_widths, pwm_of, frc_count_of, frame_of, rows_of, rows_in, rate_of}
use Rattle.scan.specs.State.{rows, with_ticking}
use Rattle.scan.proofs.Checks.{Valid, FrameFits, InversionFits, ValidSettings}
use Rattle.clock.specs.declared.edges.Clock.{Clock}
use Rattle.scan.specs.declared.settings.Settings.{Settings}
use Rattle.scan.specs.declared.settings.Frame.{Frame}
use Rattle.scan.specs.declared.state.Scan.{Scan}
use Rattle.scan.specs.declared.state.Inversion.{Inversion}
use Rattle.scan.specs.declared.state.Ticking.{Ticking}

-- the values that settings give are in range
pub pwm_of_ok : (g : ℕ) → pwm_ok (pwm_of g) ≡ true
unfolding pwm_ok pwm_of
pwm_of_ok g = go (g % 4) (mod-lt g (omega arith))
  where
    go : (k : ℕ) → k < 4 → pwm_ok (get_or pwm_widths k 0) ≡ true
    go zero h = refl
    go (suc zero) h = refl
    go (suc (suc zero)) h = refl
    go (suc (suc (suc zero))) h = refl
    go (suc (suc (suc (suc k)))) h = absurd (omega arith)

pub pwm_pos : (p : ℕ) → pwm_ok p ≡ true → 0 < p
unfolding pwm_ok
pwm_pos zero h = absurd (false≢true h)
pwm_pos (suc p) h = omega arith

pub frc_count_of_ok : (g : ℕ) → frc_count_ok (frc_count_of g) ≡ true
unfolding frc_count_ok frc_count_of
frc_count_of_ok g = go (eqb (g / 4 % 2) 0)
  where
    go : (t : Bool) → frc_count_ok (cond t 4 3) ≡ true
    go true = refl
    go false = refl

pub frc_count_pos : (n : ℕ) → frc_count_ok n ≡ true → 0 < n
unfolding frc_count_ok
frc_count_pos zero h = absurd (false≢true h)
frc_count_pos (suc n) h = omega arith

pub frc_count_le : (n : ℕ) → frc_count_ok n ≡ true → n ≤ 4
unfolding frc_count_ok
frc_count_le n h = go (either (eqb n 3) (eqb n 4) h)
  where
    go : (eqb n 3 ≡ true) ⊎ (eqb n 4 ≡ true) → n ≤ 4
    go (inl e) = omega (arith, eqb-true n 3 e)
    go (inr e) = omega (arith, eqb-true n 4 e)

pub pwm_small : (p : ℕ) → pwm_ok p ≡ true → p ≤ 15
unfolding pwm_ok
pwm_small p h = go (either _ _ h)
  where
    rest : (eqb p 9 ≡ true) ⊎ (eqb p 12 ≡ true) → p ≤ 15
    rest (inl e) = omega (arith, eqb-true p 9 e)
    rest (inr e) = omega (arith, eqb-true p 12 e)

    go : (eqb p 9 || eqb p 12 ≡ true) ⊎ (eqb p 15 ≡ true) → p ≤ 15
    go (inl e) = rest (either _ _ e)
    go (inr e) = omega (arith, eqb-true p 15 e)

pub frc_count_small : (g : ℕ) → frc_count_of g ≤ 256
unfolding frc_count_of
frc_count_small g = go (eqb (g / 4 % 2) 0)
  where
    go : (t : Bool) → cond t 4 3 ≤ 256
    go true = omega arith
    go false = omega arith

rows_between : (d : ℕ) (i : Bool) → (d ≤ rows_of d i) × (rows_of d i ≤ d + 1)
rows_between d true = (omega arith, omega arith)
rows_between d false = (omega arith, omega arith)

pub rows_low : (f : Frame) → f.duty ≤ rows_in f
unfolding rows_in
rows_low f = (rows_between f.duty f.icon).0

pub rows_high : (f : Frame) → rows_in f ≤ f.duty + 1
unfolding rows_in
rows_high f = (rows_between f.duty f.icon).1

-- what the settings give a frame end
pub frame_of_fits : (s : Settings) → ValidSettings s → FrameFits (frame_of s)
unfolding frame_of
frame_of_fits s vs = record { duty_low = vs.duty_low; duty_high = vs.duty_high; com_below = vs.com_below; line_below = vs.line_below; frc_count_ok_lem = frc_count_of_ok s.gray_mode }

-- the conditions of settings, those of their frame first
frame_first : (a b d e k : Bool) → k ≡ true → d && e && b && a && k ≡ a && b && d && e
frame_first true true true true k h = h
frame_first false true true true k h = refl
frame_first true false true true k h = refl
frame_first false false true true k h = refl
frame_first true true true false k h = refl
frame_first false b true false k h = refl
frame_first true false true false k h = refl
frame_first true true false e k h = refl
frame_first false b false e k h = refl
frame_first true false false e k h = refl

pub frame_tests : (s : Settings) → valid_frame (frame_of s) && lines_ok s.inversion_lines && leb s.gray_mode 7 && leb s.oscillator_control 3 && leb s.oscillator_frequency 31 ≡ valid_settings s
unfolding valid_frame valid_settings frame_of
frame_tests s =
    ap (λ (t : Bool). t && lines_ok s.inversion_lines && leb s.gray_mode 7 && leb s.oscillator_control 3 && leb s.oscillator_frequency 31)
    (frame_first (ltb s.start_line 128) (ltb s.initial_com 128) (leb 16 s.duty) (leb s.duty 128) _ (frc_count_of_ok s.gray_mode))

pub frc_count_taken : (s : Settings) → (frame_of s).frc_count ≡ frc_count_of s.gray_mode
unfolding frame_of
frc_count_taken s = refl

-- the count after a row's end that takes the lines `taken`
lines_count : (lines taken count : ℕ) → (lines ≡ 0) ⊎ (count < lines) → (taken ≡ 0) ⊎ (cond (eqb lines taken) (cond (eqb lines 0) count (cond (leb lines (count + 1)) 0 (count + 1))) 0 < taken)
lines_count lines zero count v = inl refl
lines_count lines (suc k) count v = inr (go (eqb lines (suc k)) refl)
  where
    inner : lines ≡ suc k → (t : Bool) → leb lines (count + 1) ≡ t → cond t 0 (count + 1) < suc k
    inner e true h = omega arith
    inner e false h = omega (arith, leb-false lines (count + 1) h)

    go : (t : Bool) → eqb lines (suc k) ≡ t → cond t (cond (eqb lines 0) count (cond (leb lines (count + 1)) 0 (count + 1))) 0 < suc k
    go false h = omega arith
    go true h =
        let e : lines ≡ suc k = eqb-true _ _ h in
        rw (ne_eqb lines 0 (omega arith)) (inner e (leb lines (count + 1)) refl)

inversion_after_fits : (i : Inversion) (lines : ℕ) (row_ended_lem frame_ended_lem : Bool) → InversionFits i → lines_ok lines ≡ true → InversionFits (inversion_after i lines row_ended_lem frame_ended_lem)
unfolding inversion_after count_on lines_end
inversion_after_fits i lines true ended v l = record { lines_ok_lem = l; count_below = lines_count i.lines lines i.count v.count_below }
inversion_after_fits i lines false ended v l = record { lines_ok_lem = v.lines_ok_lem; count_below = v.count_below }

-- the rate of rows in range
pub rate_lcd : (s : Settings) → ValidSettings s → (f : Frame) → FrameFits f → is_lcd (rate_of s (rows_in f)) ≡ true
unfolding rate_of
rate_lcd s vs f v =
    lcd_given s.oscillator_control s.oscillator_frequency (rows_in f) (omega (arith, vs.frequency_high)) (omega (arith, rows_low f, v.duty_low)) (omega (arith, rows_high f, v.duty_high))

-- a clock ticked to a moment in range is valid at its rate
ticked_valid : (k : Option Clock) (r new : Rate) (now : Time) → in_range now ≡ true → is_lcd r ≡ true → is_lcd new ≡ true → valid_running k r ≡ true → due_at k r now ≡ true → valid_running (ticked k r new) new ≡ true
unfolding valid_running due_at ticked
ticked_valid None r new now i l m v d = refl
ticked_valid (Some c) r new now i l m v d = go (same_rate r new) refl
  where
    range : in_range (moved_by c r 1).at ≡ true
    range = earlier_in_range (moved_by c r 1).at now (leb-true _ _ d) i

    go : (t : Bool) → same_rate r new ≡ t → valid_running (cond t (Some (moved_by c r 1)) (Some (started (moved_by c r 1).at new))) new ≡ true
    go true h = rw (← same_rate_lem r new h) (valid_test (moved_by c r 1) r (moved_valid c r (omega (arith, (lcd_bounds r l).low)) 1 (valid c r v) range))
    go false h = valid_test (started (moved_by c r 1).at new) new (started_valid (moved_by c r 1).at new m range)

module _ (s : Settings) (vs : ValidSettings s) where
  frame_after_fits : (x : Scan) → Valid x → FrameFits (frame_after x s)
  unfolding frame_after
  frame_after_fits x v = go (frame_ends x)
    where
      go : (t : Bool) → FrameFits (cond t (frame_of s) x.frame)
      go true = frame_of_fits s vs
      go false = v.frame

  -- the counters of a quantum, with any clock and rate that pass
  pub counters_valid : (x : Scan) → Valid x → (t : Ticking) → is_lcd t.rate ≡ true → valid_running t.clock t.rate ≡ true → Valid (with_ticking (quantum x s) t)
  unfolding with_ticking quantum frame_after frame_ends row_ends
  counters_valid x v t l k = go (leb x.pwm (x.step + 1)) refl (leb (rows x) (x.row + 1)) refl
    where
      pos : 0 < pwm_of s.gray_mode
      pos = pwm_pos (pwm_of s.gray_mode) (pwm_of_ok s.gray_mode)

      inverts : (row_ended_lem frame_ended_lem : Bool) → InversionFits (inversion_after x.inversion s.inversion_lines row_ended_lem frame_ended_lem)
      inverts row_ended_lem frame_ended_lem = inversion_after_fits x.inversion s.inversion_lines row_ended_lem frame_ended_lem v.inversion vs.lines_ok_lem

      phase : 0 < frc_count_of s.gray_mode
      phase = frc_count_pos (frc_count_of s.gray_mode) (frc_count_of_ok s.gray_mode)

      first_row : 0 < rows_in (frame_of s)
      first_row = let f = frame_of_fits s vs in omega (arith, rows_low (frame_of s), f.duty_low)

      go : (a : Bool) → leb x.pwm (x.step + 1) ≡ a → (b : Bool) → leb (rows x) (x.row + 1) ≡ b → Valid (with_ticking (quantum x s) t)
      go false h b g = simp h (record {
        lcd = l;
        frame = v.frame;
        pwm_ok_lem = v.pwm_ok_lem;
        step_below = leb-false x.pwm (x.step + 1) h;
        frc_below = v.frc_below;
        row_below = v.row_below;
        inversion = inverts false false;
        clock_ok = k;
      })
      go true h false g = simp (h, g) (record {
        lcd = l;
        frame = v.frame;
        pwm_ok_lem = pwm_of_ok s.gray_mode;
        step_below = pos;
        frc_below = v.frc_below;
        row_below = leb-false (rows x) (x.row + 1) g;
        inversion = inverts true false;
        clock_ok = k;
      })
      go true h true g = simp (h, g) (record {
        lcd = l;
        frame = frame_of_fits s vs;
        pwm_ok_lem = pwm_of_ok s.gray_mode;
        step_below = pos;
        frc_below = rw (frc_count_taken s) (mod-lt (x.frc + 1) phase);
        row_below = first_row;
        inversion = inverts true true;
        clock_ok = k;
      })

  module _ (now : Time) (i : in_range now ≡ true) where
    pub quantum_valid : (x : Scan) → Valid x → due x now ≡ true → Valid (quantum x s)
    unfolding with_ticking quantum ticked_to due
    quantum_valid x v d =
        let lcd = rate_lcd s vs (frame_after x s) (frame_after_fits x v) in
        counters_valid x v (quantum x s).ticking lcd (ticked_valid x.ticking.clock x.ticking.rate (rate_of s (rows_in (frame_after x s))) now i v.lcd lcd v.clock_ok d)
