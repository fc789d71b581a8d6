-- n quanta at once: what src/closed.rt computes by division and remainder equals n quanta one after another, while no
-- setting changes before the last of them.
use Rattle.std.proofs.Common.{◌≡◌, ℕ, zero, suc, ◌+◌, ◌/◌, ◌%◌, ◌<◌, ◌≤◌, Bool, true, false, cond, eqb, leb, ◌⊎◌, sym, refl, ap, ◌∙◌, inl, inr, add-zero, mod-eq_of_lt, suc-add, zero-add, add-one, arith, le-leb, leb-false, leb-true}
use native.Mathlib.Nat.{div-eq_of_lt}
use borrow.Author.Tests.{lt-leb}
use Rattle.std.specs.Prelude.{Option, Some, None}
use Rattle.clock.specs.declared.rate.Rate.{Rate}
use Rattle.clock.proofs.Laws.{moved_moved}
use Rattle.clock.proofs.Rates.{same_refl}
use Rattle.scan.specs.Closed.{quanta, ticked_by, flipped, flips_in, inversion_in, ended_rows, ended_frames, after, closed}
use Rattle.scan.specs.Fast.{inversion_on, onward}
use Rattle.scan.specs.Quantum.{row_ends, frame_ends, lines_end, flips, count_on, inversion_after, frame_after, ticked, ticked_to, quantum}
use Rattle.scan.specs.Settings.{pwm_of, frc_count_of, frame_of, rows_in, rate_of}
use Rattle.scan.specs.State.{rows, with_ticking}
use Rattle.scan.proofs.Checks.{Valid}
use Rattle.scan.proofs.Numbers.{div_in, mod_in, div_out, mod_out, cond_same, keep, not_zero, count_held, count_next, flips_next, frc_held, frc_next, flips_none}
use Rattle.clock.specs.declared.edges.Clock.{Clock}
use Rattle.scan.specs.declared.settings.Settings.{Settings}
use Rattle.scan.specs.declared.settings.Frame.{Frame}
use Rattle.scan.specs.declared.state.Scan.{Scan}
use Rattle.scan.specs.declared.state.Ticking.{Ticking}
use Rattle.scan.specs.declared.state.Inversion.{Inversion}

-- the settings that a row end takes are in force
pub record RowSettled (x : Scan) (s : Settings) : Type 0 where
  pub pwm : pwm_of s.gray_mode ≡ x.pwm
  pub lines : s.inversion_lines ≡ x.inversion.lines

-- the rate of the rows after f ended frames
unfoldable pub rate_after : Scan → Settings → ℕ → Rate
rate_after x s f = rate_of s (rows_in (cond (eqb f 0) x.frame (frame_of s)))

via : {A B C : Type 0} → (B → C) → A ⊎ B → A ⊎ C
via g (inl a) = inl a
via g (inr b) = inr (g b)

-- a row's end on an inversion with its lines in force
inversion_next : (i : Inversion) (lines e f : ℕ) (ended : Bool) → inversion_after (inversion_on i e f) lines true ended ≡ inversion_in i lines (e + 1) (cond ended (f + 1) f)
unfolding inversion_after inversion_in inversion_on flips count_on lines_end
inversion_next i lines e f ended = simp not_zero (λ j. record {
  lines = lines;
  count = cond (eqb i.lines lines) (count_next i.lines i.count e j) 0;
  inverted = flips_next i.lines i.count e f i.inverted ended j;
})

module _ (x : Scan) (s : Settings) (v : Valid x) (k : Ticking) (b : Bool) (t r e f : ℕ) (ro : (e ≡ 0) ⊎ RowSettled x s) (fo : (f ≡ 0) ⊎ (frame_of s ≡ x.frame)) where
  frcs : (f ≡ 0) ⊎ (frc_count_of s.gray_mode ≡ x.frame.frc_count)
  unfolding frame_of
  frcs = via (λ h. ap (λ (g : Frame). g.frc_count) h) fo

  inversion_held : inversion_in x.inversion s.inversion_lines e f ≡ inversion_on x.inversion e f
  unfolding inversion_in inversion_on
  inversion_held = λ i. record {
    lines = keep e (via (λ h. h.lines) ro) i;
    count = count_held x.inversion.lines s.inversion_lines x.inversion.count e v.inversion.count_below (via (λ h. h.lines) ro) i;
    inverted = flipped x.inversion.inverted (flips_in x.inversion.lines x.inversion.count e f);
  }

  pub flat : after x s k b t r e f ≡ onward x k b t r e f
  unfolding after onward
  flat = λ i. record {
    ticking = k;
    latch = record { segments = x.latch.segments; latched = b };
    frame = keep f fo i;
    pwm = keep e (via (λ h. h.pwm) ro) i;
    row = r;
    step = t;
    frc = frc_held x.frc x.frame.frc_count (frc_count_of s.gray_mode) f v.frc_below frcs i;
    inversion = inversion_held i;
  }

  -- the rate while the rows are those of the scan
  rate_held : rate_after x s f ≡ rate_of s (rows x)
  unfolding rate_after
  rate_held = λ i. rate_of s (rows_in (keep f fo i))

  inside : t + 1 < x.pwm → quantum (onward x k b t r e f) s ≡ onward x (ticked_to k (rate_of s (rows x))) false (t + 1) r e f
  unfolding quantum inversion_after flips frame_after frame_ends row_ends onward
  inside h = simp (lt-leb x.pwm (t + 1) h, cond_same)

  row_end : x.pwm ≤ t + 1 → r + 1 < rows x → quantum (onward x k b t r e f) s ≡ after x s (ticked_to k (rate_of s (rows x))) false 0 (r + 1) (e + 1) f
  unfolding quantum frame_after frame_ends row_ends onward after
  row_end h g = simp (le-leb x.pwm (t + 1) h, lt-leb (rows x) (r + 1) g, not_zero) (λ i. record {
    ticking = ticked_to k (rate_of s (rows x));
    latch = record { segments = x.latch.segments; latched = false };
    frame = sym (keep f fo) i;
    pwm = pwm_of s.gray_mode;
    row = r + 1;
    step = 0;
    frc = sym (frc_held x.frc x.frame.frc_count (frc_count_of s.gray_mode) f v.frc_below frcs) i;
    inversion = inversion_next x.inversion s.inversion_lines e f false i;
  })

  frame_end : x.pwm ≤ t + 1 → rows x ≤ r + 1 → quantum (onward x k b t r e f) s ≡ after x s (ticked_to k (rate_after x s (f + 1))) false 0 0 (e + 1) (f + 1)
  unfolding quantum frame_after frame_ends row_ends onward after rate_after
  frame_end h g = simp (le-leb x.pwm (t + 1) h, le-leb (rows x) (r + 1) g, not_zero) (λ i. record {
    ticking = ticked_to k (rate_of s (rows_in (frame_of s)));
    latch = record { segments = x.latch.segments; latched = false };
    frame = frame_of s;
    pwm = pwm_of s.gray_mode;
    row = 0;
    step = 0;
    frc = frc_next x.frc x.frame.frc_count (frc_count_of s.gray_mode) f v.frc_below frcs i;
    inversion = inversion_next x.inversion s.inversion_lines e f true i;
  })

-- quanta after quanta
pub quanta_add : (n m : ℕ) (x : Scan) (s : Settings) → quanta n (quanta m x s) s ≡ quanta (n + m) x s
unfolding quanta
quanta_add zero m x s = ap (λ (k : ℕ). quanta k x s) (sym (zero-add m))
quanta_add (suc n) m x s = ap (λ (y : Scan). quantum y s) (quanta_add n m x s) ∙ ap (λ (k : ℕ). quanta k x s) (sym (suc-add n m))

-- the counters do not depend on clock and rate
module _ (s : Settings) where
  pub quantum_counters : (x : Scan) (t u : Ticking) → with_ticking (quantum (with_ticking x t) s) u ≡ with_ticking (quantum x s) u
  unfolding with_ticking quantum frame_after frame_ends row_ends
  quantum_counters x t u = refl

  quanta_counters : (n : ℕ) (x : Scan) (t u : Ticking) → with_ticking (quanta n (with_ticking x t) s) u ≡ with_ticking (quanta n x s) u
  unfolding quanta with_ticking
  quanta_counters zero x t u = refl
  quanta_counters (suc n) x t u =
      sym (quantum_counters (quanta n (with_ticking x t) s) u u)
      ∙ ap (λ (y : Scan). with_ticking (quantum y s) u) (quanta_counters n x t u)
      ∙ quantum_counters (quanta n x s) u u

  pub counters_on : (n m : ℕ) (x : Scan) (t : Ticking) → with_ticking (quanta n (with_ticking (quanta m x s) t) s) t ≡ with_ticking (quanta (n + m) x s) t
  counters_on n m x t = quanta_counters n (quanta m x s) t t ∙ ap (λ (y : Scan). with_ticking y t) (quanta_add n m x s)

-- a clock ticked once is ticked by one
pub ticked_once : (k : Option Clock) (r new : Rate) → ticked k r new ≡ ticked_by 1 k r new
unfolding ticked ticked_by
ticked_once (Some c) r new = refl
ticked_once None r new = refl

-- a clock ticked n times at one rate, and once more
pub ticked_ticked : (n : ℕ) (k : Option Clock) (r new : Rate) → ticked (ticked_by n k r r) r new ≡ ticked_by (n + 1) k r new
unfolding ticked ticked_by
ticked_ticked n (Some c) r new = simp (same_refl r, moved_moved c r n 1)
ticked_ticked n None r new = refl

-- clock and rate, and latch mark, after n quanta
unfoldable pub ticking_in : Scan → Settings → ℕ → Ticking
ticking_in x s zero = x.ticking
ticking_in x s (suc n) = record {
  clock = ticked_by (suc n) x.ticking.clock x.ticking.rate (rate_after x s (ended_frames x (suc n)));
  rate = rate_after x s (ended_frames x (suc n));
}

unfoldable pub latch_in : Scan → ℕ → Bool
latch_in x zero = x.latch.latched
latch_in x (suc n) = false

unfoldable pub whole : Scan → Settings → ℕ → Scan
whole x s n = closed x s (ticking_in x s n) (latch_in x n) n

-- n quanta after which a further one begins with no setting changed
pub record InForce (x : Scan) (s : Settings) (n : ℕ) : Type 0 where
  pub row_ok : (ended_rows x n ≡ 0) ⊎ RowSettled x s
  pub frame_ok : (ended_frames x n ≡ 0) ⊎ (frame_of s ≡ x.frame)
  pub rate_ok : (n ≡ 0) ⊎ (rate_of s (rows x) ≡ x.ticking.rate)

module _ (x : Scan) (s : Settings) (v : Valid x) where
  rows_rate : (f : ℕ) → (f ≡ 0) ⊎ (frame_of s ≡ x.frame) → rate_after x s f ≡ rate_of s (rows x)
  rows_rate f fo = rate_held x s v x.ticking false 0 0 0 f (inl refl) fo

  -- while another quantum follows, rate and clock are those of the scan
  pub rate_stays_lem : (n : ℕ) → InForce x s n → (ticking_in x s n).rate ≡ x.ticking.rate
  unfolding ticking_in
  rate_stays_lem zero ok = refl
  rate_stays_lem (suc n) ok = rows_rate (ended_frames x (suc n)) ok.frame_ok ∙ go ok.rate_ok
    where
      go : (suc n ≡ 0) ⊎ (rate_of s (rows x) ≡ x.ticking.rate) → rate_of s (rows x) ≡ x.ticking.rate
      go (inl z) = absurd (omega arith)
      go (inr e) = e

  clock_next : (n : ℕ) → InForce x s n → (new : Rate) → ticked (ticking_in x s n).clock (ticking_in x s n).rate new ≡ ticked_by (suc n) x.ticking.clock x.ticking.rate new
  unfolding ticking_in
  clock_next zero ok new = ticked_once x.ticking.clock x.ticking.rate new
  clock_next (suc n) ok new =
      let e = rate_stays_lem (suc n) ok in
      ap (λ (q : Rate). ticked (ticked_by (suc n) x.ticking.clock x.ticking.rate q) q new) e
      ∙ ticked_ticked (suc n) x.ticking.clock x.ticking.rate new
      ∙ ap (λ (m : ℕ). ticked_by m x.ticking.clock x.ticking.rate new) (add-one (suc n))

  module _ (n : ℕ) (ok : InForce x s n) where
    -- with the clock and the rate after n + 1 quanta, for the rate q
    abbrev ended : Rate → (t r e f : ℕ) → Scan
    ended q t r e f = after x s (record { clock = ticked_by (suc n) x.ticking.clock x.ticking.rate q; rate = q }) false t r e f

    ends : (t r e f : ℕ) (new : Rate) → new ≡ rate_after x s f → (x.step + suc n) % x.pwm ≡ t → ended_rows x (suc n) ≡ e → (x.row + e) % rows x ≡ r → (x.row + e) / rows x ≡ f → after x s (ticked_to (ticking_in x s n) new) false t r e f ≡ whole x s (suc n)
    unfolding whole closed ticked_to ticking_in latch_in
    ends t r e f new p pt pe pr pf =
        ap (λ (q : Option Clock). after x s (record { clock = q; rate = new }) false t r e f) (clock_next n ok new)
        ∙ ap (λ (q : Rate). ended q t r e f) p
        ∙ (λ i. ended (rate_after x s (sym pf i)) (sym pt i) (sym pr i) e (sym pf i))
        ∙ ap (λ (m : ℕ). ended (rate_after x s ((x.row + m) / rows x)) ((x.step + suc n) % x.pwm) ((x.row + m) % rows x) m ((x.row + m) / rows x)) (sym pe)

    next : quantum (whole x s n) s ≡ whole x s (suc n)
    unfolding whole closed
    next = go (leb x.pwm (t + 1)) refl (leb (rows x) (r + 1)) refl
      where
        e : ℕ
        e = ended_rows x n

        t : ℕ
        t = (x.step + n) % x.pwm

        f : ℕ
        f = ended_frames x n

        r : ℕ
        r = (x.row + e) % rows x

        pwm_pos : 0 < x.pwm
        pwm_pos = omega (arith, v.step_below)

        rows_pos : 0 < rows x
        rows_pos = omega (arith, v.row_below)

        k : Ticking
        k = ticking_in x s n

        b : Bool
        b = latch_in x n

        flattened : quantum (whole x s n) s ≡ quantum (onward x k b t r e f) s
        flattened = ap (λ (y : Scan). quantum y s) (flat x s v k b t r e f ok.row_ok ok.frame_ok)

        go : (a : Bool) → leb x.pwm (t + 1) ≡ a → (c : Bool) → leb (rows x) (r + 1) ≡ c → quantum (whole x s n) s ≡ whole x s (suc n)
        go false h c g =
            flattened
            ∙ inside x s v k b t r e f ok.row_ok ok.frame_ok (leb-false _ _ h)
            ∙ sym (flat x s v (ticked_to k (rate_of s (rows x))) false (t + 1) r e f ok.row_ok ok.frame_ok)
            ∙ ends (t + 1) r e f (rate_of s (rows x)) (sym (rows_rate f ok.frame_ok))
            (mod_in (x.step + n) x.pwm {a' = x.step + suc n} (omega arith) (leb-false _ _ h))
            (div_in (x.step + n) x.pwm {a' = x.step + suc n} (omega arith) (leb-false _ _ h))
            refl refl
        go true h false g =
            flattened
            ∙ row_end x s v k b t r e f ok.row_ok ok.frame_ok (leb-true _ _ h) (leb-false _ _ g)
            ∙ ends 0 (r + 1) (e + 1) f (rate_of s (rows x)) (sym (rows_rate f ok.frame_ok))
            (mod_out (x.step + n) x.pwm {a' = x.step + suc n} (omega arith) pwm_pos (leb-true _ _ h))
            (div_out (x.step + n) x.pwm {a' = x.step + suc n} (omega arith) pwm_pos (leb-true _ _ h))
            (mod_in (x.row + e) (rows x) {a' = x.row + (e + 1)} (omega arith) (leb-false _ _ g))
            (div_in (x.row + e) (rows x) {a' = x.row + (e + 1)} (omega arith) (leb-false _ _ g))
        go true h true g =
            flattened
            ∙ frame_end x s v k b t r e f ok.row_ok ok.frame_ok (leb-true _ _ h) (leb-true _ _ g)
            ∙ ends 0 0 (e + 1) (f + 1) (rate_after x s (f + 1)) refl
            (mod_out (x.step + n) x.pwm {a' = x.step + suc n} (omega arith) pwm_pos (leb-true _ _ h))
            (div_out (x.step + n) x.pwm {a' = x.step + suc n} (omega arith) pwm_pos (leb-true _ _ h))
            (mod_out (x.row + e) (rows x) {a' = x.row + (e + 1)} (omega arith) rows_pos (leb-true _ _ g))
            (div_out (x.row + e) (rows x) {a' = x.row + (e + 1)} (omega arith) rows_pos (leb-true _ _ g))

  pub none_counted : x ≡ whole x s zero
  unfolding whole closed after inversion_in ticking_in latch_in
  none_counted =
      let st : x.step < x.pwm = v.step_below in
      let ro : x.row < rows x = v.row_below in
      simp (
        add-zero,
        div-eq_of_lt st,
        mod-eq_of_lt st,
        div-eq_of_lt ro,
        mod-eq_of_lt ro,
        flips_none x.inversion.lines x.inversion.count v.inversion.count_below,
      )

  -- n quanta are what division and remainder give
  pub quanta_whole : (n : ℕ) → ((m : ℕ) → m < n → InForce x s m) → quanta n x s ≡ whole x s n
  unfolding quanta
  quanta_whole zero ok = none_counted
  quanta_whole (suc n) ok = ap (λ (y : Scan). quantum y s) (quanta_whole n (λ m h. ok m (omega arith))) ∙ next n (ok n (omega arith))

  pub counters_closed : (n : ℕ) → 0 < n → ((m : ℕ) → m < n → InForce x s m) → closed x s x.ticking false n ≡ with_ticking (quanta n x s) x.ticking
  unfolding whole closed after with_ticking latch_in
  counters_closed zero h ok = absurd (omega arith)
  counters_closed (suc n) h ok = sym (ap (λ (y : Scan). with_ticking y x.ticking) (quanta_whole (suc n) ok))
