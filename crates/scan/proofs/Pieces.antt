-- The piece rule: a piece is as many quanta at once as its limit and the edges allow, and four pieces count all.
use Rattle.std.proofs.Common.{◌≡◌, ℕ, zero, suc, ◌+◌, ◌-◌, ◌*◌, ◌/◌, ◌^◌, ◌<◌, ◌≤◌, min, Bool, true, false, cond, not, ◌&&◌, eqb, ltb, leb, ◌⊎◌, sym, refl, ap, ◌∙◌, inl, inr, div-lt_iff_lt-mul, mul-div_cancel, add-one, arith, ltb-false, ltb-true, le-ltb, lt-ltb, eq-eqb, ne_eqb, eqb-true, le-leb, leb-false, leb-true}
use mathlib.Core.Bool.{false≢true}
use native.Mathlib.Nat.{div_self, div-eq_of_lt, min-eq_left, min-eq_right}
use Rattle.std.specs.Bool.{beq}
use Rattle.std.specs.Prelude.{Option, Some, None, Result, Ok, Err}
use Rattle.clock.specs.declared.time.Time.{Time}
use Rattle.clock.specs.declared.rate.Rate.{Rate}
use Rattle.clock.specs.declared.edges.Clock.{Clock}
use Rattle.checks.proofs.Tests.{same, both}
use Rattle.clock.specs.Check.{number as number_of, valid_clock, check_clock}
use Rattle.clock.specs.Edges.{answered_pass, moved_by, edges_to, pass_edges}
use Rattle.clock.specs.Rate.{is_lcd}
use Rattle.clock.specs.Time.{raw, in_range}
use Rattle.clock.proofs.Checks.{valid}
use Rattle.clock.proofs.Laws.{earlier_in_range, moved_moved, edge_counted, counts_edge, edges_apart, edges_le}
use Rattle.clock.proofs.Rates.{lcd_bounds, same_rate_lem, same_refl}
use Rattle.scan.specs.Check.{valid_scan, valid_running, check_scan}
use Rattle.scan.specs.Closed.{quanta, ticked_by, inversion_in, ended_rows, ended_frames, after, closed}
use Rattle.scan.specs.Stretch.{limit_in, edges_in}
use Rattle.scan.specs.Count.{due_at, due, count_for, count_to, row_same, same_frame, frame_same, rate_same, limit_with, piece_limit, piece, pieces_for}
use Rattle.scan.specs.Quantum.{ticked, ticked_to, quantum}
use Rattle.scan.specs.Settings.{pwm_of, frame_of, rate_of}
use Rattle.scan.specs.State.{rows}
use Rattle.scan.proofs.Checks.{Valid, ValidSettings, valid_lcd, check_by}
use Rattle.scan.proofs.Counting.{count_valid, count_on_lem}
use Rattle.scan.proofs.Numbers.{beq_true, beq_refl, row_left}
use Rattle.scan.proofs.Quanta.{RowSettled, InForce, rate_after, ticking_in, whole, ticked_once, ticked_ticked, rate_stays_lem, quanta_whole}
use Rattle.clock.specs.declared.check.Refusal.{Refusal}
use Rattle.clock.specs.declared.edges.Passed.{Passed}
use Rattle.clock.proofs.Answers.{pass_passed, pass_valid, pass_refused}
use Rattle.scan.specs.declared.settings.Settings.{Settings}
use Rattle.scan.specs.declared.state.Scan.{Scan}
use Rattle.scan.specs.declared.settings.Frame.{Frame}

-- the comparison of what two frame ends took
same_frame_lem : (f g : Frame) → same_frame f g ≡ true → f ≡ g
unfolding same_frame
same_frame_lem f g h =
    let a = both _ _ h in
    let b = both _ _ a.0 in
    let c = both _ _ b.0 in
    let d = both _ _ c.0 in
    let e = both _ _ d.0 in
    λ i. record {
      duty = eqb-true f.duty g.duty e.0 i;
      icon = beq_true f.icon g.icon e.1 i;
      initial_com = eqb-true f.initial_com g.initial_com d.1 i;
      common_reverse = beq_true f.common_reverse g.common_reverse c.1 i;
      start_line = eqb-true f.start_line g.start_line b.1 i;
      frc_count = eqb-true f.frc_count g.frc_count a.1 i;
    }

-- and the equality that the derive gives
grouped : (a b c d e f : Bool) → a && (b && (c && (d && (e && f)))) ≡ a && b && c && d && e && f
grouped false b c d e f = refl
grouped true false c d e f = refl
grouped true true false d e f = refl
grouped true true true false e f = refl
grouped true true true true e f = refl

pub frame_eq : (f g : Frame) → eqb f.duty g.duty && (beq f.icon g.icon && (eqb f.initial_com g.initial_com && (beq f.common_reverse g.common_reverse && (eqb f.start_line g.start_line && eqb f.frc_count g.frc_count)))) ≡ same_frame f g
unfolding same_frame
frame_eq f g = grouped (eqb f.duty g.duty) (beq f.icon g.icon) (eqb f.initial_com g.initial_com) (beq f.common_reverse g.common_reverse) (eqb f.start_line g.start_line) (eqb f.frc_count g.frc_count)

frame_refl : (f : Frame) → same_frame f f ≡ true
unfolding same_frame
frame_refl f = simp (
  eq-eqb f.duty f.duty refl,
  beq_refl f.icon,
  eq-eqb f.initial_com f.initial_com refl,
  beq_refl f.common_reverse,
  eq-eqb f.start_line f.start_line refl,
  eq-eqb f.frc_count f.frc_count refl,
)

module _ (x : Scan) (s : Settings) where
  row_settled : row_same x s ≡ true → RowSettled x s
  unfolding row_same
  row_settled h = let b = both _ _ h in record { pwm = eqb-true _ _ b.0; lines = eqb-true _ _ b.1 }

  frame_settled : frame_same x s ≡ true → frame_of s ≡ x.frame
  unfolding frame_same
  frame_settled h = same_frame_lem (frame_of s) x.frame h

  pub rate_settled : rate_same x s ≡ true → rate_of s (rows x) ≡ x.ticking.rate
  unfolding rate_same
  rate_settled h = sym (same_rate_lem x.ticking.rate (rate_of s (rows x)) h)

-- quanta from the front
quanta_first : (n : ℕ) (x : Scan) (s : Settings) → quanta n (quantum x s) s ≡ quanta (suc n) x s
unfolding quanta
quanta_first zero x s = refl
quanta_first (suc n) x s = ap (λ (y : Scan). quantum y s) (quanta_first n x s)

-- counting is n quanta, where each of them is due and no more are, or the bound is reached
count_quanta : (n k : ℕ) (x : Scan) (s : Settings) (now : Time) → n ≤ k → ((m : ℕ) → m < n → due (quanta m x s) now ≡ true) → (n ≡ k) ⊎ (due (quanta n x s) now ≡ false) → count_for k x s now ≡ quanta n x s
unfolding count_for quanta
count_quanta zero zero x s now h d e = refl
count_quanta zero (suc k) x s now h d (inl z) = absurd (omega arith)
count_quanta zero (suc k) x s now h d (inr z) = rw z
count_quanta (suc n) zero x s now h d e = absurd (omega arith)
count_quanta (suc n) (suc k) x s now h d e =
    rw (d zero (omega arith))
    (count_quanta n k (quantum x s) s now (omega arith) (λ m l. rw (quanta_first m x s) (d (suc m) (omega arith))) (shift e)
    ∙ quanta_first n x s)
  where
    shift : (suc n ≡ suc k) ⊎ (due (quanta (suc n) x s) now ≡ false) → (n ≡ k) ⊎ (due (quanta n (quantum x s) s) now ≡ false)
    shift (inl z) = inl (omega arith)
    shift (inr z) = inr (rw (quanta_first n x s) z)

module _ (x : Scan) (s : Settings) (v : Valid x) where
  pwm_above : 0 < x.pwm
  pwm_above = omega (arith, v.step_below)

  -- up to the limit each quantum begins with no setting changed
  pub within : (all m : ℕ) → m < limit_with x s all → InForce x s m
  unfolding limit_with
  within all m h = go (rate_same x s) refl (row_same x s) refl (frame_same x s) refl h
    where
      go : (a : Bool) → rate_same x s ≡ a → (b : Bool) → row_same x s ≡ b → (c : Bool) → frame_same x s ≡ c → m < cond (not a) 1 (cond (not b) (x.pwm - x.step) (cond (not c) ((rows x - x.row) * x.pwm - x.step) all)) → InForce x s m
      go false p b q c r l =
          let z : ended_rows x m ≡ 0 = div-eq_of_lt (omega (arith, v.step_below)) in
          record { row_ok = inl z; frame_ok = inl (div-eq_of_lt (omega (arith, v.row_below))); rate_ok = inl (omega arith) }
      go true p false q c r l =
          let z : ended_rows x m ≡ 0 = div-eq_of_lt (omega arith) in
          record { row_ok = inl z; frame_ok = inl (div-eq_of_lt (omega (arith, v.row_below))); rate_ok = inr (rate_settled x s p) }
      go true p true q false r l =
          let z : ended_rows x m < rows x - x.row = (div-lt_iff_lt-mul pwm_above).1 (omega arith) in
          record { row_ok = inr (row_settled x s q); frame_ok = inl (div-eq_of_lt (omega arith)); rate_ok = inr (rate_settled x s p) }
      go true p true q true r l =
          record { row_ok = inr (row_settled x s q); frame_ok = inr (frame_settled x s r); rate_ok = inr (rate_settled x s p) }

  -- a piece has room for a quantum
  pub limit_pos : (all : ℕ) → 0 < all → 0 < limit_with x s all
  unfolding limit_with
  limit_pos all h = go (rate_same x s) (row_same x s) (frame_same x s)
    where
      go : (a b c : Bool) → 0 < cond (not a) 1 (cond (not b) (x.pwm - x.step) (cond (not c) ((rows x - x.row) * x.pwm - x.step) all))
      go false b c = omega arith
      go true false c = omega (arith, v.step_below)
      go true true false = omega (arith, v.step_below, row_left (rows x) x.row x.pwm v.row_below)
      go true true true = h

-- n quanta at one rate
abbrev pub Steady : Scan → Settings → ℕ → Type 0
Steady x s n = (m : ℕ) → m ≤ n → (quanta m x s).ticking.rate ≡ x.ticking.rate

-- they tick the clock n times, and one more takes the rate of the rows then held
module _ (x : Scan) (s : Settings) where
  clock_on : (n : ℕ) → Steady x s (suc n) → (quanta (suc n) x s).ticking.clock ≡ ticked_by (suc n) x.ticking.clock x.ticking.rate x.ticking.rate
  unfolding quanta quantum ticked_to
  clock_on zero st = ticked_once x.ticking.clock x.ticking.rate (quanta 1 x s).ticking.rate ∙ ap (ticked_by 1 x.ticking.clock x.ticking.rate) (st 1 (omega arith))
  clock_on (suc n) st =
      (λ j. ticked (clock_on n (λ m h. st m (omega arith)) j) (st (suc n) (omega arith) j) (st (suc (suc n)) (omega arith) j))
      ∙ ticked_ticked (suc n) x.ticking.clock x.ticking.rate x.ticking.rate
      ∙ ap (λ (m : ℕ). ticked_by m x.ticking.clock x.ticking.rate x.ticking.rate) (add-one (suc n))

  pub clock_next : (n : ℕ) → Steady x s n → (quanta (suc n) x s).ticking.clock ≡ ticked_by (suc n) x.ticking.clock x.ticking.rate (rate_of s (rows (quanta (suc n) x s)))
  unfolding quanta quantum ticked_to
  clock_next zero st = ticked_once x.ticking.clock x.ticking.rate (rate_of s (rows (quanta 1 x s)))
  clock_next (suc n) st =
      (λ j. ticked (clock_on n st j) (st (suc n) (omega arith) j) (rate_of s (rows (quanta (suc (suc n)) x s))))
      ∙ ticked_ticked (suc n) x.ticking.clock x.ticking.rate (rate_of s (rows (quanta (suc (suc n)) x s)))
      ∙ ap (λ (m : ℕ). ticked_by m x.ticking.clock x.ticking.rate (rate_of s (rows (quanta (suc (suc n)) x s)))) (add-one (suc n))

-- after n edges the next one is due where the clock has more than n
edge_due : (c : Clock) (r : Rate) → is_lcd r ≡ true → valid_clock c r ≡ true → (now : Time) (n : ℕ) → leb (raw (moved_by c r (n + 1)).at) (raw now) ≡ ltb n (edges_to c r now)
edge_due c r l v now n =
    let b = lcd_bounds r l in
    let f = (valid c r v).fraction_lt in
    same _ _
    (λ h. lt-ltb n (edges_to c r now) (omega (arith, counts_edge c r b f now (n + 1) (leb-true _ _ h))))
    (λ h. le-leb _ _ (edge_counted c r b f now (n + 1) (omega arith) (omega (arith, ltb-true n (edges_to c r now) h))))

due_now : (k : Option Clock) (r : Rate) → is_lcd r ≡ true → valid_running k r ≡ true → (now : Time) → due_at k r now ≡ ltb 0 (edges_in k r now)
unfolding due_at edges_in valid_running
due_now (Some c) r l v now = edge_due c r l v now 0
due_now None r l v now = refl

due_then : (k : Option Clock) (r : Rate) → is_lcd r ≡ true → valid_running k r ≡ true → (now : Time) (n : ℕ) → due_at (ticked_by n k r r) r now ≡ ltb n (edges_in k r now)
unfolding due_at ticked_by edges_in valid_running
due_then (Some c) r l v now n = simp (same_refl r, moved_moved c r n 1) (edge_due c r l v now n)
due_then None r l v now n = sym (le-ltb n 0 (omega arith))

-- the edges up to now are no more than the fraction units up to now
edges_few : (k : Option Clock) (r : Rate) → is_lcd r ≡ true → valid_running k r ≡ true → (now : Time) → edges_in k r now ≤ raw now
unfolding edges_in valid_running
edges_few None r l v now = omega arith
edges_few (Some c) r l v now = go (edges_to c r now) refl
  where
    go : (n : ℕ) → edges_to c r now ≡ n → n ≤ raw now
    go zero e = omega arith
    go (suc n) e =
        let b = lcd_bounds r l in
        omega (arith, edges_apart c r b (suc n), edge_counted c r b (valid c r v).fraction_lt now (suc n) (omega arith) (omega arith))

edges_fit : (k : Option Clock) (r : Rate) → is_lcd r ≡ true → (now : Time) → in_range now ≡ true → edges_in k r now ≤ 2 ^ 50
unfolding edges_in
edges_fit None r l now i = omega arith
edges_fit (Some c) r l now i = edges_le c r (lcd_bounds r l) now i

-- the quanta that are due
module _ (x : Scan) (s : Settings) (v : Valid x) (now : Time) where
  abbrev edges : ℕ
  edges = edges_in x.ticking.clock x.ticking.rate now

  pub due_at_lem : (n : ℕ) → Steady x s n → due (quanta n x s) now ≡ ltb n edges
  unfolding due quanta
  due_at_lem zero st = due_now x.ticking.clock x.ticking.rate v.lcd v.clock_ok now
  due_at_lem (suc n) st =
      (λ j. due_at (clock_on x s n st j) (st (suc n) (omega arith) j) now)
      ∙ due_then x.ticking.clock x.ticking.rate v.lcd v.clock_ok now (suc n)

  starts : Steady x s 0
  unfolding quanta
  starts zero h = refl
  starts (suc m) h = absurd (omega arith)

  pub due_is : due x now ≡ ltb 0 edges
  unfolding quanta
  due_is = due_at_lem 0 starts

  -- counting with a limit up to which the rate stays: the smaller of the edges and the limit
  count_limit : (limit : ℕ) → ((m : ℕ) → m < limit → Steady x s m) → count_for limit x s now ≡ quanta (min edges limit) x s
  count_limit limit st = go (leb limit edges) refl
    where
      quanta_due : (n : ℕ) → n ≤ edges → n ≤ limit → (m : ℕ) → m < n → due (quanta m x s) now ≡ true
      quanta_due n e l m h = due_at_lem m (st m (omega arith)) ∙ lt-ltb m edges (omega arith)

      go : (t : Bool) → leb limit edges ≡ t → count_for limit x s now ≡ quanta (min edges limit) x s
      go true h =
          let l = leb-true limit edges h in
          rw (min-eq_right l) (count_quanta limit limit x s now (omega arith) (quanta_due limit l (omega arith)) (inl refl))
      go false h =
          let l = leb-false limit edges h in
          rw (min-eq_left {n = edges} {m = limit} (omega arith))
          (count_quanta edges limit x s now (omega arith) (quanta_due edges (omega arith) (omega arith)) (inr (due_at_lem edges (st edges l) ∙ le-ltb edges edges (omega arith))))

  -- the piece rule keeps to one rate
  pub steady_in : (all n : ℕ) → n < limit_with x s all → Steady x s n
  unfolding whole closed after
  steady_in all n h m l =
      ap (λ (y : Scan). y.ticking.rate) (quanta_whole x s v m (λ k g. within x s v all k (omega arith)))
      ∙ rate_stays_lem x s v m (within x s v all m (omega arith))

  module _ (i : in_range now ≡ true) where
    pub few : edges ≤ 2 ^ 50
    few = edges_fit x.ticking.clock x.ticking.rate v.lcd now i

    -- the limit of 64 bits does as well as the rule's
    limits_agree : min edges (piece_limit x s now) ≡ min edges (limit_in x s)
    unfolding limit_with
    limits_agree = go (rate_same x s) (row_same x s) (frame_same x s)
      where
        go : (a b d : Bool) → min edges (cond (not a) 1 (cond (not b) (x.pwm - x.step) (cond (not d) ((rows x - x.row) * x.pwm - x.step) (raw now + 1)))) ≡ min edges (cond (not a) 1 (cond (not b) (x.pwm - x.step) (cond (not d) ((rows x - x.row) * x.pwm - x.step) 18446744073709551615)))
        go false b d = refl
        go true false d = refl
        go true true false = refl
        go true true true =
            min-eq_left {n = edges} {m = raw now + 1} (omega (arith, edges_few x.ticking.clock x.ticking.rate v.lcd v.clock_ok now))
            ∙ sym (min-eq_left {n = edges} {m = 18446744073709551615} (omega (arith, few)))

    -- one piece
    pub piece_quanta : piece x s now ≡ quanta (min edges (limit_in x s)) x s
    unfolding piece
    piece_quanta = count_limit (piece_limit x s now) (λ m l. steady_in (raw now + 1) m l) ∙ ap (λ (n : ℕ). quanta n x s) limits_agree

    pub piece_whole : piece x s now ≡ whole x s (min edges (limit_in x s))
    piece_whole = piece_quanta ∙ quanta_whole x s v (min edges (limit_in x s)) (λ k g. within x s v 18446744073709551615 k (omega arith))

-- what n quanta at once leave in force
module _ (x : Scan) (s : Settings) where
  rate_taken : (n : ℕ) → 0 < n → rate_same (whole x s n) s ≡ true
  unfolding rate_same whole closed after ticking_in rate_after
  rate_taken zero h = absurd (omega arith)
  rate_taken (suc n) h = same_refl (rate_after x s (ended_frames x (suc n)))

  row_taken : (n : ℕ) → 0 < ended_rows x n → row_same (whole x s n) s ≡ true
  unfolding row_same whole closed after inversion_in
  row_taken n h =
      simp (ne_eqb (ended_rows x n) 0 (omega arith), eq-eqb (pwm_of s.gray_mode) (pwm_of s.gray_mode) refl, eq-eqb s.inversion_lines s.inversion_lines refl)

  frame_taken : (n : ℕ) → 0 < ended_frames x n → frame_same (whole x s n) s ≡ true
  unfolding frame_same whole closed after
  frame_taken n h = simp (ne_eqb (ended_frames x n) 0 (omega arith)) (frame_refl (frame_of s))

  row_at_end : x.step < x.pwm → ended_rows x (x.pwm - x.step) ≡ 1
  row_at_end h = ap (λ (n : ℕ). n / x.pwm) sum ∙ div_self (omega arith)
    where
      sum : x.step + (x.pwm - x.step) ≡ x.pwm
      sum = omega arith

  row_at_frame : x.step < x.pwm → x.row < rows x → ended_rows x ((rows x - x.row) * x.pwm - x.step) ≡ rows x - x.row
  row_at_frame h k = ap (λ (n : ℕ). n / x.pwm) sum ∙ mul-div_cancel (rows x - x.row) (omega arith)
    where
      sum : x.step + ((rows x - x.row) * x.pwm - x.step) ≡ (rows x - x.row) * x.pwm
      sum = omega (arith, row_left (rows x) x.row x.pwm k)

  frame_at_end : x.step < x.pwm → x.row < rows x → ended_frames x ((rows x - x.row) * x.pwm - x.step) ≡ 1
  frame_at_end h k = ap (λ (n : ℕ). (x.row + n) / rows x) (row_at_frame h k) ∙ ap (λ (n : ℕ). n / rows x) sum ∙ div_self (omega arith)
    where
      sum : x.row + (rows x - x.row) ≡ rows x
      sum = omega arith

-- the limit by cases
module _ (x : Scan) (s : Settings) (all : ℕ) (a : rate_same x s ≡ true) where
  pub limit_row : row_same x s ≡ false → limit_with x s all ≡ x.pwm - x.step
  unfolding limit_with
  limit_row b = simp (a, b)

  pub limit_frame : row_same x s ≡ true → frame_same x s ≡ false → limit_with x s all ≡ (rows x - x.row) * x.pwm - x.step
  unfolding limit_with
  limit_frame b c = simp (a, b, c)

  pub limit_all : row_same x s ≡ true → frame_same x s ≡ true → limit_with x s all ≡ all
  unfolding limit_with
  limit_all b c = simp (a, b, c)

-- the edges up to now are fewer than the limit, so one piece counts them all
unfoldable pub ends_within : Scan → Settings → Time → Bool
ends_within x s now = ltb (edges_in x.ticking.clock x.ticking.rate now) (limit_in x s)

-- whether a piece counts all that is due
module _ (s : Settings) (now : Time) (i : in_range now ≡ true) (x : Scan) (v : Valid x) where
  -- it does with every setting in force
  pub all_ends : rate_same x s ≡ true → row_same x s ≡ true → frame_same x s ≡ true → ends_within x s now ≡ true
  unfolding ends_within
  all_ends a b d = rw (limit_all x s 18446744073709551615 a b d) (lt-ltb (edges x s v now) 18446744073709551615 (omega (arith, few x s v now i)))

  pub none_after : ends_within x s now ≡ true → due (piece x s now) now ≡ false
  unfolding ends_within
  none_after h =
      let l = ltb-true _ _ h in
      ap (λ (y : Scan). due y now) (piece_quanta x s v now i ∙ ap (λ (n : ℕ). quanta n x s) (min-eq_left {n = edges x s v now} {m = limit_in x s} (omega arith)))
      ∙ due_at_lem x s v now (edges x s v now) (steady_in x s v now 18446744073709551615 (edges x s v now) l)
      ∙ le-ltb (edges x s v now) (edges x s v now) (omega arith)

  -- where it does not, it went to its limit
  module _ (more : ends_within x s now ≡ false) where
    pub reached : (piece x s now ≡ whole x s (limit_in x s)) × (due x now ≡ true)
    unfolding ends_within
    reached =
        let l = ltb-false _ _ more in
        (piece_whole x s v now i ∙ ap (whole x s) (min-eq_right l), due_is x s v now ∙ lt-ltb 0 (edges x s v now) (omega (arith, limit_pos x s v 18446744073709551615 (omega arith))))

    pub rate_then : rate_same (piece x s now) s ≡ true
    rate_then = rw reached.0 (rate_taken x s (limit_in x s) (limit_pos x s v 18446744073709551615 (omega arith)))

    -- the rate in force before the piece: its row end took what a row end takes
    pub row_then : rate_same x s ≡ true → row_same (piece x s now) s ≡ true
    row_then a = rw reached.0 (row_taken x s (limit_in x s) (go (row_same x s) refl (frame_same x s) refl))
      where
        go : (b : Bool) → row_same x s ≡ b → (c : Bool) → frame_same x s ≡ c → 0 < ended_rows x (limit_in x s)
        go false b c e = rw (limit_row x s 18446744073709551615 a b, row_at_end x s v.step_below) (omega arith)
        go true b false c = rw (limit_frame x s 18446744073709551615 a b c, row_at_frame x s v.step_below v.row_below) (omega (arith, v.row_below))
        go true b true c = absurd (false≢true (sym more ∙ all_ends a b c))

    -- what a row end takes in force too: its frame end took what a frame end takes
    pub frame_then : rate_same x s ≡ true → row_same x s ≡ true → frame_same (piece x s now) s ≡ true
    frame_then a b = rw reached.0 (frame_taken x s (limit_in x s) (go (frame_same x s) refl))
      where
        go : (c : Bool) → frame_same x s ≡ c → 0 < ended_frames x (limit_in x s)
        go false c = rw (limit_frame x s 18446744073709551615 a b c, frame_at_end x s v.step_below v.row_below) (omega arith)
        go true c = absurd (false≢true (sym more ∙ all_ends a b c))

-- the scan counted by pieces
module _ (s : Settings) (vs : ValidSettings s) (now : Time) (i : in_range now ≡ true) where
  pub piece_valid : (x : Scan) → Valid x → Valid (piece x s now)
  unfolding piece
  piece_valid x v = count_valid s vs now i (piece_limit x s now) x v

  -- a piece is part of the count
  pub piece_counts : (x : Scan) → Valid x → count_to (piece x s now) s now ≡ count_to x s now
  unfolding piece
  piece_counts x v = count_on_lem s vs now now i i (omega arith) (piece_limit x s now) x v

-- the uses of the piece rule, one by one
pub pieces_none : (k : ℕ) (x : Scan) (s : Settings) (now : Time) → due x now ≡ false → pieces_for k x s now ≡ 0
unfolding pieces_for
pieces_none zero x s now d = refl
pieces_none (suc k) x s now d = rw d

pub pieces_more : (k : ℕ) (x : Scan) (s : Settings) (now : Time) → due x now ≡ true → pieces_for (suc k) x s now ≡ suc (pieces_for k (piece x s now) s now)
unfolding pieces_for
pieces_more k x s now d = rw d

-- what the clock's answer p to `passed_to` with the limit l says of a scan that passes number 4
module _ (x : Scan) (now : Time) (i : in_range now ≡ true) (ok : valid_scan x ≡ true) {c : Clock} (running : x.ticking.clock ≡ Some c) (l : ℕ) (p : Result Passed Refusal) (answer : answered_pass p ≡ pass_edges c x.ticking.rate now l) where
  running_is : {t : Bool} → valid_clock c x.ticking.rate ≡ t → valid_running x.ticking.clock x.ticking.rate ≡ t
  unfolding valid_running
  running_is h = rw running h

  pub asked_refused : {why : Refusal} → p ≡ Err why → valid_running x.ticking.clock x.ticking.rate ≡ false
  asked_refused {why} h = running_is (pass_refused c x.ticking.rate now l why (sym (ap answered_pass h) ∙ answer) i (valid_lcd x ok))

  -- a refusal is number 5
  pub asked_number : {why : Refusal} → p ≡ Err why → number_of why ≡ 5
  unfolding pass_edges check_clock
  asked_number {why} h =
      let e = sym (ap answered_pass h) ∙ answer in
      let v = pass_refused c x.ticking.rate now l why e i (valid_lcd x ok) in
      let q = rw (i, valid_lcd x ok, v) at e in
      cc

  module _ {q : Passed} (given : p ≡ Ok q) where
    clock_valid : valid_clock c x.ticking.rate ≡ true
    clock_valid = pass_valid c x.ticking.rate now l (sym (ap answered_pass given) ∙ answer) i (valid_lcd x ok)

    pub asked_running : valid_running x.ticking.clock x.ticking.rate ≡ true
    asked_running = running_is clock_valid

    pub asked_check : check_scan x ≡ None
    asked_check = check_by x ok asked_running

    passed_is : p ≡ Ok (record { count = min (edges_to c x.ticking.rate now) l; clock = moved_by c x.ticking.rate (min (edges_to c x.ticking.rate now) l) })
    passed_is = pass_passed c x.ticking.rate now l p answer i (valid_lcd x ok) clock_valid

    count : q.count ≡ min (edges_to c x.ticking.rate now) l
    count = let e = passed_is in cc

    pub asked_count : q.count ≡ min (edges_in x.ticking.clock x.ticking.rate now) l
    unfolding edges_in
    asked_count = rw running count

    pub asked_few : q.count ≤ 2 ^ 50
    asked_few = omega (arith, count, edges_le c x.ticking.rate (lcd_bounds x.ticking.rate (valid_lcd x ok)) now i)

    pub asked_moved : q.clock ≡ moved_by c x.ticking.rate q.count
    asked_moved =
        let e = passed_is in
        let moved : q.clock ≡ moved_by c x.ticking.rate (min (edges_to c x.ticking.rate now) l) = cc in
        moved ∙ ap (moved_by c x.ticking.rate) (sym count)

    -- the last edge passed is in range
    pub asked_range : (q.count ≡ 0 → ⊥) → in_range q.clock.at ≡ true
    asked_range z =
        rw asked_moved
        (earlier_in_range (moved_by c x.ticking.rate q.count).at now
        (edge_counted c x.ticking.rate (lcd_bounds x.ticking.rate (valid_lcd x ok)) (valid c x.ticking.rate clock_valid).fraction_lt now q.count (omega (arith, z)) (omega (arith, count))) i)
