-- The next edge of a clock, from its fields.
use Rattle.std.proofs.Common.{◌≡◌, ℕ, ◌+◌, ◌-◌, ◌*◌, ◌/◌, ◌%◌, ◌^◌, ◌<◌, Bool, true, false, cond, ◌&&◌, eqb, leb, sym, refl, ap, ◌∙◌, mod-lt, div-lt_iff_lt-mul, div-add-mod', arith, ltb-true, eqb-true, leb-false, leb-true}
use lib.Arith.{digits_div}
use Rattle.std.specs.Prelude.{Option, Some, None}
use Rattle.checks.proofs.Tests.{both}
use Rattle.clock.specs.declared.time.Time.{Time}
use Rattle.clock.specs.declared.rate.Rate.{Rate}
use Rattle.clock.specs.declared.edges.Clock.{Clock}
use Rattle.clock.specs.Wide.{value}
use Rattle.clock.specs.Time.{raw}
use Rattle.clock.specs.Rate.{is_lcd}
use Rattle.clock.specs.Position.{period, position, position_after}
use Rattle.clock.specs.Check.{is_of_rate, valid_clock}
use Rattle.clock.specs.Edges.{edge, moved_by}
use Rattle.clock.proofs.Checks.{valid}
use Rattle.clock.proofs.Laws.{moved_at}
use Rattle.clock.proofs.Rates.{lcd_bounds}
use Rattle.scan.specs.declared.settings.Settings.{Settings}
use Rattle.scan.specs.declared.state.Scan.{Scan}
use Rattle.scan.specs.Check.{valid_running, check_scan}
use Rattle.scan.specs.Count.{due_at, due, count_to}
use Rattle.scan.proofs.Checks.{valid_scan_lem}
use Rattle.scan.proofs.Counting.{count_none}

-- a period of w × p + n further, from a × p + f
further : (a p f w n m : ℕ) → f < p → n < p → m ≡ w * p + n → (a * p + f + 1 * m) / p ≡ a + (w + cond (leb p (f + n)) 1 0)
further a p f w n m hf hn e = go (leb p (f + n)) refl
  where
    go : (t : Bool) → leb p (f + n) ≡ t → (a * p + f + 1 * m) / p ≡ a + (w + cond t 1 0)
    go true h =
        let l = leb-true p (f + n) h in
        let sum : a * p + f + 1 * m ≡ (a + (w + 1)) * p + (f + n - p) = omega arith in
        ap (λ (k : ℕ). k / p) sum ∙ digits_div (a + (w + 1)) (omega arith)
    go false h =
        let l = leb-false p (f + n) h in
        let sum : a * p + f + 1 * m ≡ (a + (w + 0)) * p + (f + n) = omega arith in
        ap (λ (k : ℕ). k / p) sum ∙ digits_div (a + (w + 0)) (omega arith)

module _ (c : Clock) (r : Rate) (lcd : is_lcd r ≡ true) (v : valid_clock c r ≡ true) where
  whole_is : value c.whole ≡ period r / r.numerator
  unfolding is_of_rate
  whole_is =
      let z = both (eqb c.denominator r.numerator && eqb (value c.whole) (period r / r.numerator)) (eqb c.remainder (period r % r.numerator)) (valid c r v).of_rate in
      eqb-true _ _ (both (eqb c.denominator r.numerator) (eqb (value c.whole) (period r / r.numerator)) z.0).1

  rest_is : c.remainder ≡ period r % r.numerator
  unfolding is_of_rate
  rest_is = eqb-true _ _ (both (eqb c.denominator r.numerator && eqb (value c.whole) (period r / r.numerator)) (eqb c.remainder (period r % r.numerator)) (valid c r v).of_rate).1

  pub numerator_lt : r.numerator < 2 ^ 20
  numerator_lt = omega (arith, (lcd_bounds r lcd).high)

  pub fraction_lt : c.fraction < r.numerator
  fraction_lt = (valid c r v).fraction_lt

  pub remainder_lt : c.remainder < r.numerator
  remainder_lt = omega (arith, rest_is, mod-lt (period r) {m = r.numerator} (omega (arith, (lcd_bounds r lcd).low)))

  value_lt : value c.whole < 2 ^ 63
  value_lt =
      let b = lcd_bounds r lcd in
      let small = (div-lt_iff_lt-mul {k = r.numerator} {x = period r} {y = 2 ^ 63} (omega (arith, b.low))).1 (omega (arith, b.low, b.denominator_high)) in
      omega (arith, whole_is)

  pub low_lt : c.whole.low < 2 ^ 63
  low_lt = omega (arith, value_lt)

  pub seconds_lt : c.at.seconds < 2 ^ 32
  seconds_lt = omega (arith, ltb-true (raw c.at) (2 ^ 32 * 2 ^ 64) (valid c r v).in_range_lem)

  period_is : period r ≡ c.whole.low * r.numerator + c.remainder
  period_is =
      let low : c.whole.low ≡ value c.whole = omega (arith, value_lt) in
      let whole = low ∙ whole_is in
      sym (div-add-mod' (period r) r.numerator) ∙ (λ i. sym whole i * r.numerator + sym rest_is i)

  next_edge : raw (moved_by c r 1).at ≡ raw c.at + (c.whole.low + cond (leb r.numerator (c.fraction + c.remainder)) 1 0)
  unfolding edge position_after position
  next_edge = moved_at c r 1 ∙ further (raw c.at) r.numerator c.fraction c.whole.low c.remainder (period r) fraction_lt remainder_lt period_is

  -- the test as the code has it
  pub due_by : (now : Time) (span : ℕ) (next : Time) → span ≡ c.whole.low + cond (leb r.numerator (c.fraction + c.remainder)) 1 0 → raw next ≡ raw c.at + span → leb (raw next) (raw now) ≡ leb (raw (moved_by c r 1).at) (raw now)
  due_by now span next es en = ap (λ (n : ℕ). leb n (raw now)) (en ∙ ap (λ (k : ℕ). raw c.at + k) es ∙ sym next_edge)

-- the clock of a scan that passes
module _ (x : Scan) (passed : check_scan x ≡ None) where
  pub scan_lcd : is_lcd x.ticking.rate ≡ true
  scan_lcd = (valid_scan_lem x passed).lcd

  pub clock_valid : {c : Clock} → x.ticking.clock ≡ Some c → valid_clock c x.ticking.rate ≡ true
  unfolding valid_running
  clock_valid e = ap (λ (k : Option Clock). valid_running k x.ticking.rate) (sym e) ∙ (valid_scan_lem x passed).clock_ok

pub due_running : (x : Scan) (now : Time) {c : Clock} → x.ticking.clock ≡ Some c → leb (raw (moved_by c x.ticking.rate 1).at) (raw now) ≡ due x now
unfolding due due_at
due_running x now e = ap (λ (k : Option Clock). due_at k x.ticking.rate now) (sym e)

pub due_stopped : (x : Scan) (now : Time) → x.ticking.clock ≡ None → false ≡ due x now
unfolding due due_at
due_stopped x now e = ap (λ (k : Option Clock). due_at k x.ticking.rate now) (sym e)

-- with no edge due the scan is counted as it stands
pub counted_none : (x : Scan) (s : Settings) (now : Time) → due x now ≡ false → x ≡ count_to x s now
unfolding count_to
counted_none x s now d = sym (count_none (raw now + 1) x s now d)
