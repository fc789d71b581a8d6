-- The LCD rates: their bounds, that the settings give them and nothing else does.
use Prim.Native.Nat.{ℕ, zero, suc, ◌+◌, ◌-◌, ◌*◌, ◌/◌, ◌%◌, ◌≤◌, ◌<◌}
use mathlib.Core.Bool.{Bool, true, false, cond, ◌||◌, or-true}
use mathlib.Core.Logic.{◌⊎◌, inl, inr, ⊎_elim}
use mathlib.Core.Path.{◌≡◌, refl, sym, ◌∙◌, ap}
use native.Mathlib.Omega.{arith}
use native.Mathlib.Nat.{mul-div_cancel_left}
use lib.Dec.{eqb}
use borrow.Author.Tests.{leb-true, eqb-true, le-leb, eq-eqb}
use Rattle.clock.specs.declared.rate.Rate.{Rate}
use Rattle.clock.specs.Rate.{oscillator_rate, lcd_rate, same_rate, by_rows, is_oscillator_rate, by_oscillator, is_lcd}
use Rattle.std.proofs.lemmas.Bool.{and_parts, or_cases}

-- what two-word arithmetic asks of a rate
pub record Bounds (r : Rate) : Type 0 where
  pub low : 16128 ≤ r.numerator
  pub high : r.numerator ≤ 184000
  pub denominator_low : 1 ≤ r.denominator
  pub denominator_high : r.denominator ≤ 8

rows_rate : (rows : ℕ) → 16 ≤ rows → rows ≤ 129 → is_lcd (record { numerator = 1008 * rows; denominator = 1 }) ≡ true
unfolding is_lcd
rows_rate rows lo hi = simp (mul-div_cancel_left rows {n = 1008} (omega arith), eq-eqb (1008 * rows) (1008 * rows) refl, le-leb 16 rows lo, le-leb rows 129 hi)

oscillator_rate_lem : (p q : ℕ) → is_oscillator_rate p ≡ true → 1 ≤ q → q ≤ 8 → is_lcd (record { numerator = p; denominator = q }) ≡ true
unfolding is_lcd
oscillator_rate_lem p q h lo hi = simp (h, le-leb 1 q lo, le-leb q 8 hi, or-true)

-- an oscillator's rate is one of four
abbrev OneOf : ℕ → Type 0
OneOf p = (p ≡ 92000) ⊎ ((p ≡ 122000) ⊎ ((p ≡ 147000) ⊎ (p ≡ 184000)))

one_of_range : (p : ℕ) → OneOf p → (16128 ≤ p) × (p ≤ 184000)
one_of_range p (inl e) = omega arith
one_of_range p (inr (inl e)) = omega arith
one_of_range p (inr (inr (inl e))) = omega arith
one_of_range p (inr (inr (inr e))) = omega arith

pub one_of : (p : ℕ) → is_oscillator_rate p ≡ true → OneOf p
one_of p h = last (or_cases (eqb p 92000 || eqb p 122000 || eqb p 147000) (eqb p 184000) h)
  where
    first : (eqb p 92000 ≡ true) ⊎ (eqb p 122000 ≡ true) → OneOf p
    first (inl e) = inl (eqb-true p 92000 e)
    first (inr e) = inr (inl (eqb-true p 122000 e))

    middle : (eqb p 92000 || eqb p 122000 ≡ true) ⊎ (eqb p 147000 ≡ true) → OneOf p
    middle (inl h) = first (or_cases (eqb p 92000) (eqb p 122000) h)
    middle (inr e) = inr (inr (inl (eqb-true p 147000 e)))

    last : (eqb p 92000 || eqb p 122000 || eqb p 147000 ≡ true) ⊎ (eqb p 184000 ≡ true) → OneOf p
    last (inl h) = middle (or_cases (eqb p 92000 || eqb p 122000) (eqb p 147000) h)
    last (inr e) = inr (inr (inr (eqb-true p 184000 e)))

-- what the two kinds of LCD rates are
record ByRows (r : Rate) : Type 0 where
  over_one : r.denominator ≡ 1
  whole : r.numerator ≡ 1008 * (r.numerator / 1008)
  rows_low : 16 ≤ r.numerator / 1008
  rows_high : r.numerator / 1008 ≤ 129

record ByOscillator (r : Rate) : Type 0 where
  rate : OneOf r.numerator
  over_low : 1 ≤ r.denominator
  over_high : r.denominator ≤ 8

module _ (r : Rate) where
  by_rows_lem : by_rows r ≡ true → ByRows r
  by_rows_lem h =
      let a = and_parts _ _ h in
      let b = and_parts _ _ a.0 in
      let d = and_parts _ _ b.0 in
      record { over_one = eqb-true _ _ d.0; whole = eqb-true _ _ d.1; rows_low = leb-true _ _ b.1; rows_high = leb-true _ _ a.1 }

  by_oscillator_lem : by_oscillator r ≡ true → ByOscillator r
  by_oscillator_lem h =
      let a = and_parts _ _ h in
      let b = and_parts _ _ a.0 in
      record { rate = one_of r.numerator b.0; over_low = leb-true _ _ b.1; over_high = leb-true _ _ a.1 }

  rows_bounds : by_rows r ≡ true → Bounds r
  rows_bounds h =
      let f = by_rows_lem h in
      record { low = omega arith; high = omega arith; denominator_low = omega arith; denominator_high = omega arith }

  oscillator_bounds : by_oscillator r ≡ true → Bounds r
  oscillator_bounds h =
      let f = by_oscillator_lem h in
      let range = one_of_range r.numerator f.rate in
      record { low = range.0; high = range.1; denominator_low = f.over_low; denominator_high = f.over_high }

  pub lcd_bounds : is_lcd r ≡ true → Bounds r
  unfolding is_lcd
  lcd_bounds h = ⊎_elim rows_bounds oscillator_bounds (or_cases (by_rows r) (by_oscillator r) h)

oscillates : (k : ℕ) → k < 4 → is_oscillator_rate (oscillator_rate k) ≡ true
oscillates zero h = refl
oscillates (suc zero) h = refl
oscillates (suc (suc zero)) h = refl
oscillates (suc (suc (suc zero))) h = refl
oscillates (suc (suc (suc (suc k)))) h = absurd (omega arith)

-- every setting in range gives an LCD rate
pub lcd_given : (control frequency rows : ℕ) → frequency < 32 → 16 ≤ rows → rows ≤ 129 → is_lcd (lcd_rate control frequency rows) ≡ true
lcd_given control frequency rows f lo hi = go (eqb (control / 2 % 2) 0)
  where
    by_rows_lem : is_lcd (record { numerator = 1008 * rows; denominator = 1 }) ≡ true
    by_rows_lem = rows_rate rows lo hi

    by_oscillator_lem : is_lcd (record { numerator = oscillator_rate (frequency / 8); denominator = frequency % 8 + 1 }) ≡ true
    by_oscillator_lem = oscillator_rate_lem (oscillator_rate (frequency / 8)) (frequency % 8 + 1) (oscillates (frequency / 8) (omega arith)) (omega arith) (omega arith)

    go : (t : Bool) → is_lcd (cond t (record { numerator = 1008 * rows; denominator = 1 }) (record { numerator = oscillator_rate (frequency / 8); denominator = frequency % 8 + 1 })) ≡ true
    go true = by_rows_lem
    go false = by_oscillator_lem

-- a setting in range that gives a rate
pub record FromSetting (r : Rate) : Type 0 where
  pub control : ℕ
  pub frequency : ℕ
  pub rows : ℕ
  pub frequency_lt : frequency < 32
  pub rows_low : 16 ≤ rows
  pub rows_high : rows ≤ 129
  pub gives : lcd_rate control frequency rows ≡ r

-- no LCD rate but those of the settings
module _ (r : Rate) where
  from_rows : by_rows r ≡ true → FromSetting r
  from_rows h =
      let f = by_rows_lem r h in
      record {
        control = 0;
        frequency = 0;
        rows = r.numerator / 1008;
        frequency_lt = omega arith;
        rows_low = f.rows_low;
        rows_high = f.rows_high;
        gives = λ i. record { numerator = sym f.whole i; denominator = sym f.over_one i };
      }

  from_setting : (k : ℕ) → k < 4 → r.numerator ≡ oscillator_rate k → 1 ≤ r.denominator → r.denominator ≤ 8 → FromSetting r
  from_setting k h p lo hi = record {
    control = 2;
    frequency = 8 * k + (r.denominator - 1);
    rows = 16;
    frequency_lt = omega arith;
    rows_low = omega arith;
    rows_high = omega arith;
    gives = λ i. record { numerator = (ap oscillator_rate quotient ∙ sym p) i; denominator = remainder i };
  }
    where
      quotient : (8 * k + (r.denominator - 1)) / 8 ≡ k
      quotient = omega arith

      remainder : (8 * k + (r.denominator - 1)) % 8 + 1 ≡ r.denominator
      remainder = omega arith

  from_oscillator : by_oscillator r ≡ true → FromSetting r
  from_oscillator h = let f = by_oscillator_lem r h in go f.rate f.over_low f.over_high
    where
      go : OneOf r.numerator → 1 ≤ r.denominator → r.denominator ≤ 8 → FromSetting r
      go (inl e) = from_setting 0 (omega arith) e
      go (inr (inl e)) = from_setting 1 (omega arith) e
      go (inr (inr (inl e))) = from_setting 2 (omega arith) e
      go (inr (inr (inr e))) = from_setting 3 (omega arith) e

  pub lcd_only : is_lcd r ≡ true → FromSetting r
  unfolding is_lcd
  lcd_only h = ⊎_elim from_rows from_oscillator (or_cases (by_rows r) (by_oscillator r) h)

-- the comparison of rates
pub same_rate_lem : (r t : Rate) → same_rate r t ≡ true → r ≡ t
unfolding same_rate
same_rate_lem r t h =
    let b = and_parts (eqb r.numerator t.numerator) _ h in
    λ i. record { numerator = eqb-true r.numerator t.numerator b.0 i; denominator = eqb-true r.denominator t.denominator b.1 i }

pub same_refl : (r : Rate) → same_rate r r ≡ true
unfolding same_rate
same_refl r = simp (eq-eqb r.numerator r.numerator refl, eq-eqb r.denominator r.denominator refl)
