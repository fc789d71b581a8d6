-- The clock's code computes with words what its definitions say: the period's check, the ordinal's check, the
-- edge count and the move.
use Prim.Native.Nat.{ℕ, ◌+◌, ◌-◌, ◌*◌, ◌/◌, ◌%◌, ◌^◌, ◌≤◌, ◌<◌}
use mathlib.Core.Bool.{true, false, ◌&&◌}
use mathlib.Core.Path.{◌≡◌, sym, ◌∙◌, ap}
use native.Mathlib.Omega.{arith}
use native.Mathlib.Nat.{lt_of_not-le, div-add-mod', mod-lt, mul-le-mul, le-div_iff_mul-le, div-lt_iff_lt-mul, mul-add-div_right, mul-add-mod_self_right, div-div-eq-div-mul, mul_comm}
use lib.Arith.{digits_div, digits_mod}
use lib.Dec.{leb, ltb, eqb}
use borrow.Author.Tests.{eq-eqb, eqb-true, lt-leb, lt-ltb, ltb-true}
use Rattle.std.proofs.lemmas.Bool.{and_parts}
use Rattle.checks.proofs.Tests.{same, leb_same}
use Rattle.clock.specs.declared.rate.Rate.{Rate}
use Rattle.clock.specs.declared.edges.Clock.{Clock}
use Rattle.clock.specs.Wide.{value, wide_of}
use Rattle.clock.specs.Time.{raw}
use Rattle.clock.specs.Position.{period, position}
use Rattle.std.specs.Prelude.{None}
use Rattle.clock.specs.Check.{is_of_rate, check_clock}
use Rattle.clock.proofs.Rates.{Bounds}
use Rattle.clock.proofs.Checks.{Valid, rated_bounds, rated_valid}

pub value_words : (n : ℕ) → value (wide_of n) ≡ n
value_words n = div-add-mod' n (2 ^ 64)

-- a number by p, tested by a product
pub by_product : (w s p k : ℕ) → s < p → eqb (w * p + s) k ≡ eqb w (k / p) && eqb s (k % p)
by_product w s p k h =
    same _ _
    (λ e.
    let z : w * p + s ≡ k = eqb-true _ _ e in
    simp (eq-eqb w (k / p) (sym (ap (λ (n : ℕ). n / p) (sym z) ∙ digits_div w h)), eq-eqb s (k % p) (sym (ap (λ (n : ℕ). n % p) (sym z) ∙ digits_mod w h))))
    (λ e.
    let z = and_parts (eqb w (k / p)) (eqb s (k % p)) e in
    eq-eqb (w * p + s) k (rw (eqb-true w (k / p) z.0, eqb-true s (k % p) z.1) (div-add-mod' k p)))

-- whether a clock is of the rate
module _ (c : Clock) (r : Rate) (b : Bounds r) where
  -- one of the rate has a remainder below p, and a period of less than 2^64
  pub of_rate_small : is_of_rate c r ≡ true → eqb c.denominator r.numerator && ltb c.remainder r.numerator && eqb c.whole.high 0 ≡ true
  unfolding is_of_rate
  of_rate_small h =
      let z = and_parts (eqb c.denominator r.numerator && eqb (value c.whole) (period r / r.numerator)) (eqb c.remainder (period r % r.numerator)) h in
      let y = and_parts (eqb c.denominator r.numerator) (eqb (value c.whole) (period r / r.numerator)) z.0 in
      let whole = eqb-true (value c.whole) (period r / r.numerator) y.1 in
      let rest = eqb-true c.remainder (period r % r.numerator) z.1 in
      let m = mod-lt (period r) {m = r.numerator} (omega (arith, b.low)) in
      let small = (div-lt_iff_lt-mul {k = r.numerator} {x = period r} {y = 2 ^ 64} (omega (arith, b.low))).1 (omega (arith, b.low, b.denominator_high)) in
      simp (y.0, lt-ltb c.remainder r.numerator (omega arith), eq-eqb c.whole.high 0 (omega arith))

  pub of_rate_by_product : eqb c.denominator r.numerator ≡ true → c.remainder < r.numerator → eqb (value c.whole * r.numerator + c.remainder) (period r) ≡ is_of_rate c r
  unfolding is_of_rate
  of_rate_by_product e h = rw e (by_product (value c.whole) c.remainder r.numerator (period r) h)

  -- the period's parts
  pub of_rate_period : is_of_rate c r ≡ true → (value c.whole * r.numerator + c.remainder ≡ period r) × ((c.remainder < r.numerator) × (c.whole.high ≡ 0))
  of_rate_period h =
      let small = and_parts _ _ (of_rate_small h) in
      let rest = and_parts (eqb c.denominator r.numerator) _ small.0 in
      let below = ltb-true c.remainder r.numerator rest.1 in
      (eqb-true _ _ (of_rate_by_product rest.0 below ∙ h), (below, eqb-true c.whole.high 0 small.1))

-- the ordinal's test, by a product
pub ordinal_test : (o n q : ℕ) → leb (o * q) (n / 2 ^ 64) ≡ leb (o * (q * 2 ^ 64)) n
ordinal_test o n q = leb_same (o * q) (n / 2 ^ 64) (o * (q * 2 ^ 64)) n (λ h. omega arith) (λ h. omega arith)

pub ordinal_above : (o n q : ℕ) → 0 < q → n / 2 ^ 64 < o → leb (o * (q * 2 ^ 64)) n ≡ false
ordinal_above o n q pos h =
    lt-leb (o * (q * 2 ^ 64)) n (omega (arith, mul-le-mul {n₁ = o} {m₁ = 1} {n₂ = o} {m₂ = q} (omega arith) pos))

-- the span to a time in range
pub span_high_lt : (n a : ℕ) → n < 2 ^ 32 * 2 ^ 64 → (n - a) / 2 ^ 64 < 2 ^ 32
span_high_lt n a h = omega arith

-- whole edges from a position to the last one that still belongs to now
pub edge_count : (n a p f q : ℕ) → a ≤ n → f < p → ((n - a) * p + (p - 1 - f)) / 2 ^ 64 / q ≡ ((n + 1) * p - 1 - (a * p + f)) / (q * 2 ^ 64)
edge_count n a p f q le h =
    div-div-eq-div-mul ((n - a) * p + (p - 1 - f)) (2 ^ 64) q
    ∙ ap (λ (k : ℕ). ((n - a) * p + (p - 1 - f)) / k) (mul_comm (2 ^ 64) q)
    ∙ ap (λ (k : ℕ). k / (q * 2 ^ 64)) span
  where
    parts : n - a + a ≡ n
    parts = omega arith

    span : (n - a) * p + (p - 1 - f) ≡ (n + 1) * p - 1 - (a * p + f)
    span = omega (arith, ap (λ (k : ℕ). k * p) parts)

-- a position's high word, for a time in range and an LCD rate
pub position_high_lt : (a p r : ℕ) → a < 2 ^ 32 * 2 ^ 64 → r < p → p ≤ 184000 → (a * p + r) / 2 ^ 64 < 2 ^ 50
position_high_lt a p r ha hr hp = (div-lt_iff_lt-mul {k = 2 ^ 64} {y = 2 ^ 50} (omega arith)).1 below
  where
    below : a * p + r < 2 ^ 50 * 2 ^ 64
    below = omega (arith, mul-le-mul {n₁ = a + 1} {m₁ = p} {n₂ = 2 ^ 32 * 2 ^ 64} {m₂ = 184000} (omega arith) hp)

-- n edges of w whole units and s parts of a unit, from time a and fraction f
module _ (a f n w s p k : ℕ) (pos : 0 < p) (period_parts : w * p + s ≡ k) where
  after_parts : a * p + f + n * k ≡ (a + w * n) * p + (f + n * s)
  after_parts = omega (arith, ap (λ (x : ℕ). n * x) period_parts)

  pub after_div : a + (w * n + (f + n * s) / p) ≡ (a * p + f + n * k) / p
  after_div = sym (ap (λ (x : ℕ). x / p) after_parts ∙ mul-add-div_right pos (a + w * n) (f + n * s) ∙ omega arith)

  pub after_mod : (f + n * s) % p ≡ (a * p + f + n * k) % p
  after_mod = sym (ap (λ (x : ℕ). x % p) after_parts ∙ mul-add-mod_self_right (a + w * n) p (f + n * s))

-- few edges: their parts fit a word, and the whole units of them fit a half
module _ (f n s p : ℕ) (f_lt : f < p) (s_lt : s < p) (few : n < 2 ^ 32) where
  parts_lt : f + n * s < 2 ^ 32 * p
  parts_lt = omega (arith, mul-le-mul {n₁ = n} {m₁ = s} {n₂ = 2 ^ 32 - 1} {m₂ = p - 1} (omega arith) (omega arith))

  units_lt : (f + n * s) / p < 2 ^ 32
  units_lt = (div-lt_iff_lt-mul {k = p} {x = f + n * s} {y = 2 ^ 32} (omega arith)).1 parts_lt

-- the high word of their span has room beside the seconds of a time in range
span_lt : (w n u : ℕ) → w < 2 ^ 64 → n < 2 ^ 32 → u < 2 ^ 32 → w * n + u < 2 ^ 33 * 2 ^ 64
span_lt w n u hw hn hu = omega (arith, mul-le-mul {n₁ = w} {m₁ = n} {n₂ = 2 ^ 64} {m₂ = 2 ^ 32} (omega arith) (omega arith))

few_room : (s w n u : ℕ) → s < 2 ^ 32 → w < 2 ^ 64 → n < 2 ^ 32 → u < 2 ^ 32 → s + (w * n + u) / 2 ^ 64 < 2 ^ 63
few_room s w n u hs hw hn hu = room ((w * n + u) / 2 ^ 64) ((div-lt_iff_lt-mul {k = 2 ^ 64} {x = w * n + u} {y = 2 ^ 33} (omega arith)).1 (span_lt w n u hw hn hu))
  where
    room : (k : ℕ) → k < 2 ^ 33 → s + k < 2 ^ 63
    room k h = omega arith

-- the whole units of a period below 2^64 parts
whole_lt : (w p m n : ℕ) → w * p + m ≡ n → n < 2 ^ 64 * p → w < 2 ^ 64
whole_lt w p m n e h =
    lt_of_not-le {n = 2 ^ 64} {m = w} (λ k. omega (arith, mul-le-mul {n₁ = 2 ^ 64} {m₁ = p} {n₂ = w} {m₂ = p} k (omega arith)))

-- a position moved by whole edges
pub moved_words : (x n q : ℕ) → (x / 2 ^ 64 + n * q) * 2 ^ 64 + x % 2 ^ 64 ≡ x + n * (q * 2 ^ 64)
moved_words x n q = omega arith

-- more edges than 2^50 lead out of range
pub out_of_range : (x n q p : ℕ) → 2 ^ 50 < n → 0 < q → 0 < p → p ≤ 184000 → 2 ^ 32 * 2 ^ 64 ≤ (x + n * (q * 2 ^ 64)) / p
out_of_range x n q p hn hq pos hp = (le-div_iff_mul-le {k = p} {x = 2 ^ 32 * 2 ^ 64} pos).1 far
  where
    edges : n ≤ n * q
    edges = omega (arith, mul-le-mul {n₁ = n} {m₁ = 1} {n₂ = n} {m₂ = q} (omega arith) hq)

    far : 2 ^ 32 * 2 ^ 64 * p ≤ x + n * (q * 2 ^ 64)
    far = omega (arith, edges)

-- a valid clock's high word and ordinal
module _ (c : Clock) (r : Rate) (b : Bounds r) (v : Valid c r) where
  pub high_lt : position c r / 2 ^ 64 < 2 ^ 50
  unfolding position
  high_lt = position_high_lt (raw c.at) r.numerator c.fraction (ltb-true _ _ v.in_range_lem) v.fraction_lt b.high

  pub ordinal_lt : c.ordinal < 2 ^ 50
  ordinal_lt =
      let h = high_lt in
      let q = mul-le-mul {n₁ = c.ordinal} {m₁ = 1} {n₂ = c.ordinal} {m₂ = r.denominator} (omega arith) b.denominator_low in
      omega (arith, v.ordinal_le)

-- a valid clock at an LCD rate, moved by few edges: what the words of the move have room for
pub record Few (c : Clock) (r : Rate) (n : ℕ) : Type 0 where
  pub parts_lt : c.fraction + n * c.remainder < 2 ^ 32 * r.numerator
  pub units_lt : (c.fraction + n * c.remainder) / r.numerator < 2 ^ 32
  pub whole_high : c.whole.high ≡ 0
  pub room : c.at.seconds + (value c.whole * n + (c.fraction + n * c.remainder) / r.numerator) / 2 ^ 64 < 2 ^ 63
  pub ordinal_lt : c.ordinal < 2 ^ 50
  pub numerator_low : 16128 ≤ r.numerator
  pub numerator_high : r.numerator ≤ 184000
  pub period_parts : value c.whole * r.numerator + c.remainder ≡ period r

pub few : (c : Clock) (r : Rate) (n : ℕ) → check_clock c r ≡ None → n < 2 ^ 32 → Few c r n
few c r n e h =
    let b = rated_bounds c r e in
    let k = rated_valid c r e in
    let parts = of_rate_period c r b k.of_rate in
    let units = units_lt c.fraction n c.remainder r.numerator k.fraction_lt parts.1.0 h in
    let seconds : c.at.seconds < 2 ^ 32 = omega (arith, ltb-true (raw c.at) (2 ^ 32 * 2 ^ 64) k.in_range_lem) in
    let whole = whole_lt (value c.whole) r.numerator c.remainder (period r) parts.0 (omega (arith, b.low, b.denominator_high)) in
    record {
      parts_lt = parts_lt c.fraction n c.remainder r.numerator k.fraction_lt parts.1.0 h;
      units_lt = units;
      whole_high = parts.1.1;
      room = few_room c.at.seconds (value c.whole) n _ seconds whole h units;
      ordinal_lt = ordinal_lt c r b k;
      numerator_low = b.low;
      numerator_high = b.high;
      period_parts = parts.0;
    }
