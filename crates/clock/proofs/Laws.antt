-- The clock's laws for the crates above: moves add up, the edge count has a closed form and counts the edges not later than
-- the moment, counting in two steps is counting in one, and number 5 still passes.
use Prim.Native.Nat.{ℕ, zero, suc, ◌+◌, ◌-◌, ◌*◌, ◌/◌, ◌%◌, ◌^◌, ◌≤◌, ◌<◌, min}
use mathlib.Core.Bool.{Bool, true, false, cond}
use mathlib.Core.Path.{◌≡◌, refl, sym, ◌∙◌, ap}
use native.Mathlib.Omega.{arith}
use native.Mathlib.Nat.{add-zero, lt_of_le_of_lt, mul-le-mul, div-add-mod', div-mul-le_self, mod-lt, le-div_iff_mul-le, div-lt_iff_lt-mul, mul-add-div_right, le_antisymm, le_trans, lt_of_not-le, min-eq_right}
use lib.Arith.{digits_div, digits_mod}
use lib.Dec.{leb, ltb}
use borrow.Author.Tests.{lt-ltb, ltb-true, leb-true, leb-false, eq-eqb}
use Rattle.clock.specs.declared.time.Time.{Time}
use Rattle.clock.specs.declared.rate.Rate.{Rate}
use Rattle.clock.specs.declared.edges.Clock.{Clock}
use Rattle.clock.specs.Time.{raw, time_of, in_range}
use Rattle.clock.specs.Rate.{is_lcd}
use Rattle.clock.specs.Position.{period, position, position_after}
use Rattle.clock.specs.Check.{is_of_rate}
use Rattle.clock.specs.Edges.{started, edge, moved_by, edges_among, edges_to}
use Rattle.clock.proofs.Rates.{Bounds, lcd_bounds}
use Rattle.clock.proofs.Checks.{Valid}
use Rattle.clock.proofs.Times.{time_of_lem}

pub raw_time : (n : ℕ) → raw (time_of n) ≡ n
raw_time n = div-add-mod' n (2 ^ 64)

-- a time not later than one in range is in range
pub earlier_in_range : (s t : Time) → raw s ≤ raw t → in_range t ≡ true → in_range s ≡ true
earlier_in_range s t h i = lt-ltb (raw s) (2 ^ 32 * 2 ^ 64) (lt_of_le_of_lt h (ltb-true (raw t) (2 ^ 32 * 2 ^ 64) i))

module _ (c : Clock) (r : Rate) where
  pub moved_position : (n : ℕ) → position (moved_by c r n) r ≡ position_after c r n
  unfolding position moved_by edge
  moved_position n = rw (raw_time (position_after c r n / r.numerator)) (div-add-mod' (position_after c r n) r.numerator)

  -- the time of the edge n edges further
  pub moved_at : (n : ℕ) → raw (moved_by c r n).at ≡ edge c r n
  unfolding moved_by
  moved_at n = raw_time (edge c r n)

  after_after : (a b : ℕ) → position_after (moved_by c r a) r b ≡ position_after c r (a + b)
  unfolding position_after
  after_after a b = rw (moved_position a) (omega arith)

  -- moving by no edge leaves the clock as it is
  pub moved_none : c.fraction < r.numerator → c.at.fraction < 2 ^ 64 → moved_by c r 0 ≡ c
  unfolding moved_by edge position_after position
  moved_none h f = λ i. record {
    at = sym (time_of_lem c.at.seconds f (ap (λ (n : ℕ). n / r.numerator) here ∙ digits_div (raw c.at) h)) i;
    whole = c.whole;
    remainder = c.remainder;
    denominator = c.denominator;
    fraction = (ap (λ (n : ℕ). n % r.numerator) here ∙ digits_mod (raw c.at) h) i;
    ordinal = add-zero c.ordinal i;
  }
    where
      here : position c r + 0 * period r ≡ raw c.at * r.numerator + c.fraction
      here = omega arith

  -- moving a and then b edges is moving a + b
  pub moved_moved : (a b : ℕ) → moved_by (moved_by c r a) r b ≡ moved_by c r (a + b)
  unfolding moved_by edge
  moved_moved a b = λ i. record {
    at = time_of (after_after a b i / r.numerator);
    whole = c.whole;
    remainder = c.remainder;
    denominator = c.denominator;
    fraction = after_after a b i % r.numerator;
    ordinal = sums i;
  }
    where
      sums : c.ordinal + a + b ≡ c.ordinal + (a + b)
      sums = omega arith

  -- n edges take at least n fraction units
  pub edges_apart : Bounds r → (n : ℕ) → raw c.at + n ≤ raw (moved_by c r n).at
  unfolding edge position_after position
  edges_apart b n =
      rw (moved_at n) ((le-div_iff_mul-le {k = r.numerator} {x = raw c.at + n} (omega (arith, b.low))).1
      (omega (arith, mul-le-mul {n₁ = n} {m₁ = r.numerator} {n₂ = n} {m₂ = r.denominator * 2 ^ 64} (omega arith) (omega (arith, b.high, b.denominator_low)))))

  -- an edge further is later, by at least one fraction unit
  pub edge_later : Bounds r → raw c.at + 1 ≤ raw (moved_by c r 1).at
  edge_later b = edges_apart b 1

  -- no edge is before the last one
  pub edge_not_before : 0 < r.numerator → (n : ℕ) → raw c.at ≤ raw (moved_by c r n).at
  unfolding edge position_after position
  edge_not_before pos n = rw (moved_at n) ((le-div_iff_mul-le {k = r.numerator} {x = raw c.at} pos).1 (omega arith))

  -- number 5 still passes while the last edge is in range
  pub moved_valid : 0 < r.numerator → (n : ℕ) → Valid c r → in_range (moved_by c r n).at ≡ true → Valid (moved_by c r n) r
  unfolding is_of_rate moved_by position_after
  moved_valid pos n v h = record { of_rate = of_rate; fraction_lt = below; in_range_lem = h; ordinal_le = rw (moved_position n) grown }
    where
      of_rate : is_of_rate (moved_by c r n) r ≡ true
      of_rate = v.of_rate

      below : (moved_by c r n).fraction < r.numerator
      below = mod-lt (position_after c r n) pos

      grown : (moved_by c r n).ordinal * period r ≤ position_after c r n
      grown = omega (arith, v.ordinal_le)

-- the closed form of the edge count: (raw now + 1) × p is the first position later than now
module _ (c : Clock) (r : Rate) (b : Bounds r) (now : Time) where
  abbrev closed : ℕ
  closed = cond (ltb (raw now) (raw c.at)) 0 (((raw now + 1) * r.numerator - 1 - position c r) / period r)

  numerator_pos : 0 < r.numerator
  numerator_pos = omega (arith, b.low)

  period_pos : 0 < period r
  period_pos = omega (arith, b.denominator_low)

  -- an edge is not later than now exactly if its position is before the first that is later
  before_end : (k : ℕ) → position_after c r k < (raw now + 1) * r.numerator → edge c r k ≤ raw now
  unfolding edge
  before_end k h =
      omega (arith, (div-lt_iff_lt-mul {k = r.numerator} {x = position_after c r k} {y = raw now + 1} numerator_pos).1 h)

  end_before : (k : ℕ) → edge c r k ≤ raw now → position_after c r k < (raw now + 1) * r.numerator
  unfolding edge
  end_before k h = (div-lt_iff_lt-mul {k = r.numerator} {x = position_after c r k} {y = raw now + 1} numerator_pos).0 (omega arith)

  after_lt : (k m : ℕ) → 1 ≤ k → k * period r ≤ m - 1 - position c r → position_after c r k < m
  unfolding position_after
  after_lt k m one h = omega (arith, mul-le-mul {n₁ = 1} {m₁ = 1} {n₂ = k} {m₂ = period r} one period_pos)

  lt_after : (k m : ℕ) → position_after c r k < m → k * period r ≤ m - 1 - position c r
  unfolding position_after
  lt_after k m h = omega arith

  closed_counted : (k : ℕ) → 1 ≤ k → k ≤ closed → edge c r k ≤ raw now
  closed_counted k one = go (ltb (raw now) (raw c.at))
    where
      go : (t : Bool) → k ≤ cond t 0 (((raw now + 1) * r.numerator - 1 - position c r) / period r) → edge c r k ≤ raw now
      go true h = absurd (omega arith)
      go false h = before_end k (after_lt k ((raw now + 1) * r.numerator) one ((le-div_iff_mul-le {k = period r} {x = k} period_pos).0 h))

  closed_counts : (k : ℕ) → edge c r k ≤ raw now → k ≤ closed
  closed_counts k h = go (ltb (raw now) (raw c.at)) refl
    where
      go : (t : Bool) → ltb (raw now) (raw c.at) ≡ t → k ≤ cond t 0 (((raw now + 1) * r.numerator - 1 - position c r) / period r)
      go true e = absurd (omega (arith, ltb-true (raw now) (raw c.at) e, edge_not_before c r numerator_pos k, moved_at c r k))
      go false e = (le-div_iff_mul-le {k = period r} {x = k} period_pos).1 (lt_after k ((raw now + 1) * r.numerator) (end_before k h))

  -- of the first n edges, the first ones up to the closed form are counted
  among : (n : ℕ) → edges_among n c r now ≡ min n closed
  unfolding edges_among
  among zero = omega arith
  among (suc n) = go (leb (edge c r (suc n)) (raw now)) refl (among n)
    where
      go : (t : Bool) → leb (edge c r (suc n)) (raw now) ≡ t → edges_among n c r now ≡ min n closed → edges_among n c r now + cond t 1 0 ≡ min (suc n) closed
      go true e h = omega (arith, closed_counts (suc n) (leb-true _ _ e))
      go false e h =
          omega (arith, lt_of_not-le {n = suc n} {m = closed} (λ k. omega (arith, leb-false, closed_counted (suc n) (omega arith) k)))

  -- edges stand a fraction unit apart, so that no more stand up to now than now has units
  closed_le : closed ≤ raw now + 1
  closed_le = go closed refl
    where
      go : (n : ℕ) → closed ≡ n → n ≤ raw now + 1
      go zero e = omega arith
      go (suc n) e = omega (arith, closed_counted (suc n) (omega arith) (omega arith), edges_apart c r b (suc n), moved_at c r (suc n))

  -- the count by one division
  pub edges_formula : edges_to c r now ≡ cond (ltb (raw now) (raw c.at)) 0 (((raw now + 1) * r.numerator - 1 - position c r) / period r)
  unfolding edges_to
  edges_formula = among (raw now + 1) ∙ min-eq_right closed_le

  -- no more edges stand in range than 2^50
  pub edges_le : in_range now ≡ true → edges_to c r now ≤ 2 ^ 50
  edges_le i = rw edges_formula (go (ltb (raw now) (raw c.at)))
    where
      k : ℕ
      k = ((raw now + 1) * r.numerator - 1 - position c r) / period r

      within : k * period r ≤ (raw now + 1) * r.numerator
      within = le_trans (div-mul-le_self ((raw now + 1) * r.numerator - 1 - position c r) (period r)) (omega arith)

      periods : k ≤ k * r.denominator
      periods = omega (arith, mul-le-mul {n₁ = k} {m₁ = 1} {n₂ = k} {m₂ = r.denominator} (omega arith) b.denominator_low)

      moment : raw now + 1 ≤ 2 ^ 96
      moment = let s = ltb-true (raw now) (2 ^ 32 * 2 ^ 64) i in omega arith

      bound : (raw now + 1) * r.numerator ≤ 2 ^ 96 * 184000
      bound = mul-le-mul moment b.high

      go : (t : Bool) → cond t 0 k ≤ 2 ^ 50
      go true = omega arith
      go false = omega (arith, within, periods, bound)

module _ (c : Clock) (r : Rate) (b : Bounds r) (below : c.fraction < r.numerator) where
  -- each counted edge is not later than now
  pub edge_counted : (now : Time) (k : ℕ) → 1 ≤ k → k ≤ edges_to c r now → raw (moved_by c r k).at ≤ raw now
  edge_counted now k one h = rw (moved_at c r k) (closed_counted c r b now k one (rw (edges_formula c r b now) at h))

  -- and each edge not later than now is counted
  pub counts_edge : (now : Time) (k : ℕ) → raw (moved_by c r k).at ≤ raw now → k ≤ edges_to c r now
  counts_edge now k h = rw (edges_formula c r b now) (closed_counts c r b now k (rw (moved_at c r k) at h))

  -- the edge count is monotone
  pub edges_monotone : (s t : Time) → raw s ≤ raw t → edges_to c r s ≤ edges_to c r t
  edges_monotone s t h = go (edges_to c r s) refl
    where
      go : (n : ℕ) → edges_to c r s ≡ n → n ≤ edges_to c r t
      go zero e = omega arith
      go (suc n) e = counts_edge t (suc n) (le_trans (edge_counted s (suc n) (omega arith) (omega arith)) h)

-- counting to s, moving there, and counting on to t is counting to t
module _ (c : Clock) (r : Rate) (b : Bounds r) (below : c.fraction < r.numerator) (s t : Time) (le : raw s ≤ raw t) where
  abbrev n : ℕ
  n = edges_to c r s

  abbrev moved : Clock
  moved = moved_by c r n

  moved_below : moved.fraction < r.numerator
  unfolding moved_by
  moved_below = mod-lt (position_after c r n) (omega (arith, b.low))

  at_most : n + edges_to moved r t ≤ edges_to c r t
  at_most = go (edges_to moved r t) refl
    where
      go : (k : ℕ) → edges_to moved r t ≡ k → n + k ≤ edges_to c r t
      go zero e = omega (arith, edges_monotone c r b below s t le)
      go (suc k) e =
          counts_edge c r b below t (n + suc k)
          (rw (← moved_moved c r n (suc k)) (edge_counted moved r b moved_below t (suc k) (omega arith) (omega arith)))

  at_least : edges_to c r t ≤ n + edges_to moved r t
  at_least = go (edges_to c r t - n) refl
    where
      go : (k : ℕ) → edges_to c r t - n ≡ k → edges_to c r t ≤ n + edges_to moved r t
      go zero e = omega arith
      go (suc k) e =
          omega (
            arith,
            counts_edge moved r b moved_below t (suc k)
                (rw (moved_moved c r n (suc k)) (edge_counted c r b below t (n + suc k) (omega arith) (omega arith))),
          )

  pub count_on_lem : edges_to c r t ≡ edges_to c r s + edges_to (moved_by c r (edges_to c r s)) r t
  count_on_lem = le_antisymm at_least at_most

-- edge k after the start stands at start + floor(k·q·2^64 / p)
pub edge_after_start : (at : Time) (r : Rate) (k : ℕ) → 0 < r.numerator → edge (started at r) r k ≡ raw at + k * period r / r.numerator
unfolding edge position_after position started
edge_after_start at r k pos = ap (λ (n : ℕ). n / r.numerator) from ∙ mul-add-div_right pos (raw at) (k * period r)
  where
    from : position_after (started at r) r k ≡ raw at * r.numerator + k * period r
    from = omega arith

-- a clock passes number 5 when it starts
pub started_valid : (at : Time) (r : Rate) → is_lcd r ≡ true → in_range at ≡ true → Valid (started at r) r
unfolding started is_of_rate
started_valid at r l i = record {
  of_rate = simp (eq-eqb r.numerator r.numerator refl, raw_time (period r / r.numerator), eq-eqb (period r / r.numerator) (period r / r.numerator) refl, eq-eqb (period r % r.numerator) (period r % r.numerator) refl);
  fraction_lt = omega (arith, (lcd_bounds r l).low);
  in_range_lem = i;
  ordinal_le = omega arith;
}
