-- Number 5's conditions, one by one, and what the checks of a moment, of a rate and of a clock with its rate say.
use Prim.Native.Nat.{◌*◌, ◌<◌, ◌≤◌}
use mathlib.Core.Bool.{true}
use mathlib.Core.Path.{◌≡◌}
use borrow.Author.Tests.{lt-ltb, ltb-true, le-leb, leb-true}
use Rattle.std.proofs.lemmas.Bool.{and_parts}
use Rattle.std.specs.Prelude.{None}
use Rattle.checks.proofs.Chains.{first_passed, row_passed}
use Rattle.clock.specs.declared.time.Time.{Time}
use Rattle.clock.specs.declared.rate.Rate.{Rate}
use Rattle.clock.specs.declared.edges.Clock.{Clock}
use Rattle.clock.specs.Time.{in_range}
use Rattle.clock.specs.Position.{period, position}
use Rattle.clock.specs.Check.{is_of_rate, valid_clock, time_row, rate_row, clock_row, check_clock}
use Rattle.clock.proofs.Rates.{Bounds, lcd_bounds}

pub record Valid (c : Clock) (r : Rate) : Type 0 where
  pub of_rate : is_of_rate c r ≡ true
  pub fraction_lt : c.fraction < r.numerator
  pub in_range_lem : in_range c.at ≡ true
  pub ordinal_le : c.ordinal * period r ≤ position c r

pub valid : (c : Clock) (r : Rate) → valid_clock c r ≡ true → Valid c r
unfolding valid_clock
valid c r h =
    let a = and_parts _ _ h in
    let b = and_parts _ _ a.0 in
    let d = and_parts _ _ b.0 in
    record { of_rate = d.0; fraction_lt = ltb-true _ _ d.1; in_range_lem = b.1; ordinal_le = leb-true _ _ a.1 }

pub valid_test : (c : Clock) (r : Rate) → Valid c r → valid_clock c r ≡ true
unfolding valid_clock
valid_test c r v = simp (v.of_rate, lt-ltb _ _ v.fraction_lt, v.in_range_lem, le-leb _ _ v.ordinal_le)

pub time_passed : (t : Time) → time_row t ≡ None → in_range t ≡ true
time_passed t h = row_passed 1 _ h

pub lcd_passed : (r : Rate) → rate_row r ≡ None → Bounds r
lcd_passed r h = lcd_bounds r (row_passed 4 _ h)

-- a clock with its rate
module _ (c : Clock) (r : Rate) (h : check_clock c r ≡ None) where
  rows : (rate_row r ≡ None) × (clock_row c r ≡ None)
  unfolding check_clock
  rows = first_passed (rate_row r) (clock_row c r) h

  pub rated_row : rate_row r ≡ None
  rated_row = rows.0

  pub rated_bounds : Bounds r
  rated_bounds = lcd_passed r rows.0

  pub rated_valid : Valid c r
  rated_valid = valid c r (row_passed 5 _ rows.1)

  pub rated_fraction : c.fraction < r.numerator
  rated_fraction = rated_valid.fraction_lt

  pub rated_time : time_row c.at ≡ None
  rated_time = rw rated_valid.in_range_lem
