-- Document 01, 'Where a call is turned down': the rows of its table that the clock's calls ask for.
use Rattle.std.specs.Prelude.{ℕ, ◌*◌, ◌/◌, ◌%◌, Bool, ◌&&◌, leb, ltb, eqb, Option, Result}
use Rattle.checks.specs.Checks.{row, first_of, refused_by}
use Rattle.clock.specs.declared.time.Time.{Time}
use Rattle.clock.specs.declared.rate.Rate.{Rate}
use Rattle.clock.specs.declared.edges.Clock.{Clock}
use Rattle.clock.specs.declared.check.Refusal.{Refusal}
use Rattle.clock.specs.Wide.{value}
use Rattle.clock.specs.Time.{in_range}
use Rattle.clock.specs.Rate.{is_lcd}
use Rattle.clock.specs.Position.{period, position}

-- the number of each refusal
abbrev pub number : Refusal → ℕ
number Refusal.Time = 1
number Refusal.Rate = 4
number Refusal.Clock = 5

-- the answer of a check: none where it passes, or the number of its refusal
abbrev pub refused : {A : Type 0} → Result A Refusal → Option ℕ
refused r = refused_by number r

-- the clock of the rate
unfoldable pub is_of_rate : Clock → Rate → Bool
is_of_rate c r =
    eqb c.denominator r.numerator
    && eqb (value c.whole) (period r / r.numerator)
    && eqb c.remainder (period r % r.numerator)

-- the condition of number 5: the clock of the rate, its fraction below p, its last edge in range, and
-- ordinal × q × 2^64 not above last edge × p + fraction
unfoldable pub valid_clock : Clock → Rate → Bool
valid_clock c r =
    is_of_rate c r
    && ltb c.fraction r.numerator
    && in_range c.at
    && leb (c.ordinal * period r) (position c r)

-- the rows
abbrev pub time_row : Time → Option ℕ
time_row t = row 1 (in_range t)

abbrev pub rate_row : Rate → Option ℕ
rate_row r = row 4 (is_lcd r)

abbrev pub clock_row : Clock → Rate → Option ℕ
clock_row c r = row 5 (valid_clock c r)

unfoldable pub check_clock : Clock → Rate → Option ℕ
check_clock c r = first_of (rate_row r) (clock_row c r)
