-- Document 01, 'Clock': a clock stands at one position, in 1 / p fraction units, its last edge × p plus its fraction. An edge
-- further is q × 2^64 further.
use Rattle.std.specs.Prelude.{ℕ, ◌+◌, ◌*◌, ◌^◌}
use Rattle.clock.specs.declared.rate.Rate.{Rate}
use Rattle.clock.specs.declared.edges.Clock.{Clock}
use Rattle.clock.specs.Time.{raw}

-- one edge further
abbrev pub period : Rate → ℕ
period r = r.denominator * 2 ^ 64

unfoldable pub position : Clock → Rate → ℕ
position c r = raw c.at * r.numerator + c.fraction

-- where the clock stands n edges further
unfoldable pub position_after : Clock → Rate → ℕ → ℕ
position_after c r n = position c r + n * period r
