-- Document 01, 'Clock': edges at a rational rate, counted and passed.
use Rattle.std.specs.Prelude.{ℕ, zero, suc, ◌+◌, ◌/◌, ◌%◌, min, cond, ◌⊎◌, leb, Option, Some, None, Result, Ok, Err}
use Rattle.std.proofs.Common.{inl, inr}
use Rattle.checks.specs.Checks.{first_of, answer, numbered}
use Rattle.clock.specs.declared.time.Time.{Time}
use Rattle.clock.specs.declared.rate.Rate.{Rate}
use Rattle.clock.specs.declared.edges.Clock.{Clock}
use Rattle.clock.specs.declared.edges.Passed.{Passed}
use Rattle.clock.specs.declared.check.Refusal.{Refusal}
use Rattle.clock.specs.Wide.{wide_of}
use Rattle.clock.specs.Time.{raw, time_of}
use Rattle.clock.specs.Position.{period, position_after}
use Rattle.clock.specs.Check.{number, time_row, rate_row, check_clock}

-- a clock that starts at a moment
unfoldable pub started : Time → Rate → Clock
started at r = record {
  at = at;
  whole = wide_of (period r / r.numerator);
  remainder = period r % r.numerator;
  denominator = r.numerator;
  fraction = 0;
  ordinal = 0;
}

-- where edge k after the clock's last one stands, in fraction units: from a clock that just started,
-- start + floor(k·q·2^64 / p), as proofs/Laws.antt shows (`edge_after_start`)
unfoldable pub edge : Clock → Rate → ℕ → ℕ
edge c r k = position_after c r k / r.numerator

-- the clock moved forward by n edges; its ordinal grows by as many
unfoldable pub moved_by : Clock → Rate → ℕ → Clock
moved_by c r n = record {
  at = time_of (edge c r n);
  whole = c.whole;
  remainder = c.remainder;
  denominator = c.denominator;
  fraction = position_after c r n % r.numerator;
  ordinal = c.ordinal + n;
}

-- of the first n edges after the last one, how many are not later than now: one exactly at now counts
unfoldable pub edges_among : ℕ → Clock → Rate → Time → ℕ
edges_among zero c r now = 0
edges_among (suc n) c r now = edges_among n c r now + cond (leb (edge c r (suc n)) (raw now)) 1 0

-- how many edges stand after the last one and not later than now. Edges stand at least a fraction
-- unit apart, so none of them is left out; a moment before the last edge counts none
unfoldable pub edges_to : Clock → Rate → Time → ℕ
edges_to c r now = edges_among (raw now + 1) c r now

-- the answers of the calls: the number of a refusal, or the value
abbrev pub answered : {A : Type 0} → Result A Refusal → ℕ ⊎ A
answered r = numbered number r

abbrev pub answered_pass : Result Passed Refusal → ℕ ⊎ (ℕ × Clock)
answered_pass (Ok p) = inr (p.count, p.clock)
answered_pass (Err why) = inl (number why)

-- the calls, with their checks in the table's order
unfoldable pub new_clock : Time → Rate → ℕ ⊎ Clock
new_clock at r = answer (first_of (time_row at) (rate_row r)) (started at r)

unfoldable pub count_edges : Clock → Rate → Time → ℕ ⊎ ℕ
count_edges c r now = answer (first_of (time_row now) (check_clock c r)) (edges_to c r now)

-- number 1 is here about the time that the call gives, so it comes last
unfoldable pub move_clock : Clock → Rate → ℕ → ℕ ⊎ Clock
move_clock c r n = answer (first_of (check_clock c r) (time_row (moved_by c r n).at)) (moved_by c r n)

-- the number of the refusal, if any, and the clock that is left: the moved one, or, refused, the one given
abbrev pub settled : Clock → ℕ ⊎ Clock → Option ℕ × Clock
settled c (inl why) = (Some why, c)
settled c (inr moved) = (None, moved)

-- the clock moved in place
unfoldable pub advance_clock : Clock → Rate → ℕ → Option ℕ × Clock
advance_clock c r n = settled c (move_clock c r n)

-- the edges not later than now, limit of them at the most, and the clock moved by as many
unfoldable pub pass_edges : Clock → Rate → Time → ℕ → ℕ ⊎ (ℕ × Clock)
pass_edges c r now limit =
    let n = min (edges_to c r now) limit in
    answer (first_of (time_row now) (check_clock c r)) (n, moved_by c r n)
