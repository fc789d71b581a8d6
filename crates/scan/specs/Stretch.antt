-- Definitions that contracts of src/stretch.rt cite: the quanta for which the clock is asked once, at one rate. Nothing here is a
-- rule; that stretches come to the count of the rule is a law (proofs/Stretches.antt).
use Rattle.std.specs.Prelude.{◌≡◌, ℕ, ◌+◌, ◌<◌, min, Bool, true, cond, ◌&&◌, Option, None, Some}
use Rattle.checks.specs.Checks.{row, changed}
use Rattle.clock.specs.declared.time.Time.{Time}
use Rattle.clock.specs.declared.rate.Rate.{Rate}
use Rattle.clock.specs.declared.edges.Clock.{Clock}
use Rattle.clock.specs.Time.{in_range}
use Rattle.clock.specs.Rate.{same_rate}
use Rattle.clock.specs.Edges.{started, edges_to}
use Rattle.scan.specs.declared.settings.Settings.{Settings}
use Rattle.scan.specs.declared.state.Scan.{Scan}
use Rattle.scan.specs.declared.state.Ticking.{Ticking}
use Rattle.scan.specs.declared.stretch.Run.{Run}
use Rattle.scan.specs.Settings.{frame_of, rows_in, rate_of}
use Rattle.scan.specs.State.{rows, with_ticking}
use Rattle.scan.specs.Check.{valid_running}
use Rattle.scan.specs.Count.{count_to, rate_same, limit_with, pieces}
use Rattle.scan.specs.Closed.{quanta}

-- the piece rule's limit in 64 bits, for which all is the largest
abbrev pub limit_in : Scan → Settings → ℕ
limit_in x s = limit_with x s 18446744073709551615

-- the edges of a clock up to now
unfoldable pub edges_in : Option Clock → Rate → Time → ℕ
edges_in (Some c) r now = edges_to c r now
edges_in None r now = 0

-- the rate is that of the settings with the rows held, and with those that a frame end would take
unfoldable pub rate_stays : Scan → Settings → Bool
rate_stays x s = rate_same x s && same_rate x.ticking.rate (rate_of s (rows_in (frame_of s)))

-- how many quanta the clock is asked for at once, and how many of them are due
unfoldable pub stretch_limit : Scan → Settings → ℕ
stretch_limit x s = cond (rate_stays x s) 18446744073709551615 (limit_in x s)

abbrev pub stretch : Scan → Settings → Time → ℕ
stretch x s now = min (edges_in x.ticking.clock x.ticking.rate now) (stretch_limit x s)

-- clock and rate after n quanta whose last edge is that of the clock `moved`: where the rate of the rows then held is another,
-- a new clock starts there
abbrev pub ticked_on : Scan → Settings → ℕ → (moved : Clock) → Ticking
ticked_on x s n moved = record {
  clock = cond (same_rate x.ticking.rate (rate_of s (rows (quanta n x s)))) (Some moved) (Some (started moved.at (rate_of s (rows (quanta n x s)))));
  rate = rate_of s (rows (quanta n x s));
}

-- n quanta counted, with the clock and rate t, and the uses of the piece rule that took: where the n quanta are a stretch of a
-- count to some moment, those uses and the ones of the count's rest are the uses of the count
pub record InPieces (x : Scan) (s : Settings) (n : ℕ) (t : Ticking) (r : Run) : Type 0 where
  pub counters : r.scan ≡ with_ticking (quanta n x s) t
  pub some_uses : 0 < n → 0 < r.pieces
  pub uses : (now : Time) → in_range now ≡ true → stretch x s now ≡ n → r.pieces + pieces (quanta n x s) s now ≡ pieces x s now

-- the scan counted to now and the uses of the piece rule, or number 5 and the scan given
unfoldable pub count_clock : Scan → Settings → Time → Option ℕ × (Scan × ℕ)
count_clock x s now =
    changed (row 5 (valid_running x.ticking.clock x.ticking.rate)) (count_to x s now, pieces x s now) (x, 0)
