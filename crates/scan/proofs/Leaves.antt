-- What a byte of the fast path leaves of the scan as it is: whether its clock runs and the clock's period, the rate, and what the ends of rows and
-- frames take. Clock, counters and latch go on.
use Rattle.std.proofs.Common.{◌≡◌, ℕ, Bool, true, false, cond, not, ◌||◌, List, sym, refl, ap}
use Rattle.std.specs.Prelude.{Option, Some, None}
use Rattle.clock.specs.declared.wide.Wide.{Wide}
use Rattle.clock.specs.declared.rate.Rate.{Rate}
use Rattle.clock.specs.declared.edges.Clock.{Clock}
use Rattle.clock.specs.Edges.{moved_by}
use Rattle.scan.specs.declared.settings.Settings.{Settings}
use Rattle.scan.specs.declared.settings.Frame.{Frame}
use Rattle.scan.specs.declared.state.Scan.{Scan}
use Rattle.scan.specs.Latch.{latched_row, affects, latch_retained, retained}
use Rattle.scan.specs.State.{with_latch}
use Rattle.scan.specs.Fast.{inversion_on, onward, rows_on, moved_on}

-- the period of a clock that runs, as the clock holds it
pub record Period : Type 0 where
  pub whole : Wide
  pub remainder : ℕ
  pub denominator : ℕ

pub record Lasting : Type 0 where
  pub period : Option Period
  pub rate : Rate
  pub frame : Frame
  pub pwm : ℕ
  pub lines : ℕ

abbrev pub period_of : Option Clock → Option Period
period_of (Some c) = Some (record { whole = c.whole; remainder = c.remainder; denominator = c.denominator })
period_of None = None

abbrev pub lasting : Scan → Lasting
lasting x = record {
  period = period_of x.ticking.clock;
  rate = x.ticking.rate;
  frame = x.frame;
  pwm = x.pwm;
  lines = x.inversion.lines;
}

pub moved_lasts : (x : Scan) {c : Clock} (n : ℕ) → x.ticking.clock ≡ Some c → lasting (moved_on x (moved_by c x.ticking.rate n) n) ≡ lasting x
unfolding moved_on rows_on onward inversion_on moved_by
moved_lasts x n runs =
    ap (λ (k : Option Clock). record { period = period_of k; rate = x.ticking.rate; frame = x.frame; pwm = x.pwm; lines = x.inversion.lines }) (sym runs)

pub retained_lasts : (x : Scan) (s : Settings) (page : Option ℕ) (ram icons : List ℕ) → lasting (retained x s page ram icons) ≡ lasting x
unfolding retained latch_retained with_latch
retained_lasts x s page ram icons = go (x.latch.latched || not (affects page (latched_row x)))
  where
    go : (t : Bool) → lasting (cond t x (latch_retained x s ram icons)) ≡ lasting x
    go true = refl
    go false = refl
