-- The words that a byte of the fast path can change, put into those of a state: they are then the words of the state that the byte leaves. On the
-- words of a state every store computes, but for those of a clock, which runs or not.
use Prim.Native.Nat.{ℕ}
use mathlib.Core.List.{List, ◌∷◌}
use mathlib.Core.Path.{◌≡◌, refl, ap, sym, ◌∙◌}
use native.Mathlib.Omega.{arith}
use lib.ListN.{drop}
use Rattle.std.specs.Prelude.{Option, Some, None}
use Rattle.scan.specs.declared.state.Scan.{Scan}
use Rattle.clock.specs.declared.edges.Clock.{Clock}
use Rattle.scan.proofs.Leaves.{Period, Lasting, period_of, lasting}
use Rattle.controller.specs.declared.state.Nt7508.{Nt7508}
use Rattle.controller.specs.declared.state.Address.{Address}
use Rattle.controller.specs.declared.fast.FastStep.{FastStep}
use Rattle.controller.specs.Bits.{with_bits}
use Rattle.ffi.specs.ScanWords.{running_words}
use Rattle.ffi.specs.StateWords.{scan_part, display_part, power_part, address_part, serial_part, state_words}
use Rattle.ffi.specs.FastWords.{clock_put, latch_put, counters_put, line_put, fast_put}
use Rattle.ffi.proofs.Unchanged.{from}

clock_moved : (z x : Option Clock) → period_of z ≡ period_of x → (rest : List ℕ) → clock_put z (from 9 0 (running_words x) rest) ≡ from 9 0 (running_words z) rest
unfolding clock_put
clock_moved (Some c) (Some d) e rest =
    let same : ◌≡◌ {A = Period} (record { whole = d.whole; remainder = d.remainder; denominator = d.denominator }) (record { whole = c.whole; remainder = c.remainder; denominator = c.denominator }) = cc in
    λ i. 1 ∷ c.at.seconds ∷ c.at.fraction ∷ (same i).whole.high ∷ (same i).whole.low ∷ (same i).remainder ∷ (same i).denominator ∷ c.fraction ∷ c.ordinal ∷ rest
clock_moved (Some c) None e rest = let never : ◌≡◌ {A = ℕ} 0 1 = cc in absurd (omega arith)
clock_moved None (Some d) e rest = let never : ◌≡◌ {A = ℕ} 0 1 = cc in absurd (omega arith)
clock_moved None None e rest = refl

-- a scan with what lasts of another, and an address with its saved column
abbrev with_lasting : Scan → Lasting → Scan
with_lasting z k = record {
  ticking = record { clock = z.ticking.clock; rate = k.rate };
  latch = z.latch;
  frame = k.frame;
  pwm = k.pwm;
  row = z.row;
  step = z.step;
  frc = z.frc;
  inversion = record { lines = k.lines; count = z.inversion.count; inverted = z.inversion.inverted };
}

abbrev with_saved : Address → Option ℕ → Address
with_saved a saved = record { page = a.page; column_byte = a.column_byte; saved_column = saved }

pub fast_moved : (x : Nt7508) (s : FastStep) → lasting s.scan ≡ lasting x.scan → s.address.saved_column ≡ x.address.saved_column → fast_put s (state_words x) ≡ state_words (record { scan = s.scan; display = x.display; analog = x.analog; power = x.power; address = s.address; serial = with_bits x.serial 0 0 })
unfolding fast_put latch_put counters_put line_put state_words scan_part display_part power_part address_part serial_part
fast_moved x s lasts saved =
    ap (λ (w : List ℕ). line_put s.address (counters_put s.scan (latch_put s.scan w))) (clock_moved s.scan.ticking.clock x.scan.ticking.clock (ap (λ (k : Lasting). k.period) lasts) (drop 9 (state_words x)))
    ∙ (λ i. state_words (record {
      scan = with_lasting s.scan (sym lasts i);
      display = x.display;
      analog = x.analog;
      power = x.power;
      address = with_saved s.address (sym saved i);
      serial = with_bits x.serial 0 0;
    }))
