-- The scan's state (document 01, 'Scan'): its rows, the state with one group replaced, and the scan at power-on.
use Rattle.std.specs.Prelude.{ℕ, true, false, [], ◌∷◌, None}
use Rattle.scan.specs.declared.state.Scan.{Scan}
use Rattle.scan.specs.declared.state.Ticking.{Ticking}
use Rattle.scan.specs.declared.state.Inversion.{Inversion}
use Rattle.scan.specs.declared.state.Latch.{Latch}
use Rattle.scan.specs.Settings.{rows_in}

-- the rows that the scan holds
abbrev pub rows : Scan → ℕ
rows x = rows_in x.frame

-- the scan with another clock and rate, line inversion or latch
unfoldable pub with_ticking : Scan → Ticking → Scan
with_ticking x t = record {
  ticking = t;
  latch = x.latch;
  frame = x.frame;
  pwm = x.pwm;
  row = x.row;
  step = x.step;
  frc = x.frc;
  inversion = x.inversion;
}

unfoldable pub with_inversion : Scan → Inversion → Scan
with_inversion x i = record {
  ticking = x.ticking;
  latch = x.latch;
  frame = x.frame;
  pwm = x.pwm;
  row = x.row;
  step = x.step;
  frc = x.frc;
  inversion = i;
}

unfoldable pub with_latch : Scan → Latch → Scan
with_latch x l = record {
  ticking = x.ticking;
  latch = l;
  frame = x.frame;
  pwm = x.pwm;
  row = x.row;
  step = x.step;
  frc = x.frc;
  inversion = x.inversion;
}

-- the scan at power-on
unfoldable pub power_on : Scan
power_on = record {
  ticking = record { clock = None; rate = record { numerator = 129024; denominator = 1 } };
  latch = record { segments = 0 ∷ 0 ∷ []; latched = true };
  frame = record {
    duty = 128;
    icon = false;
    initial_com = 0;
    common_reverse = false;
    start_line = 0;
    frc_count = 4;
  };
  pwm = 9;
  row = 0;
  step = 0;
  frc = 0;
  inversion = record { lines = 0; count = 0; inverted = false };
}
