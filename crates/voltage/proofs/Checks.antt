-- Number 3's conditions, one by one, and what a passed check says.
use Prim.Native.Nat.{◌≤◌}
use mathlib.Core.Bool.{true}
use mathlib.Core.Path.{◌≡◌}
use Rattle.std.specs.Prelude.{None}
use borrow.Author.Tests.{leb-true}
use Rattle.checks.proofs.Tests.{both}
use Rattle.checks.proofs.Chains.{row_passed}
use Rattle.voltage.specs.declared.Settings.{Settings}
use Rattle.voltage.specs.Check.{valid_booster, valid_settings, settings_row}

pub record InRange (s : Settings) : Type 0 where
  pub contrast : s.contrast ≤ 63
  pub regulator : s.regulator ≤ 7
  pub power_control_lem : s.power_control ≤ 7
  pub booster : valid_booster s.booster ≡ true
  pub bias : s.bias ≤ 7
  pub temperature_slope : s.temperature_slope ≤ 1
  pub contrast_trim : s.contrast_trim ≤ 15
  pub otp_control : s.otp_control ≤ 3

pub in_range_lem : (s : Settings) → valid_settings s ≡ true → InRange s
unfolding valid_settings
in_range_lem s valid =
    let a = both _ _ valid in
    let b = both _ _ a.0 in
    let c = both _ _ b.0 in
    let d = both _ _ c.0 in
    let e = both _ _ d.0 in
    let f = both _ _ e.0 in
    let g = both _ _ f.0 in
    record {
      contrast = leb-true _ _ g.0;
      regulator = leb-true _ _ g.1;
      power_control_lem = leb-true _ _ f.1;
      booster = e.1;
      bias = leb-true _ _ d.1;
      temperature_slope = leb-true _ _ c.1;
      contrast_trim = leb-true _ _ b.1;
      otp_control = leb-true _ _ a.1;
    }

pub settings_passed : (s : Settings) → settings_row s ≡ None → InRange s
settings_passed s h = in_range_lem s (row_passed 3 _ h)

pub trim_passed : (s : Settings) → settings_row s ≡ None → s.contrast_trim ≤ 15
trim_passed s h = (settings_passed s h).contrast_trim
