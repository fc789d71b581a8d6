use mathlib.Core.Bool.{true≢false}
use mathlib.Core.Path.{sym, ◌∙◌}
use borrow.Author.Count.{below_more}
use native.Mathlib.Omega.{arith}
use Rattle.std.proofs.Math.Facts.{to_z-of_z}
use Rattle.checks.proofs.Chains.{row_passed}
use Rattle.voltage.proofs.Numbers.{computed_is}
use Rattle.voltage.proofs.finder.find_setting.Goals as goal

pub returns-then-in_band : goal.returns-then-in_band
returns-then-in_band c = (
  row_passed 3 _ (sym c.in_ok-settings.ensures.refuses),
  record {
    regulator_below = c.loop-regulator-test.true;
    contrast_below = c.loop-contrast-test.true;
    in_band_lem =
        rw (← computed_is c.args.settings c.args.temperature (rw (to_z-of_z c.ranges.temperature, c.in_ok-settings.ensures.keeps) at c.temperature_factor-factor.ensures.exact) (rw c.in_ok-settings.ensures.keeps at c.base_of-base.ensures.exact) c.loop-regulator.regulator c.loop-contrast.contrast, ← c.gain_of.ensures.exact)
        (sym c.in_band.ensures ∙ c.if-in_band.true);
  },
)

pub loop-regulator-preserved : goal.loop-regulator-preserved
loop-regulator-preserved c =
    below_more _ _ c.loop-regulator.invariant
    (λ k h. c.loop-contrast.invariant k (omega (arith, h)))

pub returns : goal.returns
returns c = (
  row_passed 3 _ (sym c.in_ok-settings.ensures.refuses),
  λ r k fits.
      let passed = c.loop-regulator.invariant r (omega (arith, fits.regulator_below)) k fits.contrast_below in
      true≢false
      (sym fits.in_band_lem
      ∙ (rw (computed_is c.args.settings c.args.temperature (rw (to_z-of_z c.ranges.temperature, c.in_ok-settings.ensures.keeps) at c.temperature_factor-factor.ensures.exact) (rw c.in_ok-settings.ensures.keeps at c.base_of-base.ensures.exact) r k) at passed)),
)
