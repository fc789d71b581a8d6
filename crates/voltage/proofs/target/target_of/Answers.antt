use mathlib.Core.Path.{◌∙◌}
use mir.Facts.{to_z-of_z}
use Rattle.voltage.specs.Voltage.{target}
use Rattle.voltage.proofs.Numbers.{scaled_below, target_is}
use Rattle.voltage.proofs.Checks.{settings_passed}
use native.Mathlib.Omega.{arith}
use Rattle.voltage.proofs.target.target_of.Goals as goal

pub gain_of-requires : goal.gain_of-requires
gain_of-requires c = omega (arith, (settings_passed _ c.args.settings.passes).regulator)

pub microvolts_of-requires : goal.microvolts_of-requires
microvolts_of-requires c = record {
  scaled_bound = scaled_below _ _ c.temperature_factor-factor.ensures.small c.gain_of.ensures.small;
  e_bound = omega (arith, (settings_passed _ c.args.settings.passes).contrast);
}

pub returns : goal.returns
unfolding target
returns c =
    c.microvolts_of.ensures
    ∙ rw c.from.ensures
    (target_is c.args.settings.value c.args.temperature _ _ _ _ _
    (rw (to_z-of_z c.ranges.temperature) at c.temperature_factor-factor.ensures.exact)
    c.gain_of.ensures.exact c.base_of-base.ensures.exact)
