use Rattle.std.proofs.Math.Facts.{to_z-of_z}
use mir.Syntax.{w32}
use Rattle.voltage.specs.Voltage.{voltages, levels}
use Rattle.voltage.proofs.Checks.{settings_passed}
use native.Mathlib.Omega.{arith}
use Rattle.voltage.proofs.levels.voltages_of.Goals as goal

pub overflow_add-n : goal.overflow_add-n
overflow_add-n c = omega (arith, (settings_passed _ c.args.settings.passes).bias)

pub returns : goal.returns
unfolding voltages levels
returns c =
    let back = to_z-of_z {w = w32} {z = c.args.supply.temperature_millicelsius} (record { sfits = omega arith }) in
    simp (
      back,
      c.share_level-4.ensures,
      c.share_level-3.ensures,
      c.share_level-2.ensures,
      c.share_level.ensures,
      c.then_some.ensures,
      c.has_bit.ensures,
      c.v0_present-present.ensures,
      c.pump_of-pump.ensures,
      c.target_of-target.ensures,
    )
