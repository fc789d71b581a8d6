use Rattle.std.proofs.Common.{◌≤◌, refl, arith}
use Rattle.scan.specs.Image.{widths}
use Rattle.scan.proofs.Images.{frc_bounds, widths_fit, widths_more}
use Rattle.scan.proofs.image.width_sum.Goals as goal

pub loop-phase-init : goal.loop-phase-init
unfolding widths
loop-phase-init c = refl

pub overflow_add-sum : goal.overflow_add-sum
overflow_add-sum c =
    let a = c.args in
    let phase : c.loop-phase.phase ≤ 4 = omega (arith, c.frc_count_of-phase-end.ensures, (frc_bounds a.settings.gray_mode).1) in
    omega (arith, widths_fit a.settings a.shade c.loop-phase.phase phase)

pub loop-phase-preserved : goal.loop-phase-preserved
loop-phase-preserved c =
    let more = widths_more c.args.settings c.args.shade c.loop-phase.phase in
    simp (c.loop-phase.invariant, c.from-sum.ensures, c.pulse_width.ensures, c.pwm_of-pwm.ensures) more
