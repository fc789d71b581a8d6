use Rattle.std.proofs.Common.{arith}
use Rattle.scan.specs.Image.{level_of}
use Rattle.scan.proofs.Images.{frc_bounds, cycle_pos, cycle_le, widths_fit, level_lt}
use Rattle.scan.proofs.image.level_of.Goals as goal

pub overflow_mul-result : goal.overflow_mul-result
overflow_mul-result c =
    let a = c.args in
    omega (arith, c.width_sum-sum.ensures, widths_fit a.settings a.shade _ (frc_bounds a.settings.gray_mode).1)

pub overflow_add-result : goal.overflow_add-result
overflow_add-result c =
    let a = c.args in
    omega (arith, c.width_sum-sum.ensures, widths_fit a.settings a.shade _ (frc_bounds a.settings.gray_mode).1, c.cycle_of-cycle.ensures, cycle_le a.settings)

pub nonzero_div-result-2 : goal.nonzero_div-result-2
nonzero_div-result-2 c = omega (arith, c.cycle_of-cycle.ensures, cycle_pos c.args.settings)

pub overflow_cast-result : goal.overflow_cast-result
unfolding level_of
overflow_cast-result c =
    let a = c.args in
    record { fits = rw (c.width_sum-sum.ensures, c.cycle_of-cycle.ensures) (level_lt a.settings a.shade) }

pub returns : goal.returns
unfolding level_of
returns c = simp (c.width_sum-sum.ensures, c.cycle_of-cycle.ensures)
