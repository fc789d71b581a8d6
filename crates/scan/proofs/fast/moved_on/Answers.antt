use Rattle.std.proofs.Common.{◌+◌, ◌<◌, add-zero, mod-eq_of_lt, arith}
use native.Mathlib.Nat.{div-eq_of_lt}
use Rattle.scan.specs.Fast.{inversion_on, onward, rows_on, moved_on}
use Rattle.scan.proofs.Checks.{valid_scan_lem}
use Rattle.scan.proofs.ValidQuanta.{pwm_small}
use Rattle.scan.proofs.Numbers.{mod_fits, count_none, flips_none}
use Rattle.scan.proofs.fast.moved_on.Goals as goal

pub returns-then-total-pwm : goal.returns-then-total-pwm
unfolding moved_on rows_on onward inversion_on
returns-then-total-pwm c =
    let x = c.args.scan.value in
    let v = valid_scan_lem x c.args.scan.passes in
    let h : x.step + c.args.quanta.count < x.pwm = simp (c.from.ensures, c.from-pwm.ensures) at c.if-total-pwm.true in
    simp (c.with_counters.ensures, c.from.ensures, div-eq_of_lt h, mod-eq_of_lt h, add-zero, div-eq_of_lt v.row_below, mod-eq_of_lt v.row_below, mod-eq_of_lt v.frc_below, count_none x.inversion.lines x.inversion.count v.inversion.count_below, flips_none x.inversion.lines x.inversion.count v.inversion.count_below)

pub nonzero_rem-total : goal.nonzero_rem-total
nonzero_rem-total c =
    simp c.from-pwm.ensures (omega (arith, (valid_scan_lem c.args.scan.value c.args.scan.passes).step_below))

pub overflow_cast-total-2 : goal.overflow_cast-total-2
overflow_cast-total-2 c =
    let x = c.args.scan.value in
    let v = valid_scan_lem x c.args.scan.passes in
    simp c.from-pwm.ensures (record { fits = mod_fits _ _ (omega (arith, v.step_below)) (omega (arith, pwm_small x.pwm v.pwm_ok_lem)) })

pub nonzero_div-total : goal.nonzero_div-total
nonzero_div-total c =
    simp c.from-pwm.ensures (omega (arith, (valid_scan_lem c.args.scan.value c.args.scan.passes).step_below))

pub returns : goal.returns
unfolding moved_on
returns c =
    simp (c.rows_on.ensures, c.from-pwm.ensures, c.from.ensures)
