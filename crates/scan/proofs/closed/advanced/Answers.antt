use Rattle.std.proofs.Common.{◌≡◌, ◌+◌, ◌/◌, add-zero, mod-eq_of_lt, arith, eq-eqb, ne_eqb}
use native.Mathlib.Nat.{div-eq_of_lt}
use Rattle.scan.specs.Closed.{closed, after, inversion_in}
use Rattle.scan.proofs.Checks.{valid_scan_lem}
use Rattle.scan.proofs.ValidQuanta.{rows_high}
use Rattle.scan.proofs.Numbers.{mod_fits, flips_none}
use Rattle.scan.proofs.closed.advanced.Goals as goal

pub nonzero_div-ended : goal.nonzero_div-ended
nonzero_div-ended c =
    simp c.from-pwm.ensures (omega (arith, (valid_scan_lem c.args.scan.value c.args.scan.passes).step_below))

pub nonzero_rem-step : goal.nonzero_rem-step
nonzero_rem-step c =
    simp c.from-pwm.ensures (omega (arith, (valid_scan_lem c.args.scan.value c.args.scan.passes).step_below))

pub overflow_cast-step : goal.overflow_cast-step
overflow_cast-step c =
    simp c.from-pwm.ensures (record { fits = mod_fits _ _ (omega (arith, (valid_scan_lem c.args.scan.value c.args.scan.passes).step_below)) (omega arith) })

pub returns-then-ended-eq0 : goal.returns-then-ended-eq0
unfolding closed after inversion_in
returns-then-ended-eq0 c =
    let x = c.args.scan.value in
    let v = valid_scan_lem x c.args.scan.passes in
    let z : (x.step + c.args.quanta.count) / x.pwm ≡ 0 = simp (c.from.ensures, c.from-pwm.ensures) at c.if-ended-eq0.true in
    simp (c.from.ensures, c.from-pwm.ensures, c.in_row.ensures, z, add-zero, div-eq_of_lt v.row_below, mod-eq_of_lt v.row_below, flips_none x.inversion.lines x.inversion.count v.inversion.count_below)

pub nonzero_div-frames : goal.nonzero_div-frames
nonzero_div-frames c =
    simp (c.from-rows.ensures, c.rows_in.ensures) (omega (arith, (valid_scan_lem c.args.scan.value c.args.scan.passes).row_below))

pub nonzero_rem-row : goal.nonzero_rem-row
nonzero_rem-row c =
    simp (c.from-rows.ensures, c.rows_in.ensures) (omega (arith, (valid_scan_lem c.args.scan.value c.args.scan.passes).row_below))

pub overflow_cast-row : goal.overflow_cast-row
overflow_cast-row c =
    let x = c.args.scan.value in
    let v = valid_scan_lem x c.args.scan.passes in
    simp (c.from-rows.ensures, c.rows_in.ensures) (record { fits = mod_fits _ _ (omega (arith, v.row_below)) (omega (arith, rows_high x.frame, v.frame.duty_high)) })

pub returns-then-frames-eq0 : goal.returns-then-frames-eq0
unfolding closed after inversion_in
returns-then-frames-eq0 c =
    let e = simp (c.from.ensures, c.from-pwm.ensures) at (ne_eqb _ _ c.if-ended-eq0.false) in
    let f = simp (c.from.ensures, c.from-pwm.ensures, c.from-2.ensures, c.from-rows.ensures, c.rows_in.ensures) at (eq-eqb _ _ c.if-frames-eq0.true) in
    simp (c.from.ensures, c.from-pwm.ensures, c.from-2.ensures, c.from-rows.ensures, c.rows_in.ensures, c.rows_ended-next.ensures, e, f)

pub returns : goal.returns
unfolding closed after inversion_in
returns c =
    let e = simp (c.from.ensures, c.from-pwm.ensures) at (ne_eqb _ _ c.if-ended-eq0.false) in
    let f = simp (c.from.ensures, c.from-pwm.ensures, c.from-2.ensures, c.from-rows.ensures, c.rows_in.ensures) at (ne_eqb _ _ c.if-frames-eq0.false) in
    simp (c.from.ensures, c.from-pwm.ensures, c.from-2.ensures, c.from-rows.ensures, c.rows_in.ensures, c.rows_ended-next.ensures, c.frames_ended.ensures, e, f)
