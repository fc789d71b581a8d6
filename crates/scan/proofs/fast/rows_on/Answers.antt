use Rattle.std.proofs.Common.{◌+◌, ◌<◌, add-zero, mod-eq_of_lt, arith}
use native.Mathlib.Nat.{div-eq_of_lt}
use Rattle.scan.specs.State.{rows}
use Rattle.scan.specs.Fast.{onward, rows_on}
use Rattle.scan.proofs.Checks.{valid_scan_lem}
use Rattle.scan.proofs.ValidQuanta.{rows_high}
use Rattle.scan.proofs.Numbers.{mod_fits}
use Rattle.scan.proofs.fast.rows_on.Goals as goal

pub overflow_cast-passed : goal.overflow_cast-passed
overflow_cast-passed c =
    let x = c.args.scan.value in
    let v = valid_scan_lem x c.args.scan.passes in
    let h : x.row + c.args.e < rows x = simp (c.from.ensures, c.from-rows.ensures, c.rows_in.ensures) at c.if-passed-rows.true in
    simp c.from.ensures (record { fits = omega (arith, h, rows_high x.frame, v.frame.duty_high) })

pub returns-then-passed-rows : goal.returns-then-passed-rows
unfolding rows_on onward
returns-then-passed-rows c =
    let x = c.args.scan.value in
    let v = valid_scan_lem x c.args.scan.passes in
    let h : x.row + c.args.e < rows x = simp (c.from.ensures, c.from-rows.ensures, c.rows_in.ensures) at c.if-passed-rows.true in
    simp (c.with_counters.ensures, c.inversion_on-next.ensures, c.from.ensures, div-eq_of_lt h, mod-eq_of_lt h, add-zero, mod-eq_of_lt v.frc_below)

pub nonzero_div-ends : goal.nonzero_div-ends
nonzero_div-ends c =
    simp (c.from-rows.ensures, c.rows_in.ensures) (omega (arith, (valid_scan_lem c.args.scan.value c.args.scan.passes).row_below))

pub nonzero_rem-row : goal.nonzero_rem-row
nonzero_rem-row c =
    simp (c.from-rows.ensures, c.rows_in.ensures) (omega (arith, (valid_scan_lem c.args.scan.value c.args.scan.passes).row_below))

pub overflow_cast-row : goal.overflow_cast-row
overflow_cast-row c =
    let x = c.args.scan.value in
    let v = valid_scan_lem x c.args.scan.passes in
    simp (c.from-rows.ensures, c.rows_in.ensures) (record { fits = mod_fits _ _ (omega (arith, v.row_below)) (omega (arith, rows_high x.frame, v.frame.duty_high)) })

pub returns : goal.returns
unfolding rows_on onward
returns c =
    simp (c.with_counters-2.ensures, c.phase_on.ensures, c.inversion_on-next-2.ensures, c.from.ensures, c.from-rows.ensures, c.rows_in.ensures)
