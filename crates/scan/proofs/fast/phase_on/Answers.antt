use Rattle.std.proofs.Common.{arith}
use Rattle.scan.proofs.Checks.{valid_scan_lem}
use Rattle.scan.proofs.Numbers.{mod_fits}
use Rattle.scan.proofs.fast.phase_on.Goals as goal

pub nonzero_rem-result : goal.nonzero_rem-result
nonzero_rem-result c =
    let scan = c.args.scan in simp c.from-phases.ensures (omega (arith, (valid_scan_lem scan.value scan.passes).frc_below))

pub overflow_cast-result : goal.overflow_cast-result
overflow_cast-result c =
    let scan = c.args.scan in
    simp c.from-phases.ensures
    (record { fits = mod_fits _ _ (omega (arith, (valid_scan_lem scan.value scan.passes).frc_below)) (omega arith) })
