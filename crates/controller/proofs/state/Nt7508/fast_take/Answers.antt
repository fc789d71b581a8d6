use Rattle.checks.proofs.Tests.{test_false, test_true}
use Rattle.controller.proofs.FastPath.{registers_other, scan_other, fast_by_scan}
use Rattle.controller.proofs.state.Nt7508.fast_take.Goals as goal

pub returns-then-not-registers_stay : goal.returns-then-not-registers_stay
returns-then-not-registers_stay c = registers_other _ _ _ _ _ (test_false c.registers_stay.ensures c.if-not-registers_stay.true)

pub returns-in_err-scan : goal.returns-in_err-scan
returns-in_err-scan c =
    let stay = test_true c.registers_stay.ensures c.if-not-registers_stay.false in
    let by = simp (c.conditions_of.ensures, c.runs-runs.ensures, c.page_sent.ensures, c.after.ensures) at c.fast_byte.ensures in
    rw c.from_residual.ensures (scan_other _ _ _ _ _ stay by c.in_err-scan.was)

pub returns : goal.returns
returns c =
    let stay = test_true c.registers_stay.ensures c.if-not-registers_stay.false in
    let by = simp (c.conditions_of.ensures, c.runs-runs.ensures, c.page_sent.ensures, c.after.ensures) at c.fast_byte.ensures in
    simp c.fast_step.ensures (fast_by_scan _ _ _ _ _ stay by c.in_ok-scan.was)
