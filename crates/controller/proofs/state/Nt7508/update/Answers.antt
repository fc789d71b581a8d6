use Rattle.controller.proofs.Checks.{handed_on, of_scan_number, passes, refuses}
use Rattle.controller.proofs.Whole.{update_counted, count_refused, update_refused}
use Rattle.controller.proofs.state.Nt7508.update.Goals as goal

pub returns-in_err-check_registers : goal.returns-in_err-check_registers
returns-in_err-check_registers c =
    rw (handed_on c.from_residual.ensures.1) (update_refused _ _ (refuses c.check_registers.ensures c.in_err-check_registers.was))

pub returns-in_err-counted : goal.returns-in_err-counted
returns-in_err-counted c =
    let checked = passes c.check_registers.ensures c.in_ok-check_registers.was in
    rw (handed_on c.from_residual-in_err-counted.ensures.1, of_scan_number c.in_err-counted.field-0.0) (count_refused _ _ checked c.in_err-counted.ensures)

pub returns : goal.returns
returns c =
    let checked = passes c.check_registers.ensures c.in_ok-check_registers.was in
    simp c.with_scan.ensures (update_counted _ _ checked c.in_ok-counted.ensures)
