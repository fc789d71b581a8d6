use mathlib.Core.Path.{◌∙◌}
use Rattle.scan.specs.Drive.{off}
use Rattle.controller.proofs.Checks.{handed_on, of_scan_number, passes, refuses}
use Rattle.controller.proofs.Whole.{drive_by_scan, drive_refused}
use Rattle.controller.proofs.state.Nt7508.drive.Goals as goal

pub returns-in_err-check_but_scan : goal.returns-in_err-check_but_scan
unfolding off
returns-in_err-check_but_scan c =
    rw (handed_on c.from_residual.ensures.1) (drive_refused _ _ _ _ (refuses c.check_but_scan.ensures c.in_err-check_but_scan.was))

pub returns-in_err-driven : goal.returns-in_err-driven
unfolding off
returns-in_err-driven c =
    let checked = passes c.check_but_scan.ensures c.in_ok-check_but_scan.was in
    rw (handed_on c.from_residual-in_err-driven.ensures.1, of_scan_number c.in_err-driven.field-0.0)
    (c.in_err-driven.ensures ∙ rw c.conditions_of.ensures (drive_by_scan _ _ _ _ checked))

pub returns : goal.returns
returns c =
    let checked = passes c.check_but_scan.ensures c.in_ok-check_but_scan.was in
    c.in_ok-driven.ensures ∙ rw c.conditions_of.ensures (drive_by_scan _ _ _ _ checked)
