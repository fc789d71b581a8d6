use mathlib.Core.Path.{◌∙◌}
use borrow.Author.Rules.{rules}
use Rattle.std.proofs.lemmas.Result.{err_from_is_err_and}
use Rattle.checks.proofs.Chains.{row_passed}
use Rattle.controller.proofs.Checks.{of_scan_number}
use Rattle.controller.proofs.Whole.{scan_byte, byte_refused, byte_passed}
use Rattle.controller.proofs.byte.byte.Goals as goal

pub returns-in_err-scan : goal.returns-in_err-scan
returns-in_err-scan c =
    let by = c.scan_by.ensures ∙ scan_byte _ _ _ _ _ c.requires.memory_value (row_passed 1 _ c.args.moment.passes) c.requires.state_value (search rules) in
    let p = err_from_is_err_and c.from_residual.result c.from_residual.ensures.1 in
    rw (p.1, p.2) (byte_refused _ _ _ _ _ by _ c.in_err-scan.was (of_scan_number _))

pub returns : goal.returns
returns c =
    let by = c.scan_by.ensures ∙ scan_byte _ _ _ _ _ c.requires.memory_value (row_passed 1 _ c.args.moment.passes) c.requires.state_value (search rules) in
    simp (c.step.ensures, c.with_scan.ensures) (byte_passed _ _ _ _ _ by c.in_ok-scan.was)
