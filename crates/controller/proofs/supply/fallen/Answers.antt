use Rattle.scan.proofs.Answers.{fall_passed}
use Rattle.controller.specs.State.{with_scan}
use Rattle.controller.specs.Supply.{fallen}
use Rattle.controller.proofs.Checks.{ok_value, both_passed, scan_timed}
use Rattle.controller.proofs.supply.fallen.Goals as goal

pub unwrap-scan-requires : goal.unwrap-scan-requires
unwrap-scan-requires c =
    let checked = scan_timed c.args.state.value c.args.now.value (both_passed _ _ c.args.state.passes c.args.now.passes) in
    rw (fall_passed _ _ _ c.fall.result c.fall.ensures checked)

pub returns : goal.returns
unfolding fallen with_scan
returns c =
    let checked = scan_timed c.args.state.value c.args.now.value (both_passed _ _ c.args.state.passes c.args.now.passes) in
    let counted = ok_value c.unwrap-scan.ensures (fall_passed _ _ _ c.fall.result c.fall.ensures checked) in
    simp (c.with_scan-next.ensures, c.selected_as-next.ensures, counted)
