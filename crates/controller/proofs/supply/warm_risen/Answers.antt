use Rattle.scan.proofs.Answers.{rise_passed}
use Rattle.controller.specs.Supply.{warm_risen}
use Rattle.controller.proofs.Checks.{ok_value, both_passed, scan_timed}
use Rattle.controller.proofs.supply.warm_risen.Goals as goal

pub unwrap-scan-requires : goal.unwrap-scan-requires
unwrap-scan-requires c = rw (rise_passed _ _ _ _ c.rise.result c.rise.ensures (scan_timed _ _ (both_passed _ _ c.args.state.passes c.args.now.passes)))

pub returns : goal.returns
unfolding warm_risen
returns c =
    let resumed = ok_value c.unwrap-scan.ensures (rise_passed _ _ _ _ c.rise.result c.rise.ensures (scan_timed _ _ (both_passed _ _ c.args.state.passes c.args.now.passes))) in
    simp (c.with_scan.ensures, resumed, c.runs-runs.ensures, c.conditions_of.ensures)
