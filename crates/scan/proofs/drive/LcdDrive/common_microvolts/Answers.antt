use Rattle.std.proofs.Common.{◌∙◌, le-ltb, lt-ltb}
use Rattle.scan.specs.Drive.{common_with, common_microvolts}
use Rattle.scan.proofs.drive.LcdDrive.common_microvolts.Goals as goal

pub returns-then-common-gt128 : goal.returns-then-common-gt128
unfolding common_microvolts common_with
returns-then-common-gt128 c = simp (lt-ltb _ _ c.if-common-gt128.true)

pub returns-then-self : goal.returns-then-self
unfolding common_microvolts common_with
returns-then-self c = simp (le-ltb _ _ c.if-common-gt128.false, c.if-self.true)

pub returns-in_err-selected : goal.returns-in_err-selected
unfolding common_microvolts common_with
returns-in_err-selected c =
    simp (c.from_residual.ensures, le-ltb _ _ c.if-common-gt128.false, c.if-self.false, c.in_err-selected.was)

pub returns : goal.returns
unfolding common_microvolts common_with
returns c =
    c.common_level.ensures ∙ simp (le-ltb _ _ c.if-common-gt128.false, c.if-self.false, c.in_ok-selected.was)
