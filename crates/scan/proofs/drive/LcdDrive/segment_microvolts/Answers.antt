use Rattle.std.proofs.Common.{◌∙◌, le-ltb, lt-ltb}
use Rattle.scan.specs.Drive.{segment_with, segment_microvolts}
use Rattle.scan.proofs.drive.LcdDrive.segment_microvolts.Goals as goal

pub returns-then-segment-gt127 : goal.returns-then-segment-gt127
unfolding segment_microvolts segment_with
returns-then-segment-gt127 c = simp (lt-ltb _ _ c.if-segment-gt127.true)

pub returns-then-self : goal.returns-then-self
unfolding segment_microvolts segment_with
returns-then-self c = simp (le-ltb _ _ c.if-segment-gt127.false, c.if-self.true)

pub returns-in_err-self : goal.returns-in_err-self
unfolding segment_microvolts segment_with
returns-in_err-self c =
    simp (c.from_residual.ensures, le-ltb _ _ c.if-segment-gt127.false, c.if-self.false, c.in_err-self.was)

pub returns : goal.returns
unfolding segment_microvolts segment_with
returns c =
    c.segment_level.ensures ∙ simp (le-ltb _ _ c.if-segment-gt127.false, c.if-self.false, c.in_ok-self.was, c.active_in.ensures)
