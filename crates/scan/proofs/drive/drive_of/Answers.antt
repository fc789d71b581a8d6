use Rattle.scan.specs.Drive.{drive_of}
use Rattle.scan.proofs.drive.drive_of.Goals as goal

pub returns : goal.returns
unfolding drive_of
returns c = simp (c.common_of.ensures, c.shown.ensures)
