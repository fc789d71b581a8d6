use Rattle.scan.specs.Drive.{active_in}
use Rattle.scan.proofs.drive.active_in.Goals as goal

pub returns : goal.returns
unfolding active_in
returns c = simp c.from.ensures
