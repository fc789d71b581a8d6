use Rattle.scan.specs.Drive.{undriven}
use Rattle.scan.proofs.drive.undriven.Goals as goal

pub returns : goal.returns
unfolding undriven
returns c = simp c.grounded.ensures
