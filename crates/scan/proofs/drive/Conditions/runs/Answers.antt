use Rattle.std.proofs.Common.{refl}
use Rattle.scan.specs.Drive.{runs}
use Rattle.scan.proofs.drive.Conditions.runs.Goals as goal

pub returns : goal.returns
unfolding runs
returns c = refl
