use Rattle.std.proofs.Common.{refl}
use Rattle.scan.specs.Drive.{driven}
use Rattle.scan.proofs.drive.Conditions.driven.Goals as goal

pub returns : goal.returns
unfolding driven
returns c = refl
