use Rattle.std.proofs.Common.{refl}
use Rattle.scan.specs.Drive.{grounded}
use Rattle.scan.proofs.drive.Conditions.grounded.Goals as goal

pub returns : goal.returns
unfolding grounded
returns c = refl
