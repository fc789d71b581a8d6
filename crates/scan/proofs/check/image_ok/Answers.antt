use Rattle.std.proofs.Common.{refl}
use Rattle.scan.specs.Check.{image_ok}
use Rattle.scan.proofs.check.image_ok.Goals as goal

pub returns : goal.returns
unfolding image_ok
returns c = refl
