use Rattle.std.proofs.Common.{refl}
use Rattle.scan.specs.Segments.{pick}
use Rattle.scan.proofs.segments.picked.Goals as goal

pub returns : goal.returns
unfolding pick
returns c = refl
