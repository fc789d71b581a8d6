use Rattle.std.proofs.Common.{refl}
use Rattle.scan.specs.Check.{lines_ok}
use Rattle.scan.proofs.check.lines_ok.Goals as goal

pub returns : goal.returns
unfolding lines_ok
returns c = refl
