use Rattle.std.proofs.Common.{refl}
use Rattle.scan.specs.State.{power_on}
use Rattle.scan.proofs.state.Scan.new.Goals as goal

pub returns : goal.returns
unfolding power_on
returns c = refl
