use Rattle.std.proofs.Common.{refl}
use Rattle.scan.specs.State.{with_ticking}
use Rattle.scan.proofs.state.with_ticking.Goals as goal

pub returns : goal.returns
unfolding with_ticking
returns c = refl
