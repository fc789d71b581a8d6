use Rattle.std.proofs.Common.{refl}
use Rattle.scan.specs.Check.{memory_ok}
use Rattle.scan.proofs.memory.Memory.fits.Goals as goal

pub returns : goal.returns
unfolding memory_ok
returns c = refl
