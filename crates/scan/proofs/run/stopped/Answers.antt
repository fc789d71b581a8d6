use Rattle.scan.specs.Run.{stopped}
use Rattle.scan.proofs.run.stopped.Goals as goal

pub returns : goal.returns
unfolding stopped
returns c = c.with_ticking.ensures
