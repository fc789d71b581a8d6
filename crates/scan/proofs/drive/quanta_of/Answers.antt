use Rattle.scan.specs.Drive.{quanta_of}
use Rattle.scan.proofs.drive.quanta_of.Goals as goal

pub returns : goal.returns
unfolding quanta_of
returns c = simp (c.from.ensures, c.from-2.ensures)
