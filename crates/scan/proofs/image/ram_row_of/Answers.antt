use Rattle.scan.specs.Image.{ram_row_of}
use Rattle.scan.proofs.image.ram_row_of.Goals as goal

pub returns-clause-value : goal.returns-clause-value
unfolding ram_row_of
returns-clause-value c = simp (c.from.ensures, c.from-2.ensures)
