use Rattle.scan.specs.Image.{lit_by}
use Rattle.scan.proofs.image.lit_by.Goals as goal

pub returns : goal.returns
unfolding lit_by
returns c = simp c.keeps_clock.ensures
