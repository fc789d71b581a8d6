use Rattle.scan.specs.Image.{line_of}
use Rattle.scan.proofs.image.line_of.Goals as goal

pub returns : goal.returns
unfolding line_of
returns c = simp (c.saturating_sub.ensures, c.from.ensures, c.glass_common-common.ensures)
