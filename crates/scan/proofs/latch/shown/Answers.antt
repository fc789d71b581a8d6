use Rattle.scan.specs.Latch.{shown}
use Rattle.scan.proofs.latch.shown.Goals as goal

pub returns-then-scan : goal.returns-then-scan
unfolding shown
returns-then-scan c = simp c.if-scan.true

pub returns : goal.returns
unfolding shown
returns c = simp (c.if-scan.false, c.present_latch.ensures)
