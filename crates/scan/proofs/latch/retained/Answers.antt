use Rattle.std.proofs.Common.{sym}
use Rattle.scan.specs.Latch.{retained}
use Rattle.scan.proofs.latch.retained.Goals as goal

pub returns-then-stays_shown : goal.returns-then-stays_shown
unfolding retained
returns-then-stays_shown c = simp (sym c.stays_shown.ensures, c.if-stays_shown.true)

pub returns : goal.returns
unfolding retained
returns c = simp (sym c.stays_shown.ensures, c.if-stays_shown.false, c.latch_retained.ensures)
