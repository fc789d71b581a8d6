use Rattle.scan.specs.Latch.{latch_retained}
use Rattle.scan.specs.State.{with_latch}
use Rattle.scan.proofs.latch.latch_retained.Goals as goal

pub returns : goal.returns
unfolding latch_retained with_latch
returns c = simp c.present_latch-segments.ensures
