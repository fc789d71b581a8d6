use Rattle.scan.specs.Latch.{shade_active}
use Rattle.scan.proofs.segments.shade_active.Goals as goal

pub returns : goal.returns
unfolding shade_active
returns c = simp c.pulse_width.ensures
