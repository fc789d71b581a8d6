use Rattle.scan.specs.Run.{taken}
use Rattle.scan.proofs.run.taken.Goals as goal

pub returns : goal.returns
unfolding taken
returns c =
    simp (c.frame_of-frame.ensures, c.rate_of.ensures, c.pwm_of.ensures)
