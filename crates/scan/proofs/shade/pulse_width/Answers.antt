use Rattle.std.proofs.Common.{le-leb}
use borrow.Author.Tests.{lt-leb}
use Rattle.scan.specs.Shade.{pulse_width}
use Rattle.scan.proofs.shade.pulse_width.Goals as goal

pub returns-then-width-pwm : goal.returns-then-width-pwm
unfolding pulse_width
returns-then-width-pwm c = rw (← c.palette_width-width.ensures) (simp (le-leb _ _ c.if-width-pwm.true))

pub returns-else-width-pwm : goal.returns-else-width-pwm
unfolding pulse_width
returns-else-width-pwm c = rw (← c.palette_width-width.ensures) (simp (lt-leb _ _ c.if-width-pwm.false))
