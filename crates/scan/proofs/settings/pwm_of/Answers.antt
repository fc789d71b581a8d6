use Rattle.scan.specs.Settings.{pwm_of}
use Rattle.scan.proofs.settings.pwm_of.Goals as goal

pub returns : goal.returns
unfolding pwm_of
returns c = simp c.from.ensures
