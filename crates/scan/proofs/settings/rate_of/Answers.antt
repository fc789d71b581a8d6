use Rattle.std.proofs.Common.{◌∙◌}
use Rattle.scan.specs.Settings.{rate_of}
use Rattle.scan.proofs.settings.rate_of.Goals as goal

pub returns : goal.returns
unfolding rate_of
returns c = c.lcd.ensures ∙ simp c.rows_in.ensures
