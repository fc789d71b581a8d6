use Rattle.std.proofs.Common.{refl}
use Rattle.scan.proofs.settings.Settings.keeps_clock.Goals as goal

pub returns : goal.returns
returns c = refl
