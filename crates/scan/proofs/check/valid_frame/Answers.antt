use Rattle.std.proofs.Common.{refl}
use Rattle.scan.specs.Check.{valid_frame, frc_count_ok}
use Rattle.scan.proofs.check.valid_frame.Goals as goal

pub returns : goal.returns
unfolding valid_frame frc_count_ok
returns c = refl
