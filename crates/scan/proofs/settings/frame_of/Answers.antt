use Rattle.scan.specs.Settings.{frame_of}
use Rattle.scan.proofs.settings.frame_of.Goals as goal

pub returns : goal.returns
unfolding frame_of
returns c = simp c.frc_count_of.ensures
