use Rattle.std.proofs.Common.{eq-eqb, ne_eqb}
use Rattle.scan.specs.Settings.{frc_count_of}
use Rattle.scan.proofs.settings.frc_count_of.Goals as goal

pub returns-then-gray_mode-eq0 : goal.returns-then-gray_mode-eq0
unfolding frc_count_of
returns-then-gray_mode-eq0 c = simp (eq-eqb _ _ c.if-gray_mode-eq0.true)

pub returns-else-gray_mode-eq0 : goal.returns-else-gray_mode-eq0
unfolding frc_count_of
returns-else-gray_mode-eq0 c = simp (ne_eqb _ _ c.if-gray_mode-eq0.false)
